mod LifeLemmas
mod KeepingLemmas
mod RenewLemmas
mod FilesLemmas
mod HeadLemmas
mod SumLemmas
