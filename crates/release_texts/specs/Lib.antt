pub mod EntryText
pub mod ReleaseText
