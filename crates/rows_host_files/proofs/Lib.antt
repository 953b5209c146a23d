mod Collected
mod LifeLemmas
