pub mod Fitting
pub mod GroupLemmas
