pub mod Voters
pub mod Cases
pub mod Lacking
pub mod Lists
pub mod Queue
pub mod Healing
pub mod Laws
