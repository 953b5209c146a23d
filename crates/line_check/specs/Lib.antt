pub mod Slugs
pub mod Sets
pub mod Galley
pub mod Spreading
pub mod Setting
pub mod Laws
