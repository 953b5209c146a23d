pub mod Cells
pub mod Lengths
pub mod Texts
pub mod Document
pub mod Laws
