pub mod Origins
pub mod Files
pub mod Numbers
pub mod Ranges
pub mod Laws
