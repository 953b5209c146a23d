pub mod Tickets
pub mod Recalls
pub mod Grammar
pub mod Reading
pub mod Spelling
pub mod Laws
