pub mod RowsText
pub mod Printing
pub mod Reading
