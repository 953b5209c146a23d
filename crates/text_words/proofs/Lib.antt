pub mod Naming
pub mod Lists
pub mod Placing
pub mod Pieces
pub mod Worded
pub mod Beginning
