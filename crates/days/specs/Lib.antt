pub mod Happening
pub mod Handing
pub mod Days
pub mod Examples
