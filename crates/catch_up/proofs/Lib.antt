pub mod Rising
pub mod Turns
pub mod Next
pub mod Keeping
pub mod Starting
