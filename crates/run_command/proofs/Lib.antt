pub mod Lives
pub mod Looking
pub mod Minds
pub mod Story
pub mod Wishes
