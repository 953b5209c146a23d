pub mod DatagramListing
pub mod Listing
pub mod RehearsalEnds
pub mod Shown
