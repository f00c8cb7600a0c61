pub mod Locations
pub mod Cards
