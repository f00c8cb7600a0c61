pub mod Lanes
pub mod Memory
pub mod Meaning
pub mod Checks
pub mod Steps
pub mod Laws
