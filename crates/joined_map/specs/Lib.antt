pub mod Joint
pub mod Steps
pub mod Runs
