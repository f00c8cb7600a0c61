pub mod StartUp
pub mod Walks
pub mod Finds
