pub mod Doing
pub mod Runs
pub mod Promises
