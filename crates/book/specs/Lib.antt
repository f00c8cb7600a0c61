pub mod Tables
pub mod Book
pub mod Calling
pub mod Runs
pub mod Promise
