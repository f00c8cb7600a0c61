pub mod Calls
pub mod Words
pub mod Format
pub mod Encoding
pub mod Malformed
pub mod Whole
