pub mod Reaching
pub mod Records
pub mod Reading
pub mod Lining
pub mod Sizes
