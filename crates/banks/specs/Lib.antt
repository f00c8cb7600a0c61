pub mod Sizes
pub mod Whole
pub mod Lines
pub mod Ram
pub mod Eprom
