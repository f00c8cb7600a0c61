pub mod Touch
pub mod Sets
pub mod Dirs
pub mod View
pub mod Ticks
pub mod Laws
