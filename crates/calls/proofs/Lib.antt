pub mod Reading
pub mod Codec
pub mod Refusing
pub mod Trying
