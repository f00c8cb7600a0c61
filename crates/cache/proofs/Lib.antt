pub mod Calling
pub mod Passing
pub mod Asking
pub mod Promising
