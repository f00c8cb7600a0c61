pub mod Joints
mod Sides
mod Order
pub mod Idling
