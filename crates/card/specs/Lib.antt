pub mod Stages
pub mod Card
pub mod Stock
pub mod Output
