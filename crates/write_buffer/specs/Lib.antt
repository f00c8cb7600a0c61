pub mod Taking
pub mod Queues
pub mod Buffering
pub mod Runs
