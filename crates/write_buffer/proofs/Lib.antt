pub mod Queueing
pub mod Answering
pub mod SendingLemmas
pub mod Passing
pub mod Ordering
