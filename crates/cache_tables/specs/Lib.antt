pub mod Showing
pub mod Rules
pub mod Coherence
pub mod Laws
pub mod Examples
