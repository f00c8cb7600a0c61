pub mod Incident
pub mod Rows
