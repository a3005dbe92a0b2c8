pub mod Faults
pub mod Preparing
pub mod Explaining
