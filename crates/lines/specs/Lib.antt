pub mod Operations
pub mod Overwrites
pub mod Sizes
