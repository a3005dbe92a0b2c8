pub mod Fields
pub mod Balanced
pub mod Writing
pub mod Faults
pub mod Nested
pub mod Balancing
