pub mod Lines
pub mod Steps
pub mod Faults
pub mod Admission
pub mod Counting
