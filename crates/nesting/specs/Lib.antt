pub mod Nesting
pub mod Levels
pub mod Capped
pub mod Conditions
pub mod Blocks
pub mod Passes
