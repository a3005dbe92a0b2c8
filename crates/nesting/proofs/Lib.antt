pub mod Views
pub mod Levels
pub mod Caps
pub mod Passes
