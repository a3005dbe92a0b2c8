pub mod Fronts
pub mod Explained
