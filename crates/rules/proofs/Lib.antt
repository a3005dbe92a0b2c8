pub mod Parsed
pub mod Costed
pub mod Checked
