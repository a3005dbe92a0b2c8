pub mod Tables
pub mod Admits
