pub mod Trees
pub mod Costs
pub mod Faults
pub mod Checks
pub mod Passes
pub mod CheckedRules
