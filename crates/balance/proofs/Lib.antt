pub mod Clears
pub mod Passed
pub mod Balances
pub mod Limits
pub mod Lent
