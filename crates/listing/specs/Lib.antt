pub mod Listing
pub mod Faults
pub mod Answers
pub mod RoundTrip
