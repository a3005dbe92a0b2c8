pub mod Writing
pub mod Numerals
pub mod Alphabet
pub mod Readers
pub mod RoundTrip
