pub mod Polynomials
pub mod Padding
pub mod Readings
pub mod Summands
pub mod Rounds
pub mod Errors
pub mod Roots
pub mod Accumulators
