pub mod Back
pub mod Moves
