pub mod Faults
pub mod Mismatches
pub mod Rounds
pub mod Sums
pub mod Tallies
