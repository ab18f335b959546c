pub mod Lines
pub mod Rows
pub mod Tallies
pub mod Singles
pub mod Wakes
pub mod Events
