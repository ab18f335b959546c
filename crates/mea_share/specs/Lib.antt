pub mod Kept
pub mod Entries
pub mod Lends
pub mod Actions
pub mod Halls
