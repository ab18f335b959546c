pub mod Alone
pub mod Changes
pub mod Held
pub mod Kept
pub mod Lines
pub mod Numbers
pub mod Pairs
pub mod Stages
