pub mod Lines
pub mod Rules
pub mod Told
pub mod Events
pub mod Runs
pub mod Begun
pub mod Player
