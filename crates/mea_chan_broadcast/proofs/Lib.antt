pub mod Events
pub mod Linking
pub mod Seeing
