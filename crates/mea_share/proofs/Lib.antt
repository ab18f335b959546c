pub mod Seen
pub mod Handing
pub mod Sites
pub mod Events
pub mod LookUps
pub mod Playing
