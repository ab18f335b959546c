pub mod Broadcast
pub mod Receives
pub mod Walks
