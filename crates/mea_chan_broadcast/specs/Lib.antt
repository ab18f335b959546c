pub mod Actions
pub mod BroadcastCores
pub mod BroadcastParts
pub mod BroadcastLends
