pub mod Forgets
pub mod Notified
pub mod Permits
pub mod Slot
pub mod Stepped
pub mod Writes
