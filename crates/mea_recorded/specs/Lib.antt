pub mod History
pub mod Things
pub mod Kept
pub mod Closing
