pub mod Puts
pub mod Follows
pub mod Quiet
pub mod Sizes
