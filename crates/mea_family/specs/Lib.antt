pub mod Acts
pub mod Causes
pub mod Family
pub mod Replies
pub mod Forms
pub mod Play
