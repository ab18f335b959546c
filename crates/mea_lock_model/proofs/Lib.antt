pub mod Acting
pub mod Alone
pub mod CondActing
pub mod Changes
pub mod Steps
pub mod Wakers
pub mod Counts
