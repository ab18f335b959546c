pub mod Admitted
pub mod Fair
pub mod Groups
pub mod Rank
pub mod Share
pub mod Tournament
pub mod Waiters
