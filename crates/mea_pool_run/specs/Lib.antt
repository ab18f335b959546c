pub mod PoolByName
pub mod Kept
pub mod Lines
pub mod Orderly
pub mod Reply
pub mod Script
