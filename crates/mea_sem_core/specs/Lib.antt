pub mod Acquire
pub mod OpenTurn
pub mod Core
pub mod Calls
pub mod Places
pub mod Ones
