pub mod Locks
pub mod Actions
pub mod Condvars
pub mod LockHall
pub mod CondActions
pub mod Valid
pub mod Meaning
pub mod LockFamily
