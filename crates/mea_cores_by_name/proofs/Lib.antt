pub mod Linking
pub mod Pours
pub mod Sets
pub mod Waiters
pub mod Poured
pub mod Granted
