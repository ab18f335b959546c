pub mod Play
pub mod Store
pub mod Kept
pub mod Entries
pub mod Actions
pub mod Grants
pub mod StandsFor
