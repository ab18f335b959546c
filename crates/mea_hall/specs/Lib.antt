pub mod World
pub mod Families
pub mod Front
pub mod History
