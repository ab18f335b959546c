pub mod Linked
pub mod SetLinked
