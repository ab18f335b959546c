pub mod Promise
pub mod Computing
