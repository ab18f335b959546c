pub mod Gathered
pub mod Program
