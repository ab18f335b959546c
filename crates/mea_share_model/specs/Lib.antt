pub mod Next
pub mod Admissions
pub mod Actions
pub mod Meaning
pub mod ShareFamily
pub mod Valid
pub mod Order
pub mod Settled
