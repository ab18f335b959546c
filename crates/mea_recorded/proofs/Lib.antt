pub mod Things
pub mod Histories
pub mod Keeping
pub mod Rising
pub mod Equals
pub mod Fronts
