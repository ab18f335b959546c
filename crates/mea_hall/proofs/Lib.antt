pub mod EachFamily
pub mod Fronts
pub mod HandedOver
pub mod Histories
