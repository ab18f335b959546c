pub mod Drawing
pub mod Model
