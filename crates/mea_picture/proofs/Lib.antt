pub mod Drawing
pub mod Puts
pub mod Closing
pub mod Played
