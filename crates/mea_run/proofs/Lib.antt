pub mod Tells
pub mod Endings
pub mod Rounds
pub mod Legal
pub mod RoundsLeft
pub mod Counts
pub mod Played
