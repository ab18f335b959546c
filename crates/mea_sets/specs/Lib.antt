pub mod Poll
pub mod WaitSet
pub mod Countdown
