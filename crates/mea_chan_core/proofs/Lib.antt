pub mod Senders
pub mod Sends
pub mod InOrder
pub mod Woken
pub mod Enough
