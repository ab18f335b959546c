mod KindCalls
mod Lengths
pub mod Pours
pub mod OneLock
mod LockGrants
mod Notifying
pub mod OneCondvar
mod Notified
pub mod PartEvents
pub mod FutureEvents
mod WaitEvents
pub mod Playing
mod Asking
