pub mod Named
pub mod Outbox
pub mod Queue
pub mod Totals
pub mod WaitList
pub mod WaitListLends
pub mod WaitListLinks
pub mod Ready
