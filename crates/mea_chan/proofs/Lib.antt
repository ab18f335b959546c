pub mod OneChannel
pub mod BoundedSteps
mod BoundedGrants
pub mod MailboxEvents
pub mod BoundedEvents
pub mod BoundedEnds
pub mod Playing
pub mod BoxEvents
