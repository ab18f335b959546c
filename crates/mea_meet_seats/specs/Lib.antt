pub mod Vacant
pub mod Seats
pub mod SeatsRuns
