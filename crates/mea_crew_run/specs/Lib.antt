pub mod Rounds
pub mod Crew
