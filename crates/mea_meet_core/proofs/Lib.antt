pub mod BarrierLaws
pub mod Barriers
pub mod LatchLaws
pub mod Rounds
