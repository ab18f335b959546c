pub mod Barrier
pub mod BarrierRuns
pub mod Count
pub mod CountRuns
pub mod Shutdown
