pub mod CountSeeing
pub mod OneCount
pub mod CountSites
pub mod CountCalls
pub mod CountMade
pub mod BarrierSites
pub mod Playing
