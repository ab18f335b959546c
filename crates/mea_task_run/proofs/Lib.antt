pub mod Known
pub mod Faults
pub mod Texts
pub mod Standing
pub mod Spellings
pub mod Rests
pub mod Ends
