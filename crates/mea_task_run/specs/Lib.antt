pub mod Lines
pub mod Spelling
pub mod Results
pub mod Machine
pub mod Rests
pub mod Words
