mod Cases
mod Keeps
mod Splitting
