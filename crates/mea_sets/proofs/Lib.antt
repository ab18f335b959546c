pub mod WaitSets
