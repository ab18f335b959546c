pub mod ToldReplies
pub mod SemParts
