pub mod Replies
pub mod RepliesInside
pub mod ChanParts
pub mod LockParts
pub mod MeetParts
pub mod OnceParts
pub mod SemParts
pub mod ShareParts
