pub mod Command
pub mod Number
pub mod Reply
pub mod Tables
pub mod Text
pub mod Words
