pub mod FirstItem
