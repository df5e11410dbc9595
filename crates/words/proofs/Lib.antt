pub mod Cutting
pub mod Keywords
pub mod Surveying
