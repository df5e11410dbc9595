pub mod Frames
pub mod Laws
pub mod Model
pub mod Rows
