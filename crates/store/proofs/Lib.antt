pub mod Calls
pub mod Frames
pub mod Places
pub mod Room
