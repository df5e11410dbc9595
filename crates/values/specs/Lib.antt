pub mod Admits
pub mod Fits
pub mod Kinds
pub mod Lines
pub mod Types
