pub mod Judging
pub mod Smallest
