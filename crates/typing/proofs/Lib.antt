pub mod Complete
pub mod Decoding
pub mod Faulting
pub mod Judging
pub mod Sound
pub mod TypesHold
pub mod Upwards
pub mod Whole
