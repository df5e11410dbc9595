pub mod Coding
pub mod Faults
pub mod HasType
pub mod Laws
pub mod Lookup
pub mod Passing
pub mod Typing
