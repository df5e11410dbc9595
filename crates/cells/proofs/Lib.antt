pub mod Digits
pub mod Words
pub mod Meeting
pub mod Laws
pub mod Renumbers
