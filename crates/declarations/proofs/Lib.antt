pub mod Growing
pub mod FirstFaults
pub mod Options
pub mod Same
pub mod Searches
pub mod Within
