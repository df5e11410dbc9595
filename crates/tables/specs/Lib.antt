pub mod Below
pub mod Items
pub mod Listed
pub mod Walks
