pub mod Bodies
pub mod Events
pub mod Exact
pub mod Judged
pub mod Machine
pub mod Told
pub mod Trees
