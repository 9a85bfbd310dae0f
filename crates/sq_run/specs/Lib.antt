pub mod Command
pub mod Complete
pub mod Desk
pub mod Leak
pub mod Output
pub mod Rehearsing
pub mod Replies
pub mod Serving
