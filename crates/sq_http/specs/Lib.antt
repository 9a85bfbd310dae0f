-- What is public: `Cut`, `Limits`, `Owed`, `Replies`, `Served`, `Handles` and `Alike`. The others are of the calls inside.
pub mod Alike
pub mod Body
pub mod Cut
pub mod Exchange
pub mod Fields
pub mod Gathers
pub mod Handles
pub mod Heading
pub mod Judge
pub mod Limits
pub mod Owed
pub mod Replies
pub mod Served
pub mod Puts
