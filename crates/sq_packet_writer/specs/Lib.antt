pub mod Laws
pub mod PacketText
pub mod Writable
