pub mod Text
pub mod Hexadecimal
pub mod PacketText
pub mod FrameText
pub mod WidePacketText
pub mod WideFrameText
