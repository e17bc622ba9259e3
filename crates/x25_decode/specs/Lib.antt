pub mod Decoding
pub mod LooseDecoder
pub mod TestVectors
pub mod code
