pub mod HexDigits
pub mod ScriptLine
pub mod Reading
pub mod laws
