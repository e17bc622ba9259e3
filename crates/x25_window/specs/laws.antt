-- The machine that laws of the crates above are about.
pub mod Window
