pub mod CauseLaw
pub mod EndLaw
pub mod HandingLaw
