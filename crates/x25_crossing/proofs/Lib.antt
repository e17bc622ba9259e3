mod CauseLemmas
mod EndLemmas
mod HandingLemmas
