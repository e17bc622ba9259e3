pub mod PrefixLaw
