pub mod RouteLemmas
