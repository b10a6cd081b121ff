pub mod LastEntry
pub mod StacksLemmas
