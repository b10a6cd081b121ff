pub mod ElementLemmas
pub mod FilterLemmas
