pub mod CountLemmas
pub mod OpenLemmas
pub mod ReadAt
pub mod SlotLemmas
