pub mod WordLaws
pub mod SignLaws
