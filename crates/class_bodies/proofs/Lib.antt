pub mod Placed
pub mod Resumes
pub mod FixedLaws
