pub mod Kept
pub mod Resumes
