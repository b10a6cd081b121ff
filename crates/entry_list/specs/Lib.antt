pub mod Given
pub mod Selected
