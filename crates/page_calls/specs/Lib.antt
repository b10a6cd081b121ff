pub mod Asked
pub mod Commands
pub mod Given
pub mod Ready
pub mod Refusals
pub mod Resolved
pub use Rattle.ce_page.specs.Ends
