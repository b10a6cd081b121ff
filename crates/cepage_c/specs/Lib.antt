pub use Rattle.page_runner.specs.Asked
pub use Rattle.page_runner.specs.Ending
pub mod Numbers
