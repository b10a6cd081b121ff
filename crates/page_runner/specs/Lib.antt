pub use Rattle.line_feed.specs.Feed
pub use Rattle.script_runner.specs.Script
pub use Rattle.script_runner.specs.declared.status.Status
pub use Rattle.command_words.specs.Words
pub use Rattle.script_runner.specs.Table
pub mod Ending
pub mod Asked
pub mod Memory
