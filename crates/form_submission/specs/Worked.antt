-- Pages whose forms are submitted, and what the definitions come to on them. Nobody has to believe these.
pub mod Button
pub mod Bodies
pub mod Groups
pub mod Causes
pub mod Entries
pub mod Kept
