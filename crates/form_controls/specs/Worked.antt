-- Pages written out, and what the definitions come to on them. Nobody has to believe these.
pub mod Pages
pub mod Told
pub mod Owners
pub mod Legends
pub mod Controls
pub mod Kept
pub mod Validity
pub mod Invalid
pub mod Corners
