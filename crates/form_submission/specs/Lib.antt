pub mod EntryList
pub mod LineEnds
pub mod Encodings
pub mod Attributes
pub mod Plans
pub mod Requests
pub mod Worked
