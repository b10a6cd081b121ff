pub mod Next
pub mod Table
pub mod Told
pub mod Traces
pub mod Verdict
