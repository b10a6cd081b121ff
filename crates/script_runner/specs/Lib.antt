pub mod Script
pub mod Sitting
pub mod Ran
pub mod Blank
pub mod Making
pub mod Table
