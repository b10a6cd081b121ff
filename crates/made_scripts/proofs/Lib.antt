pub mod LineLaws
pub mod MadeLaws
pub mod CountLaws
