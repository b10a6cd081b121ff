pub mod ExitLaws
pub mod LineLaws
pub mod PassLaws
pub mod StepLaws
pub mod TellLaws
pub mod TraceLaws
pub mod VerdictLaws
