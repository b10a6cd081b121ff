pub mod CommandLaws
pub mod ControlsLaws
pub mod GivenLaws
pub mod RivalLaws
