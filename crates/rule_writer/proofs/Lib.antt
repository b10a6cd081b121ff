pub mod FormLaws
pub mod FrontLaws
pub mod LineLaws
pub mod PieceLaws
