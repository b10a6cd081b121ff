pub mod LineLaws
pub mod FeedLaws
