pub mod Alike
pub mod Numbers
pub mod Rows
pub mod OneForest
pub mod Walks
pub mod Beside
