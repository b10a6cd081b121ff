pub mod BothEnds
pub mod Placing
