pub mod Laws
pub mod Made
pub mod Worked
pub mod Figures
pub mod Summary
pub mod Wanted
pub mod WorkedFigures
