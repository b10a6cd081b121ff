pub mod Canon
pub mod Fronts
pub mod Laws
pub mod Pieces
pub mod Subjects
