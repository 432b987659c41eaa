pub mod Marks
pub mod Form
pub mod Pieces
pub mod Lines
pub mod Texts
pub mod Laws
