-- What the code says of cells and rows.
pub mod Cells
pub mod Widths
pub mod Numbers
pub mod Rows
pub mod Layout
pub mod Results
pub mod Forests
pub mod RowLaws
pub mod Links
pub mod Stores
pub mod Slices
pub mod Posts
pub mod CopyLaws
pub mod SameCells
