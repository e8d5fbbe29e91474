pub mod Matrix
pub mod MatrixLaws
pub mod Cells
pub mod TableLaws
pub mod Sparse
pub mod SparseLaws
