-- the format, what is read, written and changed, and what callers give
pub mod Kinds
pub mod Rows
pub mod Blocks
pub mod ChangeLists
pub mod Classes
pub mod Reading
pub mod Written
pub mod Given
pub mod Answers
pub mod MapRows
pub mod MapLent
-- what holds of the changes, whatever the text
pub mod Laws
-- how a book is held
pub mod Holding
