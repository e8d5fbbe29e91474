pub mod OwnOfParts
pub mod Parts
