pub mod Lifted
pub mod RightAngles
