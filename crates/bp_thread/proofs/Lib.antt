pub mod Standing
pub mod Beginning
pub mod Giving
pub mod Slicing
pub mod Carrying
pub mod Crosses
pub mod Behind
