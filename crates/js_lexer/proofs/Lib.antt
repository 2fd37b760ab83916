mod Worked
pub mod Lines
pub mod Digits
pub mod Ends
pub mod Runs
pub mod Ascii
pub mod Fronts
pub mod Fits
pub mod Cutting
pub mod Lexing
pub mod Order
