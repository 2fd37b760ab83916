pub mod Rolls
pub mod Lists
pub mod Counting
pub mod Feeding
pub mod Keys
