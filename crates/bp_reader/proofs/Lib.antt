pub mod Along
pub mod Programs
pub mod Headed
pub mod Cuts
pub mod Walks
pub mod Decimals
pub mod TextsRead
