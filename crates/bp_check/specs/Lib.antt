pub mod Words
pub mod Tops
pub mod Findings
pub mod Sentences
pub mod inner
