pub mod Options
pub mod Parallelism
pub mod Header
pub mod Verdicts
pub mod Records
pub mod Texts
pub mod Logs
pub mod inner
