-- What the contracts inside of this crate cite.
pub mod Published
pub mod Going
