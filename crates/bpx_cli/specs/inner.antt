-- What the contracts inside of this crate cite, and nothing that an answer of `bpx` is promised by.
pub mod Ends
