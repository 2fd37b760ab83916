-- What the contracts inside of this crate cite, and nothing that a command is promised by.
pub mod Seats
pub mod Noted
pub mod Desks
pub mod Entries
pub mod Parts
pub mod SeatViews
pub mod Boards
pub mod Kept
pub mod TakenOut
pub mod Reached
pub mod Absorbing
pub mod Transition
