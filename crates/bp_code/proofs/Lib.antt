mod Pieces
mod Runs
mod Verdicts
