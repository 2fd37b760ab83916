use Rattle.std.proofs.Common.{◌≡◌, ℕ, length}
use Rattle.bp_roll.specs.Counting.{count_at, of_block}
use Rattle.bp_roll.proofs.counts.Counts.make_room.Given as goal

abbrev pub invariant-loop-place : goal.invariant-loop-place
invariant-loop-place l = record {
  room : length l.self ≡ l._place;
  same : (n : ℕ) → count_at l.self n ≡ count_at l.fn.self n;
  blocks : (b : ℕ) → of_block l.self b ≡ of_block l.fn.self b;
}
