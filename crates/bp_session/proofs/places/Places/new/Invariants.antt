use Rattle.std.proofs.Common.{◌≡◌, vec_len}
use Rattle.bp_session.proofs.places.Places.new.Given as goal

abbrev pub invariant-loop-berth : goal.invariant-loop-berth
invariant-loop-berth g l = vec_len l.berths ≡ l._berth
