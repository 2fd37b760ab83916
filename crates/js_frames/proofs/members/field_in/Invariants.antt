use Rattle.std.proofs.Common.{◌≡◌, drop}
use Rattle.js_frames.proofs.MemberLemmas.{found_in}
use Rattle.js_frames.proofs.members.field_in.Given as goal

abbrev pub invariant-loop-field : goal.invariant-loop-field
invariant-loop-field l = found_in (drop l.field-index l.fields) l.key ≡ found_in l.fields l.key
