use Rattle.std.proofs.Common.{◌≡◌, map, drop, fold}
use Rattle.std.specs.List.{filter_map}
use Rattle.js_names.specs.Slots.{assigned_in, assigned_at, joins}
use Rattle.js_names.specs.Views.{mention_of}
use Rattle.js_names.proofs.rules.assigned_in.Given as goal

abbrev pub invariant-loop-mention : goal.invariant-loop-mention
invariant-loop-mention l = fold joins l.assigned.keys (filter_map assigned_at (map mention_of (drop l.mention-index l.mentions))) ≡ assigned_in (map mention_of l.mentions)
