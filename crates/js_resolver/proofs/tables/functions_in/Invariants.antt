use Rattle.std.proofs.Common.{◌≡◌, map, drop, fold, []}
use Rattle.std.specs.List.{filter_map}
use Rattle.js_names.specs.Slots.{function_at, joins}
use Rattle.js_names.specs.Views.{mention_of}
use Rattle.js_resolver.proofs.tables.functions_in.Given as goal

abbrev pub invariant-loop-mention : goal.invariant-loop-mention
invariant-loop-mention l =
    fold joins l.functions.keys (filter_map (function_at) (map mention_of (drop l.mention-index l.mentions))) ≡ fold joins [] (filter_map (function_at) (map mention_of l.mentions))
