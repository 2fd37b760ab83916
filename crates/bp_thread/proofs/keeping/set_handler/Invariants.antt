use Rattle.std.proofs.Common.{◌≡◌, map, fold, drop, option_map}
use Rattle.js_value.specs.Views.{plain_value}
use Rattle.js_frames.specs.Places.{plain_effect}
use Rattle.bp_meaning.specs.After.{handler_after}
use Rattle.bp_thread.proofs.keeping.set_handler.Given as goal

abbrev pub invariant-loop-effect : goal.invariant-loop-effect
invariant-loop-effect l = fold handler_after (option_map plain_value l.handler) (map plain_effect (drop l.effect-index l.effects)) ≡ fold handler_after (option_map plain_value l.initial.handler) (map plain_effect l.effects)
