use Rattle.std.proofs.Common.{◌≡◌, drop}
use Rattle.std.specs.Prelude.{◌||◌, not}
use Rattle.std.specs.List.{list_all}
use Rattle.bp_args.specs.Verbs.{allows}
use Rattle.bp_args.specs.Said.{is_said, only}
use Rattle.bp_args.proofs.said.Said.only.Given as goal

abbrev pub invariant-loop-key : goal.invariant-loop-key
invariant-loop-key l = record {
  rest : only (allows l.verb) l.self ≡ list_all (λ k. allows l.verb k || not (is_said l.self k)) (drop l.key-index l.key-items);
}
