use Rattle.std.proofs.Common.{◌≡◌, drop}
use Rattle.std.specs.Prelude.{find}
use Rattle.std.specs.Str.{bytes_eq}
use Rattle.bp_args.specs.Verbs.{verb_name, verb_at}
use Rattle.bp_args.proofs.verb.Verb.of_name.Given as goal

abbrev pub invariant-loop-verb : goal.invariant-loop-verb
invariant-loop-verb l = record {
  rest : verb_at l.word ≡ find (λ v. bytes_eq l.word (verb_name v)) (drop l.verb-index l.verb-items);
}
