use Rattle.std.proofs.Common.{◌≡◌, drop}
use Rattle.std.specs.Prelude.{find}
use Rattle.std.specs.Str.{bytes_eq}
use Rattle.bp_args.specs.Keys.{key_name, key_at}
use Rattle.bp_args.proofs.key.Key.of_name.Given as goal

abbrev pub invariant-loop-key : goal.invariant-loop-key
invariant-loop-key l = record {
  rest : key_at l.name ≡ find (λ k. bytes_eq l.name (key_name k)) (drop l.key-index l.key-items);
}
