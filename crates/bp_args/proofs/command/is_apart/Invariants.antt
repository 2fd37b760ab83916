use Rattle.std.proofs.Common.{◌≡◌, drop, Some}
use Rattle.std.specs.Prelude.{not}
use Rattle.std.specs.List.{list_any}
use Rattle.std.specs.Str.{bytes_eq}
use Rattle.bp_args.specs.Command.{is_apart}
use Rattle.bp_args.proofs.command.is_apart.Given as goal

abbrev pub invariant-loop-name : goal.invariant-loop-name
invariant-loop-name l = record {
  rest : is_apart l.names (Some l.own) ≡ not (list_any (bytes_eq l.own) (drop l.name-index l.names));
}
