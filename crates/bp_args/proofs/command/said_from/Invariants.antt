use Rattle.std.proofs.Common.{◌≡◌, drop}
use Rattle.bp_args.specs.Keys.{keys}
use Rattle.bp_args.specs.Said.{nothing_said}
use Rattle.bp_args.specs.inner.Normal.{said_from}
use Rattle.bp_args.proofs.command.said_from.Given as goal

abbrev pub invariant-loop-key : goal.invariant-loop-key
invariant-loop-key l = record {
  rest : said_from nothing_said l.values keys ≡ said_from l.said l.values (drop l.key-index l.key-items);
}
