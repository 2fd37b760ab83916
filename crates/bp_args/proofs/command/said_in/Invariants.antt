use Rattle.std.proofs.Common.{◌≡◌, drop, map}
use Rattle.std.specs.Prelude.{string_bytes}
use Rattle.bp_args.specs.Said.{nothing_said, said_on}
use Rattle.bp_args.proofs.command.said_in.Given as goal

abbrev pub invariant-loop-word : goal.invariant-loop-word
invariant-loop-word l = record {
  rest : said_on nothing_said (map string_bytes l.words) ≡ said_on l.said (map string_bytes (drop l.word-index l.words));
}
