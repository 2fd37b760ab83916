use Rattle.std.proofs.Common.{rules, arith}
use Rattle.bpx_cli.proofs.Splits.{apart_words, apart_none}
use Rattle.bpx_cli.proofs.state.last_apart.Goals as goal

pub returns : goal.returns
returns c = first_of (search (rules, apart_words, apart_none) depth 10, grind (arith, apart_words, apart_none))
