use Rattle.std.proofs.Common.{◌≡◌, false, length}
use Rattle.js_grammar.specs.Unsupported.{first_unsupported}
use Rattle.js_parser.proofs.refused.unsupported_line.Given as goal

abbrev pub invariant-more : goal.invariant-more
invariant-more l = first_unsupported l.dot l.rest ≡ first_unsupported false l.tokens

abbrev pub decreases-more : goal.decreases-more
decreases-more l = length l.rest
