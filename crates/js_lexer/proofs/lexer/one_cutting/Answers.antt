use Rattle.js_lexer.proofs.Cutting.{one_cutting, one_refusal, never_both, cut_or_refused}
use Rattle.js_lexer.proofs.lexer.one_cutting.Goals as goal

pub returns : goal.returns
returns c = record {
  tokens = one_cutting c.args.bytes.now;
  refusal = one_refusal c.args.bytes.now;
  never_both = never_both c.args.bytes.now;
  cut_or_refused = cut_or_refused c.args.bytes.now;
}
