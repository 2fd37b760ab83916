use Rattle.js_lexer.proofs.Order.{tokens_in_order, longest_mark}
use Rattle.js_lexer.proofs.lexer.tokens_in_order.Goals as goal

pub returns : goal.returns
returns c = record {
  order = tokens_in_order c.args.bytes.now;
  longest = longest_mark c.args.bytes.now;
}
