-- What a test on sorts tells.
use Rattle.std.proofs.Common.{◌≡◌, true, sym}
use denote.Enum.Bare.{same_true, true_same}
use Rattle.js_lexer.specs.declared.token.Token.{Token}
use Rattle.js_lexer.specs.contracts.sort.Sort.{the_type}
use Rattle.js_lexer.specs.declared.sort.Sort.{Sort}
use Rattle.js_grammar.specs.Sorts.{sort, is}

pub is-true : (k : Sort) (t : Token) → is k t ≡ true → sort t ≡ k
is-true k t e = sym (same_true the_type tt k (sort t) e)

pub is-same : (k : Sort) (t : Token) → sort t ≡ k → is k t ≡ true
is-same k t e = true_same the_type k (sort t) (sym e)
