-- Tokens that the language refuses.
use Rattle.std.specs.Prelude.{ℕ, Bool, false, not, ◌&&◌, List, [], ◌∷◌, codes, Option, Some, None, if◌then◌else◌}
use Rattle.std.specs.Str.{bytes_eq}
use Rattle.js_lexer.specs.declared.token.Kind.{Kind}
use Rattle.js_lexer.specs.declared.token.Token.{Token}
use Rattle.js_lexer.specs.declared.sort.Sort.{Sort}
use Rattle.js_grammar.specs.Sorts.{is}
use Rattle.js_grammar.specs.Tokens.{starts}

-- `__proto__` directly before a colon
abbrev pub is_prototype : List ℕ → Bool → Bool
is_prototype text colon = colon && bytes_eq text (codes "__proto__")

-- by whether the sort is refused, and whether a colon stands directly after: a refused word may be a key
-- there, a mark may not
abbrev pub is_refused : Kind → Bool → Bool → Bool
is_refused (Kind.Name text) unsupported colon = is_prototype text colon
is_refused (Kind.Text text) unsupported colon = is_prototype text colon
is_refused (Kind.Keyword text) unsupported colon = unsupported && not colon
is_refused (Kind.Mark text) unsupported colon = unsupported
is_refused (Kind.Number n) unsupported colon = false

-- the line of the first refused token; directly after a dot none is refused
abbrev pub first_unsupported : Bool → List Token → Option ℕ
first_unsupported dot [] = None
first_unsupported dot (t ∷ ts) =
    if not dot && is_refused t.kind (is Sort.Unsupported t) (starts Sort.Colon ts) then Some t.line
    else first_unsupported (is Sort.Dot t) ts
