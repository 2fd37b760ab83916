-- What one token, or the first of a list, is.
use Rattle.std.specs.Prelude.{ℕ, ◌-◌, Bool, true, false, not, ◌&&◌, ◌||◌, List, [], ◌∷◌, length, codes, Option, Some, None, is_some}
use Rattle.std.specs.List.{slice_get}
use Rattle.std.specs.Str.{bytes_eq}
use Rattle.js_lexer.specs.declared.token.Token.{Token}
use Rattle.js_tree.specs.declared.tree.Name.{Name}
use Rattle.js_tree.specs.declared.tree.DeclareKind.{DeclareKind}
use Rattle.js_lexer.specs.declared.sort.Sort.{Sort}
use Rattle.js_grammar.specs.Sorts.{sort, is, named}
use Rattle.js_grammar.specs.Operators.{sign, step, assign_op}

-- the list begins with the sort
abbrev pub starts : Sort → List Token → Bool
starts k [] = false
starts k (t ∷ ts) = is k t

-- the line of the first token
abbrev pub line_of : List Token → ℕ
line_of [] = 0
line_of (t ∷ ts) = t.line

abbrev pub end_or_none : Option Token → ℕ
end_or_none None = 0
end_or_none (Some t) = t.to

-- the place after the last token before the rest
abbrev pub end_before : List Token → List Token → ℕ
end_before ts rest = end_or_none (slice_get ts (length ts - length rest - 1))

abbrev pub sort_declare : Sort → Option DeclareKind
sort_declare Sort.Const = Some DeclareKind.Const
sort_declare Sort.Let = Some DeclareKind.Let
sort_declare Sort.Var = Some DeclareKind.Var
sort_declare _ = None

unfoldable pub declares : Token → Option DeclareKind
declares t = sort_declare (sort t)

abbrev pub is_const : DeclareKind → Bool
is_const DeclareKind.Const = true
is_const _ = false

abbrev pub if_lexical : Option DeclareKind → Option DeclareKind
if_lexical None = None
if_lexical (Some DeclareKind.Var) = None
if_lexical (Some k) = Some k

-- `const` or `let`
unfoldable pub lexical : Token → Option DeclareKind
lexical t = if_lexical (declares t)

-- a unary operator, `++` or `--` stands next
abbrev pub starts_sign : List Token → Bool
starts_sign [] = false
starts_sign (t ∷ ts) = is_some (sign t) || is_some (step t)

-- `++` or `--` stands next, on the line of the token before it
abbrev pub starts_step : List Token → Bool
starts_step [] = false
starts_step (t ∷ ts) = is_some (step t) && not t.new_line

-- a name and `++` or `--` on its line
abbrev pub starts_update : List Token → Bool
starts_update [] = false
starts_update (t ∷ ts) = is_some (named t) && starts_step ts

-- what continues a call
abbrev pub goes_on : Sort → Bool
goes_on Sort.Dot = true
goes_on Sort.LeftBracket = true
goes_on Sort.LeftParen = true
goes_on _ = false

abbrev pub starts_call : List Token → Bool
starts_call [] = false
starts_call (t ∷ ts) = goes_on (sort t)

abbrev pub starts_set : List Token → Bool
starts_set [] = false
starts_set (t ∷ ts) = is_some (assign_op t)

-- a name and an assignment's operator
abbrev pub starts_assign : List Token → Bool
starts_assign [] = false
starts_assign (t ∷ ts) = is_some (named t) && starts_set ts

-- a `const` or `let` declaration begins here
abbrev pub starts_lexical : List Token → Bool
starts_lexical [] = false
starts_lexical (t ∷ ts) = is_some (lexical t)

-- a declaration begins here
abbrev pub starts_declaration : List Token → Bool
starts_declaration [] = false
starts_declaration (t ∷ ts) = is_some (declares t)

-- the name `of`
abbrev pub is_of_name : Option Name → Bool
is_of_name None = false
is_of_name (Some name) = bytes_eq name.text (codes "of")

unfoldable pub is_of : Token → Bool
is_of t = is_of_name (named t)

abbrev pub starts_of : List Token → Bool
starts_of [] = false
starts_of (t ∷ ts) = is_of t

abbrev pub starts_name_of : List Token → Bool
starts_name_of [] = false
starts_name_of (t ∷ ts) = is_some (named t) && starts_of ts

-- `const` or `let`, a name and `of`
abbrev pub starts_for_of : List Token → Bool
starts_for_of [] = false
starts_for_of (t ∷ ts) = is_some (lexical t) && starts_name_of ts
