-- What a token is for the grammar, and what it holds.
use Rattle.std.specs.Prelude.{ℕ, ℤ, Bool, List, Option, Some, None}
use Rattle.js_lexer.specs.declared.token.Kind.{Kind}
use Rattle.js_lexer.specs.declared.token.Token.{Token}
use Rattle.js_lexer.specs.Sorts.{kind_sort}
use Rattle.js_tree.specs.declared.tree.Name.{Name}
use Rattle.js_tree.specs.declared.tree.Spot.{Spot}
use denote.Enum.Bare.{sameb}
use Rattle.js_lexer.specs.contracts.sort.Sort.{the_type}
use Rattle.js_lexer.specs.declared.sort.Sort.{Sort}

unfoldable pub sort : Token → Sort
sort t = kind_sort t.kind

-- where a token stands
abbrev pub spot : Token → Spot
spot t = record { at = t.from; line = t.line }

-- what a token holds: a name, a number, the content of a text literal; a word of any kind after a dot; a
-- key before a colon

abbrev pub kind_name : Kind → Option (List ℕ)
kind_name (Kind.Name text) = Some text
kind_name _ = None

abbrev pub name_at : Option (List ℕ) → Spot → Option Name
name_at None s = None
name_at (Some x) s = Some (record { text = x; spot = s })

unfoldable pub named : Token → Option Name
named t = name_at (kind_name t.kind) (spot t)

abbrev pub kind_number : Kind → Option ℤ
kind_number (Kind.Number n) = Some n
kind_number _ = None

unfoldable pub numbered : Token → Option ℤ
numbered t = kind_number t.kind

abbrev pub kind_text : Kind → Option (List ℕ)
kind_text (Kind.Text text) = Some text
kind_text _ = None

unfoldable pub quoted : Token → Option (List ℕ)
quoted t = kind_text t.kind

abbrev pub kind_member : Kind → Option (List ℕ)
kind_member (Kind.Name text) = Some text
kind_member (Kind.Keyword text) = Some text
kind_member _ = None

unfoldable pub member_word : Token → Option (List ℕ)
member_word t = kind_member t.kind

abbrev pub kind_key : Kind → Option (List ℕ)
kind_key (Kind.Name text) = Some text
kind_key (Kind.Keyword text) = Some text
kind_key (Kind.Text text) = Some text
kind_key _ = None

unfoldable pub key : Token → Option (List ℕ)
key t = kind_key t.kind

-- whether two sorts are one
abbrev pub same : Sort → Sort → Bool
same = sameb the_type

-- the token is of the sort
abbrev pub is : Sort → Token → Bool
is k t = same k (sort t)
