-- What a token is for the grammar.
use Rattle.std.specs.Prelude.{ℕ, List, unwrap_or}
use Rattle.bp_tables.specs.Found.{find_in}
use Rattle.js_lexer.specs.declared.token.Kind.{Kind}
use Rattle.js_lexer.specs.declared.sort.Sort.{Sort}
use Rattle.js_lexer.specs.Spellings.{all_keywords, all_marks}

-- the sort that the entry of a word or a mark says; a spelling without one is unsupported
abbrev pub sort_in : List (List ℕ × Sort) → List ℕ → Sort
sort_in entries spelling = unwrap_or (find_in entries spelling) Sort.Unsupported

-- the sort of a token of the kind
abbrev pub kind_sort : Kind → Sort
kind_sort (Kind.Name text) = Sort.Name
kind_sort (Kind.Keyword text) = sort_in all_keywords text
kind_sort (Kind.Number n) = Sort.Number
kind_sort (Kind.Text text) = Sort.Text
kind_sort (Kind.Mark text) = sort_in all_marks text
