-- What parsing answers.
use Rattle.std.specs.Prelude.{◌-◌, ◌≡◌, false, List, [], Some, None, Result, Ok, Err}
use Rattle.js_lexer.specs.declared.token.Token.{Token}
use Rattle.js_tree.specs.declared.tree.Tree.{Tree}
use Rattle.js_tree.specs.declared.limits.TheConstants.{MOST_NESTING}
use Rattle.js_tree.specs.Plain.{PlainItem}
use Rattle.js_tree.specs.Views.{plain_tree}
use Rattle.js_grammar.specs.Trees.{HasNoTree, IsLineIn}
use Rattle.js_grammar.specs.Unsupported.{first_unsupported}
use Rattle.js_grammar.specs.Reading.{Found}
use Rattle.js_grammar.specs.Statements.{item_function_at, item, items}
use Rattle.js_grammar.specs.Reader.{readers}
use Rattle.js_cursor.specs.declared.stop.Stop.{Stop}
use Rattle.js_cursor.specs.declared.stop.Stop.TheVariants.{NoTree, Memory}
use Rattle.js_parser.specs.declared.fault.ParseFault.{ParseFault}

-- a token is refused, the first of them on the line; or none is, and no tree of nesting at most that of
-- the limit is spelled
abbrev pub IsParseFault : List Token → ParseFault → Type 0
IsParseFault ts (ParseFault.Unsupported line) = first_unsupported false ts ≡ Some line
IsParseFault ts (ParseFault.NoTree line) =
    (first_unsupported false ts ≡ None) × HasNoTree MOST_NESTING ts × IsLineIn ts line
IsParseFault ts ParseFault.Memory = Unit {0}

-- what a program lists next, its nesting at most that of the limit
abbrev pub next_function : Token → List Token → Found PlainItem
next_function = item_function_at (MOST_NESTING - 1) (readers (MOST_NESTING - 1))

abbrev pub next_item : List Token → Found PlainItem
next_item = item (MOST_NESTING - 1) (readers (MOST_NESTING - 1))

abbrev pub all_items : List Token → Found (List PlainItem)
all_items = items (MOST_NESTING - 1) (readers (MOST_NESTING - 1))

-- reading all tokens gives the tree, or nothing where there is none
abbrev pub IsItems : List Token → Result Tree Stop → Type 0
IsItems ts (Ok tree) = all_items ts ≡ Some (plain_tree tree, [])
IsItems ts (Err (NoTree left)) = all_items ts ≡ None
IsItems ts (Err Memory) = Unit {0}

-- the refusal is handed on, with a line of the text
abbrev pub IsFault : List Token → Stop → ParseFault → Type 0
IsFault ts (NoTree left) (ParseFault.NoTree line) = IsLineIn ts line
IsFault ts Memory ParseFault.Memory = Unit {0}
IsFault ts stop fault = ⊥
