-- A law of the trees that tokens spell.
use Rattle.std.specs.Prelude.{List}
use Rattle.std.specs.List.{AllByRecursion}
use Rattle.js_lexer.specs.declared.token.Token.{Token}
use Rattle.js_tree.specs.Plain.{PlainItem}
use Rattle.js_grammar.specs.Grammar.{SpellsTree}
use Rattle.js_names.specs.Kept.{IsLookedUpAlike}
use Rattle.js_names.specs.Unresolved.{unresolved_mentions}

-- each mention of a tree that tokens spell is looked up as if each block kept every `var` in it
abbrev pub SpelledTreesKeepEnough : Type 0
SpelledTreesKeepEnough =
    (ts : List Token) (items : List PlainItem)
    → SpellsTree ts items
    → AllByRecursion IsLookedUpAlike (unresolved_mentions items)
