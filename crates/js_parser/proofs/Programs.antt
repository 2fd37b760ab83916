-- What reading all tokens says of the program.
use Rattle.std.proofs.Common.{◌≡◌, ℕ, suc, ◌-◌, false, true, List, [], ◌∷◌, ◌++◌, map, Some, None, refl}
use Rattle.std.proofs.lemmas.List as list
use Rattle.js_lexer.specs.declared.token.Token.{Token}
use Rattle.js_tree.specs.declared.limits.TheConstants.{MOST_NESTING}
use Rattle.js_tree.specs.declared.tree.Item.{Item}
use Rattle.js_tree.specs.Plain as p
use Rattle.js_tree.specs.Plain.{PlainItem}
use Rattle.js_tree.specs.Views.{plain_item}
use Rattle.js_lexer.specs.declared.sort.Sort.{Sort}
use Rattle.js_grammar.specs.Trees.{IsTree, HasNoTree}
use Rattle.js_grammar.specs.Statements as stmts
use Rattle.js_grammar.specs.Reading.{next_iteration, run, and_then}
use Rattle.js_grammar.specs.Reader.{readers}
use Rattle.js_grammar.proofs.Unique as unique
use Rattle.js_grammar.specs.Sorts.{is, spot}
use Rattle.js_cursor.proofs.Loops as loops
use Rattle.js_parser.specs.Parse.{next_item, next_function, all_items}

pub item_function : (t : Token) (ts : List Token) → is Sort.Function t ≡ true → next_item (t ∷ ts) ≡ next_function t ts
item_function t ts h = rw h refl

item_is : (n : ℕ) (t : Token) (ts : List Token) → is Sort.Function t ≡ false →
    stmts.item n (readers n) (t ∷ ts) ≡ and_then ((readers (suc n)).stmt (t ∷ ts)) (λ s r. Some (p.statement (spot t) s, r))
unfolding readers
item_is n t ts h = rw h refl

pub item_statement : (t : Token) (ts : List Token) → is Sort.Function t ≡ false →
    next_item (t ∷ ts) ≡ and_then ((readers MOST_NESTING).stmt (t ∷ ts)) (λ s r. Some (p.statement (spot t) s, r))
item_statement t ts h = item_is (MOST_NESTING - 1) t ts h

pub items_iteration : (is : List PlainItem) (ts : List Token) →
    run (stmts.items_step (MOST_NESTING - 1) (readers (MOST_NESTING - 1))) is ts ≡
    next_iteration (run (stmts.items_step (MOST_NESTING - 1) (readers (MOST_NESTING - 1)))) (stmts.items_step (MOST_NESTING - 1) (readers (MOST_NESTING - 1)) is ts)
items_iteration = loops.items_iteration (MOST_NESTING - 1)

pub map_push_item : (is : List Item) (i : Item) → map plain_item (is ++ i ∷ []) ≡ map plain_item is ++ plain_item i ∷ []
map_push_item = list.map_push plain_item

pub tree_found : (ts : List Token) (is : List PlainItem) (r : List Token) → all_items ts ≡ Some (is, r) → IsTree MOST_NESTING ts is
tree_found ts is r e = unique.tree_found (MOST_NESTING - 1) ts is r e

pub tree_missed : (ts : List Token) → all_items ts ≡ None → HasNoTree MOST_NESTING ts
tree_missed ts e = unique.tree_missed (MOST_NESTING - 1) ts e
