-- Programs of trees that tokens spell.
use Rattle.std.proofs.Common.{◌≡◌, ℕ, ◌≤◌, List, [], ◌∷◌, length, arith, None}
use Rattle.js_lexer.specs.declared.limits.TheConstants.{MOST_BYTES}
use Rattle.js_lexer.specs.declared.token.Token.{Token}
use Rattle.js_lexer.specs.Cut.{Cut}
use Rattle.js_lexer.specs.Laws.{ArePlaced}
use Rattle.js_lexer.proofs.Order.{tokens_in_order}
use Rattle.js_tree.specs.declared.limits.TheConstants.{MOST_NESTING}
use Rattle.js_tree.specs.Plain.{PlainItem}
use Rattle.js_program.specs.Sound.{IsSound}
use Rattle.js_grammar.specs.Trees.{IsTree}
use Rattle.js_names.specs.Rules.{name_fault}
use Rattle.js_resolver.specs.Resolved.{program_of_tree}
use Rattle.js_resolver.specs.Spelled.{next, InOrder, IsSpelled}
use Rattle.js_resolver.proofs.sound.Resolved.{resolved_sound}
use Rattle.js_resolver.proofs.apart.Names.{spelled_apart}
use Rattle.js_resolver.proofs.apart.Counts.{spelled_few}

-- the program is sound where no rule of names is broken
pub spelled_sound : (items : List PlainItem) → IsSpelled items → name_fault items ≡ None → IsSound (program_of_tree items)
spelled_sound items h ok =
    let few = spelled_few MOST_BYTES h.tokens items h.order h.tree.spelled in
    let nodes = few.nodes in
    let functions = few.functions in
    let constants = few.constants in
    resolved_sound items (omega (arith, nodes)) (omega (arith, functions)) (omega (arith, constants)) ok (spelled_apart MOST_BYTES h.tokens items (omega arith) h.order h.tree.spelled)

placed_next : (bytes : List ℕ) (end here : ℕ) (ts : List Token) → length bytes ≤ end → here ≤ length bytes → ArePlaced bytes here ts → here ≤ next end ts
placed_next bytes end here [] l m h = omega arith
placed_next bytes end here (t ∷ ts) l m h = h.0.order

-- tokens that are placed in a text stand in order
placed_order : (bytes : List ℕ) (end here : ℕ) (ts : List Token) → length bytes ≤ end → ArePlaced bytes here ts → InOrder end ts
placed_order bytes end here [] l h = tt
placed_order bytes end here (t ∷ ts) l h =
    let some = h.0.some in
    let later = placed_next bytes end t.to ts l h.0.within h.1 in
    (omega (arith, some, later), placed_order bytes end t.to ts l h.1)

-- the tokens of a text spell its tree
pub cut_spelled : (bytes : List ℕ) (ts : List Token) (items : List PlainItem) → length bytes ≤ MOST_BYTES → Cut bytes ts → IsTree MOST_NESTING ts items → IsSpelled items
cut_spelled bytes ts items l cut tree = record { tokens = ts; order = placed_order bytes MOST_BYTES 0 ts l (tokens_in_order bytes ts cut); tree = tree }
