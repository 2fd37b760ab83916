-- Tokens spell at most one tree, and what reading all of them says of it.
use Rattle.std.proofs.Common.{◌≡◌, ℕ, suc, max, List, [], Some, None, ap, subst, arith}
use Rattle.js_data.proofs.Shared.{OfSome}
use Rattle.js_lexer.specs.declared.token.Token.{Token}
use Rattle.js_tree.specs.Plain.{PlainItem}
use Rattle.js_tree.specs.Nesting.{deepest_item}
use Rattle.js_grammar.specs.Grammar.{SpellsTree}
use Rattle.js_grammar.specs.Trees.{IsTree, HasNoTree}
use Rattle.js_grammar.specs.Statements as stmts
use Rattle.js_grammar.specs.Reading.{Found}
use Rattle.js_grammar.specs.Reader.{readers}
use Rattle.js_grammar.proofs.Sound.{readers-sound, items-sound, AllItems}
use Rattle.js_grammar.proofs.Complete.{items-read}

pub tree_once : (ts : List Token) (is is' : List PlainItem) → SpellsTree ts is → SpellsTree ts is' → is ≡ is'
tree_once ts is is' d d' =
    let n = max (deepest_item is) (deepest_item is') in
    let left = items-read d n (omega arith) [] in
    let right = items-read d' n (omega arith) [] in
    let same : ◌≡◌ {A = List PlainItem × List Token} (is, []) (is', []) = cc in
    ap (λ (x : List PlainItem × List Token). x.0) same

pub tree_found : (n : ℕ) (ts : List Token) (is : List PlainItem) (r : List Token) → stmts.items n (readers n) ts ≡ Some (is, r) → IsTree (suc n) ts is
tree_found n ts is r e =
    let s = readers-sound n in
    let all : OfSome (λ x. AllItems n (readers n) s.expr s.declarators s.stmt ts x.0 x.1) (stmts.items n (readers n) ts) = items-sound n (readers n) s.expr s.declarators s.stmt ts in
    let found = subst (λ (o : Found (List PlainItem)). OfSome (λ x. AllItems n (readers n) s.expr s.declarators s.stmt ts x.0 x.1) o) e all in
    record { spelled = found.spelled; within = found.fits }

pub tree_missed : (n : ℕ) (ts : List Token) → stmts.items n (readers n) ts ≡ None → HasNoTree (suc n) ts
tree_missed n ts e is t = let f = items-read t.spelled n t.within [] in cc
