use Rattle.std.proofs.Common.{◌≡◌, ◌∙◌, sym, arith, fold, get_or, drop, ◌+◌, nat_eq, true, false, rules, tests}
use Rattle.std.proofs.lemmas.List.{at_drop_more, at_drop_all}
use Rattle.js_names.specs.Slots.{joins, held_by, holds_all, inside}
use Rattle.js_names.specs.Held.{held_in}
use Rattle.js_names.proofs.HeldLemmas.{inside_step, inside_stop}
use Rattle.js_names.proofs.holdings.hold_inside.Goals as goal

pub returns-then-function-declared : goal.returns-then-function-declared
returns-then-function-declared c = λ q.
    let fs = c.args.functions.now in
    let i = c.loop-function.function-index in
    let d = c.args.declared in
    let f = get_or fs i 0 in
    let h = held_in c.loop-function.held q in
    let e : nat_eq f d.owner ≡ true = search (tests, rules) in
    inside_stop q f d.offset d.owner (drop (i + 1) fs) h e
    ∙ (sym (at_drop_more (λ xs. fold joins h (held_by q (holds_all d.offset (inside d.owner xs)))) fs i 0 (omega arith)) ∙ c.loop-function.invariant q)

pub loop-function-preserved : goal.loop-function-preserved
loop-function-preserved c = λ q.
    let fs = c.args.functions.now in
    let i = c.loop-function.function-index in
    let d = c.args.declared in
    let f = get_or fs i 0 in
    let h = held_in c.loop-function.held q in
    let e : nat_eq f d.owner ≡ false = search (tests, rules) in
    inside_step q f d.offset d.owner (drop (i + 1) fs) h (held_in c.hold.new.held q) e (c.in_ok-hold.ensures q)
    ∙ (sym (at_drop_more (λ xs. fold joins h (held_by q (holds_all d.offset (inside d.owner xs)))) fs i 0 (omega arith)) ∙ c.loop-function.invariant q)

pub returns : goal.returns
returns c = λ q.
    let d = c.args.declared in
    let h = held_in c.loop-function.held q in
    sym (at_drop_all (λ xs. fold joins h (held_by q (holds_all d.offset (inside d.owner xs)))) c.args.functions.now c.loop-function.function-index (omega arith)) ∙ c.loop-function.invariant q
