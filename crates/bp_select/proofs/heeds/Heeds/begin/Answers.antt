use Rattle.std.proofs.Common.{◌≡◌, List, ℕ, map, subst, sym, true}
use Rattle.bp_roll.specs.Rolls.{is_in}
use Rattle.bp_select.specs.Tallies.{Each}
use Rattle.bp_live.specs.Lives.{live_of}
use Rattle.bp_select.proofs.HeedLemmas.{all_changed}
use Rattle.bp_select.proofs.heeds.Heeds.begin.Goals as goal

pub returns-then-self-clause-noted : goal.returns-then-self-clause-noted
returns-then-self-clause-noted c = c.requires c.if-self.true

pub returns-clause-noted : goal.returns-clause-noted
returns-clause-noted c =
    let ts = map live_of c.args.live.now in
    all_changed ts c.new.result c.noting.result (subst (λ (ns : List ℕ). Each (λ t. is_in t.number ns ≡ true) ts) (sym c.noting.ensures) c.in_ok-numbers.ensures)

pub returns-clause-still : goal.returns-clause-still
returns-clause-still c = λ w.
    let ts = map live_of c.args.live.now in
    all_changed ts c.new.result c.noting.result (subst (λ (ns : List ℕ). Each (λ t. is_in t.number ns ≡ true) ts) (sym c.noting.ensures) c.in_ok-numbers.ensures)
