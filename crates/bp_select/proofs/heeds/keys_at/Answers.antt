use Rattle.std.proofs.Common.{◌≡◌, ◌∙◌, map, sym, subst}
use Rattle.std.proofs.lemmas.Result.{IfOk-weaker}
use Rattle.bp_roll.specs.Rolls.{is_in}
use Rattle.bp_live.specs.declared.stated.Stated.{Stated}
use Rattle.bp_select.specs.inner.Heeding.{HeedsAt}
use Rattle.bp_live.specs.Lives.{live_of}
use Rattle.bp_select.proofs.HeedLemmas.{absent_each, each_map, found_each}
use Rattle.bp_live.proofs.Leaving.{at_within}
use Rattle.bp_select.proofs.heeds.keys_at.Goals as goal

pub returns-then-not-is_at : goal.returns-then-not-is_at
returns-then-not-is_at c =
    each_map (λ t. t.number ≡ c.args.number → ⊥) (λ t. t.number ≡ c.args.number → HeedsAt (λ k. is_in k c.new.result.items) t) (map live_of c.args.live.now) (λ t f e. absurd (f e))
    (absent_each c.args.number c.args.live.now c.place_of-at.result c.requires c.place_of-at.ensures (sym c.is_at.ensures ∙ c.if-not-is_at.true))

pub bounds-live-at : goal.bounds-live-at
bounds-live-at c = at_within c.args.number c.place_of-at.result c.args.live.now (sym c.is_at.ensures ∙ c.if-not-is_at.false)

pub returns : goal.returns
returns c =
    let is = sym c.is_at.ensures ∙ c.if-not-is_at.false in
    let low = at_within c.args.number c.place_of-at.result c.args.live.now is in
    IfOk-weaker c.keys_of.result _ _
    (λ ks h.
    found_each (λ t. HeedsAt (λ k. is_in k ks.items) t) c.args.number c.place_of-at.result c.args.live.now c.index-live-at.result c.requires low is
    (subst (λ (s : Stated). HeedsAt (λ k. is_in k ks.items) (live_of s)) c.index-live-at.is h))
    c.keys_of.ensures
