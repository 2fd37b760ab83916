use Rattle.std.proofs.Common.{◌∙◌, ap, sym}
use Rattle.bp_live.specs.declared.stated.Stated.{Stated}
use Rattle.bp_select.specs.Blocks.{own_set}
use Rattle.bp_live.specs.Lives.{live_of}
use Rattle.bp_live.proofs.Leaving.{at_within}
use Rattle.bp_select.proofs.Noting.{absent_block, found_block}
use Rattle.bp_select.proofs.settling.block_of.Goals as goal

pub returns-then-not-is_at : goal.returns-then-not-is_at
returns-then-not-is_at c = sym (absent_block c.args.number c.args.live.now c.place_of-at.result c.requires c.place_of-at.ensures (sym c.is_at.ensures ∙ c.if-not-is_at.true))

pub bounds-live-at : goal.bounds-live-at
bounds-live-at c = at_within c.args.number c.place_of-at.result c.args.live.now (sym c.is_at.ensures ∙ c.if-not-is_at.false)

pub returns : goal.returns
returns c =
    let is = sym c.is_at.ensures ∙ c.if-not-is_at.false in
    let low = at_within c.args.number c.place_of-at.result c.args.live.now is in
    let x = c.index-live-at.result in
    c.own_set.ensures ∙ ap (λ (s : Stated). own_set (live_of s)) c.index-live-at.is ∙ sym (found_block c.args.number c.place_of-at.result c.args.live.now x c.requires low is)
