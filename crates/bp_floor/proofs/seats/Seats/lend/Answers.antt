use Rattle.std.proofs.Common.{◌+◌, ◌∷◌, ◌∙◌, List, map, drop, sym, ap, subst}
use Rattle.std.proofs.lemmas.List.{at_drop_more, at_drop_all}
use Rattle.js_frames.specs.Places.{plain_ground}
use Rattle.bp_thread.specs.declared.job.Job.{Job}
use Rattle.bp_floor.specs.declared.entry.Entry.{Entry}
use Rattle.bp_floor.specs.inner.Entries.{entry_seen}
use Rattle.bp_floor.proofs.LoanLemmas.{Outgoing, outgoing_start, outgoing_below, outgoing_next, outgoing_end}
use Rattle.bp_floor.proofs.seats.Seats.lend.Goals as goal

pub loop-entry-init : goal.loop-entry-init
loop-entry-init c = record {
  outgoing = subst (λ (js : List Job). Outgoing (plain_ground c.args.ground.now) c.args.options c.args.wave.now (map entry_seen c.as_slice-entries.result.now) js c.args.self.now c.args.self.now) (sym c.in_ok-jobs.ensures.items)
      (outgoing_start _ _ _ _ _ c.requires.0 c.requires.1 c.as_slice-entries.ensures);
}

pub lend_one-requires : goal.lend_one-requires
lend_one-requires c =
    outgoing_below _ _ _ _ _ _ _ _ _ c.loop-entry.invariant.outgoing
    (at_drop_more (λ (xs : List Entry). map entry_seen xs) c.as_slice-entries.result.now c.loop-entry.entry-index c.entry-item.result c.loop-entry-test.true
    ∙ ap (λ (x : Entry). entry_seen x ∷ map entry_seen (drop (c.loop-entry.entry-index + 1) c.as_slice-entries.result.now)) (sym c.entry-item.is))

pub loop-entry-preserved : goal.loop-entry-preserved
loop-entry-preserved c = record {
  outgoing = outgoing_next _ _ _ _ _ _ _ _ _ _ c.entry-item.result _ c.loop-entry.invariant.outgoing
      (at_drop_more (λ (xs : List Entry). map entry_seen xs) c.as_slice-entries.result.now c.loop-entry.entry-index c.entry-item.result c.loop-entry-test.true
      ∙ ap (λ (x : Entry). entry_seen x ∷ map entry_seen (drop (c.loop-entry.entry-index + 1) c.as_slice-entries.result.now)) (sym c.entry-item.is))
      c.in_ok-job.ensures c.in_ok-push_some.ensures;
}

pub returns : goal.returns
returns c =
    outgoing_end _ _ _ _ _ _ _ c.loop-entry.invariant.outgoing (at_drop_all (λ (xs : List Entry). map entry_seen xs) c.as_slice-entries.result.now c.loop-entry.entry-index c.loop-entry-test.false)
