use Rattle.std.proofs.Common.{rules, ◌≡◌, Some, None, false, refl, sym, ap, ◌∙◌}
use Rattle.bp_arbiter.specs.Absorb.{is_failed}
use Rattle.bp_arbiter.specs.Arbiters.{stand_in}
use Rattle.bp_core.specs.declared.stepping.Core.{Core}
use Rattle.bp_session.proofs.Enters.{brings_as, back_full, back_memory, sound_item, hears_none, hears_item}
use Rattle.bp_session.proofs.hearing.hear_one.Goals as goal

pub returns-in_default-clause-hears : goal.returns-in_default-clause-hears
returns-in_default-clause-hears c =
    let none : c.next.result ≡ None = search rules in
    hears_none _ _ _ _ _ (brings_as _ _ _ _ c.next.ensures.brings (c.next.ensures.kept ∙ sym none)) refl

pub returns-then-matches-clause-hears : goal.returns-then-matches-clause-hears
returns-then-matches-clause-hears c = hears_none _ _ _ _ _ (brings_as _ _ _ (Some c.in-Some.item) c.next.ensures.brings (sym c.in-Some.is)) refl

pub returns-in-Ok-clause-hears : goal.returns-in-Ok-clause-hears
returns-in-Ok-clause-hears c =
    let sound : is_failed c.in-Some.item ≡ false = search rules in
    hears_item c.args.number c.args.hearing.now c.next.new.self c.in-Some.item c.args.core.now c.absorb.new.self
    (brings_as _ _ _ (Some c.in-Some.item) c.next.ensures.brings (sym c.in-Some.is)) c.next.ensures.kept (sound_item c.in-Some.item sound)
    c.in-Ok.ensures.leads (ap (λ (x : Core). x.arbiter) c.in-Ok.ensures.entered) c.in-Ok.ensures.kept

pub returns-in-Err-Full-clause-hears : goal.returns-in-Err-Full-clause-hears
returns-in-Err-Full-clause-hears c =
    hears_none _ _ _ _ _ (brings_as _ _ _ (Some c.in-Err-Full.item) c.next.ensures.brings (ap Some (back_full (stand_in c.args.core.now.arbiter) c.in-Some.item c.in-Err-Full.item _ (c.in-Err-Full.ensures.refused c.requires.whole) c.in-Err-Full.field-0-is) ∙ sym c.in-Some.is)) c.in-Err-Full.ensures.same

pub returns-in-Err-Memory-clause-hears : goal.returns-in-Err-Memory-clause-hears
returns-in-Err-Memory-clause-hears c =
    hears_none _ _ _ _ _ (brings_as _ _ _ (Some c.in-Err-Memory.item) c.next.ensures.brings (ap Some (back_memory (stand_in c.args.core.now.arbiter) c.in-Some.item c.in-Err-Memory.item _ (c.in-Err-Memory.ensures.refused c.requires.whole) c.in-Err-Memory.field-0-is) ∙ sym c.in-Some.is)) c.in-Err-Memory.ensures.same
