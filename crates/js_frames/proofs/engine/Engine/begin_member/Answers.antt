use Rattle.std.proofs.Common.{◌≡◌, [], ◌∷◌, refl, sym, subst}
use Rattle.std.specs.Prelude.{IfNone, IfOk, IfSome}
use Rattle.js_data.specs.Event.{PlainEvent}
use Rattle.js_ops.specs.Answers.{AnswersAs}
use Rattle.js_ops.specs.Members.{extra_value, member_of}
use Rattle.js_frames.specs.declared.frame.Part.TheVariants.{First}
use Rattle.js_frames.specs.declared.frame.Frame.TheVariants.{Waiting}
use Rattle.js_frames.specs.Places.{Place, plain_ground, place_of, setting_at, here}
use Rattle.js_frames.specs.Frames.{rest}
use Rattle.js_frames.specs.Fits.{IsShort, StackFits}
use Rattle.js_frames.specs.inner.Leads.{Leads, waits_for}
use Rattle.js_frames.specs.inner.Reading.{GaveData}
use Rattle.js_frames.proofs.Steps.{becomes_ok, begin_means, has_form}
use Rattle.js_frames.proofs.BeginLemmas.{parts_with, short_begins}
use Rattle.js_frames.proofs.MemberLemmas.{data_fits, data_on}
use Rattle.js_frames.proofs.engine.Engine.begin_member.Goals as goal

pub begin_first-requires : goal.begin_first-requires
begin_first-requires c =
    let base = plain_ground c.args.base.now in
    let old = place_of c.args.self.now in
    let same = subst (λ o. IfNone o (place_of c.begin_data.new.self ≡ old)) c.in-None.is c.in_ok-found.ensures.none in
    record {
      number = c.requires.number;
      form = has_form base old c.args.number c.args.node.now c.requires.node _ c.requires.form IsShort tt;
      part = c.requires.part;
      fits = subst (λ (q : Place). StackFits base.program q.stack) (sym same) c.requires.fits;
    }

pub returns-in-None : goal.returns-in-None
returns-in-None c =
    let base = plain_ground c.args.base.now in
    let old = place_of c.args.self.now in
    let same = subst (λ o. IfNone o (place_of c.begin_data.new.self ≡ old)) c.in-None.is c.in_ok-found.ensures.none in
    begin_means base old c.args.number c.args.node.now c.requires.node _ c.requires.form (place_of c.begin_first.new.self) c.begin_first.result _
    (subst (λ q. IfOk c.begin_first.result (λ step. Leads base q (waits_for (setting_at base q) (Waiting (First c.args.number)) c.args.part) (place_of c.begin_first.new.self) step)) same c.begin_first.ensures)
    (λ s. short_begins (here c.args.base.now c.args.self.now) c.args.number c.args.node.now c.requires.node _ c.requires.form s c.args.part tt refl)

pub returns-in-Some : goal.returns-in-Some
unfolding rest
returns-in-Some c =
    let base = plain_ground c.args.base.now in
    let old = place_of c.args.self.now in
    let mid = place_of c.begin_data.new.self in
    let e = c.in-Some.event.value in
    let gave = subst (λ o. IfSome o (λ event. GaveData base old c.args.part event.value mid)) c.in-Some.is c.in_ok-found.ensures.some in
    let said = subst (λ (x : PlainEvent). AnswersAs (member_of (extra_value x.extra) c.args.word.now) c.data_member.result) c.deref.ensures c.data_member.ensures in
    let read = becomes_ok base mid _ _ c.answered.result (data_fits base old mid c.args.part e gave c.requires.fits) (c.answered.ensures _ said)
    (λ s. parts_with (here c.args.base.now c.begin_data.new.self) c.args.number c.args.node.now c.requires.node _ c.requires.form s (extra_value e.extra ∷ [])) in
    begin_means base old c.args.number c.args.node.now c.requires.node _ c.requires.form mid c.answered.result _
    (data_on base old mid mid (First c.args.number) c.args.part e c.answered.result gave read)
    (λ s. short_begins (here c.args.base.now c.args.self.now) c.args.number c.args.node.now c.requires.node _ c.requires.form s c.args.part tt refl)
