use Rattle.std.proofs.Common.{refl, sym, ap, ◌∙◌, subst}
use Rattle.std.proofs.lemmas.Bool.{lt-ltb, le-ltb}
use Rattle.std.specs.Prelude.{◌<◌, unwrap_or, IsSome, IfOk}
use Rattle.js_program.specs.PlainProgram.{PlainBody}
use Rattle.js_meaning.specs.Calls.{no_body}
use Rattle.js_frames.specs.inner.Leads.{Leads, first_of}
use Rattle.js_frames.specs.Places.{Place, plain_ground, place_of, setting_at}
use Rattle.js_frames.specs.Frames.{walk_from}
use Rattle.js_frames.specs.Fits.{StackFits}
use Rattle.js_program.specs.Views.{plain_body}
use Rattle.js_frames.proofs.Numbers.{function_parts}
use Rattle.js_frames.proofs.CallLemmas.{walk_over, walk_too_deep, walk_nothing}
use Rattle.js_frames.proofs.engine.Engine.walk.Goals as goal

pub returns-in_default : goal.returns-in_default
returns-in_default c = walk_over (plain_ground c.args.base.now) (place_of c.args.self.now) c.args.walk _ c.leave.ensures c.requires (sym c.in_default.ensures.value)

pub returns-then-self-ge-MOST_CALLS : goal.returns-then-self-ge-MOST_CALLS
returns-then-self-ge-MOST_CALLS c = walk_too_deep (plain_ground c.args.base.now) (place_of c.args.self.now) c.args.walk _ _ refl c.requires (sym c.in-Some.ensures.value) (le-ltb c.args.self.now.calls 200 c.if-self-ge-MOST_CALLS.true)

pub returns-in_default-function_of : goal.returns-in_default-function_of
returns-in_default-function_of c = walk_nothing (plain_ground c.args.base.now) (place_of c.args.self.now) c.args.walk _ c.leave-in_default-function_of.ensures c.requires (lt-ltb c.args.self.now.calls 200 c.if-self-ge-MOST_CALLS.false) (ap (λ o. first_of (let q : PlainBody = unwrap_or o no_body in q.content)) (sym c.in_default-function_of.ensures))

pub returns-in_default-first_in : goal.returns-in_default-first_in
returns-in_default-first_in c = walk_nothing (plain_ground c.args.base.now) (place_of c.args.self.now) c.args.walk _ c.leave-in_default-first_in.ensures c.requires (lt-ltb c.args.self.now.calls 200 c.if-self-ge-MOST_CALLS.false) (ap (λ o. first_of (let q : PlainBody = unwrap_or o no_body in q.content)) (sym c.in-Some-function_of.ensures) ∙ sym c.in_default-first_in.ensures)

pub walk_on-requires : goal.walk_on-requires
walk_on-requires c =
    let program = let b = c.args.base.now in b.program in
    record {
      room = subst (λ (q : Place). q.calls < 200) (sym c.no_values-none.ensures.same) c.if-self-ge-MOST_CALLS.false;
      places = c.in-Some.ensures.room;
      found = sym c.in-Some-function_of.ensures;
      parts = function_parts program (let w = c.args.walk in w.code) (plain_body c.in-Some-function_of.body.now) c.keeps.ensures (sym c.in-Some-function_of.ensures);
      starts = subst IsSome c.in-Some-first_in.ensures refl;
      args = (_, sym c.in-Some.ensures.value, c.in_ok-args.ensures);
      fits = subst (λ (q : Place). StackFits program q.stack) (sym c.no_values-none.ensures.same) c.requires;
    }

pub returns : goal.returns
returns c =
    let base = plain_ground c.args.base.now in
    subst (λ q. IfOk c.walk_on.result (λ step. Leads base q (walk_from (setting_at base q) c.args.walk) (place_of c.walk_on.new.self) step)) c.no_values-none.ensures.same c.walk_on.ensures

pub element_args-requires : goal.element_args-requires
element_args-requires c = c.no_values-none.ensures.none
