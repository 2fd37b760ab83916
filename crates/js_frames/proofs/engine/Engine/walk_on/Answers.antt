use Rattle.std.proofs.Common.{◌+◌, arith, refl, sym, ap, subst}
use Rattle.std.proofs.lemmas.Bool.{lt-ltb}
use Rattle.std.proofs.lemmas.Option.{slice_get_within}
use Rattle.std.specs.Prelude.{IfOk}
use Rattle.js_value.specs.Lists.{values_in}
use Rattle.js_program.specs.Views.{plain_body}
use Rattle.js_meaning.specs.Calls.{enters}
use Rattle.js_meaning.specs.Meaning.{eval}
use Rattle.js_frames.specs.Places.{plain_ground, place_of, setting_at}
use Rattle.js_frames.specs.Fits.{StackFits}
use Rattle.js_frames.proofs.Numbers.{function_statements}
use Rattle.js_frames.specs.inner.Leads.{Leads}
use Rattle.js_frames.proofs.Steps.{means_ok, fits_pushed}
use Rattle.js_frames.proofs.CallLemmas.{walks_on}
use Rattle.js_frames.proofs.engine.Engine.walk_on.Goals as goal

pub overflow_add-active : goal.overflow_add-active
overflow_add-active c = let room = c.requires.room in omega arith

pub enter-requires : goal.enter-requires
enter-requires c =
    let program = let b = c.args.base.now in b.program in
    let w = c.args.walk in
    record {
      parts = c.requires.parts;
      statements = function_statements program w.code (plain_body c.args.body.now) c.requires.found;
      sequence = slice_get_within (let p = program in p.functions) w.code (plain_body c.args.body.now) c.requires.found;
      fits = subst (StackFits program) (sym c.in_ok-push.ensures.items) (fits_pushed program _ _ c.requires.fits tt);
    }

pub returns : goal.returns
returns c =
    let base = plain_ground c.args.base.now in
    let old = place_of c.args.self.now in
    let w = c.args.walk in
    let args = c.requires.args in
    let ev = eval (setting_at base old) in
    walks_on base old (place_of c.enter.new.self) w _ (plain_body c.args.body.now) c.args.args args.0 c.enter.result
    c.requires.found (lt-ltb c.args.self.now.calls 200 c.requires.room) args.1 args.2
    refl c.requires.fits
    (c.enter.ensures.begins c.requires.starts)
    (means_ok base _ _ _ _ c.enter.result (subst (λ st. IfOk c.enter.result (λ step. Leads base (record old { stack = st }) (enters ev (old.calls + 1) (plain_body c.args.body.now) (values_in c.in_ok-captured.captured) c.args.args) (place_of c.enter.new.self) step)) c.in_ok-push.ensures.items c.enter.ensures.goes) (λ s. ap (λ q. enters ev (old.calls + 1) (plain_body c.args.body.now) (values_in q) c.args.args s) c.in_ok-captured.ensures))
