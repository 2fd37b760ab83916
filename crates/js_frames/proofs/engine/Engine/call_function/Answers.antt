use Rattle.std.proofs.Common.{refl, sym}
use Rattle.std.proofs.lemmas.Bool.{lt-ltb, le-ltb}
use Rattle.js_frames.specs.Places.{plain_ground, place_of}
use Rattle.js_program.specs.Views.{plain_body}
use Rattle.std.proofs.lemmas.Option.{slice_get_within}
use Rattle.js_frames.proofs.Numbers.{function_parts, function_statements}
use Rattle.js_frames.proofs.CallLemmas.{too_deep, no_function, call_enters}
use Rattle.js_frames.proofs.engine.Engine.call_function.Goals as goal

pub returns-then-self-ge-MOST_CALLS : goal.returns-then-self-ge-MOST_CALLS
returns-then-self-ge-MOST_CALLS c = record { effects = refl; goes = too_deep (plain_ground c.args.base.now) (place_of c.args.self.now) c.args.line c.args.code c.args.captured.now c.args.args _ refl (le-ltb c.args.self.now.calls 200 c.if-self-ge-MOST_CALLS.true) c.requires }

pub returns-in-None : goal.returns-in-None
returns-in-None c = record { effects = refl; goes = no_function (plain_ground c.args.base.now) (place_of c.args.self.now) c.args.line c.args.code c.args.captured.now c.args.args _ c.leave.ensures (lt-ltb c.args.self.now.calls 200 c.if-self-ge-MOST_CALLS.false) c.requires (sym c.in-None.ensures) }

pub returns-in-Some : goal.returns-in-Some
returns-in-Some c = record { effects = c.enter.ensures.effects; goes = call_enters (plain_ground c.args.base.now) (place_of c.args.self.now) c.args.line c.args.code c.args.captured.now c.args.args _ c.enter.result _ (sym c.in-Some.ensures) (lt-ltb c.args.self.now.calls 200 c.if-self-ge-MOST_CALLS.false) c.enter.ensures.goes }

pub enter-requires : goal.enter-requires
enter-requires c =
    let program = let b = c.args.base.now in b.program in
    let body = plain_body c.in-Some.body.now in
    record {
      parts = function_parts program c.args.code body c.keeps.ensures (sym c.in-Some.ensures);
      statements = function_statements program c.args.code body (sym c.in-Some.ensures);
      sequence = slice_get_within (let p = program in p.functions) c.args.code body (sym c.in-Some.ensures);
      fits = c.requires;
    }
