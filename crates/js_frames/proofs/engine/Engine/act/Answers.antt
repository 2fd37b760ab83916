use Rattle.std.proofs.Common.{refl, sym, ap, ◌∙◌, ◌++◌, append_assoc}
use Rattle.js_meaning.specs.State.{leaves}
use Rattle.js_frames.specs.Places.{plain_ground, place_of, plain_effects, state_at}
use Rattle.js_frames.proofs.Steps.{moves, left}
use Rattle.js_frames.proofs.engine.Engine.act.Goals as goal

pub returns : goal.returns
returns c =
    let old = place_of c.args.self.now in
    let mid = record old { effects = plain_effects c.push.new.self } in
    moves (plain_ground c.args.base.now) old mid mid _ leaves _ refl refl refl refl
    (λ b. ap (λ es. leaves (record (state_at old b) { effects = es })) (ap (λ es. b.taken ++ es) c.in_ok-push.ensures ∙ sym (append_assoc b.taken _ _)))
    (left (plain_ground c.args.base.now) mid leaves _ c.leave.ensures c.requires (λ s. refl))
