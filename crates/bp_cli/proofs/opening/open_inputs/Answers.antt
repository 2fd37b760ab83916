use Rattle.std.proofs.Common.{◌≡◌, ◌∙◌, ◌+◌, List, Option, ℕ, Err, take, ap, sym, subst, arith}
use Rattle.bp_base.specs.Worlds.{Holdings, Opens, Asks}
use Rattle.bp_base.specs.declared.outside.WorldError.{WorldError}
use Rattle.bp_cli.specs.Asking.{WasAsked}
use Rattle.bp_cli.specs.inner.Opening.{AreOpened}
use Rattle.bp_cli.proofs.Opens.{opened_more, asked_more, asked_until}
use Rattle.bp_cli.proofs.opening.open_inputs.Goals as goal

pub returns-in-Err-clause-asked_some : goal.returns-in-Err-clause-asked_some
returns-in-Err-clause-asked_some g c =
    let i = c.loop-name.invariant in
    let asked = g.W.World.asked in
    let until =
    asked_until c.args.names.now c.loop-name.name-index c.name-item.result c.in-Err.error (asked c.args.world.now) (asked c.loop-name.world) (asked c.open.new.self) (omega arith) c.name-item.is i.asked
    (λ e. subst (λ (n : List ℕ). Asks (asked c.loop-name.world) n (asked c.open.new.self)) c.as_str.ensures (c.in-Err.ensures.asks_failed (ap (λ (x : WorldError). Err x) e)))
    (λ e. c.in-Err.ensures.asks_nothing (ap (λ (x : WorldError). Err x) e)) in
    (until.0, subst (λ (x : Option (List (List ℕ))). WasAsked (asked c.args.world.now) (take until.0 c.args.names.now) x) (sym c.close_inputs.ensures.asked) until.1)

pub loop-name-preserved : goal.loop-name-preserved
loop-name-preserved g c =
    let i = c.loop-name.invariant in
    let asked = g.W.World.asked in
    let left = g.W.Input.Source.left in
    let faults = g.W.Input.Source.faults in
    let old = g.W.World.holds c.args.world.now in
    let before = i.counts in
    let after = c.open.ensures.counts in
    let opens = subst (λ (n : List ℕ). Opens (g.W.World.holds c.loop-name.world) n (left c.in-Ok.input)) c.as_str.ensures c.in-Ok.ensures.content in
    record {
      opened = subst (λ (xs : List _). AreOpened left faults old (take (c.loop-name.name-index + 1) c.args.names.now) xs) (sym c.in-Ok-push.ensures.items)
          (opened_more (λ name input. Opens old name (left input) × (faults input ≡ 0)) c.args.names.now c.loop-name.inputs.items c.loop-name.name-index c.name-item.result c.in-Ok.input (omega arith) c.name-item.is i.opened
          (subst (λ (h : Option Holdings). Opens h c.name-item.result (left c.in-Ok.input)) i.holds opens, c.in-Ok.ensures.fresh));
      count = search arith;
      room = search arith;
      asked = asked_more c.args.names.now c.loop-name.name-index c.name-item.result (asked c.args.world.now) (asked c.loop-name.world) (asked c.open.new.self) (omega arith) c.name-item.is i.asked
          (subst (λ (n : List ℕ). Asks (asked c.loop-name.world) n (asked c.open.new.self)) c.as_str.ensures c.in-Ok.ensures.asks);
      holds = c.open.ensures.keeps ∙ i.holds;
      counts = omega (arith, before, after);
      writes = c.open.ensures.writes ∙ i.writes;
    }
