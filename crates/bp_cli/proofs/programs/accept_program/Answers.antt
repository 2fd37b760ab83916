use Rattle.std.proofs.Common.{Err, List, ℕ, [], ◌∷◌, ap, inl, inr, refl, sym, subst}
use Rattle.bp_args.specs.declared.command.Command.TheVariants as command
use Rattle.bp_base.specs.Worlds.{Asks}
use Rattle.bp_loading.specs.Loading.{IsUnder}
use Rattle.bp_loading.specs.declared.unloaded.Unloaded.{Unloaded}
use Rattle.bp_cli.specs.declared.conclusion.Conclusion.TheVariants.{Accepted, NotWritten}
use Rattle.bp_cli.specs.Outside.{outside}
use Rattle.bp_cli.proofs.Asking.{asks_unloaded, asks_one, asked_err, asked_ok}
use Rattle.bp_cli.proofs.Endings.{accept_unloaded}
use Rattle.bp_cli.proofs.programs.accept_program.Goals as goal

pub returns-in-Err-clause-ends : goal.returns-in-Err-clause-ends
returns-in-Err-clause-ends g c =
    let seen = outside g.W.World.holds g.W.World.asked g.W.World.read_faults g.W.World.write_faults g.K.Sink.written g.K.Sink.faults in
    let before = seen c.args.world.now c.args.out.now in
    let after = seen c.load.new.world c.args.out.now in
    accept_unloaded c.args.name.now c.as_str.result.now before after c.in-Err.why c.from.result c.as_str.ensures c.from.ensures c.in-Err.ensures.unloaded
    (λ e. c.in-Err.ensures.cause (ap (λ (x : Unloaded). Err x) e)) (refl, c.load.ensures.holds)

pub returns-in-Err-clause-asks : goal.returns-in-Err-clause-asks
returns-in-Err-clause-asks g c =
    asks_unloaded (command.Accept c.args.name.now) c.as_str.result.now [] _ _ c.in-Err.why c.from.result
    (ap (λ (n : List ℕ). n ∷ []) (sym c.as_str.ensures)) c.from.ensures (asked_err c.in-Err.why _ _ _ c.in-Err.ensures.asked)

pub returns-in-Ok-write_all-clause-ends : goal.returns-in-Ok-write_all-clause-ends
returns-in-Ok-write_all-clause-ends g c =
    (tt, inr (c.in-Ok.loaded.bytes.items, subst (λ (n : List ℕ). IsUnder (g.W.World.holds c.args.world.now) n c.in-Ok.loaded.bytes.items) c.as_str.ensures c.in-Ok.ensures.bytes, ((c.in-Ok.loaded.program, c.in-Ok.ensures.program), c.in-Ok-write_all.ensures.whole, c.load.ensures.holds), refl))

pub returns-in-Ok-write_all-clause-asks : goal.returns-in-Ok-write_all-clause-asks
returns-in-Ok-write_all-clause-asks g c =
    asks_one (command.Accept c.args.name.now) c.args.name.now Accepted _ _ refl (subst (λ (n : List ℕ). Asks (g.W.World.asked c.args.world.now) n (g.W.World.asked c.load.new.world)) c.as_str.ensures (asked_ok c.in-Ok.loaded _ _ _ c.in-Ok.ensures.asked))

pub returns-clause-ends : goal.returns-clause-ends
returns-clause-ends g c =
    (inl c.in-Err-write_all.ensures.cause, inr (c.in-Ok.loaded.bytes.items, subst (λ (n : List ℕ). IsUnder (g.W.World.holds c.args.world.now) n c.in-Ok.loaded.bytes.items) c.as_str.ensures c.in-Ok.ensures.bytes, ((c.in-Ok.loaded.program, c.in-Ok.ensures.program), c.in-Err-write_all.ensures.front, c.load.ensures.holds), refl))

pub returns-clause-asks : goal.returns-clause-asks
returns-clause-asks g c =
    asks_one (command.Accept c.args.name.now) c.args.name.now NotWritten _ _ refl (subst (λ (n : List ℕ). Asks (g.W.World.asked c.args.world.now) n (g.W.World.asked c.load.new.world)) c.as_str.ensures (asked_ok c.in-Ok.loaded _ _ _ c.in-Ok.ensures.asked))
