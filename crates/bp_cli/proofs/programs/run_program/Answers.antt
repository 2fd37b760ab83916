use Rattle.std.proofs.Common.{◌∙◌, ◌++◌, Err, Option, List, ℕ, ◌∷◌, ap, inr, refl, sym, subst, take, arith}
use Rattle.std.specs.Prelude.{option_to_list}
use Rattle.bp_args.specs.declared.command.Command.TheVariants as command
use Rattle.bp_base.specs.Counts.{Rose}
use Rattle.bp_base.specs.Worlds.{Holdings}
use Rattle.bp_base.specs.declared.outside.WorldError.{WorldError}
use Rattle.bp_loading.specs.Loading.{IsUnder}
use Rattle.bp_loading.specs.declared.unloaded.Unloaded.{Unloaded}
use Rattle.bp_cli.specs.declared.conclusion.Conclusion.TheVariants.{NotRead}
use Rattle.bp_cli.specs.Asking.{WasAsked, names_of}
use Rattle.bp_cli.specs.inner.Opening.{AreOpened}
use Rattle.bp_cli.specs.Outside.{outside}
use Rattle.bp_cli.proofs.Asking.{IsBeforeLog, asks_unloaded, asked_err, asked_ok, asks_unopened, asks_unmade, asks_all, asks_run, log_unopened, log_unmade}
use Rattle.bp_cli.proofs.Endings.{caused_on, does_run, run_unloaded, run_unopened, unmade_ends}
use Rattle.bp_cli.proofs.programs.run_program.Goals as goal

pub returns-in-Err-clause-ends : goal.returns-in-Err-clause-ends
returns-in-Err-clause-ends g c =
    let seen = outside g.W.World.holds g.W.World.asked g.W.World.read_faults g.W.World.write_faults g.K.Sink.written g.K.Sink.faults in
    let before = seen c.args.world.now c.args.out.now in
    let after = seen c.load.new.world c.args.out.now in
    run_unloaded c.args.asked.now c.as_str.result.now c.without_run.result.records before after c.in-Err.why c.without_run.result.conclusion c.without_run.ensures.records (c.without_run.ensures.conclusion ∙ c.from.ensures) c.as_str.ensures c.in-Err.ensures.unloaded
    (λ e. c.in-Err.ensures.cause (ap (λ (x : Unloaded). Err x) e)) (asked_err c.in-Err.why _ _ _ c.in-Err.ensures.asked) (refl, c.load.ensures.holds)

pub returns-in-Err-clause-asks : goal.returns-in-Err-clause-asks
returns-in-Err-clause-asks g c =
    let asked = c.args.asked.now in
    let rest = asked.injectors ++ option_to_list asked.log in
    asks_unloaded (command.Run asked) c.as_str.result.now rest (g.W.World.asked c.args.world.now) (g.W.World.asked c.load.new.world) c.in-Err.why c.without_run.result.conclusion
    (ap (λ (n : List ℕ). n ∷ rest) (sym c.as_str.ensures)) (c.without_run.ensures.conclusion ∙ c.from.ensures) (asked_err c.in-Err.why _ _ _ c.in-Err.ensures.asked)

pub returns-in-Err-open_inputs-clause-ends : goal.returns-in-Err-open_inputs-clause-ends
returns-in-Err-open_inputs-clause-ends g c =
    let seen = outside g.W.World.holds g.W.World.asked g.W.World.read_faults g.W.World.write_faults g.K.Sink.written g.K.Sink.faults in
    let all = g.W.World.asked in
    let before = seen c.args.world.now c.args.out.now in
    let mid = seen c.load.new.world c.args.out.now in
    let after = seen c.open_inputs.new.world c.args.out.now in
    let some = c.in-Err-open_inputs.ensures.asked_some in
    let a = c.load.ensures.counts in
    let b = c.load.ensures.writes in
    run_unopened c.args.asked.now c.in-Err-open_inputs.error c.without_run-in-Err-open_inputs.result.records before after c.without_run-in-Err-open_inputs.result.conclusion c.without_run-in-Err-open_inputs.ensures.records
    (c.without_run-in-Err-open_inputs.ensures.conclusion ∙ c.unopened.ensures)
    (λ e. caused_on before mid after NotRead (omega (arith, a), omega (arith, b), omega arith) (c.in-Err-open_inputs.ensures.cause (ap (λ (x : WorldError). Err x) e)))
    (c.in-Ok.loaded.bytes.items, subst (λ (n : List ℕ). IsUnder before.holds n c.in-Ok.loaded.bytes.items) c.as_str.ensures c.in-Ok.ensures.bytes, (c.in-Ok.loaded.program, c.in-Ok.ensures.program))
    (log_unopened c.args.asked.now c.as_str.result.now some.0 (all c.args.world.now) (all c.load.new.world) (all c.open_inputs.new.world) c.as_str.ensures (asked_ok c.in-Ok.loaded _ _ _ c.in-Ok.ensures.asked)
    (subst (λ (ns : List (List ℕ)). WasAsked (all c.load.new.world) (take some.0 ns) (all c.open_inputs.new.world)) c.as_slice.ensures some.1))
    (refl, c.open_inputs.ensures.holds ∙ c.load.ensures.holds)

pub returns-in-Err-open_inputs-clause-asks : goal.returns-in-Err-open_inputs-clause-asks
returns-in-Err-open_inputs-clause-asks g c =
    let asked = g.W.World.asked in
    let some = c.in-Err-open_inputs.ensures.asked_some in
    asks_unopened c.args.asked.now c.as_str.result.now some.0 c.in-Err-open_inputs.error c.without_run-in-Err-open_inputs.result.conclusion (asked c.args.world.now) (asked c.load.new.world) (asked c.open_inputs.new.world) c.as_str.ensures
    (c.without_run-in-Err-open_inputs.ensures.conclusion ∙ c.unopened.ensures) (asked_ok c.in-Ok.loaded _ _ _ c.in-Ok.ensures.asked)
    (subst (λ (ns : List (List ℕ)). WasAsked (asked c.load.new.world) (take some.0 ns) (asked c.open_inputs.new.world)) c.as_slice.ensures some.1)

pub returns-in-Err-create_log-clause-ends : goal.returns-in-Err-create_log-clause-ends
returns-in-Err-create_log-clause-ends g c =
    let seen = outside g.W.World.holds g.W.World.asked g.W.World.read_faults g.W.World.write_faults g.K.Sink.written g.K.Sink.faults in
    let left = g.W.Input.Source.left in
    let faults = g.W.Input.Source.faults in
    let asked = c.args.asked.now in
    let before = seen c.args.world.now c.args.out.now in
    let after = seen c.close_inputs.new.world c.args.out.now in
    let loaded = c.in-Ok.loaded in
    let inputs = c.in-Ok-open_inputs.inputs.items in
    unmade_ends left faults asked loaded.bytes.items loaded.program inputs c.in-Err-create_log.error c.without_run-in-Err-create_log.result.conclusion c.without_run-in-Err-create_log.result.records before after
    c.without_run-in-Err-create_log.ensures.records (c.without_run-in-Err-create_log.ensures.conclusion ∙ c.unmade.ensures)
    (subst (λ (n : List ℕ). IsUnder before.holds n loaded.bytes.items) c.as_str.ensures c.in-Ok.ensures.bytes) c.in-Ok.ensures.program c.requires.counted
    (subst (λ (ns : List (List ℕ)). AreOpened left faults before.holds ns inputs) c.as_slice.ensures
    (subst (λ (h : Option Holdings). AreOpened left faults h c.as_slice.result.now inputs) c.load.ensures.holds c.in-Ok-open_inputs.ensures.opened))
    (λ e. subst (λ (n : ℕ). Rose n after.write_faults) (c.open_inputs.ensures.writes ∙ c.load.ensures.writes)
    (subst (λ (n : ℕ). Rose (g.W.World.write_faults c.open_inputs.new.world) n) (sym c.close_inputs.ensures.writes) (c.in-Err-create_log.ensures.cause (ap (λ (x : WorldError). Err x) e))))
    (λ e. subst (λ (x : Option (List (List ℕ))). IsBeforeLog asked before.asked x) (sym (c.close_inputs.ensures.asked ∙ c.in-Err-create_log.ensures.asked_nothing (ap (λ (x : WorldError). Err x) e)))
    (log_unmade asked c.as_str.result.now before.asked (g.W.World.asked c.load.new.world) (g.W.World.asked c.open_inputs.new.world) c.as_str.ensures (asked_ok loaded _ _ _ c.in-Ok.ensures.asked)
    (subst (λ (ns : List (List ℕ)). WasAsked (g.W.World.asked c.load.new.world) ns (g.W.World.asked c.open_inputs.new.world)) c.as_slice.ensures c.in-Ok-open_inputs.ensures.asked)))
    (refl, c.close_inputs.ensures.holds ∙ (c.create_log.ensures.holds ∙ (c.open_inputs.ensures.holds ∙ c.load.ensures.holds)))

pub returns-in-Err-create_log-clause-asks : goal.returns-in-Err-create_log-clause-asks
returns-in-Err-create_log-clause-asks g c =
    let asked = g.W.World.asked in
    asks_unmade c.args.asked.now c.as_str.result.now c.in-Err-create_log.error c.without_run-in-Err-create_log.result.conclusion (asked c.args.world.now) (asked c.load.new.world) (asked c.open_inputs.new.world) (asked c.create_log.new.world) (asked c.close_inputs.new.world)
    c.as_str.ensures (c.without_run-in-Err-create_log.ensures.conclusion ∙ c.unmade.ensures) (asked_ok c.in-Ok.loaded _ _ _ c.in-Ok.ensures.asked)
    (subst (λ (ns : List (List ℕ)). WasAsked (asked c.load.new.world) ns (asked c.open_inputs.new.world)) c.as_slice.ensures c.in-Ok-open_inputs.ensures.asked)
    (λ e. c.in-Err-create_log.ensures.asked_failed (ap (λ (x : WorldError). Err x) e)) (λ e. c.in-Err-create_log.ensures.asked_nothing (ap (λ (x : WorldError). Err x) e)) c.close_inputs.ensures.asked

pub returns-clause-ends : goal.returns-clause-ends
returns-clause-ends g c =
    let seen = outside g.W.World.holds g.W.World.asked g.W.World.read_faults g.W.World.write_faults g.K.Sink.written g.K.Sink.faults in
    let asked = c.args.asked.now in
    let before = seen c.args.world.now c.args.out.now in
    let mid = seen c.create_log.new.world c.args.out.now in
    let after = seen c.run_opened.new.world c.run_opened.new.out in
    let loaded = c.in-Ok.loaded in
    let ended = c.run_opened.result in
    let a = c.load.ensures.counts in
    let b = c.open_inputs.ensures.counts in
    let d = c.create_log.ensures.reads in
    let e = c.load.ensures.writes in
    let f = c.open_inputs.ensures.writes in
    let h = c.create_log.ensures.counts in (
      caused_on before mid after ended.conclusion (omega (arith, a, b, d), omega (arith, e, f, h), omega arith) c.run_opened.ensures.caused,
      inr (does_run asked loaded.bytes.items ended.records before after ended.conclusion
          (subst (λ (n : List ℕ). IsUnder before.holds n loaded.bytes.items) c.as_str.ensures c.in-Ok.ensures.bytes)
          (c.run_opened.ensures.ran before (refl, c.create_log.ensures.holds ∙ (c.open_inputs.ensures.holds ∙ c.load.ensures.holds)))),
    )

pub returns-clause-asks : goal.returns-clause-asks
returns-clause-asks g c =
    let seen = outside g.W.World.holds g.W.World.asked g.W.World.read_faults g.W.World.write_faults g.K.Sink.written g.K.Sink.faults in
    let all = g.W.World.asked in
    let asked = c.args.asked.now in
    let before = seen c.args.world.now c.args.out.now in
    let after = seen c.run_opened.new.world c.run_opened.new.out in
    let ended = c.run_opened.result in
    let ran = c.run_opened.ensures.ran before (refl, c.create_log.ensures.holds ∙ (c.open_inputs.ensures.holds ∙ c.load.ensures.holds)) in
    asks_run asked c.in-Ok.loaded.bytes.items ran.program ended.records before after ran.inputs ended.conclusion (all c.args.world.now) (all c.run_opened.new.world) ran.ends
    (subst (λ (x : Option (List (List ℕ))). WasAsked (all c.args.world.now) (names_of (command.Run asked)) x) (sym c.run_opened.ensures.asked)
    (asks_all asked c.as_str.result.now (all c.args.world.now) (all c.load.new.world) (all c.open_inputs.new.world) (all c.create_log.new.world) c.as_str.ensures (asked_ok c.in-Ok.loaded _ _ _ c.in-Ok.ensures.asked)
    (subst (λ (ns : List (List ℕ)). WasAsked (all c.load.new.world) ns (all c.open_inputs.new.world)) c.as_slice.ensures c.in-Ok-open_inputs.ensures.asked) c.in-Ok-create_log.ensures.asked))
