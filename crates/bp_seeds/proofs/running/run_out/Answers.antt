use Rattle.std.proofs.Common.{◌≡◌, ◌∙◌, ◌-◌, ◌<◌, false, Some, [], length, nat_lt, refl, sym, ap, arith}
use Rattle.bp_log.specs.Options.{PlainOptions}
use Rattle.bp_log.specs.declared.verdict.Verdict.{Verdict}
use Rattle.bp_run.specs.Configuration.{not_ended}
use Rattle.bp_run.specs.Story.{alone}
use Rattle.bp_code.specs.Code.{sealed_code_of as code_of}
use Rattle.bp_floor.specs.declared.phase.Phase.TheVariants.{Over}
use Rattle.bp_floor.specs.Floors.{PlainFloor, is_idle}
use Rattle.bp_arbiter.specs.Arbiters.{opened, is_over}
use Rattle.bp_seeds.proofs.Runs.{opened_runs, settled_runs, picked_runs, taken_runs, within_alone, picked_grows, ends_so}
use Rattle.bp_seeds.proofs.running.run_out.Goals as goal

pub steps-init : goal.steps-init
steps-init c =
    let o : PlainOptions = record c.args.options { wait = false } in
    let l = code_of c.args.program o in
    let a = c.in_ok-arbiter.arbiter in
    let e = c.in_ok-arbiter.ensures.opened ∙ ap (opened c.args.program) c.with_wait.ensures in
    record {
      runs = settled_runs l o a c.settle.new.arbiter c.in_ok-settle.ensures.settles (opened_runs c.args.program o a e c.in_ok-arbiter.ensures.stands);
      settled = c.in_ok-settle.ensures.settled;
    }

pub settle-requires-in-steps-clause-stands : goal.settle-requires-in-steps-clause-stands
settle-requires-in-steps-clause-stands c =
    let o : PlainOptions = record c.args.options { wait = false } in
    let l = code_of c.args.program o in
    let e = c.in_ok-_picked.ensures in
    (picked_runs l o c.steps.arbiter c.pick.new.self c.in_ok-_picked._picked c.steps.invariant.runs e.ground e.options e.phase e.stands).stands

pub steps-smaller : goal.steps-smaller
steps-smaller c =
    let o : PlainOptions = record c.args.options { wait = false } in
    let l = code_of c.args.program o in
    let a = c.steps.arbiter in
    let b = c.pick.new.self in
    let d = c.settle-in-steps.new.arbiter in
    let t = c.take_lines-lines.new.self in
    let r = c.steps.invariant.runs in
    let e = c.in_ok-_picked.ensures in
    let k = c.take_lines-lines.ensures in
    let picked = picked_runs l o a b c.in_ok-_picked._picked r e.ground e.options e.phase e.stands in
    let settled = settled_runs l o b d c.in_ok-settle-2.ensures.settles picked in
    let taken = taken_runs l o d t c.take_lines-lines.result settled k.ground k.options k.phase (k.stands []) in
    let grows = picked_grows l o a b refl r e.recorded in
    let more = c.in_ok-settle-2.ensures.records in
    let same = ap length k.records in
    let within = within_alone l o t c.requires taken in
    let smaller : length (alone l o) - length t.records < length (alone l o) - length a.records = omega (arith, grows, more, same, within) in
    smaller

pub steps-preserved : goal.steps-preserved
steps-preserved c =
    let o : PlainOptions = record c.args.options { wait = false } in
    let l = code_of c.args.program o in
    let a = c.steps.arbiter in
    let b = c.pick.new.self in
    let d = c.settle-in-steps.new.arbiter in
    let t = c.take_lines-lines.new.self in
    let e = c.in_ok-_picked.ensures in
    let k = c.take_lines-lines.ensures in
    let picked = picked_runs l o a b c.in_ok-_picked._picked c.steps.invariant.runs e.ground e.options e.phase e.stands in
    let settled = settled_runs l o b d c.in_ok-settle-2.ensures.settles picked in
    record {
      runs = taken_runs l o d t c.take_lines-lines.result settled k.ground k.options k.phase (k.stands []);
      settled = λ h. c.in_ok-settle-2.ensures.settled (sym k.phase ∙ h);
    }

pub returns : goal.returns
returns c =
    let a = c.steps.arbiter in
    let r = c.steps.invariant.runs in
    let whole = r.stands.stands.whole in
    let over : a.phase ≡ Over = c.in-Some.ensures.over.0 refl in
    let floor = c.floor.ensures.floor in
    let live = c.live-alive.ensures.live (ap (λ (f : PlainFloor). f.broken) floor ∙ (c.keeps-2.ensures.kept whole).floor_whole)
    ∙ ap (λ (f : PlainFloor). not_ended f.pair.stand) floor in
    ends_so c.args.program c.args.options a c.in_ok-verdict.verdict (nat_lt 0 c.live-alive.result) c.requires r
    (c.keeps-2.ensures.complete ∙ ap is_over over)
    (sym c.in-Some.ensures.recorded ∙ ap (λ (v : Verdict). Some v) (sym c.in_ok-verdict.ensures))
    (c.floor.ensures.shows whole (ap is_idle over))
    (ap (nat_lt 0) live)
