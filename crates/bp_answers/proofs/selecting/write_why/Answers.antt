use Rattle.std.proofs.Common.{subst, string_bytes}
use Rattle.std.proofs.lemmas.Result.{on_ok_weaker}
use Rattle.bp_arbiter.specs.Arbiters.{PlainArbiter}
use Rattle.bp_answers.specs.inner.Reasons.{SaysWhy}
use Rattle.bp_answers.proofs.ReasonLemmas.{says_none}
use Rattle.bp_answers.proofs.selecting.write_why.Goals as goal

pub returns-in-Ok-clause-written : goal.returns-in-Ok-clause-written
returns-in-Ok-clause-written c =
    let old = string_bytes c.args.text.now in
    let new = string_bytes c.write_next.new.text in
    on_ok_weaker c.write_next.result (subst (λ (x : PlainArbiter). SaysWhy x old new) c.enabled.ensures.same) c.write_next.ensures

pub returns-in-Err-Set-clause-written : goal.returns-in-Err-Set-clause-written
returns-in-Err-Set-clause-written c =
    let old = string_bytes c.args.text.now in
    says_none c.args.arbiter.now c.enabled.new.self c.in-Err-Set.field-0-0 c.in-Err-Set.field-0-1 old old c.enabled.ensures.same c.requires.sound c.requires.rest c.floor-floor.ensures.shows (rw c.in-Err-Set.field-0-is at c.in-Err-Set.ensures.enabled)
