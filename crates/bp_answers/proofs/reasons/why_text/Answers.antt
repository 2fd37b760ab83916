use Rattle.std.proofs.Common.{◌≡◌, rules, string_bytes, subst, sym}
use Rattle.std.proofs.lemmas.Option.{slice_get_within}
use Rattle.std.proofs.lemmas.Result.{err_from_is_err_and}
use Rattle.bp_log.specs.declared.record.Record.TheVariants.{Sel}
use Rattle.bp_answers.specs.declared.answer.NoAnswer.{NoAnswer}
use Rattle.bp_answers.specs.Whys.{HasNoSelection, IsUpTo}
use Rattle.bp_answers.specs.inner.Reasons.{HasNothing}
use Rattle.bp_answers.proofs.ReasonLemmas.{has_no_selection, up_to, why_numbered}
use Rattle.bp_answers.proofs.Walks.{taken}
use Rattle.bp_answers.proofs.reasons.why_text.Goals as goal

pub returns-in_err-text_at-in-Some-clause-none : goal.returns-in_err-text_at-in-Some-clause-none
returns-in_err-text_at-in-Some-clause-none c =
    let records = c.args.records.now in
    let n = c.args.number in
    let i = c.in-Some.place in
    let w = c.in-Some.ensures in
    let some : (n ≡ 0) → ⊥ = search rules in
    let f = c.in_err-text_at-in-Some.field-0.0 in
    let e = c.in_err-text_at-in-Some.ensures in
    let p = err_from_is_err_and c.from_residual.result c.from_residual.ensures.1 in
    rw p.1
    (subst (λ (x : NoAnswer). HasNothing c.args.program c.args.options records (IsUpTo n records) (HasNoSelection n records) x) (sym p.2)
    (e.parts, up_to n i records w.0 f some w.2 (taken records i (slice_get_within records i (Sel w.0) w.1)) e.number))

pub returns-in-None-clause-none : goal.returns-in-None-clause-none
returns-in-None-clause-none c =
    let some : (c.args.number ≡ 0) → ⊥ = search rules in
    has_no_selection c.args.number c.args.records.now some c.in-None.ensures

pub returns-in_ok-text_at-in-Some-clause-told : goal.returns-in_ok-text_at-in-Some-clause-told
returns-in_ok-text_at-in-Some-clause-told c =
    let some : (c.args.number ≡ 0) → ⊥ = search rules in
    why_numbered c.args.program c.args.options c.args.number c.args.records.now (string_bytes c.in_ok-text_at-in-Some.field-0) some c.in_ok-text_at-in-Some.ensures.told
