use Rattle.std.proofs.Common.{◌≡◌, ◌∙◌, ◌+◌, ◌≤◌, Err, get_or, length, refl, string_bytes, subst, sym, take}
use Rattle.std.proofs.lemmas.Option.{get_or_from_slice_get}
use Rattle.std.proofs.lemmas.Result.{err_from_is_err_and}
use Rattle.bp_log.specs.declared.record.Record.{Record}
use Rattle.bp_log.specs.declared.record.Record.TheVariants.{Sel}
use Rattle.bp_arbiter.specs.Arbiters.{PlainArbiter}
use Rattle.bp_replay.specs.declared.fault.ReplayFault.{ReplayFault}
use Rattle.bp_replay.specs.Following.{Followed, IsThere, Makes}
use Rattle.bp_answers.specs.inner.Led.{PartsAs}
use Rattle.bp_answers.specs.inner.Reasons.{DiffersWhere}
use Rattle.bp_answers.proofs.ReasonLemmas.{followed_within, parts_more, parts_within, why_parts, why_told}
use Rattle.bp_answers.proofs.Walks.{split_at, taken}
use Rattle.bp_answers.proofs.reasons.text_at.Goals as goal

pub returns-in_err-arbiter-clause-parts : goal.returns-in_err-arbiter-clause-parts
returns-in_err-arbiter-clause-parts c =
    let records = c.args.records.now in
    let p = err_from_is_err_and c.from_residual-in_err-arbiter.result c.from_residual-in_err-arbiter.ensures.1 in
    rw p.1
    (subst (λ (e : ReplayFault). PartsAs c.args.program c.args.options records e) (sym p.2) (parts_more c.args.program c.args.options records c.args.place c.in_err-arbiter.field-0.0 c.in_err-arbiter.ensures.parts))

pub returns-in_err-arbiter-clause-number : goal.returns-in_err-arbiter-clause-number
returns-in_err-arbiter-clause-number c =
    let i = c.args.place in
    let p = err_from_is_err_and c.from_residual-in_err-arbiter.result c.from_residual-in_err-arbiter.ensures.1 in
    rw p.1
    (subst (λ (e : ReplayFault). DiffersWhere (λ m. m ≤ i + 1) e) (sym p.2)
    (parts_within c.args.program c.args.options c.args.records.now i c.in_err-arbiter.field-0.0 (taken c.args.records.now i c.requires.there) c.in_err-arbiter.ensures.parts))

pub returns-in_err-follow-clause-number : goal.returns-in_err-follow-clause-number
returns-in_err-follow-clause-number c =
    let i = c.args.place in
    let w = c.in_ok-arbiter.ensures.leads in
    let p = err_from_is_err_and c.from_residual-in_err-follow.result c.from_residual-in_err-follow.ensures.1 in
    rw p.1
    (subst (λ (e : ReplayFault). DiffersWhere (λ m. m ≤ i + 1) e) (sym p.2)
    (followed_within w.course c.in_ok-found.found (i + 1) c.follow.new.arbiter c.in_err-follow.field-0.0 (c.in_err-follow.ensures.followed w.course (subst (λ (x : PlainArbiter). IsThere w.course x) (sym c.write_why_here.ensures.same) w.there))))

pub returns-in_err-follow-clause-parts : goal.returns-in_err-follow-clause-parts
returns-in_err-follow-clause-parts c =
    let records = c.args.records.now in
    let i = c.args.place in
    let w = c.requires.place in
    let e = w.0 in
    let r = c.in_ok-found.found in
    let b = c.write_why_here.new.arbiter in
    let is : r ≡ Sel e = c.in_ok-found.ensures ∙ c.index-records-place.is ∙ get_or_from_slice_get records i (Sel e) c.index-records-place.result w.1 in
    let at : Sel e ≡ get_or records i (Sel e) = sym (get_or_from_slice_get records i (Sel e) (Sel e) w.1) in
    let count : i ≡ length (take i records) = sym (taken records i c.requires.there) in
    let p = err_from_is_err_and c.from_residual-in_err-follow.result c.from_residual-in_err-follow.ensures.1 in
    rw p.1
    (subst (λ (f : ReplayFault). PartsAs c.args.program c.args.options records f) (sym p.2)
    (why_parts c.args.program c.args.options records c.args.number i (i + 1) e c.in_ok-arbiter.arbiter c.follow.new.arbiter c.in_err-follow.field-0.0 w.2 (split_at records (take i records) i (Sel e) refl c.requires.there at) count refl c.in_ok-arbiter.ensures.leads
    (λ d t. subst (λ (x : Record). Followed d x (i + 1) c.follow.new.arbiter (Err c.in_err-follow.field-0.0)) is (c.in_err-follow.ensures.followed d (subst (λ (x : PlainArbiter). IsThere d x) (sym c.write_why_here.ensures.same) t)))))

pub returns-clause-told : goal.returns-clause-told
returns-clause-told c =
    let records = c.args.records.now in
    let i = c.args.place in
    let w = c.requires.place in
    let e = w.0 in
    let r = c.in_ok-found.found in
    let is : r ≡ Sel e = c.in_ok-found.ensures ∙ c.index-records-place.is ∙ get_or_from_slice_get records i (Sel e) c.index-records-place.result w.1 in
    let count : i ≡ length (take i records) = sym (taken records i c.requires.there) in
    why_told c.args.program c.args.options records c.args.number i e c.in_ok-arbiter.arbiter c.follow.new.arbiter (string_bytes c.in_ok-text.text) (string_bytes c.write_why_here.new.text) w.2 count c.in_ok-text.ensures c.in_ok-arbiter.ensures.leads c.in_ok-write_why_here.ensures.written
    (λ d t. subst (λ (x : Record). Makes d x c.follow.new.arbiter) is (c.in_ok-follow.ensures.followed d (subst (λ (x : PlainArbiter). IsThere d x) (sym c.write_why_here.ensures.same) t)))
