use Rattle.std.proofs.Common.{◌≡◌, List, subst}
use Rattle.std.specs.Prelude.{IfErr, IfOk, Some, string_bytes}
use Rattle.bp_log.specs.Options.{PlainOptions}
use Rattle.bp_log.specs.declared.record.Record.{Record}
use Rattle.bp_answers.specs.inner.Reasons.{HasNothing}
use Rattle.bp_answers.specs.Whys.{IsAsked, IsMissing, said_of}
use Rattle.bp_answers.proofs.WhyLemmas.{why_answered}
use Rattle.bp_answers.proofs.whys.why_behind.Goals as goal

pub returns-clause-answers : goal.returns-clause-answers
returns-clause-answers g c =
    let r = c.args.reader.now in
    let header = c.args.header.now in
    let s = c.args.subject.now in
    let v = c.in_ok-records.records in
    let program = c.in_ok-program.program in
    let result = c.text_of.result in
    let items = c.as_slice.ensures.value in
    let options = c.options.ensures in
    why_answered r.stage.version header s r.stage c.requires.stage r.left v program result c.in_ok-program.ensures.program c.in_ok-records.ensures.reads
    (subst (λ (o : PlainOptions). IfOk result (λ text. said_of program o s v.items ≡ Some (string_bytes text))) options
    (subst (λ (xs : List Record). IfOk result (λ text. said_of program c.options.result s xs ≡ Some (string_bytes text))) items c.text_of.ensures.told))
    (subst (λ (o : PlainOptions). IfErr result (λ f. HasNothing program o v.items (IsAsked s v.items) (IsMissing s v.items) f)) options
    (subst (λ (xs : List Record). IfErr result (λ f. HasNothing program c.options.result xs (IsAsked s xs) (IsMissing s xs) f)) items c.text_of.ensures.nothing))
