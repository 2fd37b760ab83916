use Rattle.std.proofs.Common.{ap, ap₂, ◌∙◌}
use Rattle.std.proofs.lemmas.Result.{IfOk-weaker}
use Rattle.clap.specs.Words.{with_rule}
use Rattle.bp_args.specs.inner.Reading.{option_rule}
use Rattle.bp_args.proofs.reading.clap_command.Goals as goal

pub returns : goal.returns
unfolding Rattle.bp_args.specs.inner.Reading.program
returns c =
    let one = c.in_ok-arg.ensures.shape c.option.ensures.local ∙ ap₂ with_rule c.bare.ensures (c.option.ensures.rule ∙ ap option_rule c.name.ensures) in
    let two = c.in_ok-arg-2.ensures.shape c.option-2.ensures.local ∙ ap₂ with_rule one (c.option-2.ensures.rule ∙ ap option_rule c.name-2.ensures) in
    let three = c.in_ok-arg-3.ensures.shape c.option-3.ensures.local ∙ ap₂ with_rule two (c.option-3.ensures.rule ∙ ap option_rule c.name-3.ensures) in
    let four = c.in_ok-arg-4.ensures.shape c.option-4.ensures.local ∙ ap₂ with_rule three (c.option-4.ensures.rule ∙ ap option_rule c.name-4.ensures) in
    let five = c.in_ok-arg-5.ensures.shape c.option-5.ensures.local ∙ ap₂ with_rule four (c.option-5.ensures.rule ∙ ap option_rule c.name-5.ensures) in
    let six = c.in_ok-arg-6.ensures.shape c.option-6.ensures.local ∙ ap₂ with_rule five (c.option-6.ensures.rule ∙ ap option_rule c.name-6.ensures) in
    let seven = c.in_ok-arg-7.ensures.shape c.option-7.ensures.local ∙ ap₂ with_rule six (c.option-7.ensures.rule ∙ ap option_rule c.name-7.ensures) in
    let eight = c.in_ok-arg-8.ensures.shape c.option-8.ensures.local ∙ ap₂ with_rule seven (c.option-8.ensures.rule ∙ ap option_rule c.name-8.ensures) in
    IfOk-weaker c.arg-9.result _ _ (λ m h. h.shape c.names.ensures.local ∙ ap₂ with_rule eight c.names.ensures.rule) c.arg-9.ensures
