use Rattle.std.proofs.Common.{◌≡◌, rules, string_bytes}
use Rattle.std.proofs.lemmas.Result.{on_ok_weaker}
use Rattle.bp_floor.specs.declared.phase.Phase.TheVariants.{Rest}
use Rattle.bp_answers.proofs.States.{rests_at}
use Rattle.bp_answers.proofs.saying.write_if_at_rest.Goals as goal

pub returns-clause-written : goal.returns-clause-written
returns-clause-written c =
    let rest : c.args.arbiter.now.phase ≡ Rest = search rules in
    on_ok_weaker c.write_at_rest.result (λ h d t p. rests_at d c.args.arbiter.now (string_bytes c.args.text.now) (string_bytes c.write_at_rest.new.text) rest h t p) c.write_at_rest.ensures.written
