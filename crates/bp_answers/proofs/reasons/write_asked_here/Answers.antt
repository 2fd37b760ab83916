use Rattle.std.proofs.Common.{◌≡◌, rules, string_bytes}
use Rattle.std.proofs.lemmas.Result.{on_ok_weaker}
use Rattle.bp_floor.specs.declared.phase.Phase.TheVariants.{Rest}
use Rattle.bp_answers.proofs.ReasonLemmas.{asked_quiet, writes_asked}
use Rattle.bp_answers.proofs.reasons.write_asked_here.Goals as goal

pub returns-clause-written : goal.returns-clause-written
returns-clause-written c =
    let rest : c.args.arbiter.now.phase ≡ Rest = search rules in
    on_ok_weaker c.write_who_asks.result (λ h d t. writes_asked d c.args.arbiter.now c.args.event.now (string_bytes c.args.text.now) (string_bytes c.write_who_asks.new.text) t rest h) c.write_who_asks.ensures

pub returns-clause-quiet : goal.returns-clause-quiet
returns-clause-quiet c =
    on_ok_weaker c.write_who_asks.result (λ h d t rest. asked_quiet d c.args.arbiter.now c.args.event.now (string_bytes c.args.text.now) (string_bytes c.write_who_asks.new.text) t rest h) c.write_who_asks.ensures
