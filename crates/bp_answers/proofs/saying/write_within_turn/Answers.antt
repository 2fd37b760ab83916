use Rattle.std.proofs.Common.{◌≡◌, ◌∙◌, ◌++◌, ℕ, List, ap, rules, string_bytes}
use Rattle.std.proofs.lemmas.Result.{on_ok_weaker}
use Rattle.bp_answers.proofs.States.{within_said}
use Rattle.bp_answers.proofs.saying.write_within_turn.Goals as goal

pub returns : goal.returns
returns c =
    let old = string_bytes c.args.text.now in
    let n = c.args.count in
    let some : (n ≡ 0) → ⊥ = search rules in
    on_ok_weaker c.write_last_stand.result (λ h. h ∙ ap (λ (t : List ℕ). old ++ t) (within_said n some)) c.write_last_stand.ensures
