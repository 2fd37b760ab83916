use Rattle.std.proofs.Common.{◌≡◌, ◌∙◌, ap, sym, Some, map}
use Rattle.std.proofs.lemmas.Result.{IfOk-weaker}
use Rattle.std.specs.Prelude.{string_bytes}
use Rattle.bp_args.specs.inner.Normal.{said_of, command_from}
use Rattle.bp_args.proofs.Within.{within}
use Rattle.bp_args.proofs.Back.{back}
use Rattle.bp_args.proofs.Bounds as bounds
use Rattle.bp_args.proofs.Rows as rows
use Rattle.bp_args.proofs.command.read.Goals as goal

-- the command that was made of the matches is the one that was decided
same : (c : goal.After-drop-normal-2) → command_from c.in_ok-values.values ≡ Some c.in_ok-decide.field-0
same c =
    let decided = c.in_ok-decide.field-0 in
    let e = c.in_ok-values.ensures (said_of decided) (ap (map string_bytes) c.as_slice.ensures.value ∙ c.in_ok-normal.ensures) in
    ap command_from e ∙ back decided (within (map string_bytes c.args.words.now) decided c.in_ok-decide.ensures.command)

pub returns-clause-command : goal.returns-clause-command
returns-clause-command c =
    IfOk-weaker c.command_from.result _ _ (λ d h. c.in_ok-decide.ensures.command ∙ (sym (same c) ∙ h)) c.command_from.ensures.command

pub returns-clause-wrong : goal.returns-clause-wrong
returns-clause-wrong c = λ w.
    -- the limits and the computed rows are named here, so that they are checked with the clause
    let limits = bounds.digits in
    let computed = rows.next_word in
    let e = sym (c.command_from.ensures.wrong w) ∙ same c in
    cc
