use Rattle.std.proofs.Common.{◌≡◌, ◌∙◌, Bool, Some, option_map, ap, sym}
use Rattle.std.specs.Prelude.{unwrap_or}
use Rattle.bp_log.specs.Options.{PlainOptions, default_options}
use Rattle.bp_args.specs.Command.{options_of}
use Rattle.bp_args.proofs.Ranges.{told_waiting}
use Rattle.bp_args.proofs.command.options_of.Goals as goal

pub returns-in-None : goal.returns-in-None
returns-in-None c =
    let o = options_of c.args.said.now c.args.injectors in
    ap (option_map (λ (q : PlainOptions). record q { wait = o.wait })) (sym c.in-None.is)
    ∙ told_waiting o c.new.result c.requires
    (rw (
      c.unwrap_or-strategy.ensures,
      c.strategy.ensures,
      c.unwrap_or-seed.ensures,
      c.seed.ensures,
      c.unwrap_or-budget.ensures,
      c.budget.ensures.budget,
      c.unwrap_or-steps.ensures,
      c.steps.ensures.steps,
      c.defaults-defaults.ensures,
    ) at c.new.ensures)

pub returns-in-Some : goal.returns-in-Some
returns-in-Some c =
    let o = options_of c.args.said.now c.args.injectors in
    let wait : c.unwrap_or-wait.result ≡ unwrap_or c.args.said.now.wait default_options.wait = rw (c.wait.ensures, c.defaults-defaults.ensures) at c.unwrap_or-wait.ensures in
    ap (λ (q : PlainOptions). Some q) (c.with_wait.ensures ∙ ap (λ (b : Bool). record c.in-Some.options { wait = b }) wait)
    ∙ ap (option_map (λ (q : PlainOptions). record q { wait = o.wait })) (sym c.in-Some.is)
    ∙ told_waiting o c.new.result c.requires
    (rw (
      c.unwrap_or-strategy.ensures,
      c.strategy.ensures,
      c.unwrap_or-seed.ensures,
      c.seed.ensures,
      c.unwrap_or-budget.ensures,
      c.budget.ensures.budget,
      c.unwrap_or-steps.ensures,
      c.steps.ensures.steps,
      c.defaults-defaults.ensures,
    ) at c.new.ensures)
