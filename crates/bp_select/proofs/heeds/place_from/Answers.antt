use Rattle.std.proofs.Common.{◌∙◌, sym}
use Rattle.bp_live.proofs.Numbered.{guessed}
use Rattle.bp_select.proofs.heeds.place_from.Goals as goal

pub returns-then-is_at : goal.returns-then-is_at
returns-then-is_at c = guessed c.args.number c.args.guess c.args.live.now c.requires (sym c.is_at.ensures ∙ c.if-is_at.true)
