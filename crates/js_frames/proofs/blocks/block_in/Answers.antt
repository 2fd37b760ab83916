use Rattle.std.proofs.Common.{sym, ap, ◌∙◌}
use Rattle.js_program.specs.Views.{plain_node_form}
use Rattle.js_frames.specs.Frames.{block_in}
use Rattle.js_frames.proofs.BeginLemmas.{no_block}
use Rattle.js_frames.proofs.blocks.block_in.Goals as goal

pub returns-in-Block : goal.returns-in-Block
returns-in-Block c = c.deref.ensures.value ∙ ap (λ f. block_in (plain_node_form f)) (sym c.in-Block.is)

pub returns-in_default : goal.returns-in_default
returns-in_default c = no_block c.args.form.now c.in_default.not-Block
