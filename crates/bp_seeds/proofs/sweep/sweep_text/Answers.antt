use Rattle.std.specs.Prelude.{string_bytes}
use Rattle.bp_seeds.proofs.Sweeping.{swept_text}
use Rattle.bp_seeds.proofs.sweep.sweep_text.Goals as goal

pub returns : goal.returns
returns g c program is =
    swept_text string_bytes c.args.bytes.now c.args.sweep.now program c.in_ok-sweep_counts.field-0 c.text-2.result is c.in_ok-sweep_counts.ensures c.text-2.ensures
