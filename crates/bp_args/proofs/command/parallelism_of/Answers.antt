use Rattle.bp_args.specs.Command.{parallelism_of}
use Rattle.bp_args.proofs.Ranges.{told_parallelism}
use Rattle.bp_args.proofs.command.parallelism_of.Goals as goal

pub returns : goal.returns
returns c =
    told_parallelism (parallelism_of c.args.said.now) c.new.result
    (rw (
      c.unwrap_or-workers.ensures,
      c.workers.ensures.workers,
      c.unwrap_or-slice.ensures,
      c.slice.ensures.slice,
      c.defaults-defaults.ensures,
    ) at c.new.ensures)
