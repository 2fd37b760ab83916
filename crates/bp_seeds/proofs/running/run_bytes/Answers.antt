use Rattle.std.proofs.Common.{subst}
use Rattle.bp_script.specs.Faults.{IsScriptFault}
use Rattle.bp_seeds.proofs.running.run_bytes.Goals as goal

pub unreachable-requires : goal.unreachable-requires
unreachable-requires c =
    let is = c.requires.program.1 in
    c.read_one_way.ensures.never_both is.tree c.in-Err-Refused.field-0-0 is.accepted
    (subst (IsScriptFault c.args.bytes.now) c.in-Err-Refused.field-0-is c.in-Err-Refused.ensures.refused)
