use Rattle.bp_script.proofs.Either.{program_or_refused}
use Rattle.bp_script.proofs.Once.{never, one_program, each_is_program}
use Rattle.bp_script.proofs.Refused.{one_refusal_only}
use Rattle.bp_script.proofs.laws.read_one_way.Goals as goal

pub returns : goal.returns
returns c = record {
  some_way = program_or_refused c.args.bytes.now;
  never_both = never c.args.bytes.now;
  one_program = one_program c.args.bytes.now;
  each_is_program = each_is_program c.args.bytes.now;
  one_refusal = one_refusal_only c.args.bytes.now;
}
