use Rattle.std.proofs.Common.{rules, Ok}
use Rattle.bp_reader.proofs.Cuts.{in_size, in_program}
use Rattle.bp_reader.proofs.Headed.{program_refused, program_found}
use Rattle.bp_reader.proofs.head.body_of.Goals as goal

pub returns-in_err-program-clause-gets : goal.returns-in_err-program-clause-gets
returns-in_err-program-clause-gets g c =
    program_refused c.args.version c.args.input.now.left c.settings_of.new.input.left c.field_of.new.input.left c.program_of.new.input.left
    c.in_ok-options.options c.in_ok-size.size c.in_err-program.field-0.0 c.from_residual-in_err-program.result
    (c.in_ok-options.ensures.gets, rw c.from.ensures at c.in_ok-size.ensures.gets) c.in_err-program.ensures.gets (search rules)

pub returns-in-Some-clause-gets : goal.returns-in-Some-clause-gets
returns-in-Some-clause-gets g c =
    program_found c.args.version c.args.input.now.left c.settings_of.new.input.left c.field_of.new.input.left c.program_of.new.input.left
    c.in_ok-options.options c.in_ok-size.size c.in_ok-program.program.items (Ok c.in-Some.header)
    (c.in_ok-options.ensures.gets, rw c.from.ensures at c.in_ok-size.ensures.gets) c.in_ok-program.ensures.gets (search rules)

pub returns-in_err-size-clause-failed : goal.returns-in_err-size-clause-failed
returns-in_err-size-clause-failed g c =
    λ e. in_size c.args.input.now.left c.settings_of.new.input.left c.field_of.new.input.left c.args.version c.in_ok-options.options c.in_ok-options.ensures.gets (rw c.from.ensures at (c.in_err-size.ensures.failed (search rules)))

pub returns-in_err-program-clause-failed : goal.returns-in_err-program-clause-failed
returns-in_err-program-clause-failed g c =
    λ e. in_program c.args.input.now.left c.settings_of.new.input.left c.field_of.new.input.left c.program_of.new.input.left c.args.version c.in_ok-options.options c.in_ok-size.size c.in_ok-options.ensures.gets (rw c.from.ensures at c.in_ok-size.ensures.gets)
    (c.in_err-program.ensures.failed (search rules))
