use Rattle.std.proofs.Common.{◌≤◌, ◌-◌, ℕ, arith}
use Rattle.bp_code.specs.Code.{code_of}
use Rattle.bp_code.specs.Nodes.{nodes_of}
use Rattle.bp_steps.proofs.Scheduled.{schedule_legal, schedule_makes}
use Rattle.bp_core.proofs.laws.stories_have_legal_schedules.Goals as goal

within : (n x : ℕ) → n - x ≤ n
within n x = omega arith

pub returns-clause-legal : goal.returns-clause-legal
returns-clause-legal c = λ program o records d some h. schedule_legal (code_of program o) o (nodes_of program o) some (λ b. within o.budget _) records d h

pub returns-clause-makes : goal.returns-clause-makes
returns-clause-makes c = λ program o records d some h. schedule_makes (code_of program o) o (nodes_of program o) some (λ b. within o.budget _) records d h
