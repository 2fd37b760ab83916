use Rattle.bp_session.proofs.Back.{heard_back, heard_whole, heard_to_fault}
use Rattle.bp_session.proofs.laws.what_was_recorded_was_heard.Goals as goal

pub returns-clause-heard : goal.returns-clause-heard
returns-clause-heard c = heard_back

pub returns-clause-whole : goal.returns-clause-whole
returns-clause-whole c = heard_whole

pub returns-clause-to_fault : goal.returns-clause-to_fault
returns-clause-to_fault c = heard_to_fault
