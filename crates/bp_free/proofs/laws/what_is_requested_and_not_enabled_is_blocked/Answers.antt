use Rattle.bp_code.specs.Code.{code_of}
use Rattle.bp_free.proofs.Blockers.{first_blocker}
use Rattle.bp_free.proofs.laws.what_is_requested_and_not_enabled_is_blocked.Goals as goal

pub returns : goal.returns
returns c = λ p o s x e g r n. first_blocker (code_of p o) o s x e g r n
