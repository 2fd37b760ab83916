use Rattle.bp_answers.proofs.EachLive.{each_live_is_told}
use Rattle.bp_answers.proofs.laws.each_live_is_told.Goals as goal

pub returns : goal.returns
returns c = each_live_is_told
