use Rattle.js_meaning.proofs.Replies.{reply_delivers}
use Rattle.js_meaning.proofs.laws.replies_deliver_effects.Goals as goal

pub returns : goal.returns
returns c = reply_delivers
