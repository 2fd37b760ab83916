use Rattle.std.proofs.Common.{sym, ap}
use Rattle.js_meaning.specs.Calls.{answer_of}
use Rattle.js_frames.specs.Frames.{plain_completion}
use Rattle.js_frames.proofs.CallLemmas.{no_answer}
use Rattle.js_frames.proofs.calls.answer.Goals as goal

pub returns-in-Returned : goal.returns-in-Returned
returns-in-Returned c = ap (λ q. answer_of (plain_completion q)) (sym c.in-Returned.is)

pub returns : goal.returns
returns c = no_answer c.args.completion c.in_default.not-Returned
