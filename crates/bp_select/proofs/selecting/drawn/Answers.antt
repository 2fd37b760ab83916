use Rattle.std.proofs.Common.{◌∙◌, ◌%◌, ℕ, length, ap, Some, None}
use Rattle.bp_draw.specs.Words.{draw_word}
use Rattle.bp_run.specs.Choosing.{Choice}
use Rattle.bp_draw.specs.Draws.{PlainDraw}
use Rattle.bp_live.specs.Candidates.{event_of}
use Rattle.bp_select.proofs.Selects.{drawn_many}
use Rattle.bp_select.proofs.selecting.drawn.Goals as goal

pub returns-in_ok-event-in-len2-up-clause-chosen : goal.returns-in_ok-event-in-len2-up-clause-chosen
returns-in_ok-event-in-len2-up-clause-chosen c = λ queue.
    ap (λ (s : PlainDraw). (let one : Choice = record { event = c.in_ok-event-in-len2-up.event; place = None; drawn = s.drawn } in Some one)) c.advance.ensures
    ∙ drawn_many event_of (draw_word c.args.draw.now.seed) c.args.draw.now.drawn c.args.remaining.now _ _ c.in_ok-event-in-len2-up.event c.in-len2-up.len_at_least
    (ap (λ (n : ℕ). n % length c.args.remaining.now) c.word.ensures) c.in_ok-event-in-len2-up.ensures
