use Rattle.std.proofs.Common.{◌∙◌, ap, arith}
use Rattle.js_names.specs.Slots.{captures_in}
use Rattle.js_names.specs.Views.{mention_of}
use Rattle.js_names.specs.Held.{held_in}
use Rattle.js_names.proofs.HeldLemmas.{holds_more, holds_again}
use Rattle.js_names.proofs.holdings.hold_all_captures.Goals.{then-not-is_made+in_ok-hold_captures+in_ok-note_captures, else-not-is_made}
use Rattle.js_names.proofs.holdings.hold_all_captures.Goals as goal

pub loop-at-preserved : goal.loop-at-preserved
loop-at-preserved c = λ q.
    elim c.if-not-is_made.branch [
      | then-not-is_made+in_ok-hold_captures+in_ok-note_captures w ↦
          ap (λ z. held_in z q) w.held-is
          ∙ holds_more (λ p. captures_in c.args.assigned.now.keys (mention_of p)) c.args.mentions.now c.loop-at.at c.index-mentions-at.result c.index-mentions-at.result c.args.held.now c.loop-at.held w.hold_captures.new.held (omega arith)
          c.index-mentions-at.is c.loop-at.invariant w.in_ok-hold_captures.ensures q
      | else-not-is_made w ↦
          let m = c.is_made.ensures w.if-not-is_made.false in
          ap (λ z. held_in z q) w.held-is
          ∙ holds_again (λ p. captures_in c.args.assigned.now.keys (mention_of p)) c.args.mentions.now c.loop-at.at c.index-mentions-at.result c.index-mentions-at.result c.args.held.now c.loop-at.held m.0 m.1 (omega arith)
          c.index-mentions-at.is m.2 m.3 m.4 c.loop-at.invariant q
    ]
