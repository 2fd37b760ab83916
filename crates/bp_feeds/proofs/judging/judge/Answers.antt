use Rattle.std.proofs.Common.{rules, ◌≡◌, true, false, None, Some, sym, arith}
use Rattle.js_json.specs.Json.{event_at}
use Rattle.bp_feeds.specs.Items.{is_blank}
use Rattle.bp_feeds.proofs.Cuts.{past_is_bad, many_is_bad, judged_blank, judged_event}
use Rattle.bp_feeds.proofs.judging.judge.Goals.{then-number-gt-MOST_LINES-via-then-number-gt-MOST_LINES, then-number-gt-MOST_LINES-via-else-number-gt-MOST_LINES+then-line-gt-MOST_LENGTH}
use Rattle.bp_feeds.proofs.judging.judge.Goals as goal

pub returns-then-number-gt-MOST_LINES : goal.returns-then-number-gt-MOST_LINES
returns-then-number-gt-MOST_LINES c =
    elim c.then-number-gt-MOST_LINES.branch [
      | then-number-gt-MOST_LINES-via-then-number-gt-MOST_LINES w ↦ sym (many_is_bad c.args.number c.args.line.now (omega (arith, w.if-number-gt-MOST_LINES.true)))
      | then-number-gt-MOST_LINES-via-else-number-gt-MOST_LINES+then-line-gt-MOST_LENGTH w ↦ sym (past_is_bad c.args.number c.args.line.now (omega (arith, w.if-line-gt-MOST_LENGTH.true)))
    ]

pub returns-then-is_blank : goal.returns-then-is_blank
returns-then-is_blank c =
    let blank : is_blank c.args.line.now ≡ true = search rules in
    judged_blank c.args.number c.args.line.now (omega (arith, c.if-number-gt-MOST_LINES.false)) (omega (arith, c.if-line-gt-MOST_LENGTH.false)) blank

pub returns-in-Ok : goal.returns-in-Ok
returns-in-Ok c =
    let full : is_blank c.args.line.now ≡ false = search rules in
    judged_event c.args.number c.args.line.now (Some c.in-Ok.event) (omega (arith, c.if-number-gt-MOST_LINES.false)) (omega (arith, c.if-line-gt-MOST_LENGTH.false)) full c.in-Ok.ensures.event

pub returns-in-Err-NotEvent : goal.returns-in-Err-NotEvent
returns-in-Err-NotEvent c =
    let full : is_blank c.args.line.now ≡ false = search rules in
    let none : event_at c.args.line.now ≡ None = c.event_of.ensures.not_event (search rules) in
    judged_event c.args.number c.args.line.now None (omega (arith, c.if-number-gt-MOST_LINES.false)) (omega (arith, c.if-line-gt-MOST_LENGTH.false)) full none
