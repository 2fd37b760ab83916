use Rattle.std.proofs.Common.{◌≡◌, ◌∙◌, ◌++◌, List, sym, subst, rules}
use Rattle.std.proofs.lemmas.Result.{on_ok_weaker, on_err_weaker}
use Rattle.bp_log.specs.Texts.{lines_text}
use Rattle.bp_log.specs.declared.trace.Line.{Line as Told}
use Rattle.bp_arbiter.specs.Arbiters.{StandsFor}
use Rattle.bp_told.specs.Pages.{Shows, ShowsFront}
use Rattle.bp_replay.specs.Courses.{Course}
use Rattle.bp_replay.specs.Following.{IsOnWay}
use Rattle.bp_replay.proofs.Shows.{Settled, settled, ok_any}
use Rattle.bp_replay.proofs.telling.show.Goals as goal

pub returns-clause-there : goal.returns-clause-there
returns-clause-there g c =
    let t = c.take_lines-lines.ensures in
    let same : c.as_slice.result.now ≡ c.take_lines-lines.result = search rules in
    let here : (d : Course) (taken : List Told) (w : IsOnWay d taken c.args.arbiter.now) → Settled d w.more c.take_lines-lines.new.self c.said.result.now = λ d taken w.
    settled d taken c.args.arbiter.now c.settle.new.arbiter c.take_lines-lines.new.self c.as_slice.result.now c.said.result.now w c.in_ok-settle.ensures.settles c.in_ok-settle.ensures.settled
    (t.taken ∙ sym same) c.keeps.ensures.exact t.ground t.options t.records t.phase
    (λ jobs ls p s. subst (λ (xs : List Told). StandsFor c.take_lines-lines.new.self jobs (ls ++ xs) p) (sym same) (t.stands jobs ls p s))
    c.said.ensures in
    ok_any c.print.result (λ d taken w. (here d taken w).there)

pub returns-clause-shows : goal.returns-clause-shows
returns-clause-shows g c =
    let t = c.take_lines-lines.ensures in
    let same : c.as_slice.result.now ≡ c.take_lines-lines.result = search rules in
    let here : (d : Course) (taken : List Told) (w : IsOnWay d taken c.args.arbiter.now) → Settled d w.more c.take_lines-lines.new.self c.said.result.now = λ d taken w.
    settled d taken c.args.arbiter.now c.settle.new.arbiter c.take_lines-lines.new.self c.as_slice.result.now c.said.result.now w c.in_ok-settle.ensures.settles c.in_ok-settle.ensures.settled
    (t.taken ∙ sym same) c.keeps.ensures.exact t.ground t.options t.records t.phase
    (λ jobs ls p s. subst (λ (xs : List Told). StandsFor c.take_lines-lines.new.self jobs (ls ++ xs) p) (sym same) (t.stands jobs ls p s))
    c.said.ensures in
    on_ok_weaker c.print.result
    (λ s d taken w. subst (λ (xs : List Told). Shows (g.K.Sink.written c.args.out.now) (c.args.page.now ++ lines_text xs) c.print.new.self (g.K.Sink.written c.print.new.out)) ((here d taken w).said_is) s)
    c.print.ensures.shows

pub returns-clause-front : goal.returns-clause-front
returns-clause-front g c =
    let t = c.take_lines-lines.ensures in
    let same : c.as_slice.result.now ≡ c.take_lines-lines.result = search rules in
    let here : (d : Course) (taken : List Told) (w : IsOnWay d taken c.args.arbiter.now) → Settled d w.more c.take_lines-lines.new.self c.said.result.now = λ d taken w.
    settled d taken c.args.arbiter.now c.settle.new.arbiter c.take_lines-lines.new.self c.as_slice.result.now c.said.result.now w c.in_ok-settle.ensures.settles c.in_ok-settle.ensures.settled
    (t.taken ∙ sym same) c.keeps.ensures.exact t.ground t.options t.records t.phase
    (λ jobs ls p s. subst (λ (xs : List Told). StandsFor c.take_lines-lines.new.self jobs (ls ++ xs) p) (sym same) (t.stands jobs ls p s))
    c.said.ensures in
    on_err_weaker c.print.result
    (λ s d taken w. subst (λ (xs : List Told). ShowsFront (g.K.Sink.written c.args.out.now) (c.args.page.now ++ lines_text xs) c.print.new.self (g.K.Sink.written c.print.new.out)) ((here d taken w).said_is) s)
    c.print.ensures.front
