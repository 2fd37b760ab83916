use Rattle.std.proofs.Common.{◌≡◌, ◌∙◌, ◌<◌, List, [], arith, sym, subst, Some, IsSome}
use Rattle.bp_log.specs.Logs.{header_text}
use Rattle.bp_log.specs.declared.version.Version.TheVariants.{Second}
use Rattle.bp_log.specs.declared.record.Record.{Record}
use Rattle.bp_run.specs.Text.{text}
use Rattle.bp_steps.specs.Schedules.{schedule_of}
use Rattle.bp_steps.specs.Steps.{made_by}
use Rattle.bp_code.specs.Code.{code_of}
use Rattle.bp_code.specs.Nodes.{nodes_of}
use Rattle.bp_told.specs.Order.{PrintsBehind}
use Rattle.bp_told.specs.Told.{given}
use Rattle.bp_session.specs.Heard.{EachHeard}
use Rattle.bp_session.specs.Reports.{Partly, ComeBack, EndsAs}
use Rattle.bp_session.proofs.Reports.{told_of, text_first, nothing_written, nothing_heard, each_heard, come_back, ended_run, story_ended, behind_ended, ends_as}
use Rattle.bp_session.proofs.running.Session.run.Goals as goal

pub returns-in_default-clause-story : goal.returns-in_default-clause-story
returns-in_default-clause-story g c =
    let o = c.args.header.now.options in
    let l = code_of c.args.program o in
    subst (λ (rs : List Record). IsSome (text l o rs)) (sym (c.new-in_default.ensures ∙ c.new.ensures.items)) (text_first l o)

pub returns-in_default-clause-legal : goal.returns-in_default-clause-legal
returns-in_default-clause-legal g c =
    let program = c.args.program in
    let o = c.args.header.now.options in
    let l = code_of program o in
    let some = c.in_default.ensures.within.some_budget in
    let budget : 0 < o.budget = omega (arith, some) in
    let t = told_of l o [] (text_first l o) in
    subst (λ (rs : List Record). made_by l o (nodes_of program o) (schedule_of l o rs) ≡ Some rs) (sym (c.new-in_default.ensures ∙ c.new.ensures.items))
    (c.stories_have_legal_schedules.ensures.makes program o [] t.0 budget t.1)

pub returns-in_default-clause-heard : goal.returns-in_default-clause-heard
returns-in_default-clause-heard g c =
    subst (λ (rs : List Record). EachHeard g.S.Source.left c.args.inputs.items c.args.inputs.items rs) (sym (c.new-in_default.ensures ∙ c.new.ensures.items)) (nothing_heard g.S.Source.left g.S.Source.faults c.args.inputs.items)

pub returns-in_default-clause-ends : goal.returns-in_default-clause-ends
returns-in_default-clause-ends g c =
    let o = c.args.header.now.options in
    let l = code_of c.args.program o in
    let head = header_text Second c.args.header.now in
    let first = given g.K.Sink.written c.args.out.now c.args.log.now in
    subst (λ (rs : List Record). Partly g.L.Sink.written (text l o) head rs first first) (sym (c.new-in_default.ensures ∙ c.new.ensures.items)) (nothing_written g.L.Sink.written l o head first)

pub served-requires-clause-ready : goal.served-requires-clause-ready
served-requires-clause-ready g c κs within =
    let o = c.args.header.now.options in
    record {
      code = code_of c.args.program o;
      options = o;
      head = header_text Second c.args.header.now;
      first = given g.K.Sink.written c.args.out.now c.args.log.now;
      serving = c.in-Ok.ensures.serving (g.K.Sink.written c.args.out.now);
    }

pub returns-clause-story : goal.returns-clause-story
returns-clause-story g c =
    let program = c.args.program in
    let h = c.args.header.now in
    let ended = ended_run g.K.Sink.written program h c.args.out.now c.served.new.out c.args.log.now c.served.new.log c.in-Ok.ensures.serving c.served.ensures.ends in
    subst (λ (rs : List Record). IsSome (text (code_of program h.options) h.options rs)) (sym c.into_records.ensures) (story_ended _ _ _ _ _ _ _ _ ended)

pub returns-clause-legal : goal.returns-clause-legal
returns-clause-legal g c =
    let program = c.args.program in
    let h = c.args.header.now in
    let ended = ended_run g.K.Sink.written program h c.args.out.now c.served.new.out c.args.log.now c.served.new.log c.in-Ok.ensures.serving c.served.ensures.ends in
    let o = h.options in
    let l = code_of program o in
    let records = c.served.new.parts.core.arbiter.records in
    let some = c.in-Ok.ensures.within.some_budget in
    let budget : 0 < o.budget = omega (arith, some) in
    let t = told_of l o records (story_ended _ _ _ _ _ _ _ _ ended) in
    subst (λ (rs : List Record). made_by l o (nodes_of program o) (schedule_of l o rs) ≡ Some rs) (sym c.into_records.ensures)
    (c.stories_have_legal_schedules.ensures.makes program o records t.0 budget t.1)

pub returns-clause-heard : goal.returns-clause-heard
returns-clause-heard g c =
    let inputs = c.args.inputs.items in
    let back = c.served.new.parts.back.items in
    subst (λ (rs : List Record). EachHeard g.S.Source.left inputs back rs) (sym c.into_records.ensures)
    (each_heard g.S.Source.left g.S.Source.faults inputs back c.served.new.parts.core.arbiter.records c.served.ensures.back)

pub returns-clause-back : goal.returns-clause-back
returns-clause-back g c =
    let inputs = c.args.inputs.items in
    let back = c.served.new.parts.back.items in
    subst (λ (rs : List Record). ComeBack g.S.Source.left g.S.Source.faults inputs back rs) (sym c.into_records.ensures)
    (come_back g.S.Source.left g.S.Source.faults inputs back c.served.new.parts.core.arbiter.records c.served.ensures.back c.served.ensures.many)

pub returns-clause-ends : goal.returns-clause-ends
returns-clause-ends g c =
    let program = c.args.program in
    let h = c.args.header.now in
    let ended = ended_run g.K.Sink.written program h c.args.out.now c.served.new.out c.args.log.now c.served.new.log c.in-Ok.ensures.serving c.served.ensures.ends in
    let o = h.options in
    let first = given g.K.Sink.written c.args.out.now c.args.log.now in
    let now = given g.K.Sink.written c.served.new.out c.served.new.log in
    let end = c.served.new.parts.end in
    let inputs = c.args.inputs.items in
    let back = c.served.new.parts.back.items in
    subst (λ (rs : List Record). EndsAs g.L.Sink.written g.L.Sink.faults g.K.Sink.faults (code_of program o) o (header_text Second h) c.args.out.now c.served.new.out first now g.S.Source.left g.S.Source.faults inputs back rs end)
    (sym c.into_records.ensures)
    (ends_as _ _ _ _ _ _ _ g.L.Sink g.K.Sink c.args.out.now c.served.new.out g.S.Source.left g.S.Source.faults inputs back c.served.ensures.back c.requires end ended c.served.ensures.writes.cause c.served.ensures.broke)

pub returns-clause-behind : goal.returns-clause-behind
returns-clause-behind g c =
    let program = c.args.program in
    let h = c.args.header.now in
    let ended = ended_run g.K.Sink.written program h c.args.out.now c.served.new.out c.args.log.now c.served.new.log c.in-Ok.ensures.serving c.served.ensures.ends in
    let o = h.options in
    let first = given g.K.Sink.written c.args.out.now c.args.log.now in
    let now = given g.K.Sink.written c.served.new.out c.served.new.log in
    subst (λ (rs : List Record). PrintsBehind g.L.Sink.written (text (code_of program o) o) (header_text Second h) rs first.printed now.printed first.log now.log) (sym c.into_records.ensures)
    (behind_ended _ _ _ _ _ _ _ _ ended)

pub returns-clause-counts : goal.returns-clause-counts
returns-clause-counts g c = c.served.ensures.writes.counts

pub returns-clause-stays : goal.returns-clause-stays
returns-clause-stays g c = c.served.ensures.writes.stays
