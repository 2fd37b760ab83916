use Rattle.bp_select.proofs.TallyLemmas.{tallied_more}
use Rattle.bp_select.proofs.tally.Tally.mark.Goals as goal

pub returns-in_ok-note-clause-others : goal.returns-in_ok-note-clause-others
returns-in_ok-note-clause-others c = λ base budget sets ts h w.
    tallied_more base budget sets ts c.args.self.now.changed c.note.new.self c.args.self.now.counts c.note.ensures.others (h w)

pub returns-in_err-note-clause-others : goal.returns-in_err-note-clause-others
returns-in_err-note-clause-others c = λ base budget sets ts h w.
    tallied_more base budget sets ts c.args.self.now.changed c.note.new.self c.args.self.now.counts c.note.ensures.others (h w)
