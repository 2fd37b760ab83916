use Rattle.bp_select.proofs.HeedLemmas.{notes_more}
use Rattle.bp_select.proofs.heeds.Heeds.note.Goals as goal

pub returns-in_ok-note-clause-others : goal.returns-in_ok-note-clause-others
returns-in_ok-note-clause-others c = λ ts h w. notes_more ts c.args.self.now.roll c.args.self.now.changed c.note.new.self c.note.ensures.others (h w)

pub returns-in_err-note-clause-others : goal.returns-in_err-note-clause-others
returns-in_err-note-clause-others c = λ ts h w. notes_more ts c.args.self.now.roll c.args.self.now.changed c.note.new.self c.note.ensures.others (h w)
