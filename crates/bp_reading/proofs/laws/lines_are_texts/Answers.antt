use Rattle.bp_reading.proofs.Fits.{lines_are_texts}
use Rattle.bp_reading.proofs.laws.lines_are_texts.Goals as goal

pub returns : goal.returns
returns c = lines_are_texts
