use Rattle.bp_reading.proofs.Fits.{read_logs_are_texts}
use Rattle.bp_reading.proofs.laws.read_logs_are_texts.Goals as goal

pub returns : goal.returns
returns c = read_logs_are_texts
