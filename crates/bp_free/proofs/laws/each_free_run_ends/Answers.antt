use Rattle.bp_code.specs.Code.{code_of}
use Rattle.bp_free.proofs.Open.{finished}
use Rattle.bp_free.proofs.Rows.{text_is_a_trace, reasons_of_events}
use Rattle.bp_free.proofs.laws.each_free_run_ends.Goals as goal

-- where the law is proved, the definitions are computed at small programs too
pub returns : goal.returns
returns c =
    let trace = text_is_a_trace in
    let reasons = reasons_of_events in
    λ p o events s h. let f = finished (code_of p o) o events s h in (f.run, f.events, f.all)
