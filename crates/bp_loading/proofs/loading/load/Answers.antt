use Rattle.std.proofs.Common.{Err, ap, subst, List, ℕ}
use Rattle.bp_base.specs.declared.moving.ReadError.{ReadError}
use Rattle.bp_script.specs.Faults.{IsScriptFault}
use Rattle.bp_loading.proofs.Refused.{unloaded_fault, fault_read}
use Rattle.bp_loading.proofs.loading.load.Goals as goal

pub returns-in-Err-TooLong-clause-unloaded : goal.returns-in-Err-TooLong-clause-unloaded
returns-in-Err-TooLong-clause-unloaded g c = c.in-Err-TooLong.ensures.too_long (ap (λ (x : ReadError). Err x) c.in-Err-TooLong.field-0-is)

pub returns-in-Err-clause-unloaded : goal.returns-in-Err-clause-unloaded
returns-in-Err-clause-unloaded g c =
    unloaded_fault _ c.args.name.now c.in-Ok.bytes.items c.in-Err.fault c.from.result c.from.ensures c.in-Ok.ensures.bytes
    (subst (λ (bs : List ℕ). IsScriptFault bs c.in-Err.fault) c.deref.ensures.value c.in-Err.ensures.refused)

pub returns-in-Err-clause-cause : goal.returns-in-Err-clause-cause
returns-in-Err-clause-cause g c e = absurd (fault_read c.in-Err.fault c.from.result c.from.ensures cc)
