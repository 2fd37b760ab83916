-- What serving leaves of what a session is lent.
use Rattle.std.specs.Prelude.{◌≡◌, ℕ, List, Option}
use Rattle.bp_base.specs.declared.outside.Sink.{Ghosts}
use Rattle.js_program.specs.PlainProgram.{PlainProgram}
use Rattle.bp_log.specs.Header.{PlainHeader}
use Rattle.bp_log.specs.Logs.{header_text}
use Rattle.bp_log.specs.declared.version.Version.TheVariants.{Second}
use Rattle.bp_code.specs.Code.{code_of}
use Rattle.bp_core.specs.declared.stepping.Core.{Core}
use Rattle.bp_told.specs.Told.{Waiting, given}
use Rattle.bp_session.specs.declared.lent.Lent.{Lent}
use Rattle.bp_session.specs.inner.Outlets.{ended_fault, WritesOn}
use Rattle.bp_session.specs.inner.Serving.{IsServing, EndsServing}

-- the run of this program is at its start, and nothing of it was told
abbrev pub Begins : {L : Type 0} → (L → Option (List ℕ)) → PlainProgram → PlainHeader → Option L →
    Core → Waiting → Type 0
Begins written program header log c w =
    (printed : Option (List ℕ))
    → IsServing written (code_of program header.options) header.options (header_text Second header)
    (record { printed = printed; log = log }) c (record { printed = printed; log = log }) w

-- it was served to its end, through the same borrows
pub record IsServed {K L S V : Type 0} (k : Ghosts K) (l : Ghosts L) (old new : Lent K L S V)
    : Type 0 where
  pub out_same : new.out.ghost_name ≡ old.out.ghost_name
  pub log_same : new.log.ghost_name ≡ old.log.ghost_name
  pub parts_same : new.parts.ghost_name ≡ old.parts.ghost_name
  pub ends : EndsServing l.written old.parts.now.core (given k.written old.out.now old.log.now)
      old.parts.now.telling new.parts.now.core (given k.written new.out.now new.log.now)
      new.parts.now.end
  pub writes : WritesOn k l old.out.now new.out.now old.log.now new.log.now
      (ended_fault new.parts.now.end)
