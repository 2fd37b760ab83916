-- A log that is asked about.
use Rattle.std.proofs.Common.{◌≡◌, ℕ, List, Option, Some, None, Ok, Err, IsSome, IsSomeAnd, refl, subst, sym}
use Rattle.std.specs.Prelude.{IfSome, IfOk, IfErr, IsErrAnd, Result, String, string_bytes}
use Rattle.std.specs.declared.alloc.Global.{Global}
use Rattle.bp_base.specs.Worlds.{Holdings, Opens}
use Rattle.bp_reader.specs.declared.fault.LogFault.TheVariants as log
use Rattle.bp_replay.specs.declared.fault.ReplayFault.TheVariants as replay
use Rattle.bp_answers.specs.declared.answer.NoAnswer.{NoAnswer}
use Rattle.bp_answers.specs.declared.answer.NoAnswer.TheVariants.{Refused, Absent}
use Rattle.bpx_cli.specs.Logs.{About, IsSaidUnder, IsSaidOf, IsUnsaid}
use Rattle.bpx_cli.specs.inner.Ends.{ended_of_log}
use Rattle.bpx_cli.specs.declared.ended.Reply.{Reply}
use Rattle.bpx_cli.specs.declared.ended.Ended.{Ended}
use Rattle.bpx_cli.specs.declared.ended.Ended.TheVariants.{Answered}

there : (o : Option (List ℕ)) (P : List ℕ → Type 0) → IsSome o → IfSome o P → IsSomeAnd o P
there None P i h = absurd (cc)
there (Some bytes) P i h = h

-- what is answered about an input is answered about what the world holds
pub said_under : (holds : Option Holdings) (name : List ℕ) (about : About) (left : Option (List ℕ)) (says : Result (String Global) NoAnswer) → Opens holds name left → IfSome left (λ bytes. about bytes says) → IsSaidUnder holds name about says
said_under None name about left says o h = tt
said_under (Some held) name about left says o h =
    there (held name) (λ bytes. about bytes says) o.0 (subst (λ (x : Option (List ℕ)). IfSome x (λ bytes. about bytes says)) o.1 h)

pub unsaid : (holds : Option Holdings) (name : List ℕ) (about : About) (why : NoAnswer) → IsSaidUnder holds name about (Err why) → IsUnsaid holds name about (ended_of_log why)
unsaid holds name about Absent h = h
unsaid holds name about (Refused (replay.Log log.Version)) h = (refl, h)
unsaid holds name about (Refused (replay.Log log.Header)) h = (refl, h)
unsaid holds name about (Refused (replay.Log (log.Line n))) h = (refl, h)
unsaid holds name about (Refused (replay.Log log.Cut)) h = (refl, h)
unsaid holds name about (Refused (replay.Log log.Read)) h = tt
unsaid holds name about (Refused (replay.Log log.Memory)) h = tt
unsaid holds name about (Refused (replay.Differs n expected other)) h = (refl, h)
unsaid holds name about (Refused replay.Program) h = (refl, h)
unsaid holds name about (Refused replay.Write) h = (refl, h)
unsaid holds name about (Refused replay.Memory) h = tt

-- the reply to what was said
pub reply_said : (holds : Option Holdings) (name : List ℕ) (about : About) (says : Result (String Global) NoAnswer) (reply : Result Reply Ended) → IsSaidUnder holds name about says → IfOk reply (λ a. (says ≡ Ok a.text) × (a.end ≡ Answered)) → IfOk reply (λ a. IsSaidOf holds name about (string_bytes a.text) × (a.end ≡ Answered))
reply_said holds name about says (Ok a) h r = (record { says = a.text; is_text = refl; is_said = subst (λ (x : Result (String Global) NoAnswer). IsSaidUnder holds name about x) r.0 h }, r.1)
reply_said holds name about says (Err end) h r = tt

pub reply_unsaid : (holds : Option Holdings) (name : List ℕ) (about : About) (says : Result (String Global) NoAnswer) (reply : Result Reply Ended) → IsSaidUnder holds name about says → IfErr reply (λ end. IsErrAnd says (λ why. end ≡ ended_of_log why)) → IfErr reply (IsUnsaid holds name about)
reply_unsaid holds name about says (Ok a) h r = tt
reply_unsaid holds name about (Ok text) (Err end) h r = absurd r
reply_unsaid holds name about (Err why) (Err end) h r = subst (λ (e : Ended). IsUnsaid holds name about e) (sym r) (unsaid holds name about why h)
