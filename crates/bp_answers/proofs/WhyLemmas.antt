-- What is answered about a log of which it is asked why, from what was read of it.
use Rattle.std.proofs.Common.{◌≡◌, ℕ, List, Option, Some, None, Ok, Err, inl, inr, subst, IsSomeAnd}
use Rattle.std.specs.Prelude.{IfSome, IfOk, IfErr, Result, String, string_bytes, Vec}
use Rattle.std.specs.declared.alloc.Global.{Global}
use Rattle.js_program.specs.PlainProgram.{PlainProgram}
use Rattle.bp_log.specs.Header.{PlainHeader}
use Rattle.bp_log.specs.declared.record.Record.{Record}
use Rattle.bp_log.specs.declared.version.Version.{Version}
use Rattle.bp_reading.specs.Heads.{header_at}
use Rattle.bp_reading.specs.Reading.{Stage, first_stage}
use Rattle.bp_reader.specs.Gets.{MeansRead}
use Rattle.bp_reader.specs.declared.fault.LogFault.{LogFault}
use Rattle.bp_reader.specs.declared.fault.LogFault.TheVariants as log
use Rattle.bp_script.specs.Programs.{IsProgram}
use Rattle.bp_replay.specs.declared.fault.ReplayFault.{ReplayFault}
use Rattle.bp_replay.specs.declared.fault.ReplayFault.TheVariants as fault
use Rattle.bp_answers.specs.declared.answer.NoAnswer.{NoAnswer}
use Rattle.bp_answers.specs.declared.answer.NoAnswer.TheVariants.{Refused, Absent}
use Rattle.bp_explain.specs.declared.subject.Subject.{Subject}
use Rattle.bp_answers.specs.Asking.{HasNoProgram}
use Rattle.bp_answers.specs.Faults.{refused_log}
use Rattle.bp_answers.specs.inner.Read.{ReadsAs, ReadsFault}
use Rattle.bp_answers.specs.inner.Reasons.{DiffersWhere, HasNothing}
use Rattle.bp_answers.specs.Whys.{IsAsked, IsMissing, IsWhy, WhyBehind, said_of}
use Rattle.bp_answers.proofs.Asks.{asked_in, told, unheaded}

module _ (version : Version) (header : PlainHeader) (subject : Subject) (s : Stage) (e : s ≡ first_stage version header.options.injectors) where
  at_first : (bytes : List ℕ) (result : Result (Vec Record Global) NoAnswer) → ReadsAs s bytes None result → ReadsAs (first_stage version header.options.injectors) bytes None result
  at_first bytes result h = subst (λ (x : Stage). ReadsAs x bytes None result) e h

  fault_behind : (bytes : List ℕ) (f : NoAnswer) → ReadsFault (first_stage version header.options.injectors) bytes None f → WhyBehind version header bytes subject (Err f)
  fault_behind bytes (Refused (fault.Log f)) h = h
  fault_behind bytes (Refused (fault.Differs n expected other)) h = absurd h
  fault_behind bytes (Refused fault.Program) h = absurd h
  fault_behind bytes (Refused fault.Write) h = absurd h
  fault_behind bytes (Refused fault.Memory) h = tt
  fault_behind bytes Absent h = absurd h.4

  -- the records were not read
  pub why_unread : (rest : Option (List ℕ)) (f : NoAnswer) → IfSome rest (λ bytes. ReadsAs s bytes None (Err f)) → IfSome rest (λ bytes. WhyBehind version header bytes subject (Err f))
  why_unread rest f h =
      told (λ bytes. ReadsAs s bytes None (Err f)) (λ bytes. WhyBehind version header bytes subject (Err f)) rest h (λ bytes k. fault_behind bytes f (at_first bytes (Err f) k))

  no_program : (bytes : List ℕ) (v : Vec Record Global) (f : ReplayFault) → ReadsAs (first_stage version header.options.injectors) bytes None (Ok v) → HasNoProgram header f → WhyBehind version header bytes subject (Err (Refused f))
  no_program bytes v (fault.Log f) r h = absurd h
  no_program bytes v (fault.Differs n expected other) r h = absurd h
  no_program bytes v fault.Program r h = ((v.items, r.0, r.1, r.2, r.3), h)
  no_program bytes v fault.Write r h = absurd h
  no_program bytes v fault.Memory r h = tt

  -- the program was refused
  pub why_unaccepted : (rest : Option (List ℕ)) (v : Vec Record Global) (f : ReplayFault) → IfSome rest (λ bytes. ReadsAs s bytes None (Ok v)) → HasNoProgram header f →
      IfSome rest (λ bytes. WhyBehind version header bytes subject (Err (Refused f)))
  why_unaccepted rest v f r h =
      told (λ bytes. ReadsAs s bytes None (Ok v)) (λ bytes. WhyBehind version header bytes subject (Err (Refused f))) rest r (λ bytes k. no_program bytes v f (at_first bytes (Ok v) k) h)

  parted : (bytes : List ℕ) (v : Vec Record Global) (program : PlainProgram) (f : ReplayFault) → IsProgram header.program program → ReadsAs (first_stage version header.options.injectors) bytes None (Ok v) →
      HasNothing program header.options v.items (IsAsked subject v.items) (IsMissing subject v.items) (Refused f) → WhyBehind version header bytes subject (Err (Refused f))
  parted bytes v program (fault.Log f) is h k = absurd k.0
  parted bytes v program (fault.Differs n expected other) is h k = (asked_in version header None s e bytes v program is h, k.0, k.1)
  parted bytes v program fault.Program is h k = absurd k.0
  parted bytes v program fault.Write is h k = absurd k.0
  parted bytes v program fault.Memory is h k = tt

  -- what is said of the subject after the records
  behind : (bytes : List ℕ) (v : Vec Record Global) (program : PlainProgram) (result : Result (String Global) NoAnswer) → IsProgram header.program program → ReadsAs (first_stage version header.options.injectors) bytes None (Ok v) →
      IfOk result (λ text. said_of program header.options subject v.items ≡ Some (string_bytes text)) → IfErr result (λ f. HasNothing program header.options v.items (IsAsked subject v.items) (IsMissing subject v.items) f) → WhyBehind version header bytes subject result
  behind bytes v program (Ok text) is h k m = (asked_in version header None s e bytes v program is h, k)
  behind bytes v program (Err (Refused f)) is h k m = parted bytes v program f is h m
  behind bytes v program (Err Absent) is h k m = (asked_in version header None s e bytes v program is h, m)

  pub why_answered : (rest : Option (List ℕ)) (v : Vec Record Global) (program : PlainProgram) (result : Result (String Global) NoAnswer) → IsProgram header.program program → IfSome rest (λ bytes. ReadsAs s bytes None (Ok v)) →
      IfOk result (λ text. said_of program header.options subject v.items ≡ Some (string_bytes text)) → IfErr result (λ f. HasNothing program header.options v.items (IsAsked subject v.items) (IsMissing subject v.items) f) → IfSome rest (λ bytes. WhyBehind version header bytes subject result)
  why_answered rest v program result is h k m =
      told (λ bytes. ReadsAs s bytes None (Ok v)) (λ bytes. WhyBehind version header bytes subject result) rest h (λ bytes r. behind bytes v program result is (at_first bytes (Ok v) r) k m)

-- ---- the header

pub why_unheaded : (left : Option (List ℕ)) (subject : Subject) (f : LogFault) → IfSome left (λ bytes. MeansRead f (header_at bytes)) → IfSome left (λ bytes. IsWhy bytes subject (Err (refused_log f)))
why_unheaded None subject f h = tt
why_unheaded (Some bytes) subject f h = inl (unheaded bytes f h)

pub why_headed : (left later : Option (List ℕ)) (version : Version) (header : PlainHeader) (subject : Subject) (result : Result (String Global) NoAnswer) → IfSome left (λ bytes. IsSomeAnd later (λ rest. header_at bytes ≡ Ok ((version, header), rest))) →
    IfSome later (λ rest. WhyBehind version header rest subject result) → IfSome left (λ bytes. IsWhy bytes subject result)
why_headed None later version header subject result h a = tt
why_headed (Some bytes) None version header subject result h a = absurd h
why_headed (Some bytes) (Some rest) version header subject result h a = inr (version, header, rest, h, a)

-- ---- no read failed

pub nothing_unread : (program : PlainProgram) (header : PlainHeader) (records : List Record) (asked : ℕ → Type 0) (missing : Type 0) (f : NoAnswer) → HasNothing program header.options records asked missing f → f ≡ Refused (fault.Log log.Read) → ⊥
nothing_unread program header records asked missing (Refused (fault.Log f)) h e = h.0
nothing_unread program header records asked missing (Refused (fault.Differs n expected other)) h e = cc
nothing_unread program header records asked missing (Refused fault.Program) h e = cc
nothing_unread program header records asked missing (Refused fault.Write) h e = cc
nothing_unread program header records asked missing (Refused fault.Memory) h e = cc
nothing_unread program header records asked missing Absent h e = cc

-- every record may be asked about
pub anywhere : (f : ReplayFault) → DiffersWhere (λ m. Unit {0}) f
anywhere (fault.Log f) = tt
anywhere (fault.Differs n expected other) = tt
anywhere fault.Program = tt
anywhere fault.Write = tt
anywhere fault.Memory = tt
