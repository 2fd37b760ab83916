-- A replay from the first byte of the log to the last that is printed.
use Rattle.std.proofs.Common.{◌≡◌, ◌∙◌, ap, refl, append_assoc, inl, inr, ℕ, List, ◌++◌, sym, subst, Option, Some, None, Ok, Err}
use Rattle.std.specs.Prelude.{IfSome, IsSomeAnd, Result}
use Rattle.js_program.specs.PlainProgram.{PlainProgram}
use Rattle.bp_base.specs.Pieces.{Appends, AppendsFront}
use Rattle.bp_log.specs.Header.{PlainHeader}
use Rattle.bp_log.specs.declared.version.Version.{Version}
use Rattle.bp_log.specs.declared.verdict.Verdict.{Verdict}
use Rattle.bp_reading.specs.Heads.{header_at, CutsOff}
use Rattle.bp_reading.proofs.Fronts.{header_fronts}
use Rattle.bp_reader.specs.Fed.{Between}
use Rattle.bp_reader.specs.declared.fault.LogFault.{LogFault}
use Rattle.bp_reader.specs.declared.fault.LogFault.TheVariants as log
use Rattle.bp_script.specs.Programs.{IsProgram}
use Rattle.bp_told.proofs.Pieces.{written_all, written_front, written_part, written_front_part}
use Rattle.bp_replay.specs.declared.fault.ReplayFault.{ReplayFault}
use Rattle.bp_replay.specs.declared.fault.ReplayFault.TheVariants as fault
use Rattle.bp_replay.specs.Courses.{text_in}
use Rattle.bp_replay.specs.Endings.{EndsAt}
use Rattle.bp_replay.specs.Faults.{fault_of_log}
use Rattle.bp_replay.specs.Replays.{Prints, HasNoRun, IsReplay, ReplaysTaken}
use Rattle.bp_replay.specs.Following.{first_course, Shown, Tells, TellsTaken}
use Rattle.bp_replay.specs.inner.Behind.{HasNoProgram, EndsBehind, TakenBehind}

-- ---- the page is written

prints_written : (ended : Result Verdict ReplayFault) (before now later : Option (List ℕ)) (text page : List ℕ) → Shown ended before text page now → Appends now page later → Prints ended before text later
prints_written (Ok v) before now later text page s w = written_all before now later text page s w
prints_written (Err (fault.Log f)) before now later text page s w = written_all before now later text page s w
prints_written (Err (fault.Differs n expected other)) before now later text page s w = written_all before now later text page s w
prints_written (Err fault.Program) before now later text page s w = written_all before now later text page s w
prints_written (Err fault.Write) before now later text page s w = written_front before now later text page s w
prints_written (Err fault.Memory) before now later text page s w = written_front before now later text page s w

prints_part : (ended : Result Verdict ReplayFault) (before now later : Option (List ℕ)) (text page : List ℕ) → Shown ended before text page now → AppendsFront now page later → AppendsFront before text later
prints_part (Ok v) before now later text page s w = written_part before now later text page s w
prints_part (Err (fault.Log f)) before now later text page s w = written_part before now later text page s w
prints_part (Err (fault.Differs n expected other)) before now later text page s w = written_part before now later text page s w
prints_part (Err fault.Program) before now later text page s w = written_part before now later text page s w
prints_part (Err fault.Write) before now later text page s w = written_front_part before now later text page s w
prints_part (Err fault.Memory) before now later text page s w = written_front_part before now later text page s w

module _ (version : Version) (header : PlainHeader) (program : PlainProgram) (is : IsProgram header.program program) where
  tells_at : (rest : List ℕ) (before now later : Option (List ℕ)) (page : List ℕ) (result ended : Result Verdict ReplayFault) (t : Tells (first_course version program header.options) rest before page now ended) →
      EndsAt t.course t.stage t.left result → Prints result before (text_in t.course) later → EndsBehind version header rest before later result
  tells_at rest before now later page result ended t ends prints =
      inr (record {
        course = t.course;
        program = subst (λ (p : PlainProgram). IsProgram header.program p) (sym t.program) is;
        options = t.options;
        version_is = t.version;
        stage = t.stage;
        left = t.left;
        follows = t.follows;
        ends = ends;
        prints = prints;
      })

  pub ends_written : (rest before now later : Option (List ℕ)) (page : List ℕ) (ended : Result Verdict ReplayFault) → IfSome rest (λ bytes. Tells (first_course version program header.options) bytes before page now ended) → Appends now page later →
      IfSome rest (λ bytes. EndsBehind version header bytes before later ended)
  ends_written None before now later page ended h w = tt
  ends_written (Some bytes) before now later page ended h w = tells_at bytes before now later page ended ended h h.ends (prints_written ended before now later (text_in h.course) page h.shown w)

  pub ends_unwritten : (rest before now later : Option (List ℕ)) (page : List ℕ) (ended : Result Verdict ReplayFault) → IfSome rest (λ bytes. Tells (first_course version program header.options) bytes before page now ended) → AppendsFront now page later →
      IfSome rest (λ bytes. EndsBehind version header bytes before later (Err fault.Write))
  ends_unwritten None before now later page ended h w = tt
  ends_unwritten (Some bytes) before now later page ended h w = tells_at bytes before now later page (Err fault.Write) ended h tt (prints_part ended before now later (text_in h.course) page h.shown w)

  pub taken_written : (rest left before now later : Option (List ℕ)) (page : List ℕ) → Between rest left (λ bytes more. TellsTaken (first_course version program header.options) bytes more before page now) → Appends now page later →
      Between rest left (λ bytes more. TakenBehind version header bytes more before later)
  taken_written None left before now later page h w = tt
  taken_written (Some bytes) None before now later page h w = absurd h
  taken_written (Some bytes) (Some more) before now later page h w =
      record {
        taken = h.taken;
        is_front = h.is_front;
        ended = h.ended;
        at_end = h.at_end;
        ends = tells_at h.taken before now later page h.ended h.ended h.tells ((h.tells).ends) (prints_written h.ended before now later (text_in ((h.tells).course)) page ((h.tells).shown) w);
      }

-- ---- the header

no_run : (bytes rest : List ℕ) (version : Version) (header : PlainHeader) (ended : Result Verdict ReplayFault) → header_at bytes ≡ Ok ((version, header), rest) → HasNoProgram header ended → HasNoRun bytes ended
no_run bytes rest version header (Ok v) h n = n
no_run bytes rest version header (Err (fault.Log f)) h n = absurd n
no_run bytes rest version header (Err (fault.Differs number expected other)) h n = n
no_run bytes rest version header (Err fault.Program) h n = (version, header, rest, h, n)
no_run bytes rest version header (Err fault.Write) h n = n
no_run bytes rest version header (Err fault.Memory) h n = tt

-- a replay of what stands after a header is one of the whole
behind_header : (bytes rest : List ℕ) (version : Version) (header : PlainHeader) (before after : Option (List ℕ)) (ended : Result Verdict ReplayFault) → header_at bytes ≡ Ok ((version, header), rest) → EndsBehind version header rest before after ended → IsReplay bytes before after ended
behind_header bytes rest version header before after ended h (inl n) = inl (no_run bytes rest version header ended h n.0, n.1)
behind_header bytes rest version header before after ended h (inr r) =
    inr (record {
      course = r.course;
      rest = rest;
      heads = record {
        header = header;
        header_is = h ∙ ap (λ (v : Version). Ok ((v, header), rest)) (sym r.version_is);
        program = r.program;
        options = r.options;
      };
      stage = r.stage;
      left = r.left;
      follows = r.follows;
      ends = r.ends;
      prints = r.prints;
    })

-- a read failed after the header
pub taken_whole : (left mid after : Option (List ℕ)) (version : Version) (header : PlainHeader) (before later : Option (List ℕ)) → IfSome left (λ bytes. IsSomeAnd mid (λ rest. header_at bytes ≡ Ok ((version, header), rest))) → Between mid after (λ bytes rest. TakenBehind version header bytes rest before later) →
    Between left after (λ bytes rest. ReplaysTaken bytes rest before later)
taken_whole None mid after version header before later h t = tt
taken_whole (Some bytes) None after version header before later h t = absurd h
taken_whole (Some bytes) (Some rest) None version header before later h t = absurd t
taken_whole (Some bytes) (Some rest) (Some more) version header before later h t =
    let f = header_fronts bytes ((version, header), rest) h in
    record {
      taken = f.0 ++ t.taken;
      is_front = f.1 ∙ ap (λ (x : List ℕ). f.0 ++ x) t.is_front ∙ sym (append_assoc f.0 t.taken more);
      ended = t.ended;
      at_end = t.at_end;
      replays = behind_header (f.0 ++ t.taken) t.taken version header before later t.ended (f.2 t.taken) t.ends;
    }

-- a read failed within the header
pub taken_headless : (left after before : Option (List ℕ)) → Between left after (CutsOff header_at) → Between left after (λ bytes rest. ReplaysTaken bytes rest before before)
taken_headless None after before h = tt
taken_headless (Some bytes) None before h = absurd h
taken_headless (Some bytes) (Some rest) before h = record { taken = h.0; is_front = h.1; ended = Err (fault.Log log.Cut); at_end = tt; replays = inl (h.2, refl) }

pub is_read : (f : LogFault) → fault_of_log f ≡ fault.Log log.Read → f ≡ log.Read
is_read log.Version h = absurd (cc)
is_read log.Header h = absurd (cc)
is_read (log.Line n) h = absurd (cc)
is_read log.Cut h = absurd (cc)
is_read log.Read h = refl
is_read log.Memory h = absurd (cc)
