-- A migration from the first byte of the log to the last that is written.
use Rattle.std.proofs.Common.{◌≡◌, ◌∙◌, ℕ, List, ◌++◌, refl, sym, ap, subst, append_assoc, inl, inr, Option, Some, None, Ok, Err}
use Rattle.std.specs.Prelude.{IfSome, IsSomeAnd, Result}
use Rattle.bp_base.specs.Pieces.{Appends, AppendsFront}
use Rattle.bp_log.specs.Header.{PlainHeader}
use Rattle.bp_log.specs.Logs.{header_text, records_text, log_text}
use Rattle.bp_log.specs.declared.version.Version.{Version}
use Rattle.bp_log.specs.declared.version.Version.TheVariants.{Second}
use Rattle.bp_log.specs.declared.record.Record.{Record}
use Rattle.bp_reading.specs.Heads.{header_at, CutsOff}
use Rattle.bp_reading.specs.Reading.{Stage, BeginsWith, first_stage}
use Rattle.bp_reading.proofs.Fronts.{header_fronts}
use Rattle.bp_reader.specs.Fed.{Between}
use Rattle.bp_reader.specs.declared.fault.LogFault.{LogFault}
use Rattle.bp_reader.specs.declared.fault.LogFault.TheVariants as log
use Rattle.bp_told.proofs.Pieces.{written_all, written_front, written_part, written_front_part}
use Rattle.bp_told.proofs.Logging.{log_is}
use Rattle.bp_migrate.specs.declared.fault.MigrateFault.{MigrateFault}
use Rattle.bp_migrate.specs.declared.fault.MigrateFault.TheVariants as fault
use Rattle.bp_migrate.specs.inner.Faults.{fault_of_log}
use Rattle.bp_migrate.specs.Copies.{EndsAt, Shown, Copies, CopiesTaken}
use Rattle.bp_migrate.specs.Migrations.{Prints, CopiesBehind, TakenBehind, MigratesTaken}

-- ---- the page is written

prints_written : (ended : Result (Unit {0}) MigrateFault) (before now later : Option (List ℕ)) (text page : List ℕ) → Shown ended before text page now → Appends now page later → Prints ended before text later
prints_written (Ok x) before now later text page s w = written_all before now later text page s w
prints_written (Err (fault.Log f)) before now later text page s w = written_all before now later text page s w
prints_written (Err fault.Write) before now later text page s w = written_front before now later text page s w
prints_written (Err fault.Memory) before now later text page s w = written_front before now later text page s w

prints_part : (ended : Result (Unit {0}) MigrateFault) (before now later : Option (List ℕ)) (text page : List ℕ) → Shown ended before text page now → AppendsFront now page later → AppendsFront before text later
prints_part (Ok x) before now later text page s w = written_part before now later text page s w
prints_part (Err (fault.Log f)) before now later text page s w = written_part before now later text page s w
prints_part (Err fault.Write) before now later text page s w = written_front_part before now later text page s w
prints_part (Err fault.Memory) before now later text page s w = written_front_part before now later text page s w

module _ (v : Version) (h : PlainHeader) (s : Stage) (first : s ≡ first_stage v h.options.injectors) (head : List ℕ) (is : head ≡ header_text Second h) where
  -- the text of the records after the head is that of the log
  whole : (records : List Record) → head ++ records_text records ≡ log_text Second h records
  whole records = ap (λ (x : List ℕ). x ++ records_text records) is ∙ sym (log_is Second h records)

  behind : (bytes page : List ℕ) (before now later : Option (List ℕ)) (ended result : Result (Unit {0}) MigrateFault) (c : Copies s bytes head before page now ended) → EndsAt c.stage c.left result →
      Prints result before (head ++ records_text c.records) later → CopiesBehind v h bytes before later result
  behind bytes page before now later ended result c ends prints =
      record {
        records = c.records;
        stage = c.stage;
        left = c.left;
        begins = subst (λ (x : Stage). BeginsWith x bytes c.records c.stage c.left) first c.begins;
        ends = ends;
        prints = subst (λ (t : List ℕ). Prints result before t later) (whole c.records) prints;
      }

  pub ends_written : (rest : Option (List ℕ)) (page : List ℕ) (before now later : Option (List ℕ)) (ended : Result (Unit {0}) MigrateFault) → IfSome rest (λ bytes. Copies s bytes head before page now ended) → Appends now page later →
      IfSome rest (λ bytes. CopiesBehind v h bytes before later ended)
  ends_written None page before now later ended c w = tt
  ends_written (Some bytes) page before now later ended c w = behind bytes page before now later ended ended c c.ends (prints_written ended before now later (head ++ records_text c.records) page c.shown w)

  pub ends_unwritten : (rest : Option (List ℕ)) (page : List ℕ) (before now later : Option (List ℕ)) (ended : Result (Unit {0}) MigrateFault) → IfSome rest (λ bytes. Copies s bytes head before page now ended) → AppendsFront now page later →
      IfSome rest (λ bytes. CopiesBehind v h bytes before later (Err fault.Write))
  ends_unwritten None page before now later ended c w = tt
  ends_unwritten (Some bytes) page before now later ended c w = behind bytes page before now later ended (Err fault.Write) c tt (prints_part ended before now later (head ++ records_text c.records) page c.shown w)

  pub taken_written : (rest left : Option (List ℕ)) (page : List ℕ) (before now later : Option (List ℕ)) → Between rest left (λ bytes more. CopiesTaken s bytes more head before page now) → Appends now page later →
      Between rest left (λ bytes more. TakenBehind v h bytes more before later)
  taken_written None left page before now later c w = tt
  taken_written (Some bytes) None page before now later c w = absurd c
  taken_written (Some bytes) (Some more) page before now later c w =
      record {
        taken = c.taken;
        is_front = c.is_front;
        ended = c.ended;
        at_end = c.at_end;
        behind = behind c.taken page before now later c.ended c.ended c.copies ((c.copies).ends) (prints_written c.ended before now later (head ++ records_text ((c.copies).records)) page ((c.copies).shown) w);
      }

-- ---- the header

-- a read failed after the header
pub taken_whole : (left mid then : Option (List ℕ)) (v : Version) (h : PlainHeader) (before later : Option (List ℕ)) → IfSome left (λ bytes. IsSomeAnd mid (λ rest. header_at bytes ≡ Ok ((v, h), rest))) →
    Between mid then (λ bytes rest. TakenBehind v h bytes rest before later) → Between left then (λ bytes rest. MigratesTaken bytes rest before later)
taken_whole None mid then v h before later e t = tt
taken_whole (Some bytes) None then v h before later e t = absurd e
taken_whole (Some bytes) (Some rest) None v h before later e t = absurd t
taken_whole (Some bytes) (Some rest) (Some more) v h before later e t =
    let f = header_fronts bytes ((v, h), rest) e in
    record {
      taken = f.0 ++ t.taken;
      is_front = f.1 ∙ ap (λ (x : List ℕ). f.0 ++ x) t.is_front ∙ sym (append_assoc f.0 t.taken more);
      ended = t.ended;
      at_end = t.at_end;
      migrates = inr (record { version = v; header = h; rest = t.taken; header_is = f.2 t.taken; behind = t.behind });
    }

-- a read failed within the header
pub taken_headless : (left then before : Option (List ℕ)) → Between left then (CutsOff header_at) → Between left then (λ bytes rest. MigratesTaken bytes rest before before)
taken_headless None then before c = tt
taken_headless (Some bytes) None before c = absurd c
taken_headless (Some bytes) (Some rest) before c = record { taken = c.0; is_front = c.1; ended = Err (fault.Log log.Cut); at_end = tt; migrates = inl (c.2, refl) }

pub is_read : (f : LogFault) → fault_of_log f ≡ fault.Log log.Read → f ≡ log.Read
is_read log.Version h = absurd (cc)
is_read log.Header h = absurd (cc)
is_read (log.Line n) h = absurd (cc)
is_read log.Cut h = absurd (cc)
is_read log.Read h = refl
is_read log.Memory h = absurd (cc)
