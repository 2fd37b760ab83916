-- How a run ends, and what is held of its log.
use Rattle.std.proofs.Common.{◌≡◌, ℕ, zero, suc, ◌<◌, List, [], ◌∷◌, ◌++◌, length, refl, sym, ap, subst, ◌∙◌, arith, inl, inr, lit<, Option, Some, None}
use Rattle.std.specs.Prelude.{◌⊎◌, ◌-◌, ◌^◌, true, IfSome, IsSome, IsSomeAnd, is_some, option_map, slice_index_or}
use mathlib.Core.List.{IsPrefix}
use Rattle.bp_base.specs.Counts.{Rose}
use Rattle.bp_base.specs.Worlds.{Holdings, Sets, Keeps, IsMadeAs}
use Rattle.bp_base.specs.Pieces.{Appends, AppendsFront}
use Rattle.js_program.specs.PlainProgram.{PlainProgram}
use Rattle.bp_log.specs.Header.{PlainHeader}
use Rattle.bp_log.specs.Logs.{header_text, records_text, can_say, log_text}
use Rattle.bp_log.specs.declared.version.Version.{Version}
use Rattle.bp_log.specs.declared.version.Version.TheVariants.{Second}
use Rattle.bp_log.specs.Options.{PlainOptions}
use Rattle.bp_log.specs.Records.{verdict_of, is_complete}
use Rattle.bp_log.specs.declared.record.Record.{Record}
use Rattle.bp_log.specs.declared.verdict.Verdict.{Verdict}
use Rattle.bp_log.proofs.Complete.{verdict_complete}
use Rattle.bp_reading.specs.Laws.{IsHeader, AreRecords}
use Rattle.bp_run.specs.Story.{story}
use Rattle.bp_run.specs.Text.{text}
use Rattle.bp_run.proofs.Stories.{begins_alone, only_alone}
use Rattle.bp_code.specs.Code.{code_of, text_of, records_alone}
use Rattle.bp_script.specs.Programs.{IsProgram}
use Rattle.bp_told.specs.Logging.{LogGets, LogGetsFront, LogFails, LogStays}
use Rattle.bp_told.specs.Order.{PrintsBehind}
use Rattle.bp_told.proofs.Logging.{log_is}
use Rattle.bp_session.specs.Heard.{EachHeard}
use Rattle.bp_session.specs.Reports.{EndsAs, Wholly, Partly, BrokeAt}
use Rattle.bp_log.specs.Verdicts.{IsQuiet}
use Rattle.bp_session.specs.declared.report.Ending.{Ending}
use Rattle.bp_replay.specs.Laws.{Retells}
use Rattle.bp_replay.proofs.RunLogs.{logs_of_stories_replay}
use Rattle.bp_args.specs.declared.command.Run.{Run}
use Rattle.bp_cli.specs.declared.conclusion.Conclusion.{Conclusion}
use Rattle.bp_cli.specs.inner.Outcomes.{ended_of}
use Rattle.bp_cli.specs.Endings.{IsCaused}
use Rattle.bp_cli.specs.inner.Opening.{AreOpened, IsLogMade, IsLogNamed, IsLogHeld}
use Rattle.bp_cli.specs.Outside.{Outside, ReadFailed, WriteFailed}
use Rattle.bp_cli.specs.Runs.{Holds, HoldsBehind, KeepsLog, KeepsLogFront, TellsWhole, TellsPartly, RunEnds, IsRunOf, header_of}
use Rattle.bp_cli.proofs.Beginnings.{as_many, appended_front, beginning}
use Rattle.bp_cli.proofs.Injected.{Brought, brought, brought_to, breaks}

-- ---- counts

-- a count that rose from nothing is more than nothing
pub risen : (a b : ℕ) → a ≡ 0 → Rose a b → 0 < b
risen a b e (inl h) = omega (arith, e, h)
risen a b e (inr h) = let n : 0 < 2 ^ 64 - 1 = lit< tt in subst (λ (x : ℕ). 0 < x) (sym h) n

-- ---- stories

some_map : {A B : Type 0} (f : A → B) (o : Option A) → IsSome (option_map f o) → (x : A) × (o ≡ Some x)
some_map f None h = absurd (cc)
some_map f (Some x) h = (x, refl)

-- without injectors they are the first of the one run
pub begins_run : (program : PlainProgram) (o : PlainOptions) (records : List Record) → o.injectors ≡ 0 → IsSome (text_of program o records) → IsPrefix records (records_alone program o)
unfolding text
begins_run program o records i h =
    let s = some_map _ (story (code_of program o) o records) h in
    let b = begins_alone (code_of program o) o records s.0 i s.1 in
    (b.later, b.whole)

complete_at : (records : List Record) (v : Verdict) → verdict_of records ≡ Some v → is_complete records ≡ true
complete_at records v e = sym (verdict_complete records) ∙ ap (λ (o : Option Verdict). is_some o) e

-- and with a verdict they are all of it
pub is_run : (program : PlainProgram) (o : PlainOptions) (records : List Record) (v : Verdict) → o.injectors ≡ 0 → IsSome (text_of program o records) → verdict_of records ≡ Some v → records ≡ records_alone program o
unfolding text
is_run program o records v i h e =
    let s = some_map _ (story (code_of program o) o records) h in
    only_alone (code_of program o) o records s.0 i s.1 (complete_at records v e)

-- each replay of the log of a run tells the run
run_replays : (P : List ℕ → Type 0) (header : PlainHeader) (program : PlainProgram) (records : List Record) (v : Verdict) → IsHeader header → IsProgram header.program program → AreRecords records →
    verdict_of records ≡ Some v → (t : Option (List ℕ)) → text_of program header.options records ≡ t → IsSomeAnd t P → IsSomeAnd t (λ x. (version : Version) → can_say version header.options.wait ≡ true → Retells (log_text version header records) x v)
run_replays P header program records v is p are ended None e h = h
run_replays P header program records v is p are ended (Some t) e h = λ version says. logs_of_stories_replay version header program records t v says is p are e ended

-- ---- the log

-- an output to which the text was written is held under its name
held : (before : Option Holdings) (name content : List ℕ) (first written : Option (List ℕ)) (after : Option Holdings) → IfSome before (λ h. first ≡ Some []) → Appends first content written →
    Keeps before name written after → Holds before name content after
held None name content first written after e w k = tt
held (Some h) name content first written after e w k =
    let told : written ≡ Some content = subst (λ (f : Option (List ℕ)). Appends f content written) e w in
    subst (λ (x : Option (List ℕ)). IfSome x (λ bytes. IsSomeAnd after (λ holds. Sets h name bytes holds))) told k

module _ {L : Type 0} (written made_as : L → Option (List ℕ)) (faults : L → ℕ) where
  log_whole : (name : Option (List ℕ)) (before after : Option Holdings) (first last : Option L) (content : List ℕ) → IsLogMade written made_as faults before name first → LogGets written first content last →
      IsLogHeld written before name last after → KeepsLog name before content after
  log_whole None before after None None content m g h = h
  log_whole None before after None (Some l) content m g h = absurd g
  log_whole None before after (Some f) last content m g h = absurd m
  log_whole (Some name) before after None last content m g h = absurd m
  log_whole (Some name) before after (Some f) None content m g h = absurd g
  log_whole (Some name) before after (Some f) (Some l) content m g h = held before name content (written f) (written l) after m.0 g h

  module _ (header : PlainHeader) (program : PlainProgram) (records : List Record) (before after : Outside) where
    held_behind : (name : List ℕ) (f l : L) → IfSome before.holds (λ h. written f ≡ Some []) →
        PrintsBehind written (text_of program header.options) (header_text Second header) records before.printed after.printed (Some f) (Some l) → Keeps before.holds name (written l) after.holds →
        (after.printed ≡ before.printed) ⊎ HoldsBehind name header program records before after
    held_behind name f l e (inl s) k = inl s
    held_behind name f l e (inr b) k =
        inr (record {
          first = b.records;
          later = b.later;
          is_front = b.is_front;
          more = b.logged.0;
          kept = subst (λ (t : List ℕ). Holds before.holds name (t ++ b.logged.0) after.holds) (sym (log_is Second header b.records))
              (held before.holds name ((header_text Second header ++ records_text b.records) ++ b.logged.0) (written f) (written l) after.holds e b.logged.1 k);
          printed = b.printed;
        })

    log_partly : (name : Option (List ℕ)) (first last : Option L) → IsLogMade written made_as faults before.holds name first → LogGetsFront written first (header_text Second header ++ records_text records) last →
        PrintsBehind written (text_of program header.options) (header_text Second header) records before.printed after.printed first last → IsLogHeld written before.holds name last after.holds →
        KeepsLogFront name header program records before after
    log_partly None None None m g b h = h
    log_partly None None (Some l) m g b h = absurd g
    log_partly None (Some f) last m g b h = absurd m
    log_partly (Some name) None last m g b h = absurd m
    log_partly (Some name) (Some f) None m g b h = absurd g
    log_partly (Some name) (Some f) (Some l) m g b h =
        inr ((g.0, g.1, log_is Second header records ∙ g.2, held before.holds name g.0 (written f) (written l) after.holds m.0 g.3 h), held_behind name f l m.0 b h)

  -- no write changes the name of a log
  pub still_named : (holds : Option Holdings) (name : Option (List ℕ)) (first last : Option L) → IsLogMade written made_as faults holds name first → LogStays made_as faults first last → IsLogNamed made_as name last
  still_named holds None None None m s = tt
  still_named holds None None (Some l) m s = absurd s
  still_named holds None (Some f) last m s = absurd m
  still_named holds (Some name) None last m s = absurd m
  still_named holds (Some name) (Some f) None m s = absurd s
  still_named holds (Some name) (Some f) (Some l) m s = subst (λ (x : Option (List ℕ)). IsMadeAs x name) (sym s.0) m.1

  -- a log that failed has a count of faults
  pub log_failed : (holds : Option Holdings) (name : Option (List ℕ)) (first last : Option L) (P : Type 0) → IsLogMade written made_as faults holds name first → LogFails faults first last → IfSome last (λ l. 0 < faults l → P) → P
  log_failed holds name None last P m f r = absurd f
  log_failed holds name (Some l) None P m f r = absurd f
  log_failed holds None (Some f) (Some l) P m h r = absurd m
  log_failed holds (Some name) (Some f) (Some l) P m h r = r (risen (faults f) (faults l) m.2 h)

-- ---- how a run ends

module _ {K L S : Type 0} (written made_as : L → Option (List ℕ)) (log_faults : L → ℕ) (print_faults : K → ℕ) (left : S → Option (List ℕ)) (faults : S → ℕ) where
  -- a session ran the program over these inputs and this log, which were opened before and closed again
  pub record Served (header : PlainHeader) (asked : Run) (bytes : List ℕ) (program : PlainProgram) (records : List Record) (end : Ending) (sources back : List S) (k m : K) (first last : Option L) (before after : Outside) : Type 0 where
    pub is_header : IsHeader header
    pub is_program : IsProgram bytes program
    pub are_records : AreRecords records
    pub counted : asked.options.injectors ≡ length asked.injectors
    pub opened : AreOpened left faults before.holds asked.injectors sources
    pub made : IsLogMade written made_as log_faults before.holds asked.log first
    pub story : IsSome (text_of program header.options records)
    pub heard : EachHeard left sources back records
    pub ends : EndsAs written log_faults print_faults (code_of program header.options) header.options (header_text Second header) k m (record { printed = before.printed; log = first }) (record { printed = after.printed; log = last }) left faults sources back records end
    pub behind : PrintsBehind written (text_of program header.options) (header_text Second header) records before.printed after.printed first last
    pub held : IsLogHeld written before.holds asked.log last after.holds

  module _ (asked : Run) (bytes : List ℕ) (program : PlainProgram) (records : List Record) (sources back : List S) (k m : K) (first last : Option L) (before after : Outside) where
    none : (end : Ending) → Served (header_of asked bytes) asked bytes program records end sources back k m first last before after → asked.injectors ≡ [] → asked.options.injectors ≡ 0
    none end s e = s.counted ∙ ap (λ (xs : List (List ℕ)). length xs) e

    wholly : (end : Ending) → Served (header_of asked bytes) asked bytes program records end sources back k m first last before after →
        Wholly written (text_of program asked.options) (header_text Second (header_of asked bytes)) records (record { printed = before.printed; log = first }) (record { printed = after.printed; log = last }) →
        TellsWhole asked bytes program records before after
    wholly end s w = record {
      prints = w.prints;
      keeps = subst (λ (t : List ℕ). KeepsLog asked.log before.holds t after.holds) (sym (log_is Second (header_of asked bytes) records))
          (log_whole written made_as log_faults asked.log before.holds after.holds first last (header_text Second (header_of asked bytes) ++ records_text records) s.made w.logs s.held);
    }

    partly : (end : Ending) → Served (header_of asked bytes) asked bytes program records end sources back k m first last before after →
        Partly written (text_of program asked.options) (header_text Second (header_of asked bytes)) records (record { printed = before.printed; log = first }) (record { printed = after.printed; log = last }) →
        TellsPartly asked bytes program records before after
    partly end s w = record {
      prints = w.prints;
      keeps = log_partly written made_as log_faults (header_of asked bytes) program records before after asked.log first last s.made w.logs s.behind s.held;
    }

    whole_front : (end : Ending) → Served (header_of asked bytes) asked bytes program records end sources back k m first last before after →
        Wholly written (text_of program asked.options) (header_text Second (header_of asked bytes)) records (record { printed = before.printed; log = first }) (record { printed = after.printed; log = last }) →
        IsSomeAnd (text_of program asked.options records) (λ t. AppendsFront before.printed t after.printed)
    whole_front end s w = appended_front (text_of program asked.options records) before.printed after.printed w.prints

    run_of : (end : Ending) (c : Conclusion) (Q : Type 0) (s : Served (header_of asked bytes) asked bytes program records end sources back k m first last before after) (b : Brought left faults before.holds asked.injectors records Q) →
        IsSomeAnd (text_of program asked.options records) (λ t. AppendsFront before.printed t after.printed) → RunEnds asked bytes program records before after b.inputs c → IsRunOf asked bytes records before after c
    run_of end c Q s b p e = record {
      program = program;
      is_program = s.is_program;
      inputs = b.inputs;
      under = b.under;
      merge = b.merge;
      alone = λ n. begins_run program asked.options records (none end s n) s.story;
      begins = beginning asked program records b.inputs before after (as_many before.holds asked.injectors b.inputs b.under ∙ sym s.counted) b.merge p;
      ends = e;
    }

    -- the run that came of it
    ran_under : (end : Ending) → Served (header_of asked bytes) asked bytes program records end sources back k m first last before after → IsRunOf asked bytes records before after (ended_of end)
    ran_under (Ending.Verdict v) s =
        let b = brought_to left faults before.holds v asked.options.wait asked.injectors sources back records s.opened s.heard (λ waits quiet. (s.ends.2 waits quiet).0) in
        run_of (Ending.Verdict v) (ended_of (Ending.Verdict v)) ((asked.options.wait ≡ true) × IsQuiet v) s b (whole_front (Ending.Verdict v) s s.ends.1) (record {
          verdict = s.ends.0;
          told = wholly (Ending.Verdict v) s s.ends.1;
          one_run = λ n. is_run program asked.options records v (none (Ending.Verdict v) s n) s.story s.ends.0;
          whole = λ waits quiet. b.whole (waits, quiet);
          replays = run_replays (λ t. Appends before.printed t after.printed) (header_of asked bytes) program records v s.is_header s.is_program s.are_records s.ends.0 (text_of program asked.options records) refl s.ends.1.prints;
        })
    ran_under (Ending.Read j) s =
        let b = brought left faults before.holds asked.injectors sources back records s.opened s.heard in
        run_of (Ending.Read j) (ended_of (Ending.Read j)) ⊥ s b (whole_front (Ending.Read j) s s.ends.1) (s.ends.0, wholly (Ending.Read j) s s.ends.1, breaks left faults before.holds asked.injectors sources back records j b.inputs s.opened b.under s.ends.2, s.ends.3)
    ran_under Ending.Write s = run_of Ending.Write (ended_of Ending.Write) ⊥ s (brought left faults before.holds asked.injectors sources back records s.opened s.heard) s.ends.0.prints (partly Ending.Write s s.ends.0)
    ran_under Ending.LogWrite s = run_of Ending.LogWrite (ended_of Ending.LogWrite) ⊥ s (brought left faults before.holds asked.injectors sources back records s.opened s.heard) s.ends.0.prints (partly Ending.LogWrite s s.ends.0)
    ran_under Ending.Memory s = run_of Ending.Memory (ended_of Ending.Memory) ⊥ s (brought left faults before.holds asked.injectors sources back records s.opened s.heard) s.ends.prints (partly Ending.Memory s s.ends)

    pub ran : (header : PlainHeader) (end : Ending) (c : Conclusion) → header ≡ header_of asked bytes → c ≡ ended_of end → Served header asked bytes program records end sources back k m first last before after → IsRunOf asked bytes records before after c
    ran header end c e n s =
        subst (λ (x : Conclusion). IsRunOf asked bytes records before after x) (sym n)
        (ran_under end (subst (λ (h : PlainHeader). Served h asked bytes program records end sources back k m first last before after) e s))

-- ---- causes

module _ {S : Type 0} (left : S → Option (List ℕ)) (faults : S → ℕ) where
  -- as many inputs are opened as there are names
  pub opened_many : (holds : Option Holdings) (names : List (List ℕ)) (sources : List S) → AreOpened left faults holds names sources → length sources ≡ length names
  opened_many holds [] [] o = refl
  opened_many holds (name ∷ names) [] o = absurd o
  opened_many holds [] (s ∷ ss) o = absurd o
  opened_many holds (name ∷ names) (s ∷ ss) o = let n = opened_many holds names ss o.1 in omega (arith, n)

  fresh_at : (holds : Option Holdings) (names : List (List ℕ)) (sources : List S) (j : ℕ) (d : S) → AreOpened left faults holds names sources → j < length sources → faults (slice_index_or sources j d) ≡ 0
  fresh_at holds names [] j d o l = absurd (omega (arith, l))
  fresh_at holds [] (s ∷ ss) j d o l = absurd o
  fresh_at holds (name ∷ names) (s ∷ ss) zero d o l = o.0.1
  fresh_at holds (name ∷ names) (s ∷ ss) (suc j) d o l = fresh_at holds names ss j d o.1 (omega (arith, l))

  -- an input that failed has a count of faults
  pub input_failed : (holds : Option Holdings) (names : List (List ℕ)) (sources back : List S) (records : List Record) (j : ℕ) (P : Type 0) → AreOpened left faults holds names sources → length back ≡ length sources →
      BrokeAt left faults sources back records j → ((k : ℕ) (d : S) → k < length back → 0 < faults (slice_index_or back k d) → P) → P
  input_failed holds names [] back records j P o n b r = absurd (let t = b.there in omega (arith, t))
  input_failed holds names (s ∷ ss) back records j P o n b r =
      let t = b.there in
      r j s (omega (arith, n, t)) (risen (faults (slice_index_or (s ∷ ss) j s)) (faults (slice_index_or back j s)) (fresh_at holds names (s ∷ ss) j s o t) (b.rose s))

module _ {K L S : Type 0} (written : L → Option (List ℕ)) (log_faults : L → ℕ) (print_faults : K → ℕ) (left : S → Option (List ℕ)) (faults : S → ℕ) where
  -- a failure of a run has its cause
  pub run_caused : (program : PlainProgram) (header : PlainHeader) (records : List Record) (sources back : List S) (k m : K) (printed printed_then : Option (List ℕ)) (first last : Option L) (before after : Outside) (end : Ending) →
      EndsAs written log_faults print_faults (code_of program header.options) header.options (header_text Second header) k m (record { printed = printed; log = first }) (record { printed = printed_then; log = last }) left faults sources back records end →
      ((j : ℕ) → BrokeAt left faults sources back records j → ReadFailed before after) → (Rose (print_faults k) (print_faults m) → WriteFailed before after) → (LogFails log_faults first last → WriteFailed before after) →
      IsCaused before after (ended_of end)
  run_caused program header records sources back k m printed printed_then first last before after (Ending.Verdict v) e r w l = tt
  run_caused program header records sources back k m printed printed_then first last before after (Ending.Read j) e r w l = r j e.2
  run_caused program header records sources back k m printed printed_then first last before after Ending.Write e r w l = w e.1
  run_caused program header records sources back k m printed printed_then first last before after Ending.LogWrite e r w l = l e.1
  run_caused program header records sources back k m printed printed_then first last before after Ending.Memory e r w l = tt
