-- How the command ends that migrates a log.
use Rattle.std.proofs.Common.{◌≡◌, ℕ, List, [], refl, sym, subst, inl, inr}
use Rattle.std.specs.Prelude.{Option, Some, Result, Ok, Err, IsErrOf}
use Rattle.bp_base.specs.Pieces.{AppendsFront}
use Rattle.bp_base.specs.declared.outside.WorldError.{WorldError}
use Rattle.bp_reader.specs.declared.fault.LogFault.{LogFault}
use Rattle.bp_reader.specs.declared.fault.LogFault.TheVariants as log_fault
use Rattle.bp_migrate.specs.declared.fault.MigrateFault.{MigrateFault}
use Rattle.bp_migrate.specs.declared.fault.MigrateFault.TheVariants.{Log, Write, Memory}
use Rattle.bp_migrate.specs.Laws.{IsTrouble, IsSomeLog}
use Rattle.bp_migrate.specs.Migrations.{Prints, IsMigration}
use Rattle.bp_migrate.proofs.LogsMigrate.{logs_migrate, only_logs_migrate}
use Rattle.bp_args.specs.declared.command.Command.TheVariants as command
use Rattle.bp_cli.specs.declared.conclusion.Conclusion.{Conclusion}
use Rattle.bp_cli.specs.declared.conclusion.Conclusion.TheVariants.{NoMemory}
use Rattle.bp_cli.specs.Outside.{Outside, ReadFailed, WriteFailed, IsAsBefore}
use Rattle.bp_cli.specs.inner.Outcomes.{unopened_of}
use Rattle.bp_cli.specs.Endings.{IsCaused, EndsIn}
use Rattle.bp_cli.specs.Migrating.{MigratesTo, IsJudged, migrated_of}
use Rattle.bp_cli.proofs.Replays.{front_of, told_under}

prints_partly : (ended : Result (Unit {0}) MigrateFault) (b : Option (List ℕ)) (t : List ℕ) (a : Option (List ℕ)) → Prints ended b t a → AppendsFront b t a
prints_partly (Ok x) b t a p = front_of b a t p
prints_partly (Err (Log fault)) b t a p = front_of b a t p
prints_partly (Err Write) b t a p = p
prints_partly (Err Memory) b t a p = p

migrates_partly : (bytes : List ℕ) (b a : Option (List ℕ)) (ended : Result (Unit {0}) MigrateFault) → IsMigration bytes b a ended → IsMigration bytes b a (Err Memory)
migrates_partly bytes b a ended (inl h) = inl (tt, h.1)
migrates_partly bytes b a ended (inr m) =
    let c = m.behind in
    inr (record {
      version = m.version;
      header = m.header;
      rest = m.rest;
      header_is = m.header_is;
      behind = record {
        records = c.records;
        stage = c.stage;
        left = c.left;
        begins = c.begins;
        ends = tt;
        prints = prints_partly ended b _ a c.prints;
      };
    })

-- however it ended, memory may run out for the note
pub migration_partly : (name : List ℕ) (before after : Outside) (c : Conclusion) → MigratesTo name before after c → MigratesTo name before after NoMemory
migration_partly name before after c m =
    record {
      ended = Err Memory;
      is_conclusion = refl;
      ends = told_under name before.holds _ _ (λ bytes h. (migrates_partly bytes before.printed after.printed m.ended h.0, tt)) m.ends;
      holds = m.holds;
    }

caused_by : (ended : Result (Unit {0}) MigrateFault) (before after : Outside) → (IsErrOf ended (Log log_fault.Read) → ReadFailed before after) → (IsErrOf ended Write → WriteFailed before after) → IsCaused before after (migrated_of ended)
caused_by (Err (Log log_fault.Read)) before after r w = r refl
caused_by (Err Write) before after r w = w refl
caused_by _ before after r w = tt

-- a failure of a migration has its cause
pub caused : (ended : Result (Unit {0}) MigrateFault) (c : Conclusion) (before after : Outside) → c ≡ migrated_of ended → (IsErrOf ended (Log log_fault.Read) → ReadFailed before after) → (IsErrOf ended Write → WriteFailed before after) → IsCaused before after c
caused ended c before after e r w = subst (λ (x : Conclusion). IsCaused before after x) (sym e) (caused_by ended before after r w)

-- what was refused is not a log
no_log : (bytes : List ℕ) (b a : Option (List ℕ)) (f : LogFault) → (IsTrouble (Err (Log f)) → ⊥) → IsMigration bytes b a (Err (Log f)) → IsSomeLog bytes → ⊥
no_log bytes b a f none h l = elim (logs_migrate l.version bytes l.header l.records b a (Err (Log f)) l.log h) [
  | inl trouble ↦ none trouble
  | inr ended ↦ let e = ended.0 in cc
]

judged_by : (bytes : List ℕ) (b a : Option (List ℕ)) (ended : Result (Unit {0}) MigrateFault) → IsMigration bytes b a ended → IsJudged bytes (migrated_of ended)
judged_by bytes b a (Ok x) h = (only_logs_migrate bytes b a h).0
judged_by bytes b a (Err (Log log_fault.Version)) h = no_log bytes b a log_fault.Version (λ t. t) h
judged_by bytes b a (Err (Log log_fault.Header)) h = no_log bytes b a log_fault.Header (λ t. t) h
judged_by bytes b a (Err (Log (log_fault.Line n))) h = no_log bytes b a (log_fault.Line n) (λ t. t) h
judged_by bytes b a (Err (Log log_fault.Cut)) h = no_log bytes b a log_fault.Cut (λ t. t) h
judged_by bytes b a (Err (Log log_fault.Read)) h = tt
judged_by bytes b a (Err (Log log_fault.Memory)) h = tt
judged_by bytes b a (Err Write) h = tt
judged_by bytes b a (Err Memory) h = tt

-- the bytes are a log where that is concluded, and none where it is concluded that they are none
pub judged : (bytes : List ℕ) (b a : Option (List ℕ)) (ended : Result (Unit {0}) MigrateFault) (c : Conclusion) → c ≡ migrated_of ended → IsMigration bytes b a ended → IsMigration bytes b a ended × IsJudged bytes c
judged bytes b a ended c e h = (h, subst (λ (x : Conclusion). IsJudged bytes x) (sym e) (judged_by bytes b a ended h))

-- the log was not opened
pub unopened : (log : List ℕ) (error : WorldError) (c : Conclusion) (before after : Outside) → c ≡ unopened_of error → (error ≡ WorldError.Failed → ReadFailed before after) → IsAsBefore before after → EndsIn (Some (command.Migrate log)) [] before after c
unopened log WorldError.Failed c before after e k same = subst (λ (x : Conclusion). EndsIn (Some (command.Migrate log)) [] before after x) (sym e) (k refl, inl (inl refl, (same, refl)))
unopened log WorldError.Memory c before after e k same = subst (λ (x : Conclusion). EndsIn (Some (command.Migrate log)) [] before after x) (sym e) (tt, inl (inr refl, (same, refl)))
