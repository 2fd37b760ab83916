-- What a migration that met no trouble ended with is what its bytes say.
use Rattle.std.proofs.Common.{◌≡◌, ◌⊎◌, inl, inr, ℕ, List, [], ◌∷◌, refl, sym, ap, subst, Option, Some, None, Ok, Err, option_map}
use Rattle.std.specs.Prelude.{Result}
use Rattle.std.proofs.lemmas.Option.{same_Some}
use Rattle.bp_base.specs.Pieces.{Appends}
use Rattle.bp_log.specs.declared.record.Record.{Record}
use Rattle.bp_reading.specs.Heads.{Refusal, version, header, record_line, cut, header_at}
use Rattle.bp_reading.specs.Reading.{Stage, after, BeginsWith, Says}
use Rattle.bp_reader.specs.Gets.{refusal_of}
use Rattle.bp_reader.specs.declared.fault.LogFault.TheVariants as log
use Rattle.bp_migrate.specs.declared.fault.MigrateFault.{MigrateFault}
use Rattle.bp_migrate.specs.declared.fault.MigrateFault.TheVariants.{Log, Write, Memory}
use Rattle.bp_migrate.specs.Copies.{EndsAt}
use Rattle.bp_migrate.specs.Migrations.{Prints, HasNoHeader}
use Rattle.bp_migrate.specs.Laws.{IsTrouble}

-- how it ended, well or refused, unless it met trouble
abbrev pub end_of : Result (Unit {0}) MigrateFault → Option (Option Refusal)
end_of (Ok x) = Some None
end_of (Err (Log f)) = option_map (λ r. Some r) (refusal_of f)
end_of (Err Write) = None
end_of (Err Memory) = None

pub trouble_or_end : (x : Result (Unit {0}) MigrateFault) → IsTrouble x ⊎ ((e : Option Refusal) × (end_of x ≡ Some e))
trouble_or_end (Ok x) = inr (None, refl)
trouble_or_end (Err (Log log.Version)) = inr (Some version, refl)
trouble_or_end (Err (Log log.Header)) = inr (Some header, refl)
trouble_or_end (Err (Log (log.Line n))) = inr (Some (record_line n), refl)
trouble_or_end (Err (Log log.Cut)) = inr (Some cut, refl)
trouble_or_end (Err (Log log.Read)) = inl tt
trouble_or_end (Err (Log log.Memory)) = inl tt
trouble_or_end (Err Write) = inl tt
trouble_or_end (Err Memory) = inl tt

-- what ends so
abbrev pub ended_by : Option Refusal → Result (Unit {0}) MigrateFault
ended_by None = Ok tt
ended_by (Some version) = Err (Log log.Version)
ended_by (Some header) = Err (Log log.Header)
ended_by (Some (record_line n)) = Err (Log (log.Line n))
ended_by (Some cut) = Err (Log log.Cut)

pub told_by : (x : Result (Unit {0}) MigrateFault) (e : Option Refusal) → end_of x ≡ Some e → x ≡ ended_by e
told_by (Ok x) e h = ap ended_by (same_Some None e h)
told_by (Err (Log log.Version)) e h = ap ended_by (same_Some (Some version) e h)
told_by (Err (Log log.Header)) e h = ap ended_by (same_Some (Some header) e h)
told_by (Err (Log (log.Line n))) e h = ap ended_by (same_Some (Some (record_line n)) e h)
told_by (Err (Log log.Cut)) e h = ap ended_by (same_Some (Some cut) e h)
told_by (Err (Log log.Read)) e h = absurd (cc)
told_by (Err (Log log.Memory)) e h = absurd (cc)
told_by (Err Write) e h = absurd (cc)
told_by (Err Memory) e h = absurd (cc)

says_end : (s : Stage) (left : List ℕ) (x : Result (Unit {0}) MigrateFault) (e : Option Refusal) → end_of x ≡ Some e → EndsAt s left x → Says s left [] e
says_end s left (Ok x) e h k = subst (λ (z : Option Refusal). Says s left [] z) (same_Some None e h) k
says_end s left (Err (Log log.Version)) e h k = subst (λ (z : Option Refusal). Says s left [] z) (same_Some (Some version) e h) k
says_end s left (Err (Log log.Header)) e h k = subst (λ (z : Option Refusal). Says s left [] z) (same_Some (Some header) e h) k
says_end s left (Err (Log (log.Line n))) e h k = subst (λ (z : Option Refusal). Says s left [] z) (same_Some (Some (record_line n)) e h) k
says_end s left (Err (Log log.Cut)) e h k = subst (λ (z : Option Refusal). Says s left [] z) (same_Some (Some cut) e h) k
says_end s left (Err (Log log.Read)) e h k = absurd (cc)
says_end s left (Err (Log log.Memory)) e h k = absurd (cc)
says_end s left (Err Write) e h k = absurd (cc)
says_end s left (Err Memory) e h k = absurd (cc)

says_on : (rs : List Record) (s : Stage) (bytes : List ℕ) (t : Stage) (left : List ℕ) (e : Option Refusal) → BeginsWith s bytes rs t left → Says t left [] e → Says s bytes rs e
says_on [] s bytes t left e b h = subst (λ (x : Stage). Says x bytes [] e) b.0 (subst (λ (xs : List ℕ). Says t xs [] e) b.1 h)
says_on (r ∷ rs) s bytes t left e b h = (b.0, b.1, says_on rs (after s r) b.0 t left e b.2 h)

-- the bytes say the records that were read of them, and end as it did
pub says_all : (rs : List Record) (s : Stage) (bytes : List ℕ) (t : Stage) (left : List ℕ) (x : Result (Unit {0}) MigrateFault) (e : Option Refusal) → end_of x ≡ Some e → BeginsWith s bytes rs t left → EndsAt t left x → Says s bytes rs e
says_all rs s bytes t left x e h b k = says_on rs s bytes t left e b (says_end t left x e h k)

-- without trouble the whole text was written
pub prints_all : (x : Result (Unit {0}) MigrateFault) (e : Option Refusal) (before later : Option (List ℕ)) (text : List ℕ) → end_of x ≡ Some e → Prints x before text later → Appends before text later
prints_all (Ok x) e before later text h p = p
prints_all (Err (Log f)) e before later text h p = p
prints_all (Err Write) e before later text h p = absurd (cc)
prints_all (Err Memory) e before later text h p = absurd (cc)

-- where no header was read it was refused
pub refused_at : (bytes : List ℕ) (x : Result (Unit {0}) MigrateFault) (e : Option Refusal) → end_of x ≡ Some e → HasNoHeader bytes x → (r : Refusal) × (e ≡ Some r) × (header_at bytes ≡ Err r)
refused_at bytes (Ok x) e h n = absurd n
refused_at bytes (Err (Log log.Version)) e h n = (version, sym (same_Some (Some version) e h), n)
refused_at bytes (Err (Log log.Header)) e h n = (header, sym (same_Some (Some header) e h), n)
refused_at bytes (Err (Log (log.Line k))) e h n = (record_line k, sym (same_Some (Some (record_line k)) e h), n)
refused_at bytes (Err (Log log.Cut)) e h n = (cut, sym (same_Some (Some cut) e h), n)
refused_at bytes (Err (Log log.Read)) e h n = absurd (cc)
refused_at bytes (Err (Log log.Memory)) e h n = absurd (cc)
refused_at bytes (Err Write) e h n = absurd n
refused_at bytes (Err Memory) e h n = absurd (cc)
