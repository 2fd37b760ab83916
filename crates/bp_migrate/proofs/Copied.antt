-- What a migration writes is read as the header and the records that it read, and says no more.
use Rattle.std.proofs.Common.{◌≡◌, ◌∙◌, ℕ, ◌+◌, ◌≤◌, Bool, true, false, List, [], ◌∷◌, ◌++◌, length, Some, Ok, Err, refl, sym, ap, subst, append_assoc, inl, inr, nat_le, if◌then◌else◌, lit<, lit≤}
use Rattle.std.specs.Fmt.{digits}
use Rattle.std.proofs.lemmas.List.{append_cancel_right}
use Rattle.bp_log.specs.Header.{PlainHeader}
use Rattle.bp_log.specs.Logs.{record_text, records_text, header_text, log_text}
use Rattle.bp_log.specs.declared.version.Version.{Version}
use Rattle.bp_log.specs.declared.version.Version.TheVariants.{Second}
use Rattle.bp_log.specs.declared.record.Record.{Record}
use Rattle.bp_log.specs.declared.record.Record.TheVariants.{In, Bad, Eof, Sel, End}
use Rattle.bp_log.specs.declared.verdict.Verdict.TheVariants as verdict
use Rattle.bp_reading.specs.declared.limits.TheConstants.{MOST_LINE_BYTES, MOST_RECORDS}
use Rattle.bp_reading.specs.Heads.{Front, cut, header_at, line_at, line_room, record_line, version_at}
use Rattle.bp_reading.specs.Reading.{Stage, BeginsWith, after, behind_end, can_stand, finished, first_stage, found, front_at, next_at, next_of, refused, too_many}
use Rattle.bp_reading.specs.Laws.{IsHeader, AreRecords, Stands}
use Rattle.bp_reading.proofs.Again.{chosen, record_again}
use Rattle.bp_reading.proofs.Fits.{found_line}
use Rattle.bp_reading.proofs.Fronts.{header_fronts, none_going, none_over}
use Rattle.bp_reading.proofs.Law.{regrouped}
use Rattle.bp_reading.proofs.OneWay.{finished_unrefused, one_refusal}
use Rattle.bp_reading.proofs.Ranges.{record_low}
use Rattle.bp_reading.proofs.Told.{front_finished, goes_on}
use Rattle.bp_reading.proofs.Whole.{logs_are_read, next_back}

-- ---- the header

-- a log of nothing but its end
abbrev only_end : List Record
only_end = End (verdict.Quiet 0) ∷ []

short_end : length (record_text (End (verdict.Quiet 0))) ≤ MOST_LINE_BYTES
unfolding record_text digits
short_end = lit≤ tt

end_stands : (n : ℕ) → Stands (first_stage Second n) only_end
end_stands n = (refl, lit< tt, refl, short_end, refl)

end_is_record : AreRecords only_end
end_is_record = (lit< tt, tt)

-- whatever records stand behind it
pub header_copied : (h : PlainHeader) (rs : List Record) → IsHeader h → header_at (log_text Second h rs) ≡ Ok ((Second, h), records_text rs)
unfolding log_text
header_copied h rs k =
    let read = logs_are_read Second h only_end k end_is_record refl (end_stands h.options.injectors) in
    let f = header_fronts (log_text Second h only_end) ((Second, h), records_text only_end) read.0 in
    let front : header_text Second h ≡ f.0 = append_cancel_right (header_text Second h) f.0 (records_text only_end) f.1 in
    ap header_at (ap (λ (x : List ℕ). x ++ records_text rs) front) ∙ f.2 (records_text rs)

-- ---- the records

-- the same of a log of this version
abbrev pub as_of : Version → Stage → Stage
as_of v s = record s { version = v }

after_as : (v : Version) (s : Stage) (r : Record) → after (as_of v s) r ≡ as_of v (after s r)
after_as v s (In j e) = refl
after_as v s (Bad j line) = refl
after_as v s (Eof j) = refl
after_as v s (Sel e) = refl
after_as v s (End w) = refl

stands_as : (v : Version) (s : Stage) (r : Record) → can_stand (as_of v s) r ≡ can_stand s r
stands_as v s (In j e) = refl
stands_as v s (Bad j line) = refl
stands_as v s (Eof j) = refl
stands_as v s (Sel e) = refl
stands_as v s (End (verdict.Bad j line)) = refl
stands_as v s (End _) = refl

-- a record that was found is found again in its text, in a log of each version
pub found_as : (v : Version) (s : Stage) (bytes rest : List ℕ) (r : Record) (more : List ℕ) → next_at s bytes ≡ found r rest → next_at (as_of v s) (record_text r ++ 10 ∷ more) ≡ found r more
found_as v s bytes rest r more h =
    let p = found_line s bytes rest r h in
    let short = subst (λ (l : List ℕ). length l ≤ MOST_LINE_BYTES) (record_again p.0 r p.2) p.1.short in
    next_back (as_of v s) r more (record_low p.0 r p.2) p.1.going p.1.few (stands_as v s r ∙ p.3) short

text_on : (r : Record) (rs : List Record) (more : List ℕ) → records_text (r ∷ rs) ++ more ≡ record_text r ++ 10 ∷ (records_text rs ++ more)
text_on r rs more = ap (λ (x : List ℕ). x ++ more) (regrouped r rs) ∙ append_assoc (record_text r) (10 ∷ records_text rs) more

-- so the text of records that were read begins with them, whatever follows
pub records_copied : (v : Version) (rs : List Record) (s t : Stage) (bytes left more : List ℕ) → BeginsWith s bytes rs t left → BeginsWith (as_of v s) (records_text rs ++ more) rs (as_of v t) more
unfolding records_text
records_copied v [] s t bytes left more b = (ap (as_of v) b.0, refl)
records_copied v (r ∷ rs) s t bytes left more b =
    let later = records_copied v rs (after s r) t b.0 left more b.2 in (
      records_text rs ++ more,
      ap (next_at (as_of v s)) (text_on r rs more) ∙ found_as v s bytes b.0 r (records_text rs ++ more) b.1,
      subst (λ (x : Stage). BeginsWith x (records_text rs ++ more) rs (as_of v t) more) (sym (after_as v s r)) later,
    )

-- ---- the end

over_at : (s : Stage) (bytes : List ℕ) → next_at s bytes ≡ finished → s.ended ≡ true
unfolding next_at
over_at s bytes h = elim (chosen s.ended _ _ _ (front_finished s (front_at s bytes) h)) [
  | inl over ↦ over.0
  | inr going ↦ absurd (goes_on s bytes going.1)
]

-- a log that is cut has no end
not_over : (ended : Bool) (s : Stage) (bytes : List ℕ) (front : Front) → next_of s (if ended then behind_end bytes else front) ≡ refused cut → ended ≡ false
not_over false s bytes front h = refl
not_over true s [] front h = absurd (finished_unrefused finished cut refl h)
not_over true s (b ∷ bytes) front h = let e : Some (record_line (s.lines + 1)) ≡ Some cut = one_refusal (refused (record_line (s.lines + 1))) (record_line (s.lines + 1)) cut refl h in absurd (cc)

going_at : (s : Stage) (bytes : List ℕ) → next_at s bytes ≡ refused cut → s.ended ≡ false
unfolding next_at
going_at s bytes h = not_over s.ended s bytes (if nat_le MOST_RECORDS s.lines then too_many bytes else line_at (line_room s.version) bytes) h

-- where nothing follows, a log of each version ends as it did
pub finished_as : (v : Version) (s : Stage) (bytes : List ℕ) → next_at s bytes ≡ finished → next_at (as_of v s) [] ≡ finished
finished_as v s bytes h = none_over (as_of v s) (over_at s bytes h)

pub cut_as : (v : Version) (s : Stage) (bytes : List ℕ) → next_at s bytes ≡ refused cut → next_at (as_of v s) [] ≡ refused cut
cut_as v s bytes h = none_going (as_of v s) (going_at s bytes h)

-- no bytes are a log that is cut
pub nothing_cut : header_at [] ≡ Err cut
unfolding header_at version_at
nothing_cut = refl
