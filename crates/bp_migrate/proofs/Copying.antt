-- The records of a log, copied one by one.
use Rattle.std.proofs.Common.{◌≡◌, ◌∙◌, ℕ, Bool, true, false, List, [], ◌∷◌, ◌++◌, refl, sym, ap, subst, append_assoc, append-nil, Option, Some, None, Ok, Err, IsSomeAnd}
use Rattle.std.specs.Prelude.{IfSome, Result}
use Rattle.bp_base.specs.Pieces.{AppendsFront}
use Rattle.bp_log.specs.Logs.{whole_record, records_text}
use Rattle.bp_log.specs.declared.record.Record.{Record}
use Rattle.bp_reading.specs.Reading.{Stage, BeginsWith, BreaksOff, next_at, after}
use Rattle.bp_reading.proofs.Fronts.{begins_on, begins_front, none_going, none_over}
use Rattle.bp_reader.specs.Fed.{Between}
use Rattle.bp_reader.specs.Reads.{Standing, Tells}
use Rattle.bp_reader.specs.declared.fault.LogFault.TheVariants as log
use Rattle.bp_told.specs.Pages.{Shows, ShowsFront}
use Rattle.bp_told.proofs.Pieces.{shows_page, shows_part, shows_on, front_on, records_none, records_text-append}
use Rattle.bp_migrate.specs.declared.fault.MigrateFault.{MigrateFault}
use Rattle.bp_migrate.specs.declared.fault.MigrateFault.TheVariants as fault
use Rattle.bp_migrate.specs.Copies.{EndsAt, Shown, Copies, IsAtItsEnd, CopiesTaken}

-- ---- what was read

-- what a source tells of the bytes was read so far
abbrev Reached : Stage → Option (List ℕ) → List Record → Stage → Option (List ℕ) → Type 0
Reached first rest records s left = IfSome rest (λ bytes. IsSomeAnd left (λ more. BeginsWith first bytes records s more))

reached_first : (first : Stage) (rest : Option (List ℕ)) → Reached first rest [] first rest
reached_first first None = tt
reached_first first (Some bytes) = (refl, refl)

reached_on : (first : Stage) (rest left then : Option (List ℕ)) (records : List Record) (s t : Stage) (r : Record) → Reached first rest records s left →
    IfSome left (λ bytes. Tells (Ok (Some r)) (next_at s bytes) then) → t ≡ after s r → Reached first rest (records ++ r ∷ []) t then
reached_on first None left then records s t r w h e = tt
reached_on first (Some bytes) None then records s t r w h e = absurd w
reached_on first (Some bytes) (Some more) None records s t r w h e = absurd h
reached_on first (Some bytes) (Some more) (Some behind) records s t r w h e =
    subst (λ (x : Stage). BeginsWith first bytes (records ++ r ∷ []) x behind) (sym e) (begins_on first bytes records s more r behind w h)

-- ---- what was shown

one_record : (r : Record) → records_text (r ∷ []) ≡ whole_record r
unfolding records_text
one_record r = append-nil (whole_record r)

-- one more record stands after the others
text_on : (page : List ℕ) (records : List Record) (r : Record) → page ++ records_text (records ++ r ∷ []) ≡ (page ++ records_text records) ++ whole_record r
text_on page records r =
    ap (λ (x : List ℕ). page ++ x) (records_text-append records (r ∷ []) ∙ ap (λ (x : List ℕ). records_text records ++ x) (one_record r))
    ∙ sym (append_assoc page (records_text records) (whole_record r))

text_part : (page : List ℕ) (records : List Record) (r : Record) → page ++ records_text (records ++ r ∷ []) ≡ (page ++ records_text records) ++ (whole_record r ++ [])
text_part page records r = text_on page records r ∙ ap (λ (x : List ℕ). (page ++ records_text records) ++ x) (sym (append-nil (whole_record r)))

shows_first : (page : List ℕ) (before : Option (List ℕ)) → Shows before (page ++ records_text []) page before
shows_first page before = subst (λ (t : List ℕ). Shows before t page before) (sym (ap (λ (t : List ℕ). page ++ t) records_none ∙ append-nil page)) (shows_page before page)

-- ---- the loop

-- so far the records were read and put on the page
pub record Along (old : Standing) (start : List ℕ) (before : Option (List ℕ)) (reader : Standing) (page : List ℕ) (now : Option (List ℕ)) : Type 0 where
  pub records : List Record
  pub fresh : reader.refusal ≡ None
  pub reached : Reached old.stage old.left records reader.stage reader.left
  pub shows : Shows before (start ++ records_text records) page now

pub along_first : (old : Standing) (start : List ℕ) (before : Option (List ℕ)) → old.refusal ≡ None → Along old start before old start before
along_first old start before f =
    record { records = []; fresh = f; reached = reached_first old.stage old.left; shows = shows_first start before }

module _ (old : Standing) (start : List ℕ) (before : Option (List ℕ)) (reader : Standing) (page : List ℕ) (now : Option (List ℕ)) (a : Along old start before reader page now) where
  -- what was taken before a read failed, as a log that ends there
  pub copies_taken : (then : Option (List ℕ)) → Between reader.left then (BreaksOff reader.stage) → Between old.left then (λ bytes rest. CopiesTaken old.stage bytes rest start before page now)
  copies_taken then b = at old.left reader.left then a.reached b
    where
      taken : (ended : Result (Unit {0}) MigrateFault) → IsAtItsEnd ended → Shown ended before (start ++ records_text a.records) page now → (bytes l more : List ℕ) → BeginsWith old.stage bytes a.records reader.stage l → BreaksOff reader.stage l more →
          ((part : List ℕ) → next_at reader.stage part ≡ next_at reader.stage [] → EndsAt reader.stage part ended) → CopiesTaken old.stage bytes more start before page now
      taken ended end shown bytes l more w c ends =
          let f = begins_front a.records old.stage bytes reader.stage l c.0 more w c.1 in
          record {
            taken = f.0;
            is_front = f.1;
            ended = ended;
            at_end = end;
            copies = record { records = a.records; stage = reader.stage; left = c.0; begins = f.2; ends = ends c.0 c.2; shown = shown };
          }

      by_end : (over : Bool) → reader.stage.ended ≡ over → (bytes l more : List ℕ) → BeginsWith old.stage bytes a.records reader.stage l → BreaksOff reader.stage l more → CopiesTaken old.stage bytes more start before page now
      by_end true e bytes l more w c = taken (Ok tt) tt a.shows bytes l more w c (λ part h. h ∙ none_over reader.stage e)
      by_end false e bytes l more w c = taken (Err (fault.Log log.Cut)) tt a.shows bytes l more w c (λ part h. h ∙ none_going reader.stage e)

      at : (rest left then : Option (List ℕ)) → Reached old.stage rest a.records reader.stage left → Between left then (BreaksOff reader.stage) → Between rest then (λ bytes more. CopiesTaken old.stage bytes more start before page now)
      at None left then w c = tt
      at (Some bytes) None then w c = absurd w
      at (Some bytes) (Some l) None w c = absurd c
      at (Some bytes) (Some l) (Some more) w c = by_end reader.stage.ended refl bytes l more w c

  -- ---- one more record

  module _ (next : Standing) (r : Record) (tells : IfSome reader.left (λ bytes. Tells (Ok (Some r)) (next_at reader.stage bytes) next.left)) (stage : next.stage ≡ after reader.stage r) where
    reached_next : Reached old.stage old.left (a.records ++ r ∷ []) next.stage next.left
    reached_next = reached_on old.stage old.left reader.left next.left a.records reader.stage next.stage r a.reached tells stage

    -- with it a front of the text was shown
    stops : (result : Result (Unit {0}) MigrateFault) (put : List ℕ) (later : Option (List ℕ)) → ((left : List ℕ) → EndsAt next.stage left result) → Shown result before (start ++ records_text (a.records ++ r ∷ [])) put later →
        IfSome old.left (λ bytes. Copies old.stage bytes start before put later result)
    stops result put later ends shown = at old.left next.left reached_next
      where
        at : (rest left : Option (List ℕ)) → Reached old.stage rest (a.records ++ r ∷ []) next.stage left → IfSome rest (λ bytes. Copies old.stage bytes start before put later result)
        at None left w = tt
        at (Some bytes) None w = absurd w
        at (Some bytes) (Some left) w = record { records = a.records ++ r ∷ []; stage = next.stage; left = left; begins = w; ends = ends left; shown = shown }

    -- memory ran out for it
    pub copies_part : (put : List ℕ) → AppendsFront (Some page) (whole_record r) (Some put) → IfSome old.left (λ bytes. Copies old.stage bytes start before put now (Err fault.Memory))
    copies_part put h = stops (Err fault.Memory) put now (λ left. tt) (shows_part before now (start ++ records_text a.records) page (whole_record r) [] put (start ++ records_text (a.records ++ r ∷ [])) (text_part start a.records r) a.shows h)

    -- the page was not written
    pub copies_unwritten : (put left : List ℕ) (later : Option (List ℕ)) → put ≡ page ++ whole_record r → ShowsFront now put left later → IfSome old.left (λ bytes. Copies old.stage bytes start before left later (Err fault.Write))
    copies_unwritten put left later e s =
        stops (Err fault.Write) left later (λ more. tt)
        (front_on before now later (start ++ records_text a.records) page (whole_record r) [] put left (start ++ records_text (a.records ++ r ∷ [])) e (text_part start a.records r) a.shows s)

    -- it was put on the page
    pub along_on : (put left : List ℕ) (later : Option (List ℕ)) → put ≡ page ++ whole_record r → Shows now put left later → next.refusal ≡ None → Along old start before next left later
    along_on put left later e s f =
        record {
          records = a.records ++ r ∷ [];
          fresh = f;
          reached = reached_next;
          shows = shows_on before now later (start ++ records_text a.records) page (whole_record r) put left (start ++ records_text (a.records ++ r ∷ [])) e (text_on start a.records r) a.shows s;
        }
