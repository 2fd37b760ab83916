-- What is read stands at the front: whatever follows, the same is read. So what ends within a part ends too
-- early.
use Rattle.std.proofs.Common.{◌≡◌, ◌∙◌, ℕ, ◌≤◌, Bool, true, false, List, [], ◌∷◌, ◌++◌, length, Option, Result, Ok, refl, sym, ap, subst, append_assoc}
use Rattle.std.specs.Prelude.{codes, nat_le, if◌then◌else◌}
use Rattle.bp_log.specs.Logs.{record_text, version_of}
use Rattle.bp_log.specs.declared.limits.TheConstants.{MOST_BYTES, MOST_BUDGET, MOST_STEPS, MOST_INJECTORS}
use Rattle.bp_log.specs.declared.version.Version.{Version}
use Rattle.bp_log.specs.declared.version.Version.TheVariants.{First, Second}
use Rattle.bp_log.specs.declared.record.Record.{Record}
use Rattle.bp_reading.specs.declared.limits.TheConstants.{MOST_LINE_BYTES, MOST_RECORDS}
use Rattle.bp_reading.specs.Words.{most_64}
use Rattle.bp_reading.specs.Heads.{line_at, line_room, Refusal, version, header, cut, ◌>>=◌, or_else, said, version_at, strategy_behind, strategy_line_at, field, field_at, program_at, choice_at, limits_at, options_at, wait_behind, wait_line_at, settings_at, body_at, header_at, CutsOff, LineBreaksOff}
use Rattle.bp_reading.specs.Reading.{Stage, after, BeginsWith, BreaksOff, found, finished, refused, too_many, next_of, next_at}
use Rattle.bp_reading.proofs.Again.{record_again}
use Rattle.bp_reading.proofs.Told.{ok_is, bound, said_parts, line_spelled, line_other, program_again, found_again}
use Rattle.bp_reading.proofs.Whole.{program_back, next_back}
use Rattle.bp_reading.proofs.Ranges.{record_low}
use Rattle.bp_reading.proofs.Fits.{found_line}

-- ---- what is read, whatever follows

abbrev pub Reads : Type 0 → Type 0
Reads A = List ℕ → Result (A × List ℕ) Refusal

abbrev pub ReadsFronts : {A : Type 0} → Reads A → Type 0
ReadsFronts {A} p =
    (bytes : List ℕ) (r : A × List ℕ) → p bytes ≡ Ok r →
    (front : List ℕ) × (bytes ≡ front ++ r.1) × ((other : List ℕ) → p (front ++ other) ≡ Ok (r.0, other))

none_read : {A : Type 0} (x : A) → ReadsFronts (λ bytes. Ok (x, bytes))
none_read {A} x bytes r h =
    let e : (x, bytes) ≡ r = ok_is _ (x, bytes) r refl h in
    ([], ap (λ (q : A × List ℕ). q.1) e, λ other. ap (λ (q : A × List ℕ). Ok (q.0, other)) e)

bind_fronts : {A B : Type 0} (p : Reads A) (f : A × List ℕ → Result (B × List ℕ) Refusal) → ReadsFronts p → ((x : A) → ReadsFronts (λ bytes. f (x, bytes))) → ReadsFronts (λ bytes. p bytes >>= f)
bind_fronts p f l m bytes r h =
    let x = bound (p bytes) f r h in
    let a = l bytes x.0 x.1 in
    let b = m x.0.0 x.0.1 r x.2 in (
      a.0 ++ b.0,
      a.1 ∙ ap (λ (t : List ℕ). a.0 ++ t) b.1 ∙ sym (append_assoc a.0 b.0 r.1),
      λ other. ap (λ (t : List ℕ). p t >>= f) (append_assoc a.0 b.0 other) ∙ ap (λ (q : Result _ Refusal). q >>= f) (a.2 (b.0 ++ other)) ∙ b.2 other,
    )

said_fronts : {A : Type 0} (f : Refusal) (says : List ℕ → Option A) (room : ℕ) → ReadsFronts (λ bytes. said f says (line_at room bytes))
said_fronts f says room bytes r h =
    let p = said_parts f says (line_at room bytes) r.0 r.1 h in (
      p.0 ++ 10 ∷ [],
      line_spelled bytes room p.0 r.1 p.1 ∙ sym (append_assoc p.0 (10 ∷ []) r.1),
      λ other. ap (λ (t : List ℕ). said f says (line_at room t)) (append_assoc p.0 (10 ∷ []) other)
          ∙ ap (said f says) (line_other bytes room p.0 r.1 other p.1)
          ∙ ap (or_else f other) p.2,
    )

pub version_fronts : ReadsFronts version_at
unfolding version_at
version_fronts = said_fronts version version_of MOST_LINE_BYTES

pub strategy_fronts : ReadsFronts strategy_line_at
unfolding strategy_line_at
strategy_fronts = said_fronts header strategy_behind MOST_LINE_BYTES

pub field_fronts : (word : List ℕ) (least most : ℕ) → ReadsFronts (field_at word least most)
unfolding field_at
field_fronts word least most = said_fronts header (field word least most) MOST_LINE_BYTES

program_fronts : (n : ℕ) → ReadsFronts (program_at n)
program_fronts n bytes r h =
    let p = program_again n bytes r.0 r.1 h in (
      r.0 ++ 10 ∷ [],
      p.1 ∙ sym (append_assoc r.0 (10 ∷ []) r.1),
      λ other. ap (program_at n) (append_assoc r.0 (10 ∷ []) other) ∙ subst (λ (m : ℕ). program_at m (r.0 ++ (10 ∷ other)) ≡ Ok (r.0, other)) p.0 (program_back r.0 other),
    )

pub choice_fronts : ReadsFronts choice_at
unfolding choice_at
choice_fronts =
    bind_fronts strategy_line_at _ strategy_fronts
    (λ strategy. bind_fronts (field_at (codes "seed ") 0 most_64) _ (field_fronts (codes "seed ") 0 most_64) (λ seed. none_read (strategy, seed)))

pub limits_fronts : ReadsFronts limits_at
unfolding limits_at
limits_fronts =
    bind_fronts (field_at (codes "budget ") 1 MOST_BUDGET) _ (field_fronts (codes "budget ") 1 MOST_BUDGET)
    (λ budget. bind_fronts (field_at (codes "steps ") 1 MOST_STEPS) _ (field_fronts (codes "steps ") 1 MOST_STEPS) (λ steps. none_read (budget, steps)))

pub options_fronts : ReadsFronts options_at
unfolding options_at
options_fronts =
    bind_fronts choice_at _ choice_fronts
    (λ choice. bind_fronts limits_at _ limits_fronts
    (λ limits. bind_fronts (field_at (codes "injectors ") 0 MOST_INJECTORS) _ (field_fronts (codes "injectors ") 0 MOST_INJECTORS) (λ injectors. none_read _)))

pub wait_fronts : (v : Version) → ReadsFronts (wait_line_at v)
unfolding wait_line_at
wait_fronts First = none_read true
wait_fronts Second = said_fronts header wait_behind MOST_LINE_BYTES

pub settings_fronts : (v : Version) → ReadsFronts (settings_at v)
unfolding settings_at
settings_fronts v =
    bind_fronts options_at _ options_fronts
    (λ options. bind_fronts (wait_line_at v) _ (wait_fronts v) (λ wait. none_read _))

pub body_fronts : (v : Version) → ReadsFronts (body_at v)
unfolding body_at
body_fronts v =
    bind_fronts (settings_at v) _ (settings_fronts v)
    (λ options. bind_fronts (field_at (codes "program ") 0 MOST_BYTES) _ (field_fronts (codes "program ") 0 MOST_BYTES)
    (λ size. bind_fronts (program_at size) _ (program_fronts size) (λ program. none_read _)))

pub header_fronts : ReadsFronts header_at
unfolding header_at
header_fronts =
    bind_fronts version_at _ version_fronts
    (λ v. bind_fronts (body_at v) _ (body_fronts v) (λ h. none_read (v, h)))

-- ---- what ends too early

-- ends within what a first part of it says
pub cut_first : {A B : Type 0} (p : Reads A) (f : A × List ℕ → Result (B × List ℕ) Refusal) (bytes rest : List ℕ) → CutsOff p bytes rest → CutsOff (λ b. p b >>= f) bytes rest
cut_first p f bytes rest c = (c.0, c.1, ap (λ (q : Result _ Refusal). q >>= f) c.2)

-- ends after what a first part of it says
pub cut_later : {A B : Type 0} (p : Reads A) (f : A × List ℕ → Result (B × List ℕ) Refusal) (bytes mid rest : List ℕ) (x : A) → ReadsFronts p → p bytes ≡ Ok (x, mid) → CutsOff (λ b. f (x, b)) mid rest → CutsOff (λ b. p b >>= f) bytes rest
cut_later p f bytes mid rest x fronts h c =
    let a = fronts bytes (x, mid) h in (
      a.0 ++ c.0,
      a.1 ∙ ap (λ (t : List ℕ). a.0 ++ t) c.1 ∙ sym (append_assoc a.0 c.0 rest),
      ap (λ (q : Result _ Refusal). q >>= f) (a.2 c.0) ∙ c.2,
    )

pub said_cut : {A : Type 0} (f : Refusal) (says : List ℕ → Option A) (room : ℕ) (bytes rest : List ℕ) → LineBreaksOff room bytes rest → CutsOff (λ b. said f says (line_at room b)) bytes rest
said_cut f says room bytes rest c = (c.0, c.1, ap (said f says) c.2)

-- ---- records

next_front : (s : Stage) (bytes rest : List ℕ) (r : Record) → next_at s bytes ≡ found r rest → (bytes ≡ record_text r ++ (10 ∷ rest)) × ((other : List ℕ) → next_at s (record_text r ++ (10 ∷ other)) ≡ found r other)
next_front s bytes rest r h =
    let p = found_line s bytes rest r h in
    let short = subst (λ (l : List ℕ). length l ≤ MOST_LINE_BYTES) (record_again p.0 r p.2) p.1.short in
    (found_again s bytes rest r h, λ other. next_back s r other (record_low p.0 r p.2) p.1.going p.1.few p.3 short)

-- one more record was read
pub begins_on : (s : Stage) (bytes : List ℕ) (rs : List Record) (t : Stage) (left : List ℕ) (r : Record) (rest : List ℕ) → BeginsWith s bytes rs t left → next_at t left ≡ found r rest → BeginsWith s bytes (rs ++ r ∷ []) (after t r) rest
begins_on s bytes [] t left r rest b h = (rest, subst (λ (x : Stage). next_at x bytes ≡ found r rest) b.0 (subst (λ (xs : List ℕ). next_at t xs ≡ found r rest) b.1 h), (ap (λ (x : Stage). after x r) b.0, refl))
begins_on s bytes (q ∷ rs) t left r rest b h = (b.0, b.1, begins_on (after s q) b.0 rs t left r rest b.2 h)

-- the records that bytes begin with stand at their front, whatever follows
pub begins_front : (rs : List Record) (s : Stage) (bytes : List ℕ) (t : Stage) (left part more : List ℕ) → BeginsWith s bytes rs t left → left ≡ part ++ more →
    (taken : List ℕ) × (bytes ≡ taken ++ more) × BeginsWith s taken rs t part
begins_front [] s bytes t left part more b e = (part, sym b.1 ∙ e, (b.0, refl))
begins_front (r ∷ rs) s bytes t left part more b e =
    let n = next_front s bytes b.0 r b.1 in
    let later = begins_front rs (after s r) b.0 t left part more b.2 e in (
      record_text r ++ (10 ∷ later.0),
      n.0 ∙ ap (λ (x : List ℕ). record_text r ++ (10 ∷ x)) later.1 ∙ sym (append_assoc (record_text r) (10 ∷ later.0) more),
      (later.0, n.1 later.0, later.2),
    )

pub next_breaks : (s : Stage) (bytes rest : List ℕ) → s.ended ≡ false → nat_le MOST_RECORDS s.lines ≡ false → LineBreaksOff (line_room s.version) bytes rest → BreaksOff s bytes rest
unfolding next_at
next_breaks s bytes rest going few c = (c.0, c.1, rw (going, few) (ap (next_of s) c.2))

pub nothing_breaks : (s : Stage) (bytes rest : List ℕ) → bytes ≡ rest → BreaksOff s bytes rest
nothing_breaks s bytes rest e = ([], e, refl)

-- ---- where no bytes are

none_at : (b : Bool) (s : Stage) (room : ℕ) → next_of s (if b then too_many [] else line_at room []) ≡ refused cut
none_at true s room = refl
none_at false s room = refl

pub none_going : (s : Stage) → s.ended ≡ false → next_at s [] ≡ refused cut
unfolding next_at
none_going s going = rw going (none_at (nat_le MOST_RECORDS s.lines) s (line_room s.version))

pub none_over : (s : Stage) → s.ended ≡ true → next_at s [] ≡ finished
unfolding next_at
none_over s over = rw over refl
