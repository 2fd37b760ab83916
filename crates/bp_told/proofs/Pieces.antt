-- Text in pieces: written, waiting on the page, and to come.
use Rattle.std.proofs.Common.{◌≡◌, ℕ, ◌+◌, ◌<◌, ◌≤◌, arith, List, [], ◌++◌, length, take, drop, get_or, refl, ap, sym, subst, ◌∙◌, append_assoc, append-nil, take-append-drop, Option, Some, None}
use Rattle.std.proofs.lemmas.List.{take_all, take-append-le}
use Rattle.std.proofs.lemmas.Grind.{flat_map-append}
use Rattle.std.proofs.lemmas.Option.{same_Some}
use Rattle.js_data.proofs.Shared.{flat_map_take, flat_map_split}
use Rattle.bp_base.specs.Pieces.{Appends, AppendsFront}
use Rattle.bp_base.proofs.Appending.{appends-on}
use Rattle.bp_log.specs.declared.trace.Line.{Line}
use Rattle.bp_log.specs.declared.record.Record.{Record}
use Rattle.bp_log.specs.Logs.{whole_record, records_text}
use Rattle.bp_log.specs.Texts.{whole_line, lines_text}
use Rattle.bp_told.specs.Pages.{Shows, ShowsFront}

pub appends_nothing : (a : Option (List ℕ)) → Appends a [] a
appends_nothing None = tt
appends_nothing (Some w) = sym (ap (λ (r : List ℕ). Some r) (append-nil w))

-- a text that was put on a page stands at its end
pub put : (page more next : List ℕ) → Appends (Some page) more (Some next) → next ≡ page ++ more
put page more next h = same_Some next (page ++ more) h

-- nothing was written
pub shows_page : (a : Option (List ℕ)) (page : List ℕ) → Shows a page page a
shows_page a page = record { front = []; is_text = refl; written = appends_nothing a }

-- all that waited was written
pub shows_written : (a b : Option (List ℕ)) (text page : List ℕ) → page ≡ [] → Appends a text b → Shows a text page b
shows_written a b text page e h = record { front = text; is_text = sym (ap (λ (p : List ℕ). text ++ p) e ∙ append-nil text); written = h }

-- a further text was put on the page
pub shows_put : (a b : Option (List ℕ)) (text page more next whole : List ℕ) → next ≡ page ++ more → whole ≡ text ++ more → Shows a text page b → Shows a whole next b
shows_put a b text page more next whole e w s =
    record {
      front = s.front;
      is_text = w ∙ ap (λ (x : List ℕ). x ++ more) s.is_text ∙ append_assoc s.front page more ∙ ap (λ (x : List ℕ). s.front ++ x) (sym e);
      written = s.written;
    }

-- no more is shown
pub shows_stop : (a b : Option (List ℕ)) (text page rest whole : List ℕ) → whole ≡ text ++ rest → Shows a text page b → ShowsFront a whole page b
shows_stop a b text page rest whole e s = record { shown = text; rest = rest; is_text = e; shows = s }

-- a front of what was to come waits
pub shows_part : (a b : Option (List ℕ)) (text page more rest next whole : List ℕ) → whole ≡ text ++ (more ++ rest) → Shows a text page b → AppendsFront (Some page) more (Some next) → ShowsFront a whole next b
shows_part a b text page more rest next whole e s h =
    let same : next ≡ page ++ h.0 = same_Some next (page ++ h.0) h.3 in
    record {
      shown = text ++ h.0;
      rest = h.1 ++ rest;
      is_text = e ∙ ap (λ (x : List ℕ). text ++ (x ++ rest)) h.2 ∙ ap (λ (x : List ℕ). text ++ x) (append_assoc h.0 h.1 rest) ∙ sym (append_assoc text h.0 (h.1 ++ rest));
      shows = record {
        front = s.front;
        is_text = ap (λ (x : List ℕ). x ++ h.0) s.is_text ∙ append_assoc s.front page h.0 ∙ ap (λ (x : List ℕ). s.front ++ x) (sym same);
        written = s.written;
      };
    }

-- nothing more of what was to come
pub shows_stop_at : (a : Option (List ℕ)) (page same more : List ℕ) → same ≡ page → ShowsFront a (page ++ more) same a
shows_stop_at a page same more e = shows_stop a a page same more (page ++ more) refl (subst (λ (x : List ℕ). Shows a page x a) (sym e) (shows_page a page))

-- more is shown
pub shows_on : (a b c : Option (List ℕ)) (text page more on next whole : List ℕ) → on ≡ page ++ more → whole ≡ text ++ more → Shows a text page b → Shows b on next c → Shows a whole next c
shows_on a b c text page more on next whole e w s t =
    record {
      front = s.front ++ t.front;
      is_text = w ∙ ap (λ (x : List ℕ). x ++ more) s.is_text ∙ append_assoc s.front page more
          ∙ ap (λ (x : List ℕ). s.front ++ x) (sym e ∙ t.is_text) ∙ sym (append_assoc s.front t.front next);
      written = appends-on a b c s.front t.front s.written t.written;
    }

pub front_on : (a b c : Option (List ℕ)) (text page more rest on next whole : List ℕ) → on ≡ page ++ more → whole ≡ text ++ (more ++ rest) → Shows a text page b → ShowsFront b on next c → ShowsFront a whole next c
front_on a b c text page more rest on next whole e w s t =
    let split : whole ≡ (s.front ++ t.shown) ++ (t.rest ++ rest) =
    w ∙ sym (append_assoc text more rest)
    ∙ ap (λ (x : List ℕ). (x ++ more) ++ rest) s.is_text
    ∙ ap (λ (x : List ℕ). x ++ rest) (append_assoc s.front page more ∙ ap (λ (x : List ℕ). s.front ++ x) (sym e ∙ t.is_text) ∙ sym (append_assoc s.front t.shown t.rest))
    ∙ append_assoc (s.front ++ t.shown) t.rest rest in
    let u = t.shows in
    record {
      shown = s.front ++ t.shown;
      rest = t.rest ++ rest;
      is_text = split;
      shows = record {
        front = s.front ++ u.front;
        is_text = ap (λ (x : List ℕ). s.front ++ x) u.is_text ∙ sym (append_assoc s.front u.front next);
        written = appends-on a b c s.front u.front s.written u.written;
      };
    }

-- the page is let go
pub let_go : (a b : Option (List ℕ)) (text page : List ℕ) → ShowsFront a text page b → AppendsFront a text b
let_go a b text page s =
    let u = s.shows in
    (u.front, page ++ s.rest, s.is_text ∙ ap (λ (x : List ℕ). x ++ s.rest) u.is_text ∙ append_assoc u.front page s.rest, u.written)

-- a front of a text is one of a longer text
pub longer_front : (a b : Option (List ℕ)) (text rest : List ℕ) → AppendsFront a text b → AppendsFront a (text ++ rest) b
longer_front a b text rest h = (h.0, h.1 ++ rest, ap (λ (x : List ℕ). x ++ rest) h.2 ∙ append_assoc h.0 h.1 rest, h.3)

-- the page was written at last
pub written_all : (a b c : Option (List ℕ)) (text page : List ℕ) → Shows a text page b → Appends b page c → Appends a text c
written_all a b c text page s h = subst (λ (x : List ℕ). Appends a x c) (sym s.is_text) (appends-on a b c s.front page s.written h)

pub written_front : (a b c : Option (List ℕ)) (text page : List ℕ) → ShowsFront a text page b → Appends b page c → AppendsFront a text c
written_front a b c text page s h = (s.shown, s.rest, s.is_text, written_all a b c s.shown page s.shows h)

part_front : (a b c : Option (List ℕ)) (text page rest whole : List ℕ) → whole ≡ text ++ rest → Shows a text page b → AppendsFront b page c → AppendsFront a whole c
part_front a b c text page rest whole e s h = (
  s.front ++ h.0,
  h.1 ++ rest,
  e ∙ ap (λ (x : List ℕ). x ++ rest) (s.is_text ∙ ap (λ (x : List ℕ). s.front ++ x) h.2 ∙ sym (append_assoc s.front h.0 h.1)) ∙ append_assoc (s.front ++ h.0) h.1 rest,
  appends-on a b c s.front h.0 s.written h.3,
)

-- or a front of it
pub written_part : (a b c : Option (List ℕ)) (text page : List ℕ) → Shows a text page b → AppendsFront b page c → AppendsFront a text c
written_part a b c text page s h = part_front a b c text page [] text (sym (append-nil text)) s h

pub written_front_part : (a b c : Option (List ℕ)) (text page : List ℕ) → ShowsFront a text page b → AppendsFront b page c → AppendsFront a text c
written_front_part a b c text page s h = part_front a b c s.shown page s.rest text s.is_text s.shows h

-- ---- lines

pub lines_text-append : (xs ys : List Line) → lines_text (xs ++ ys) ≡ lines_text xs ++ lines_text ys
unfolding lines_text
lines_text-append xs ys = flat_map-append whole_line xs ys

pub lines_none : lines_text [] ≡ []
unfolding lines_text
lines_none = refl

-- one more line
pub lines_more : (xs : List Line) (i : ℕ) (x : Line) → i < length xs → x ≡ get_or xs i x → lines_text (take (i + 1) xs) ≡ lines_text (take i xs) ++ whole_line x
unfolding lines_text
lines_more xs i x h e = flat_map_take whole_line xs i x x h e

-- and those after it
pub lines_split : (xs : List Line) (i : ℕ) (x : Line) → i < length xs → x ≡ get_or xs i x →
    lines_text xs ≡ lines_text (take i xs) ++ (whole_line x ++ lines_text (drop (i + 1) xs))
unfolding lines_text
lines_split xs i x h e = flat_map_split whole_line xs i x h e

-- before the first line
pub shows_none : (a : Option (List ℕ)) (page : List ℕ) → Shows a (page ++ lines_text []) page a
shows_none a page = subst (λ (t : List ℕ). Shows a t page a) (sym (ap (λ (t : List ℕ). page ++ t) lines_none ∙ append-nil page)) (shows_page a page)

pub line_on : (page : List ℕ) (xs : List Line) (i : ℕ) (x : Line) → i < length xs → x ≡ get_or xs i x → page ++ lines_text (take (i + 1) xs) ≡ (page ++ lines_text (take i xs)) ++ whole_line x
line_on page xs i x h e = ap (λ (t : List ℕ). page ++ t) (lines_more xs i x h e) ∙ sym (append_assoc page (lines_text (take i xs)) (whole_line x))

pub line_whole : (page : List ℕ) (xs : List Line) (i : ℕ) (x : Line) → i < length xs → x ≡ get_or xs i x →
    page ++ lines_text xs ≡ (page ++ lines_text (take i xs)) ++ (whole_line x ++ lines_text (drop (i + 1) xs))
line_whole page xs i x h e =
    ap (λ (t : List ℕ). page ++ t) (lines_split xs i x h e) ∙ sym (append_assoc page (lines_text (take i xs)) (whole_line x ++ lines_text (drop (i + 1) xs)))

-- ---- records

pub records_text-append : (xs ys : List Record) → records_text (xs ++ ys) ≡ records_text xs ++ records_text ys
unfolding records_text
records_text-append xs ys = flat_map-append whole_record xs ys

pub records_none : records_text [] ≡ []
unfolding records_text
records_none = refl

-- one more record
pub records_more : (xs : List Record) (i : ℕ) (x : Record) → i < length xs → x ≡ get_or xs i x → records_text (take (i + 1) xs) ≡ records_text (take i xs) ++ whole_record x
unfolding records_text
records_more xs i x h e = flat_map_take whole_record xs i x x h e

-- and those after it
pub records_split : (xs : List Record) (i : ℕ) (x : Record) → i < length xs → x ≡ get_or xs i x →
    records_text xs ≡ records_text (take i xs) ++ (whole_record x ++ records_text (drop (i + 1) xs))
unfolding records_text
records_split xs i x h e = flat_map_split whole_record xs i x h e

take_front : (xs later all : List Record) (k : ℕ) → xs ++ later ≡ all → k ≤ length xs → take k all ≡ take k xs
take_front xs later all k e h = ap (λ (r : List Record). take k r) (sym e) ∙ take-append-le k xs later h

pub take_whole : (xs later all : List Record) → xs ++ later ≡ all → take (length xs) all ≡ xs
take_whole xs later all e = take_front xs later all (length xs) e (omega arith) ∙ take_all (length xs) xs (omega arith)

-- of a list that goes on, those up to a place, and those after it that are there
pub records_kept : (base : List ℕ) (xs later all : List Record) (k : ℕ) → xs ++ later ≡ all → k ≤ length xs →
    base ++ records_text (take (length xs) all) ≡ (base ++ records_text (take k all)) ++ records_text (drop k xs)
records_kept base xs later all k e h =
    ap (λ (r : List ℕ). base ++ r)
    (ap (λ (rs : List Record). records_text rs) (take_whole xs later all e ∙ sym (take-append-drop k xs) ∙ ap (λ (rs : List Record). rs ++ drop k xs) (sym (take_front xs later all k e h)))
    ∙ records_text-append (take k all) (drop k xs))
    ∙ sym (append_assoc base (records_text (take k all)) (records_text (drop k xs)))

-- and those to come
pub records_later : (base : List ℕ) (xs later all : List Record) (k : ℕ) → xs ++ later ≡ all → k ≤ length xs →
    base ++ records_text all ≡ (base ++ records_text (take k all)) ++ (records_text (drop k xs) ++ records_text later)
records_later base xs later all k e h =
    ap (λ (rs : List Record). base ++ records_text rs) (sym e) ∙ ap (λ (r : List ℕ). base ++ r) (records_text-append xs later) ∙ sym (append_assoc base (records_text xs) (records_text later))
    ∙ ap (λ (r : List ℕ). r ++ records_text later) (ap (λ (rs : List Record). base ++ records_text rs) (sym (take_whole xs later all e)) ∙ records_kept base xs later all k e h)
    ∙ append_assoc (base ++ records_text (take k all)) (records_text (drop k xs)) (records_text later)

-- those up to a place, and those after it
pub records_rest : (base : List ℕ) (all : List Record) (k : ℕ) → base ++ records_text all ≡ (base ++ records_text (take k all)) ++ records_text (drop k all)
records_rest base all k =
    ap (λ (rs : List Record). base ++ records_text rs) (sym (take-append-drop k all)) ∙ ap (λ (r : List ℕ). base ++ r) (records_text-append (take k all) (drop k all))
    ∙ sym (append_assoc base (records_text (take k all)) (records_text (drop k all)))

-- before the first
pub records_first : (base : List ℕ) (all : List Record) (k : ℕ) → k ≡ 0 → base ++ records_text (take k all) ≡ base
records_first base all k e = ap (λ (n : ℕ). base ++ records_text (take n all)) e ∙ ap (λ (r : List ℕ). base ++ r) records_none ∙ append-nil base

-- and all of them
pub records_whole : (base : List ℕ) (all : List Record) (k : ℕ) → k ≡ length all → base ++ records_text (take k all) ≡ base ++ records_text all
records_whole base all k e = ap (λ (n : ℕ). base ++ records_text (take n all)) e ∙ ap (λ (rs : List Record). base ++ records_text rs) (take_all (length all) all (omega arith))

-- records that were put on a page, or a front of their text
pub records_part : (page at next : List ℕ) (xs : List Record) (i : ℕ) (x : Record) → i < length xs → x ≡ get_or xs i x → at ≡ page ++ records_text (take i xs) →
    AppendsFront (Some at) (whole_record x) (Some next) → AppendsFront (Some page) (records_text xs) (Some next)
records_part page at next xs i x h e k f =
    let same : next ≡ at ++ f.0 = same_Some next (at ++ f.0) f.3 in (
      records_text (take i xs) ++ f.0,
      f.1 ++ records_text (drop (i + 1) xs),
      records_split xs i x h e ∙ ap (λ (r : List ℕ). records_text (take i xs) ++ (r ++ records_text (drop (i + 1) xs))) f.2
          ∙ ap (λ (r : List ℕ). records_text (take i xs) ++ r) (append_assoc f.0 f.1 (records_text (drop (i + 1) xs)))
          ∙ sym (append_assoc (records_text (take i xs)) f.0 (f.1 ++ records_text (drop (i + 1) xs))),
      ap (λ (r : List ℕ). Some r) (same ∙ ap (λ (r : List ℕ). r ++ f.0) k ∙ append_assoc page (records_text (take i xs)) f.0),
    )
