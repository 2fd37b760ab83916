-- A log that is kept, or none, from one moment to the next.
use Rattle.std.proofs.Common.{◌≡◌, ◌⊎◌, ℕ, ◌≤◌, List, [], ◌++◌, refl, ap, sym, subst, ◌∙◌, append_assoc, append-nil, arith, inl, inr, Option, Some, None, Ok, Err}
use Rattle.std.specs.Prelude.{Result, OnOk, OnErr}
use Rattle.bp_base.specs.Pieces.{Appends, AppendsFront}
use Rattle.bp_base.proofs.Appending.{appends-on}
use Rattle.bp_log.specs.Header.{PlainHeader}
use Rattle.bp_log.specs.Logs.{header_text, records_text, log_text}
use Rattle.bp_log.specs.declared.version.Version.{Version}
use Rattle.bp_log.specs.declared.record.Record.{Record}
use Rattle.bp_told.specs.Logging.{OfLog, LogGets, LogGetsFront, LogHolds, LogWaits, LogShows, LogShowsFront, LogStays}
use Rattle.bp_told.specs.Pages.{Shows, ShowsFront}
use Rattle.bp_told.proofs.Pieces.{appends_nothing, longer_front, let_go, shows_page, shows_on, shows_stop, front_on, shows_put, shows_part, written_all, written_front, written_part, written_front_part}

-- a log is its head and its records
pub log_is : (v : Version) (h : PlainHeader) (rs : List Record) → log_text v h rs ≡ header_text v h ++ records_text rs
unfolding log_text
log_is v h rs = refl

holds_shown : (a b c : Option (List ℕ)) (text page more : List ℕ) → Shows a text page b → Appends b (page ++ more) c → Appends a (text ++ more) c
holds_shown a b c text page more s h =
    subst (λ (t : List ℕ). Appends a t c) (sym (append_assoc s.front page more) ∙ ap (λ (t : List ℕ). t ++ more) (sym s.is_text)) (appends-on a b c s.front (page ++ more) s.written h)

holds_on : (a b c : Option (List ℕ)) (text more front : List ℕ) → Appends a (text ++ more) b → Appends b front c → Appends a (text ++ (more ++ front)) c
holds_on a b c text more front h k = subst (λ (t : List ℕ). Appends a t c) (append_assoc text more front) (appends-on a b c (text ++ more) front h k)

-- what holds of a log at once
at_once : {L : Type 0} (R : L → L → Type 0) → ((x : L) → R x x) → (a : Option L) → OfLog R a a
at_once R h None = tt
at_once R h (Some x) = h x

of_log : {L : Type 0} (R S : L → L → Type 0) → ((x y : L) → R x y → S x y) → (a b : Option L) → OfLog R a b → OfLog S a b
of_log R S h None None r = tt
of_log R S h None (Some y) r = absurd r
of_log R S h (Some x) None r = absurd r
of_log R S h (Some x) (Some y) r = h x y r

of_log_on : {L : Type 0} (R S T : L → L → Type 0) → ((x y z : L) → R x y → S y z → T x z) → (a b c : Option L) → OfLog R a b → OfLog S b c → OfLog T a c
of_log_on R S T h None None None r s = tt
of_log_on R S T h None None (Some z) r s = absurd s
of_log_on R S T h None (Some y) c r s = absurd r
of_log_on R S T h (Some x) None c r s = absurd r
of_log_on R S T h (Some x) (Some y) None r s = absurd s
of_log_on R S T h (Some x) (Some y) (Some z) r s = h x y z r s

module _ {L : Type 0} (written : L → Option (List ℕ)) where
  -- nothing more was written
  pub log_shows_page : (a : Option L) (page : List ℕ) → LogShows written a page page a
  log_shows_page a page = at_once (λ l m. Shows (written l) page page (written m)) (λ l. shows_page (written l) page) a

  -- more is shown
  pub log_on : (a b c : Option L) (text page next : List ℕ) → LogShows written a text page b → LogShows written b page next c → LogShows written a text next c
  log_on a b c text page next s t =
      of_log_on (λ l m. Shows (written l) text page (written m)) (λ l m. Shows (written l) page next (written m)) (λ l m. Shows (written l) text next (written m))
      (λ x y z r q. shows_on (written x) (written y) (written z) text page [] page next text (sym (append-nil page)) (sym (append-nil text)) r q) a b c s t

  -- and what was put on the page in between
  pub log_more_on : (a b c : Option L) (text page more next whole : List ℕ) → whole ≡ text ++ more → LogShows written a text page b → LogShows written b (page ++ more) next c → LogShows written a whole next c
  log_more_on a b c text page more next whole w s t =
      of_log_on (λ l m. Shows (written l) text page (written m)) (λ l m. Shows (written l) (page ++ more) next (written m)) (λ l m. Shows (written l) whole next (written m))
      (λ x y z r q. shows_on (written x) (written y) (written z) text page more (page ++ more) next whole refl w r q) a b c s t

  pub log_more_front : (a b c : Option L) (text page more rest next whole : List ℕ) → whole ≡ text ++ (more ++ rest) → LogShows written a text page b → LogShowsFront written b (page ++ more) next c → LogShowsFront written a whole next c
  log_more_front a b c text page more rest next whole w s t =
      of_log_on (λ l m. Shows (written l) text page (written m)) (λ l m. ShowsFront (written l) (page ++ more) next (written m)) (λ l m. ShowsFront (written l) whole next (written m))
      (λ x y z r q. front_on (written x) (written y) (written z) text page more rest (page ++ more) next whole refl w r q) a b c s t

  -- no more is shown
  pub log_stop_at : (a b : Option L) (text page rest whole : List ℕ) → whole ≡ text ++ rest → LogShows written a text page b → LogShowsFront written a whole page b
  log_stop_at a b text page rest whole w s =
      of_log (λ l m. Shows (written l) text page (written m)) (λ l m. ShowsFront (written l) whole page (written m))
      (λ x y r. shows_stop (written x) (written y) text page rest whole w r) a b s

  pub log_stop : (a b : Option L) (text page : List ℕ) → LogShows written a text page b → LogShowsFront written a text page b
  log_stop a b text page s = log_stop_at a b text page [] text (sym (append-nil text)) s

  pub log_front_on : (a b c : Option L) (text page next : List ℕ) → LogShows written a text page b → LogShowsFront written b page next c → LogShowsFront written a text next c
  log_front_on a b c text page next s t =
      of_log_on (λ l m. Shows (written l) text page (written m)) (λ l m. ShowsFront (written l) page next (written m)) (λ l m. ShowsFront (written l) text next (written m))
      (λ x y z r q. front_on (written x) (written y) (written z) text page [] [] page next text (sym (append-nil page)) (sym (append-nil text)) r q) a b c s t

  -- a further text was put on the page
  pub log_put : (a b : Option L) (text page more next whole : List ℕ) → next ≡ page ++ more → whole ≡ text ++ more → LogShows written a text page b → LogShows written a whole next b
  log_put a b text page more next whole e w s =
      of_log (λ l m. Shows (written l) text page (written m)) (λ l m. Shows (written l) whole next (written m))
      (λ x y r. shows_put (written x) (written y) text page more next whole e w r) a b s

  -- or a front of it
  pub log_part : (a b : Option L) (text page more rest next whole : List ℕ) → whole ≡ text ++ (more ++ rest) → LogShows written a text page b → AppendsFront (Some page) more (Some next) → LogShowsFront written a whole next b
  log_part a b text page more rest next whole w s h =
      of_log (λ l m. Shows (written l) text page (written m)) (λ l m. ShowsFront (written l) whole next (written m))
      (λ x y r. shows_part (written x) (written y) text page more rest next whole w r h) a b s

  -- what is shown or waits
  pub log_waits : (a b : Option L) (text page : List ℕ) → LogShows written a text page b → LogWaits written a text page b
  log_waits a b text page s =
      of_log (λ l m. Shows (written l) text page (written m)) (λ l m. (more : List ℕ) × Shows (written l) (text ++ more) page (written m))
      (λ x y r. ([], subst (λ (t : List ℕ). Shows (written x) t page (written y)) (sym (append-nil text)) r)) a b s

  pub log_waits_more : (a b : Option L) (text more page : List ℕ) → LogShows written a (text ++ more) page b → LogWaits written a text page b
  log_waits_more a b text more page s =
      of_log (λ l m. Shows (written l) (text ++ more) page (written m)) (λ l m. (rest : List ℕ) × Shows (written l) (text ++ rest) page (written m)) (λ x y r. (more, r)) a b s

  pub log_waits_on : (a b c : Option L) (text page next : List ℕ) → LogShows written a text page b → LogWaits written b page next c → LogWaits written a text next c
  log_waits_on a b c text page next s t =
      of_log_on (λ l m. Shows (written l) text page (written m)) (λ l m. (more : List ℕ) × Shows (written l) (page ++ more) next (written m)) (λ l m. (more : List ℕ) × Shows (written l) (text ++ more) next (written m))
      (λ x y z r q. (q.0, shows_on (written x) (written y) (written z) text page q.0 (page ++ q.0) next (text ++ q.0) refl refl r q.1)) a b c s t

  -- a head stood on the page before
  pub log_waits_headed : (a c : Option L) (head page more next : List ℕ) → LogShows written a head page a → LogWaits written a (page ++ more) next c → LogWaits written a (head ++ more) next c
  log_waits_headed a c head page more next s t = log_waits_on a a c (head ++ more) (page ++ more) next (log_put a a head page more (page ++ more) (head ++ more) refl refl s) t

  -- what waited was written at last
  pub log_waits_written : (a b c : Option L) (text page : List ℕ) → LogWaits written a text page b → LogGets written b page c → LogHolds written a text c
  log_waits_written a b c text page s h =
      of_log_on (λ l m. (more : List ℕ) × Shows (written l) (text ++ more) page (written m)) (λ l m. Appends (written l) page (written m)) (λ l m. (more : List ℕ) × Appends (written l) (text ++ more) (written m))
      (λ x y z r q. (r.0, written_all (written x) (written y) (written z) (text ++ r.0) page r.1 q)) a b c s h

  -- what the log got it holds
  log_holds : (a b : Option L) (text : List ℕ) → LogGets written a text b → LogHolds written a text b
  log_holds a b text s =
      of_log (λ l m. Appends (written l) text (written m)) (λ l m. (more : List ℕ) × Appends (written l) (text ++ more) (written m))
      (λ x y r. ([], subst (λ (t : List ℕ). Appends (written x) t (written y)) (sym (append-nil text)) r)) a b s

  -- also what waited before
  pub log_holds_shown : (a b c : Option L) (text page : List ℕ) → LogShows written a text page b → LogHolds written b page c → LogHolds written a text c
  log_holds_shown a b c text page s h =
      of_log_on (λ l m. Shows (written l) text page (written m)) (λ l m. (more : List ℕ) × Appends (written l) (page ++ more) (written m)) (λ l m. (more : List ℕ) × Appends (written l) (text ++ more) (written m))
      (λ x y z r q. (q.0, holds_shown (written x) (written y) (written z) text page q.0 r q.1)) a b c s h

  -- and it goes on to hold it
  pub log_holds_on : (a b c : Option L) (text page next : List ℕ) → LogHolds written a text b → LogShowsFront written b page next c → LogHolds written a text c
  log_holds_on a b c text page next h s =
      of_log_on (λ l m. (more : List ℕ) × Appends (written l) (text ++ more) (written m)) (λ l m. ShowsFront (written l) page next (written m)) (λ l m. (more : List ℕ) × Appends (written l) (text ++ more) (written m))
      (λ x y z r q. (r.0 ++ q.shows.front, holds_on (written x) (written y) (written z) text r.0 q.shows.front r.1 q.shows.written)) a b c h s

  -- nothing was written
  pub log_nothing : (a : Option L) (text : List ℕ) → LogGetsFront written a text a
  log_nothing a text = at_once (λ l m. AppendsFront (written l) text (written m)) (λ l. ([], text, refl, appends_nothing (written l))) a

  -- the page is let go
  pub log_let_go : (a b : Option L) (text page : List ℕ) → LogShowsFront written a text page b → LogGetsFront written a text b
  log_let_go a b text page s =
      of_log (λ l m. ShowsFront (written l) text page (written m)) (λ l m. AppendsFront (written l) text (written m))
      (λ x y r. let_go (written x) (written y) text page r) a b s

  -- a front of a text is one of a longer text
  pub log_front_longer : (a b : Option L) (text rest whole : List ℕ) → whole ≡ text ++ rest → LogGetsFront written a text b → LogGetsFront written a whole b
  log_front_longer a b text rest whole e s =
      of_log (λ l m. AppendsFront (written l) text (written m)) (λ l m. AppendsFront (written l) whole (written m))
      (λ x y r. subst (λ (t : List ℕ). AppendsFront (written x) t (written y)) (sym e) (longer_front (written x) (written y) text rest r)) a b s

  -- the page was written at last
  pub log_written : (a b c : Option L) (text page : List ℕ) → LogShows written a text page b → LogGets written b page c → LogGets written a text c
  log_written a b c text page s h =
      of_log_on (λ l m. Shows (written l) text page (written m)) (λ l m. Appends (written l) page (written m)) (λ l m. Appends (written l) text (written m))
      (λ x y z r q. written_all (written x) (written y) (written z) text page r q) a b c s h

  -- what was printed so far is after the log, and so is what was printed now
  pub behind_on : (x y z : Option L) (text page next : List ℕ) (p q r : Option (List ℕ)) → ((q ≡ p) ⊎ LogHolds written x text y) → LogShows written x text page y →
      ((r ≡ q) ⊎ LogGets written y page z) → LogShowsFront written y page next z → (r ≡ p) ⊎ LogHolds written x text z
  behind_on x y z text page next p q r (inl e) s (inl f) t = inl (f ∙ e)
  behind_on x y z text page next p q r (inr h) s (inl f) t = inr (log_holds_on x y z text page next h t)
  behind_on x y z text page next p q r h s (inr g) t = inr (log_holds x z text (log_written x y z text page s g))

  pub log_written_front : (a b c : Option L) (text page : List ℕ) → LogShowsFront written a text page b → LogGets written b page c → LogGetsFront written a text c
  log_written_front a b c text page s h =
      of_log_on (λ l m. ShowsFront (written l) text page (written m)) (λ l m. Appends (written l) page (written m)) (λ l m. AppendsFront (written l) text (written m))
      (λ x y z r q. written_front (written x) (written y) (written z) text page r q) a b c s h

  pub log_written_part : (a b c : Option L) (text page : List ℕ) → LogShows written a text page b → LogGetsFront written b page c → LogGetsFront written a text c
  log_written_part a b c text page s h =
      of_log_on (λ l m. Shows (written l) text page (written m)) (λ l m. AppendsFront (written l) page (written m)) (λ l m. AppendsFront (written l) text (written m))
      (λ x y z r q. written_part (written x) (written y) (written z) text page r q) a b c s h

  pub log_written_front_part : (a b c : Option L) (text page : List ℕ) → LogShowsFront written a text page b → LogGetsFront written b page c → LogGetsFront written a text c
  log_written_front_part a b c text page s h =
      of_log_on (λ l m. ShowsFront (written l) text page (written m)) (λ l m. AppendsFront (written l) page (written m)) (λ l m. AppendsFront (written l) text (written m))
      (λ x y z r q. written_front_part (written x) (written y) (written z) text page r q) a b c s h

-- ---- what was written in the end, whatever came of the run

module _ {L T E : Type 0} (written : L → Option (List ℕ)) where
  -- the head stood before
  pub log_headed : (r : Result T E) (a b c : Option L) (head page more next whole : List ℕ) → whole ≡ head ++ more → LogShows written a head page b →
      OnOk r (LogShows written b (page ++ more) next c) → OnOk r (LogShows written a whole next c)
  log_headed (Ok v) a b c head page more next whole w h s = log_more_on written a b c head page more next whole w h s
  log_headed (Err e) a b c head page more next whole w h s = tt

  pub log_front_headed : (r : Result T E) (a b c : Option L) (head page more next whole : List ℕ) → whole ≡ head ++ more → LogShows written a head page b →
      OnErr r (LogShowsFront written b (page ++ more) next c) → OnErr r (LogShowsFront written a whole next c)
  log_front_headed (Ok v) a b c head page more next whole w h s = tt
  log_front_headed (Err e) a b c head page more next whole w h s =
      log_more_front written a b c head page more [] next whole (w ∙ ap (λ (x : List ℕ). head ++ x) (sym (append-nil more))) h s

  -- the page went on
  pub log_then : (r : Result T E) (a b c : Option L) (text page next : List ℕ) → LogShows written a text page b → OnOk r (LogShows written b page next c) → OnOk r (LogShows written a text next c)
  log_then (Ok v) a b c text page next h s = log_on written a b c text page next h s
  log_then (Err e) a b c text page next h s = tt

  pub log_front_then : (r : Result T E) (a b c : Option L) (text page next : List ℕ) → LogShows written a text page b → OnErr r (LogShowsFront written b page next c) → OnErr r (LogShowsFront written a text next c)
  log_front_then (Ok v) a b c text page next h s = tt
  log_front_then (Err e) a b c text page next h s = log_front_on written a b c text page next h s

  pub log_anyway : (r : Result T E) (a b c : Option L) (text page : List ℕ) → OnOk r (LogShows written a text page b) → OnErr r (LogShowsFront written a text page b) →
      LogGetsFront written b page c → LogGetsFront written a text c
  log_anyway (Ok v) a b c text page h k w = log_written_part written a b c text page h w
  log_anyway (Err e) a b c text page h k w = log_written_front_part written a b c text page k w

  pub log_whole : (r : Result T E) (a b c : Option L) (text page : List ℕ) → OnOk r (LogShows written a text page b) → LogGets written b page c → OnOk r (LogGets written a text c)
  log_whole (Ok v) a b c text page h w = log_written written a b c text page h w
  log_whole (Err e) a b c text page h w = tt

  pub log_still : (r : Result T E) (a b c : Option L) (text page : List ℕ) → OnErr r (LogShowsFront written a text page b) → LogGets written b page c → OnErr r (LogGetsFront written a text c)
  log_still (Ok v) a b c text page h w = tt
  log_still (Err e) a b c text page h w = log_written_front written a b c text page h w

module _ {L : Type 0} (made_as : L → Option (List ℕ)) (faults : L → ℕ) where
  pub log_same : (a : Option L) → LogStays made_as faults a a
  log_same a = at_once (λ l m. (made_as m ≡ made_as l) × (faults l ≤ faults m)) (λ l. (refl, omega arith)) a

  pub stays_on : (a b c : Option L) → LogStays made_as faults a b → LogStays made_as faults b c → LogStays made_as faults a c
  stays_on a b c s t =
      of_log_on (λ l m. (made_as m ≡ made_as l) × (faults l ≤ faults m)) (λ l m. (made_as m ≡ made_as l) × (faults l ≤ faults m)) (λ l m. (made_as m ≡ made_as l) × (faults l ≤ faults m))
      (λ x y z r q. (q.0 ∙ r.0, let f = r.1 in let g = q.1 in omega (arith, f, g))) a b c s t
