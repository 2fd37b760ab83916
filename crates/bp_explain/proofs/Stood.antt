-- What is said of the b-threads that stand is what is said of the stand that they make.
use Rattle.std.proofs.Common.{◌≡◌, ◌∙◌, ℕ, Bool, true, false, List, [], ◌∷◌, ◌++◌, map, filter, cond, refl, ap, sym}
use Rattle.std.specs.Prelude.{flat_map, slice_get, codes, if◌then◌else◌}
use Rattle.js_data.specs.Event.{PlainEvent}
use Rattle.js_data.specs.JsonText.{quoted_text}
use Rattle.js_value.specs.Value.{PlainSet}
use Rattle.bp_run.specs.Bodies.{Code}
use Rattle.bp_run.specs.Configuration.{Configuration, Stand, name_in}
use Rattle.bp_run.specs.Selecting.{Live, live, candidates, selectable, requests}
use Rattle.bp_explain.specs.declared.stops.Stop.{Stop}
use Rattle.bp_explain.specs.Words.{Words}
use Rattle.bp_explain.specs.Listed.{comma, listed, listed_from}
use Rattle.bp_explain.specs.Blocking.{says_yes, blockers, requesters, is_nothing}
use Rattle.bp_explain.specs.Standing.{Standing, all_standing, standing_text}
use Rattle.bp_explain.specs.States.{names_text, request_blocked, waiting_blocked, each_blocked, stuck_text, rest_text, waiting_text, reading_text}
use Rattle.bp_explain.specs.Stops.{live_of, standing_of, name_of, blocker_names, requester_names, request_line, waiting_line, each_line, stuck_lines, rest_lines}

-- ---- lists

pub listed_from_map : {A : Type 0} (b : Bool) (f : A → List ℕ) (xs : List A) → listed_from b f xs ≡ listed_from b (λ (x : List ℕ). x) (map f xs)
listed_from_map b f [] = refl
listed_from_map b f (x ∷ xs) = ap (λ (rest : List ℕ). comma b ++ (f x ++ rest)) (listed_from_map true f xs)

flat_map_map : {A B : Type 0} (f : B → List ℕ) (g : A → B) (xs : List A) → flat_map f (map g xs) ≡ flat_map (λ x. f (g x)) xs
flat_map_map f g [] = refl
flat_map_map f g (x ∷ xs) = ap (λ (rest : List ℕ). f (g x) ++ rest) (flat_map_map f g xs)

pub flat_map_same : {A : Type 0} (f g : A → List ℕ) (xs : List A) → ((x : A) → f x ≡ g x) → flat_map f xs ≡ flat_map g xs
flat_map_same f g [] h = refl
flat_map_same f g (x ∷ xs) h = rw (h x, flat_map_same f g xs h) refl

-- ---- names

-- their names are those of the b-threads of their numbers
abbrev pub AreNamed : {O : Type 0} → Stand O → List Stop → Type 0
AreNamed s [] = Unit {0}
AreNamed s (x ∷ xs) = (name_in (slice_get s.threads x.number) ≡ name_of x) × AreNamed s xs

-- the stops are those of the stand
pub record AreStopsOf {O : Type 0} (l : Code O PlainSet) (w : Words O PlainSet) (s : Stand O) (ss : List Stop) : Type 0 where
  pub standings : all_standing l w s ≡ map standing_of ss
  pub lives : live l s ≡ map live_of ss
  pub named : AreNamed s ss

abbrev pub words_at : {O : Type 0} → Stand O → ℕ → List ℕ
words_at s n = quoted_text (name_in (slice_get s.threads n))

named_at : {O : Type 0} (s : Stand O) (p : Live PlainSet → Bool) (x : Stop) (xs : List Stop) (b : Bool) → p (live_of x) ≡ b → name_in (slice_get s.threads x.number) ≡ name_of x →
    map (words_at s) (map (λ t. t.number) (filter p (map live_of xs))) ≡ map quoted_text (map name_of (filter (λ y. p (live_of y)) xs)) →
    map (words_at s) (map (λ t. t.number) (cond b (live_of x ∷ filter p (map live_of xs)) (filter p (map live_of xs)))) ≡ map quoted_text (map name_of (cond b (x ∷ filter (λ y. p (live_of y)) xs) (filter (λ y. p (live_of y)) xs)))
named_at s p x xs false h e ih = ih
named_at s p x xs true h e ih = rw (e, ih) refl

pub names_filtered : {O : Type 0} (s : Stand O) (p : Live PlainSet → Bool) (ss : List Stop) → AreNamed s ss → map (words_at s) (map (λ t. t.number) (filter p (map live_of ss))) ≡ map quoted_text (map name_of (filter (λ x. p (live_of x)) ss))
names_filtered s p [] n = refl
names_filtered s p (x ∷ xs) n = named_at s p x xs (p (live_of x)) refl n.0 (names_filtered s p xs n.1)

-- those of a test, by name
names_are : {O : Type 0} (s : Stand O) (p : Live PlainSet → Bool) (ss : List Stop) → AreNamed s ss → names_text s (map (λ t. t.number) (filter p (map live_of ss))) ≡ listed quoted_text (map name_of (filter (λ x. p (live_of x)) ss))
names_are s p ss n =
    listed_from_map false (words_at s) (map (λ t. t.number) (filter p (map live_of ss)))
    ∙ ap (λ (xs : List (List ℕ)). listed_from false (λ (x : List ℕ). x) xs) (names_filtered s p ss n)
    ∙ sym (listed_from_map false quoted_text (map name_of (filter (λ x. p (live_of x)) ss)))

module _ {O : Type 0} (l : Code O PlainSet) (w : Words O PlainSet) (s : Stand O) (ss : List Stop) (a : AreStopsOf l w s ss) where
  pub blockers_are : (e : PlainEvent) → names_text s (blockers l.has (live l s) e) ≡ listed quoted_text (blocker_names l.has ss e)
  blockers_are e =
      ap (λ (ts : List (Live PlainSet)). names_text s (blockers l.has ts e)) a.lives ∙ names_are s (λ t. says_yes (l.has t.statement.block e)) ss a.named

  pub requesters_are : (e : PlainEvent) → names_text s (requesters (live l s) e) ≡ listed quoted_text (requester_names ss e)
  requesters_are e = ap (λ (ts : List (Live PlainSet)). names_text s (requesters ts e)) a.lives ∙ names_are s (requests e) ss a.named

  request_is : (e : PlainEvent) → request_blocked l s e ≡ request_line l.has ss e
  request_is e = rw (blockers_are e, requesters_are e) refl

  waiting_is : (e : PlainEvent) → waiting_blocked l s e ≡ waiting_line l.has ss e
  waiting_is e = rw (blockers_are e) refl

  each_is : (asked queue : List PlainEvent) → each_blocked l s asked queue ≡ each_line l.has ss asked queue
  each_is [] [] = refl
  each_is [] (q ∷ qs) = ap (λ (x : List ℕ). codes ":\n" ++ ([] ++ x)) (flat_map_same (waiting_blocked l s) (waiting_line l.has ss) (q ∷ qs) waiting_is)
  each_is (e ∷ es) qs =
      ap (λ (x : List ℕ). codes ":\n" ++ (x ++ flat_map (waiting_blocked l s) qs)) (flat_map_same (request_blocked l s) (request_line l.has ss) (e ∷ es) request_is)
      ∙ ap (λ (x : List ℕ). codes ":\n" ++ (flat_map (request_line l.has ss) (e ∷ es) ++ x)) (flat_map_same (waiting_blocked l s) (waiting_line l.has ss) qs waiting_is)

  stuck_is : (b : Bool) → b ≡ is_nothing (selectable l.has (live l s) s.queue) → stuck_text l s ≡ stuck_lines l.has b ss s.queue
  stuck_is b h =
      ap (λ (c : Bool). if c then codes "nothing can be selected" ++ each_blocked l s (candidates (live l s)) s.queue else []) (sym h)
      ∙ ap (λ (x : List ℕ). if b then codes "nothing can be selected" ++ x else [])
      (each_is (candidates (live l s)) s.queue ∙ ap (λ (ts : List (Live PlainSet)). each_line l.has ss (candidates ts) s.queue) a.lives)

-- what is said of the stops is the state
pub rest_is : {O : Type 0} (l : Code O PlainSet) (w : Words O PlainSet) (c : Configuration O) (ss : List Stop) (b : Bool) → AreStopsOf l w c.stand ss → b ≡ is_nothing (selectable l.has (live l c.stand) c.stand.queue) →
    rest_text l w c ≡ rest_lines w.spelling l.has b ss c.stand.queue c.reading
unfolding rest_text
rest_is l w c ss b a h =
    ap (λ (x : List ℕ). x ++ (flat_map waiting_text c.stand.queue ++ (flat_map reading_text c.reading ++ stuck_text l c.stand)))
    (ap (λ (xs : List (Standing PlainSet)). flat_map (standing_text w.spelling) xs) a.standings ∙ flat_map_map (standing_text w.spelling) standing_of ss)
    ∙ ap (λ (x : List ℕ). flat_map (λ s. standing_text w.spelling (standing_of s)) ss ++ (flat_map waiting_text c.stand.queue ++ (flat_map reading_text c.reading ++ x))) (stuck_is l w c.stand ss a b h)
