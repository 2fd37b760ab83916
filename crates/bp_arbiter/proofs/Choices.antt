-- What is chosen can be selected, and a fault is that of a registered b-thread's set.
use Rattle.std.proofs.Common.{◌≡◌, ℕ, suc, ◌+◌, ◌<◌, ◌%◌, Bool, true, false, List, [], ◌∷◌, length, map, refl, sym, ap, ◌∙◌, subst, Option, Some, None, Ok, Err, slice_get, option_map, Result, ◌⊎◌, inl, inr}
use Rattle.std.specs.List.{list_any}
use Rattle.js_data.specs.Event.{PlainEvent, same_event}
use Rattle.bp_log.specs.declared.options.Strategy.{Strategy}
use Rattle.bp_run.specs.Bodies.{Code, SetFault}
use Rattle.bp_run.specs.Configuration.{Stand}
use Rattle.bp_run.specs.Selecting.{Live, live, Has, Asked, by_number, both, without_fault, blocked, unblocked, first_unblocked, candidates, Enabled, or_queued, selectable, requested}
use Rattle.bp_run.specs.Choosing.{Choice, drawn_of, queued_at, remaining, chosen, choice}
use Rattle.bp_run.specs.Chosen.{Stands, IsChosen}
use Rattle.bp_run.specs.Numbers.{IsRising}
use Rattle.bp_run.proofs.Chosen.{among, among_candidates, unblocked_free, choice_is_chosen}
use Rattle.bp_run.proofs.Numbers.{live_rising}
use Rattle.bp_floor.specs.Floors.{PlainFloor, IsAmong, CanGo, code_on}

-- ---- what is chosen

-- what can be selected, and the event is among it
record Among (asked : Asked Enabled) (queue : List PlainEvent) (ch : Choice) : Type 0 where
  pub enabled : Enabled
  pub is_enabled : asked ≡ Ok enabled
  pub among : IsAmong enabled queue ch.event ch.place

among_queued : (queue : List PlainEvent) (d place : ℕ) (x : Option PlainEvent) (ch : Choice) → slice_get queue place ≡ x →
    option_map (λ e. record { event = e; place = Some place; drawn = d }) x ≡ Some ch → Among (Ok (record { inner = []; outer = Some place })) queue ch
among_queued queue d place None ch h k = absurd (cc)
among_queued queue d place (Some e) ch h k =
    let f : record { event = e; place = Some place; drawn = d } ≡ ch = cc in
    subst (λ (x : Choice). Among (Ok (record { inner = []; outer = Some place })) queue x) f
    (record { enabled = record { inner = []; outer = Some place }; is_enabled = refl; among = (refl, h) })

among_outer : (queue : List PlainEvent) (d : ℕ) (x : Asked (Option ℕ)) (ch : Choice) →
    without_fault (λ (y : Enabled). queued_at d queue y.outer) (without_fault (λ (place : Option ℕ). record { inner = []; outer = place }) x) ≡ Ok (Some ch) →
    Among (without_fault (λ (place : Option ℕ). record { inner = []; outer = place }) x) queue ch
among_outer queue d (Err y) ch h = absurd (cc)
among_outer queue d (Ok None) ch h = absurd (cc)
among_outer queue d (Ok (Some place)) ch h =
    among_queued queue d place (slice_get queue place) ch refl (let f : queued_at d queue (Some place) ≡ Some ch = cc in f)

no_place_at : (d : ℕ) (x : Option PlainEvent) (ch : Choice) → option_map (λ e. record { event = e; place = None; drawn = d }) x ≡ Some ch → ch.place ≡ None
no_place_at d None ch h = absurd (cc)
no_place_at d (Some e) ch h = let f : record { event = e; place = None; drawn = d } ≡ ch = cc in ap (λ (x : Choice). x.place) (sym f)

no_place : (word : ℕ → ℕ) (d : ℕ) (xs : List PlainEvent) (ch : Choice) → drawn_of word d xs ≡ Some ch → ch.place ≡ None
no_place word d [] ch h = absurd (cc)
no_place word d (e ∷ []) ch h = let f : record { event = e; place = None; drawn = d } ≡ ch = cc in ap (λ (x : Choice). x.place) (sym f)
no_place word d (e ∷ f ∷ rest) ch h = no_place_at (d + 1) (slice_get (e ∷ f ∷ rest) (word d % length (e ∷ f ∷ rest))) ch h

kept_if_free : {S : Type 0} (has : Has S) (ts : List (Live S)) (e : PlainEvent) (xs : List PlainEvent) → (blocked has ts e ≡ Ok true) ⊎ (among e xs ≡ true) → blocked has ts e ≡ Ok false → among e xs ≡ true
kept_if_free has ts e xs (inl h) k = absurd (let f : Ok true ≡ blocked has ts e = sym h in cc)
kept_if_free has ts e xs (inr h) k = h

inner_stands : {S : Type 0} (ts : List (Live S)) (queue : List PlainEvent) (e : PlainEvent) (place : Option ℕ) → place ≡ None → Stands ts queue e place → requested ts e ≡ true
inner_stands ts queue e None h s = s
inner_stands ts queue e (Some i) h s = absurd (cc)

among_at : (x : Enabled) (queue : List PlainEvent) (e : PlainEvent) (place : Option ℕ) → place ≡ None → list_any (same_event e) x.inner ≡ true → IsAmong x queue e place
among_at x queue e None h k = k
among_at x queue e (Some i) h k = absurd (cc)

among_inner : {S : Type 0} (has : Has S) (ts : List (Live S)) (queue : List PlainEvent) (e : PlainEvent) (es : List PlainEvent) (ch : Choice) → unblocked has ts (candidates ts) ≡ Ok (e ∷ es) →
    ch.place ≡ None → IsChosen has ts queue ch → Among (Ok (record { inner = e ∷ es; outer = None })) queue ch
among_inner has ts queue e es ch h p c =
    let f = unblocked_free has ts (candidates ts) (e ∷ es) h in
    let r = inner_stands ts queue ch.event ch.place p c.stands in
    record {
      enabled = record { inner = e ∷ es; outer = None };
      is_enabled = refl;
      among = among_at (record { inner = e ∷ es; outer = None }) queue ch.event ch.place p
          (kept_if_free has ts ch.event (e ∷ es) (f.all ch.event (among_candidates ch.event ts ∙ r)) c.free);
    }

outer_only : {S : Type 0} (word : ℕ → ℕ) (s : Strategy) (ts : List (Live S)) (queue : List PlainEvent) (d : ℕ) (x : Asked (Option ℕ)) (o : Option Choice) →
    without_fault (λ (y : Enabled). chosen word s ts queue d y.inner y.outer) (without_fault (λ (place : Option ℕ). record { inner = []; outer = place }) x) ≡ Ok o →
    without_fault (λ (y : Enabled). queued_at d queue y.outer) (without_fault (λ (place : Option ℕ). record { inner = []; outer = place }) x) ≡ Ok o
outer_only word s ts queue d (Err y) o h = h
outer_only word s ts queue d (Ok place) o h = h

among_chosen : {S : Type 0} (has : Has S) (word : ℕ → ℕ) (s : Strategy) (ts : List (Live S)) (queue : List PlainEvent) (d : ℕ) (x : Asked (List PlainEvent)) (ch : Choice) → unblocked has ts (candidates ts) ≡ x →
    without_fault (λ (y : Enabled). chosen word s ts queue d y.inner y.outer) (or_queued has ts queue x) ≡ Ok (Some ch) → IsChosen has ts queue ch → Among (or_queued has ts queue x) queue ch
among_chosen has word s ts queue d (Err y) ch q h c = absurd (cc)
among_chosen has word s ts queue d (Ok []) ch q h c = among_outer queue d (first_unblocked has ts 0 queue) ch (outer_only word s ts queue d (first_unblocked has ts 0 queue) (Some ch) h)
among_chosen has word s ts queue d (Ok (e ∷ es)) ch q h c =
    among_inner has ts queue e es ch q (no_place word d (remaining s ts (e ∷ es)) ch (let f : drawn_of word d (remaining s ts (e ∷ es)) ≡ Some ch = cc in f)) c

-- the event that is chosen can be selected
pub can_go : (f : PlainFloor) (word : ℕ → ℕ) (d : ℕ) (ch : Choice) → choice (code_on f).has word f.options.strategy (live (code_on f) f.pair.stand) f.pair.stand.queue d ≡ Ok (Some ch) → CanGo f ch.event ch.place
unfolding choice selectable
can_go f word d ch h =
    let has = (code_on f).has in
    let ts = live (code_on f) f.pair.stand in
    let a = among_chosen has word f.options.strategy ts f.pair.stand.queue d (unblocked has ts (candidates ts)) ch refl h
    (choice_is_chosen has word f.options.strategy ts f.pair.stand.queue d ch h) in
    record { enabled = a.enabled; is_enabled = a.is_enabled; among = a.among }

-- ---- faults

IsBelow : {A : Type 0} → ℕ → Asked A → Type 0
IsBelow high asked = (x : ℕ × SetFault) → asked ≡ Err x → x.0 < high

below_number : {A : Type 0} (n high : ℕ) (r : Result A SetFault) → n < high → IsBelow high (by_number n r)
unfolding IsBelow
below_number n high (Ok a) h x e = absurd (cc)
below_number n high (Err f) h x e = let g : (n, f) ≡ x = cc in subst (λ (y : ℕ × SetFault). y.0 < high) g h

below_both : {A B C : Type 0} (high : ℕ) (g : A → B → C) (a : Asked A) (b : Asked B) → IsBelow high a → IsBelow high b → IsBelow high (both g a b)
unfolding IsBelow
below_both high g (Err y) b h k x e = h x (let f : y ≡ x = cc in ap (λ (z : ℕ × SetFault). Err z) f)
below_both high g (Ok c) (Err y) h k x e = k x (let f : y ≡ x = cc in ap (λ (z : ℕ × SetFault). Err z) f)
below_both high g (Ok c) (Ok d) h k x e = absurd (cc)

below_without : {A B : Type 0} (high : ℕ) (g : A → B) (a : Asked A) → IsBelow high a → IsBelow high (without_fault g a)
unfolding IsBelow
below_without high g (Err y) h x e = h x (let f : y ≡ x = cc in ap (λ (z : ℕ × SetFault). Err z) f)
below_without high g (Ok c) h x e = absurd (cc)

below_ok : {A : Type 0} (high : ℕ) (a : A) → IsBelow high (Ok a)
unfolding IsBelow
below_ok high a x e = absurd (cc)

blocked_below : {S : Type 0} (has : Has S) (ts : List (Live S)) (e : PlainEvent) (low high : ℕ) → IsRising low high (map (λ t. t.number) ts) → IsBelow high (blocked has ts e)
blocked_below has [] e low high r = below_ok high false
blocked_below has (t ∷ ts) e low high r =
    below_both high _ (by_number t.number (has t.statement.block e)) (blocked has ts e) (below_number t.number high (has t.statement.block e) r.1) (blocked_below has ts e (t.number + 1) high r.2)

unblocked_below : {S : Type 0} (has : Has S) (ts : List (Live S)) (es : List PlainEvent) (high : ℕ) → IsRising 0 high (map (λ t. t.number) ts) → IsBelow high (unblocked has ts es)
unblocked_below has ts [] high r = below_ok high []
unblocked_below has ts (e ∷ es) high r = below_both high _ (blocked has ts e) (unblocked has ts es) (blocked_below has ts e 0 high r) (unblocked_below has ts es high r)

first_at : (high place : ℕ) (a : Asked Bool) (rest : Asked (Option ℕ)) → IsBelow high a → IsBelow high rest →
    IsBelow high (elim a [ Err x ↦ Err x | Ok b ↦ elim b [ true ↦ rest | false ↦ Ok (Some place) ] ])
unfolding IsBelow
first_at high place (Err y) rest h k x e = h x (let f : y ≡ x = cc in ap (λ (z : ℕ × SetFault). Err z) f)
first_at high place (Ok true) rest h k x e = k x e
first_at high place (Ok false) rest h k x e = absurd (cc)

first_below : {S : Type 0} (has : Has S) (ts : List (Live S)) (place : ℕ) (es : List PlainEvent) (high : ℕ) → IsRising 0 high (map (λ t. t.number) ts) → IsBelow high (first_unblocked has ts place es)
first_below has ts place [] high r = below_ok high None
first_below has ts place (e ∷ es) high r =
    first_at high place (blocked has ts e) (first_unblocked has ts (suc place) es) (blocked_below has ts e 0 high r) (first_below has ts (suc place) es high r)

queued_below : {S : Type 0} (has : Has S) (ts : List (Live S)) (queue : List PlainEvent) (x : Asked (List PlainEvent)) (high : ℕ) → IsRising 0 high (map (λ t. t.number) ts) → IsBelow high x →
    IsBelow high (or_queued has ts queue x)
unfolding IsBelow
queued_below has ts queue (Err y) high r h x e = h x (let f : y ≡ x = cc in ap (λ (z : ℕ × SetFault). Err z) f)
queued_below has ts queue (Ok []) high r h x e = below_without high (λ (place : Option ℕ). record { inner = []; outer = place }) (first_unblocked has ts 0 queue) (first_below has ts 0 queue high r) x e
queued_below has ts queue (Ok (f ∷ fs)) high r h x e = absurd (cc)

-- a fault is that of the set of a registered b-thread
pub fault_below : {O S : Type 0} (l : Code O S) (word : ℕ → ℕ) (s : Strategy) (t : Stand O) (d : ℕ) (x : ℕ × SetFault) → choice l.has word s (live l t) t.queue d ≡ Err x → x.0 < length t.threads
unfolding choice selectable IsBelow
fault_below l word s t d x h =
    let ts = live l t in
    let r = live_rising l t in
    below_without (length t.threads) _ (or_queued l.has ts t.queue (unblocked l.has ts (candidates ts)))
    (queued_below l.has ts t.queue (unblocked l.has ts (candidates ts)) (length t.threads) r (unblocked_below l.has ts (candidates ts) (length t.threads) r)) x h
