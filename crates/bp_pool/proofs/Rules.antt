-- What follows from the rule of the shared queue, over plain variables.
use Rattle.std.proofs.Common.{◌≡◌, ◌≢◌, ℕ, zero, suc, ◌+◌, ◌<◌, eqb, cond, List, [], ◌∷◌, ◌++◌, length, get_or, set, sym, ap, ◌∙◌, subst, Contains, None, ◌⊎◌, inl, inr, refl, arith}
use Rattle.std.proofs.lemmas.Bool.{cases_eq}
use mathlib.Core.Option.{some}
use lib.ListN.{get_elem?}
use Rattle.js_meaning.specs.State.{Ground}
use Rattle.bp_thread.specs.Jobs.{plain_job}
use Rattle.bp_pool.specs.declared.seat.Seat.{Seat}
use Rattle.bp_pool.specs.declared.rule.Hand.{Hand}
use Rattle.bp_pool.specs.Carrying.{IsCarriedOn}
use Rattle.bp_pool.specs.Seats.{seats_of}
use Rattle.bp_pool.specs.Shared.{hand, rest_of, all_parts, times_in_hand, in_hands, Waits, Shared}
use Rattle.bp_pool.proofs.Places.{of_next, seat_here}
use Rattle.bp_pool.proofs.Steps.{gives, takes, has_room, totals}

-- a seat that is listed is counted
counted : (k : ℕ) (seats : List Seat) (i : ℕ) (d : Seat) → i < length seats → (get_or seats i d).place ≡ k → 0 < seats_of k seats
counted k [] i d lt e = absurd (omega (arith, lt))
counted k (x ∷ xs) zero d lt e = let a = of_next k x xs in let b = seat_here k x e in omega arith
counted k (x ∷ xs) (suc i) d lt e = let a = of_next k x xs in let h = counted k xs i d (omega (arith, lt)) e in omega arith

pub one_place : (base : Ground) (items : List Seat) (views : List Hand) (entry : Seat) (rule : Shared base items views) → Contains rule.lent entry
    → seats_of entry.place items + in_hands entry.place views ≡ 1
one_place base items views entry rule at =
    let all : seats_of entry.place items + in_hands entry.place views ≡ seats_of entry.place rule.lent = rule.once (λ n. cond (eqb n entry.place) 1 0) in
    let most = rule.own entry.place in
    let least = counted entry.place rule.lent at.0 entry at.1 (ap (λ (s : Seat). s.place) at.2) in
    omega arith

pub entry_of : (base : Ground) (items : List Seat) (views : List Hand) (x : Seat) (rule : Shared base items views) → Contains items x
    → (entry : Seat) × Contains rule.lent entry × (x.place ≡ entry.place) × IsCarriedOn base entry.job x.job × ((plain_job x.job).outcome ≡ None)
entry_of base items views x rule at =
    let w = subst (Waits base rule.lent) at.2 (rule.seats at.0 x at.1) in
    let o = w.of in
    (o.entry, o.listed, o.turned.place, (o.turned.carried w.can.there).1, w.can.still)

room_at : (base : Ground) (items : List Seat) (views : List Hand) (pass : ℕ) (v : Hand) (n : ℕ) (rest : List ℕ) (rule : Shared base items views) → get_elem? views pass ≡ some v → v.held ≡ n ∷ rest
    → (v.parts ≡ 0) ⊎ (v.parts ≢ 0) → length items < length rule.lent
room_at base items views pass v n rest rule at is (inl none) = let e = ap (λ (l : List ℕ). length l) (sym is ∙ (rule.fits pass v at).idle none) in absurd (omega arith)
room_at base items views pass v n rest rule at is (inr other) =
    let some_part : 0 < v.parts = omega (arith, other) in
    let fewer = has_room base pass v n rest some_part is items views rule at in
    let same = ap (λ (l : List Seat). length l) ((rule.fits pass v at).same some_part) in
    omega arith

room_of : (base : Ground) (items : List Seat) (views : List Hand) (pass : ℕ) (v : Hand) (held : List ℕ) (rule : Shared base items views) → get_elem? views pass ≡ some v → v.held ≡ held → 0 < length held
    → length items < length rule.lent
room_of base items views pass v [] rule at is one = absurd (omega (arith, one))
room_of base items views pass v (n ∷ rest) rule at is one = room_at base items views pass v n rest rule at is (cases_eq v.parts 0)

pub room : (base : Ground) (items : List Seat) (views : List Hand) (pass : ℕ) (v : Hand) (rule : Shared base items views) → get_elem? views pass ≡ some v → 0 < length v.held → length items < length rule.lent
room base items views pass v rule at one = room_of base items views pass v v.held rule at refl one

pub all_held : (base : Ground) (views : List Hand) (pass : ℕ) (v : Hand) (place : ℕ) (rule : Shared base [] views) → get_elem? views pass ≡ some v → v.parts ≡ all_parts → times_in_hand place v ≡ seats_of place rule.lent
all_held base views pass v place rule at all =
    let t : seats_of place [] + times_in_hand place v ≡ seats_of place v.lent = totals base pass v all [] views rule at (λ n. cond (eqb n place) 1 0) in
    let same = ap (seats_of place) ((rule.fits pass v at).same (omega (arith, all))) in
    omega arith

pub pushes : (base : Ground) (items : List Seat) (views : List Hand) (pass : ℕ) (v : Hand) (x : Seat) (rest : List ℕ) → Shared base items views → get_elem? views pass ≡ some v → 0 < v.parts → v.held ≡ x.place ∷ rest
    → Waits base v.lent x → Shared base (items ++ x ∷ []) (set views pass (hand v.lent rest v.parts))
pushes base items views pass v x rest rule at some_part holds waits =
    let g = gives base (length items + 1) pass v x rest some_part holds waits items views (omega arith) rule at in
    subst (λ (w : Hand). Shared base (items ++ x ∷ []) (set views pass w)) (g.2 ∙ ap (λ (l : List ℕ). hand v.lent (rest_of l) v.parts) holds) g.1

pub pops : (base : Ground) (items : List Seat) (views : List Hand) (pass : ℕ) (v : Hand) (x : Seat) → Shared base (x ∷ items) views → get_elem? views pass ≡ some v → 0 < v.parts
    → Shared base items (set views pass (hand v.lent (x.place ∷ v.held) v.parts))
pops base items views pass v x rule at some_part =
    let g = takes base pass v some_part x items views rule at in
    subst (λ (w : Hand). Shared base items (set views pass w)) g.2.0 g.1
