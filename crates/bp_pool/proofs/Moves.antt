-- What the functions over the queue show of a view, on plain variables.
use Rattle.std.proofs.Common.{◌≡◌, ℕ, ◌+◌, ◌-◌, ◌<◌, List, [], ◌∷◌, ◌++◌, map, length, get_or, sym, refl, ap, ◌∙◌, subst, All, arith}
use Rattle.std.specs.List.{sum_by}
use Rattle.std.proofs.lemmas.List.Elements.{All-head, All-tail, All-push, All-append, Contains-get_or}
use Rattle.std.proofs.lemmas.List.Sums.{sum_by-append, sum_by-cons, sum_by_push}
use Rattle.crossbeam_queue.specs.Fifo.{Pushes, Pops, Forks, Learns}
use Rattle.js_meaning.specs.State.{Ground}
use Rattle.bp_pool.specs.declared.seat.Seat.{Seat}
use Rattle.bp_pool.specs.declared.rule.Hand.{Hand}
use Rattle.bp_pool.specs.Seats.{Turned, IsOpen, IsOut}
use Rattle.bp_pool.specs.Workers.{IsDone, Holds}
use Rattle.bp_pool.specs.Shared.{hand, rest_of, IsLent, Waits, weigh, Shared, Total}
use Rattle.bp_pool.proofs.Going.{itself, onward}
use Rattle.bp_pool.proofs.Steps.{takes, gives, forks, has_room, totals}

pub turned_itself : (base : Ground) (x : Seat) → IsOpen base x → Turned base x x
turned_itself base x o = record { place = refl; of_program = o.of_program; carried = λ ok. (ok, itself base x.job) }

pub turned_on : (base : Ground) (a b c : Seat) → Turned base a b → Turned base b c → Turned base a c
turned_on base a b c h k = record {
  place = k.place ∙ h.place;
  of_program = k.of_program;
  carried = λ ok. (let y = k.carried ok in let x = h.carried y.0 in (x.0, onward base a.job b.job c.job x.1 y.1));
}

all_wait : (base : Ground) (seats : List Seat) → All (IsOpen base) seats → All (Waits base seats) seats
all_wait base seats opens k d below = record {
  of = record { entry = get_or seats k d; listed = Contains-get_or seats k d below; turned = turned_itself base (get_or seats k d) (opens k d below) };
  can = opens k d below;
}

abbrev pub Filling : Ground → List Seat → ℕ → List Seat → Hand → Type 0
Filling base lent parts rest v = (v ≡ hand lent (map (λ (s : Seat). s.place) rest) parts) × All (Waits base lent) rest

pub fill_step : (base : Ground) (n id : ℕ) (v : Hand) (x : Seat) (lent before rest : List Seat) (parts : ℕ) → Filling base lent parts before v → before ≡ x ∷ rest → 0 < parts
    → Pushes (Shared base) n id v x (λ w. w ≡ hand v.lent (rest_of v.held) v.parts) × Learns (Shared base) id v (λ items. length items < length v.lent)
fill_step base n id v x lent before rest parts f is some_part =
    let some_part' : 0 < v.parts = let e = ap (λ (u : Hand). u.parts) f.0 in omega arith in
    let held : v.held ≡ x.place ∷ map (λ (s : Seat). s.place) rest = ap (λ (u : Hand). u.held) f.0 ∙ ap (map (λ (s : Seat). s.place)) is in
    let waits : Waits base v.lent x = subst (λ l. Waits base l x) (sym (ap (λ (u : Hand). u.lent) f.0)) (All-head (Waits base lent) x rest (subst (All (Waits base lent)) is f.1)) in
    (gives base n id v x (map (λ (s : Seat). s.place) rest) some_part' held waits, has_room base id v x.place (map (λ (s : Seat). s.place) rest) some_part' held)

pub filled : (base : Ground) (v w : Hand) (x : Seat) (lent before rest : List Seat) (parts : ℕ) → Filling base lent parts before v → before ≡ x ∷ rest → w ≡ hand v.lent (rest_of v.held) v.parts → Filling base lent parts rest w
filled base v w x lent before rest parts f is e = (
  e ∙ ap (λ (u : Hand). hand u.lent (rest_of u.held) u.parts) f.0 ∙ ap (λ (l : List Seat). hand lent (rest_of (map (λ (s : Seat). s.place) l)) parts) is,
  All-tail (Waits base lent) x rest (subst (All (Waits base lent)) is f.1),
)

pub fill_begins : (base : Ground) (v : Hand) (seats rest : List Seat) → v.lent ≡ seats → v.held ≡ map (λ (s : Seat). s.place) seats → rest ≡ seats → All (IsOpen base) seats → Filling base v.lent v.parts rest v
fill_begins base v seats rest lent held is opens = (
  ap (λ (h : List ℕ). hand v.lent h v.parts) (held ∙ ap (map (λ (s : Seat). s.place)) (sym is)),
  subst (λ (l : List Seat). All (Waits base v.lent) l) (sym is) (subst (λ (l : List Seat). All (Waits base l) seats) (sym lent) (all_wait base seats opens)),
)

pub never_full : (base : Ground) (v : Hand) (lent rest : List Seat) (parts n m : ℕ) → Filling base lent parts rest v → n ≡ length lent → m ≡ n → m < length v.lent → ⊥
never_full base v lent rest parts n m f a b lt = let e = ap (λ (u : Hand). length u.lent) f.0 in omega arith

pub pop_step : (base : Ground) (id : ℕ) (v : Hand) → 0 < v.parts
    → Pops (Shared base) id v (λ x w. (w ≡ hand v.lent (x.place ∷ v.held) v.parts) × Waits base v.lent x) × Learns (Shared base) id v (λ items. v.parts ≡ 128 → Total v items)
pop_step base id v some_part = (takes base id v some_part, λ items views b at all. totals base id v all items views b at)

pub turned_of : (base : Ground) (lent : List Seat) (x y : Seat) → IsLent base lent x → Turned base x y → IsLent base lent y
turned_of base lent x y o s = record { entry = o.entry; listed = o.listed; turned = turned_on base o.entry x y o.turned s }

-- w is v after a pop of x
abbrev pub Took : Ground → Hand → Seat → Hand → Type 0
Took base v x w = (w ≡ hand v.lent (x.place ∷ v.held) v.parts) × Waits base v.lent x

-- a seat that was popped and is done stays in the hand
pub keeps_done : (base : Ground) (lent : List Seat) (v w : Hand) (x y : Seat) (seats more : List Seat) → v.lent ≡ lent → Holds base lent v seats → Took base v x w → Turned base x y
    → IsOut y → more ≡ seats ++ y ∷ [] → Holds base lent w more
keeps_done base lent v w x y seats more same h t s out is =
    let of' = turned_of base v.lent x y t.1.of s in let d : IsDone base lent y = record { of = subst (λ (l : List Seat). IsLent base l y) same of'; out = out } in record {
      held = λ f. (let a = ap (λ (u : Hand). sum_by f u.held) t.0 in let b = sum_by-cons f x.place v.held in let e = h.held f in
          let c = sum_by_push (λ (j : Seat). f j.place) seats y in let n = ap f s.place in let m = ap (weigh f) is in omega arith);
      done = subst (λ (l : List Seat). All (IsDone base lent) l) (sym is) (All-push (IsDone base lent) seats y h.done d);
    }

-- a seat that was popped and is to be carried on may be pushed
pub push_step : (base : Ground) (n id : ℕ) (v w : Hand) (x y : Seat) → 0 < v.parts → Took base v x w → Turned base x y → IsOpen base y
    → Pushes (Shared base) n id w y (λ u. u ≡ hand w.lent (rest_of w.held) w.parts) × Learns (Shared base) id w (λ items. length items < length w.lent)
push_step base n id v w x y some_part t s out =
    let some_part' : 0 < w.parts = let e = ap (λ (u : Hand). u.parts) t.0 in omega arith in
    let held : w.held ≡ y.place ∷ v.held = ap (λ (u : Hand). u.held) t.0 ∙ ap (λ k. k ∷ v.held) (sym s.place) in
    let of' = subst (λ (l : List Seat). IsLent base l y) (sym (ap (λ (u : Hand). u.lent) t.0)) (turned_of base v.lent x y t.1.of s) in
    (gives base n id w y v.held some_part' held (record { of = of'; can = out }), has_room base id w y.place v.held some_part' held)

-- and then the view is as before the pop
pub pushed_back : (base : Ground) (v w u : Hand) (x : Seat) → Took base v x w → u ≡ hand w.lent (rest_of w.held) w.parts → u ≡ v
pushed_back base v w u x t e = e ∙ ap (λ (y : Hand). hand y.lent (rest_of y.held) y.parts) t.0

pub not_full : (base : Ground) (v w : Hand) (x : Seat) (lent : List Seat) (n m : ℕ) → v.lent ≡ lent → Took base v x w → n ≡ length lent → m ≡ n → m < length w.lent → ⊥
not_full base v w x lent n m same t a b lt = let e = ap (λ (u : Hand). length u.lent) t.0 in let f = ap length same in omega arith

pub split_step : (base : Ground) (id : ℕ) (v : Hand) (lent : List Seat) (held : List ℕ) (n : ℕ) → v ≡ hand lent held n → 1 < n
    → Forks (Shared base) id v (hand v.lent v.held (v.parts - 1)) (hand v.lent [] 1)
split_step base id v lent held n e more = forks base id v (let p = ap (λ (u : Hand). u.parts) e in omega arith)

pub gathered : (base : Ground) (lent : List Seat) (v u w : Hand) (seats more all : List Seat) → Holds base lent v seats → Holds base lent u more → w ≡ hand v.lent (v.held ++ u.held) (v.parts + u.parts)
    → all ≡ seats ++ more → Holds base lent w all
gathered base lent v u w seats more all a b e is = record {
  held = λ f. (let h = ap (λ (y : Hand). sum_by f y.held) e in let s = sum_by-append f v.held u.held in let t = sum_by-append (λ (j : Seat). f j.place) seats more in
      let m = ap (weigh f) is in let x = a.held f in let y = b.held f in omega arith);
  done = subst (λ (l : List Seat). All (IsDone base lent) l) (sym is) (All-append (IsDone base lent) seats more a.done b.done);
}

-- all that was lent is done
pub all_done : (base : Ground) (lent : List Seat) (v : Hand) (seats : List Seat) → v.lent ≡ lent → v.parts ≡ 128 → Holds base lent v seats
    → (items : List Seat) × (length items ≡ 0) × (v.parts ≡ 128 → Total v items) → (h : ℕ → ℕ) → weigh h seats ≡ weigh h lent
all_done base lent v seats same all h ([], none, t) f = let e = t all f in let l = ap (weigh f) same in let x = h.held f in omega arith
all_done base lent v seats same all h (y ∷ ys, none, t) f = absurd (omega arith)

pub more_parts : (v u w : Hand) (left after : ℕ) → v.parts + left ≡ 128 → u.parts ≡ 1 → w ≡ hand v.lent (v.held ++ u.held) (v.parts + u.parts) → left ≡ after + 1
    → (0 < w.parts) × (w.parts + after ≡ 128)
more_parts v u w left after a b e c = let p = ap (λ (y : Hand). y.parts) e in (omega arith, omega arith)
