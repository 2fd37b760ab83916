-- Steps of the reach.
use Rattle.std.proofs.Common.{◌≡◌, ℕ, ◌+◌, ◌<◌, ◌≤◌, List, [], ◌∷◌, ◌++◌, length, map, drop, get_or, refl, ap, sym, ◌∙◌, append_assoc, append-nil, Option, Some, None, Ok, Err, filter_map}
use Rattle.std.specs.Prelude.{option_to_list}
use Rattle.std.specs.List.{cons_option}
use Rattle.std.proofs.lemmas.List.Elements.{filter_map-append}
use Rattle.std.proofs.lemmas.List.{drop_all}
use Rattle.js_data.specs.Event.{PlainEvent}
use Rattle.js_data.proofs.Shared.{drop_is}
use Rattle.js_value.specs.Value.{PlainSet}
use Rattle.bp_run.specs.Bodies as run
use Rattle.bp_run.specs.Selecting.{Has, Asked, both}
use Rattle.bp_run.specs.Choosing.{Touched, touched, reach}
use Rattle.bp_live.specs.declared.stated.Stated.{Stated}
use Rattle.bp_select.specs.declared.answers.SelectFault.{SelectFault}
use Rattle.bp_select.specs.declared.answers.Reach.{Reach}
use Rattle.bp_live.specs.Lives.{live_of}
use Rattle.bp_select.specs.Answers.{FaultAs, move_of, interrupt_of, IsReach}
use Rattle.bp_select.proofs.Questions.{fault_on}

-- ---- all of them

abbrev pub after : List Touched → Asked (List Touched) → Asked (List Touched)
after so (Ok r) = Ok (so ++ r)
after so (Err z) = Err z

-- who was reached so far, and the rest
pub record Reaches (has : Has PlainSet) (e : PlainEvent) (all rest : List Stated) (moved interrupted : List ℕ) : Type 0 where
  pub so_far : List Touched
  pub rest_is : reach has e (map live_of all) ≡ after so_far (reach has e (map live_of rest))
  pub moved_is : moved ≡ filter_map move_of so_far
  pub interrupted_is : interrupted ≡ filter_map interrupt_of so_far

after_one : (so : List Touched) (o : Option Touched) (x : Asked (List Touched)) →
    after so (let first : Asked (Option Touched) = Ok o in both cons_option first x) ≡ after (so ++ option_to_list o) x
after_one so None (Ok r) = ap (λ (xs : List Touched). Ok (xs ++ r)) (sym (append-nil so))
after_one so (Some t) (Ok r) = ap (λ (xs : List Touched). Ok xs) (sym (append_assoc so (t ∷ []) r))
after_one so o (Err z) = refl

reach_of : (has : Has PlainSet) (e : PlainEvent) (so : List Touched) (x : Stated) (rest : List Stated) (o : Option Touched) → touched has e (live_of x) ≡ Ok o →
    after so (reach has e (map live_of (x ∷ rest))) ≡ after (so ++ option_to_list o) (reach has e (map live_of rest))
unfolding reach
reach_of has e so x rest o h =
    ap (λ (y : Asked (Option Touched)). after so (both cons_option y (reach has e (map live_of rest)))) h ∙ after_one so o (reach has e (map live_of rest))

pub reaches_step : (has : Has PlainSet) (e : PlainEvent) (all : List Stated) (i : ℕ) (x : Stated) (o : Option Touched) (moved interrupted moves interrupts : List ℕ) → i < length all → x ≡ get_or all i x →
    touched has e (live_of x) ≡ Ok o → moves ≡ moved ++ filter_map move_of (option_to_list o) → interrupts ≡ interrupted ++ filter_map interrupt_of (option_to_list o) →
    Reaches has e all (drop i all) moved interrupted → Reaches has e all (drop (i + 1) all) moves interrupts
reaches_step has e all i x o moved interrupted moves interrupts h k q m n w =
    record {
      so_far = w.so_far ++ option_to_list o;
      rest_is = w.rest_is ∙ ap (λ (ts : List Stated). after w.so_far (reach has e (map live_of ts))) (drop_is all i x h k) ∙ reach_of has e w.so_far x (drop (i + 1) all) o q;
      moved_is = m ∙ ap (λ (xs : List ℕ). xs ++ filter_map move_of (option_to_list o)) w.moved_is ∙ sym (filter_map-append move_of w.so_far (option_to_list o));
      interrupted_is = n ∙ ap (λ (xs : List ℕ). xs ++ filter_map interrupt_of (option_to_list o)) w.interrupted_is ∙ sym (filter_map-append interrupt_of w.so_far (option_to_list o));
    }

reach_end : (has : Has PlainSet) (e : PlainEvent) (so : List Touched) → after so (reach has e []) ≡ Ok so
unfolding reach
reach_end has e so = ap (λ (xs : List Touched). Ok xs) (append-nil so)

pub reaches_last : (has : Has PlainSet) (e : PlainEvent) (all : List Stated) (i : ℕ) (r : Reach) → length all ≤ i → Reaches has e all (drop i all) r.moved.items r.interrupted.items →
    (reached : List Touched) × (reach has e (map live_of all) ≡ Ok reached) × IsReach reached r
reaches_last has e all i r h w = (
  w.so_far,
  w.rest_is ∙ ap (λ (ts : List Stated). after w.so_far (reach has e (map live_of ts))) (drop_all i all h) ∙ reach_end has e w.so_far,
  record { moved = w.moved_is; interrupted = w.interrupted_is },
)

reach_err : (has : Has PlainSet) (e : PlainEvent) (so : List Touched) (x : Stated) (rest : List Stated) (z : ℕ × run.SetFault) → touched has e (live_of x) ≡ Err z →
    after so (reach has e (map live_of (x ∷ rest))) ≡ Err z
unfolding reach
reach_err has e so x rest z h = ap (λ (y : Asked (Option Touched)). after so (both cons_option y (reach has e (map live_of rest)))) h

pub reaches_fault : (has : Has PlainSet) (e : PlainEvent) (all : List Stated) (i : ℕ) (x : Stated) (moved interrupted : List ℕ) (f : SelectFault) → i < length all → x ≡ get_or all i x →
    Reaches has e all (drop i all) moved interrupted → FaultAs (touched has e (live_of x)) f → FaultAs (reach has e (map live_of all)) f
reaches_fault has e all i x moved interrupted f h k w q =
    fault_on (touched has e (live_of x)) (reach has e (map live_of all)) f
    (λ z m. w.rest_is ∙ ap (λ (ts : List Stated). after w.so_far (reach has e (map live_of ts))) (drop_is all i x h k) ∙ reach_err has e w.so_far x (drop (i + 1) all) z m) q
