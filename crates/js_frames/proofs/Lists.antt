-- Lists that are read from a place on.
use Rattle.std.proofs.Common.{◌≡◌, ℕ, zero, suc, ◌+◌, ◌≤◌, List, [], ◌∷◌, length, drop, take, map, Some, None, refl, sym, arith, Global}
use Rattle.std.proofs.lemmas.Option.{slice_get_within, get_or_from_slice_get}
use Rattle.std.specs.Prelude.{slice_get, slice_set, fold}
use Rattle.std.specs.declared.sync.Arc.{Arc}
use Rattle.std.specs.Arc.{arc_value}
use Rattle.js_data.proofs.Shared.{drop_is}
use Rattle.js_value.specs.Value.{PlainValue, ValueFields}
use Rattle.js_ops.specs.Making.{put, put_all}
use Rattle.js_meaning.specs.State.{State}
use Rattle.js_meaning.specs.Variables.{undeclare, set_slot, padded}
use Rattle.js_meaning.specs.Forms.{argument}

-- what is left of a list from a place
pub drop_at : {X : Type 0} (xs : List X) (k : ℕ) (x : X) → slice_get xs k ≡ Some x → drop k xs ≡ x ∷ drop (k + 1) xs
drop_at xs k x h = drop_is xs k x (slice_get_within xs k x h) (sym (get_or_from_slice_get xs k x x h))

pub drop_past : {X : Type 0} (xs : List X) (k : ℕ) → slice_get xs k ≡ None → drop k xs ≡ []
drop_past [] zero h = refl
drop_past [] (suc k) h = refl
drop_past (y ∷ xs) zero h = cc
drop_past (y ∷ xs) (suc k) h = drop_past xs k h

-- a block's variables
pub undeclared_slots : (ks : List ℕ) (s : State) → undeclare ks s ≡ record s { slots = fold (λ slots k. slice_set slots k None) s.slots ks }
undeclared_slots [] s = refl
undeclared_slots (k ∷ ks) s = undeclared_slots ks (set_slot k None s)

-- arguments that were cut after a place
pub argument_taken : (vs : List PlainValue) → argument 0 (take 1 vs) ≡ argument 0 vs
argument_taken [] = refl
argument_taken (v ∷ vs) = refl

-- what is more of shared keys or of values is dropped
pub put_all_cut : (ks : List (Arc (List ℕ) Global)) (vs : List PlainValue) (fs : ValueFields) → put_all (map arc_value (take (length (take (length ks) vs)) ks)) (take (length ks) vs) fs ≡ put_all (map arc_value ks) vs fs
put_all_cut [] vs fs = refl
put_all_cut (k ∷ ks) [] fs = refl
put_all_cut (k ∷ ks) (x ∷ vs) fs = put_all_cut ks vs (put k.value x fs)

-- no more arguments are read than there are parameters
pub padded_one : (n : ℕ) (x i l : PlainValue) → n ≤ 1 → padded n (x ∷ []) ≡ padded n (x ∷ i ∷ l ∷ [])
padded_one zero x i l h = refl
padded_one (suc zero) x i l h = refl
padded_one (suc (suc n)) x i l h = absurd (omega arith)

pub padded_two : (n : ℕ) (x i l : PlainValue) → n ≤ 2 → padded n (x ∷ i ∷ []) ≡ padded n (x ∷ i ∷ l ∷ [])
padded_two zero x i l h = refl
padded_two (suc zero) x i l h = refl
padded_two (suc (suc zero)) x i l h = refl
padded_two (suc (suc (suc n))) x i l h = absurd (omega arith)
