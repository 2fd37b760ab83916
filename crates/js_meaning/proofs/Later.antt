-- Each change of a state leaves one that follows on it.
use Rattle.std.proofs.Common.{◌≡◌, ℕ, suc, ◌+◌, ◌≤◌, List, [], ◌∷◌, ◌++◌, length, Option, Some, None, refl, sym, ap, ◌∙◌, arith}
use Rattle.std.specs.Prelude.{slice_set, option_map}
use Rattle.std.proofs.lemmas.List.{length-append, length-set, append_assoc, append-nil}
use Rattle.js_data.specs.Event.{PlainEvent}
use Rattle.js_value.specs.Value.{PlainValue}
use Rattle.js_program.specs.declared.node.Variable.{Variable}
use Rattle.js_program.specs.declared.node.Variable.TheVariants.{Slot, Constant}
use Rattle.js_meaning.specs.State.{Effect, State, Left, left_of}
use Rattle.js_meaning.specs.Variables.{set_slot, set_variable}
pub use Rattle.js_meaning.specs.Later.{Later, Beyond}

-- nothing is left of nothing
pub none_behind : (taken rest : List PlainEvent) → taken ++ rest ≡ [] → rest ≡ []
none_behind [] rest h = h
none_behind (e ∷ es) rest h = absurd (let n : length (e ∷ (es ++ rest)) ≡ 0 = ap length h in omega arith)

pub none_later : {b : ℕ} {s t : State} → Later b s t → s.replies ≡ [] → t.replies ≡ []
none_later {b} {s} {t} l none = none_behind l.taken t.replies (sym l.replies ∙ none)

-- the effects, what was delivered and the fuel are the same
pub same_beyond : (b : ℕ) (s : State) → Beyond b s (left_of s)
same_beyond b s = record {
  added = [];
  effects = sym (append-nil s.effects);
  delivered = λ h. h;
  fuel = λ h. h;
  same_delivered = λ none. refl;
  less_fuel = λ none. omega arith;
}

pub later_refl : (b : ℕ) (s : State) → Later b s s
later_refl b s = record { slots = refl; constants = refl; calls = refl; taken = []; replies = refl; left = same_beyond b s }

appended : (a b c d e : List Effect) → c ≡ b ++ e → b ≡ a ++ d → c ≡ a ++ (d ++ e)
appended a b c d e p q = p ∙ ap (λ x. x ++ e) q ∙ append_assoc a d e

pub beyond_trans : {b : ℕ} {s t : State} {l : Left} → Later b s t → Beyond b t l → Beyond b s l
beyond_trans {b} {s} {t} {l} x y = record {
  added = x.left.added ++ y.added;
  effects = appended s.effects t.effects l.effects x.left.added y.added y.effects x.left.effects;
  delivered = λ h. y.delivered (x.left.delivered h);
  fuel = λ h. y.fuel (x.left.fuel h);
  same_delivered = λ none. y.same_delivered (none_later x none) ∙ x.left.same_delivered none;
  less_fuel = λ none.
      let lower : t.fuel ≤ s.fuel = x.left.less_fuel none in
      let lowest : l.fuel ≤ t.fuel = y.less_fuel (none_later x none) in
      omega arith;
}

pub later_trans : {b : ℕ} {s t u : State} → Later b s t → Later b t u → Later b s u
later_trans {b} {s} {t} {u} x y = record {
  slots = y.slots ∙ x.slots;
  constants = y.constants ∙ x.constants;
  calls = y.calls ∙ x.calls;
  taken = x.taken ++ y.taken;
  replies = x.replies ∙ ap (λ r. x.taken ++ r) y.replies ∙ sym (append_assoc x.taken y.taken u.replies);
  left = beyond_trans x y.left;
}

pub set_later : (b k : ℕ) (x : Option PlainValue) (s : State) → Later b s (set_slot k x s)
set_later b k x s = record { slots = length-set s.slots k x; constants = refl; calls = refl; taken = []; replies = refl; left = same_beyond b s }

pub declared_later : (b : ℕ) (x : Variable) (y : PlainValue) (s : State) → Later b s (set_variable x y s)
declared_later b (Slot k) y s = set_later b k (Some y) s
declared_later b (Constant k) y s = record { slots = refl; constants = as_many s.constants; calls = refl; taken = []; replies = refl; left = same_beyond b s }
  where
    as_many : (o : Option (List (Option PlainValue))) → option_map length (option_map (λ cs. slice_set cs k (Some y)) o) ≡ option_map length o
    as_many None = refl
    as_many (Some cs) = ap Some (length-set cs k (Some y))

pub added_later : (b : ℕ) (x : Effect) (s : State) → Later b s (record s { effects = s.effects ++ x ∷ [] })
added_later b x s = record {
  slots = refl;
  constants = refl;
  calls = refl;
  taken = [];
  replies = refl;
  left = record {
    added = x ∷ [];
    effects = refl;
    delivered = λ h. let n : length (s.effects ++ x ∷ []) ≡ length s.effects + length (x ∷ []) = length-append s.effects (x ∷ []) in omega arith;
    fuel = λ h. h;
    same_delivered = λ none. refl;
    less_fuel = λ none. omega arith;
  };
}

-- less fuel
less_beyond : (b : ℕ) (s : State) (fuel : ℕ) → fuel ≤ s.fuel → Beyond b s (record (left_of s) { fuel = fuel })
less_beyond b s fuel le = record {
  added = [];
  effects = sym (append-nil s.effects);
  delivered = λ h. h;
  fuel = λ h. omega arith;
  same_delivered = λ none. refl;
  less_fuel = λ none. le;
}

pub begun_later : (b : ℕ) (s : State) (fuel : ℕ) → s.fuel ≡ suc fuel → Later b s (record s { fuel = fuel })
begun_later b s fuel e = record { slots = refl; constants = refl; calls = refl; taken = []; replies = refl; left = less_beyond b s fuel (omega arith) }

pub spent_beyond : (b : ℕ) (s : State) → Beyond b s (record (left_of s) { fuel = 0 })
spent_beyond b s = less_beyond b s 0 (omega arith)

pub replied_later : (b : ℕ) (s : State) (e : PlainEvent) (es : List PlainEvent) → s.replies ≡ e ∷ es → Later b s (record s { fuel = b; replies = es; delivered = length s.effects })
replied_later b s e es is = record {
  slots = refl;
  constants = refl;
  calls = refl;
  taken = e ∷ [];
  replies = is;
  left = record {
    added = [];
    effects = sym (append-nil s.effects);
    delivered = λ h. omega arith;
    fuel = λ h. omega arith;
    same_delivered = λ none. absurd (some none);
    less_fuel = λ none. absurd (some none);
  };
}
  where
    some : s.replies ≡ [] → ⊥
    some none = let n : length (e ∷ es) ≡ 0 = ap length (sym is ∙ none) in omega arith

-- a body with slots and calls of its own, and then the caller's again
pub in_body_beyond : (b : ℕ) (s : State) (slots : List (Option PlainValue)) (active : ℕ) (l : Left) → Beyond b (record s { slots = slots; calls = active }) l → Beyond b s l
in_body_beyond b s slots active l h = record { added = h.added; effects = h.effects; delivered = h.delivered; fuel = h.fuel; same_delivered = h.same_delivered; less_fuel = h.less_fuel }

pub returned_later : (b : ℕ) (s : State) (slots : List (Option PlainValue)) (active : ℕ) (after : State) → Later b (record s { slots = slots; calls = active }) after → Later b s (record after { slots = s.slots; calls = s.calls })
returned_later b s slots active after l = record { slots = refl; constants = l.constants; calls = refl; taken = l.taken; replies = l.replies; left = in_body_beyond b s slots active (left_of after) l.left }
