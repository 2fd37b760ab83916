-- How far a log is read that is asked about: the bytes tell it in one way.
use Rattle.std.proofs.Common.{◌≡◌, ◌⊎◌, ◌∙◌, ℕ, ◌+◌, ◌≤◌, ◌<◌, List, [], ◌∷◌, ◌++◌, length, length-append, append-nil, Option, Some, None, refl, sym, ap, subst, arith, inl, inr}
use Rattle.std.specs.Prelude.{IfSome}
use Rattle.bp_log.specs.declared.record.Record.{Record}
use Rattle.bp_reading.specs.Heads.{Refusal, cut}
use Rattle.bp_reading.specs.Reading.{Stage, BeginsWith, Says, refused, next_at, after}
use Rattle.bp_reading.proofs.OneWay.{read_one_way}
use Rattle.bp_answers.specs.Reading.{AreAsked, AreFewer, IsEnd, ReadsSome}

-- all that is asked for was read, the log ends with fewer records, or what stands next is refused
pub data Reach : Type 0 where
  asked : List Record → Reach
  fewer : Reach
  spoiled : Refusal → Reach

-- what is refused where a log that is cut is not
abbrev pub IsBad : Option ℕ → Refusal → List Record → Type 0
IsBad number r rs = ¬ (r ≡ cut) × IfSome number (λ n. length rs < n)

-- the bytes are read so far
abbrev pub Reaches : Stage → List ℕ → Option ℕ → Reach → Type 0
Reaches s bytes number (asked rs) = (t : Stage) × (left : List ℕ) × BeginsWith s bytes rs t left × AreAsked number rs (next_at t left)
Reaches s bytes number fewer = ReadsSome s bytes (AreFewer number)
Reaches s bytes number (spoiled r) = ReadsSome s bytes (λ rs x. IsBad number r rs × (x ≡ refused r))

-- ---- what was read begins all that the bytes say

begins_all : (rs more : List Record) (g : Option Refusal) (s t : Stage) (bytes left : List ℕ) → BeginsWith s bytes rs t left → Says t left more g → Says s bytes (rs ++ more) g
begins_all [] more g s t bytes left b h = subst (λ (x : Stage). Says x bytes more g) b.0 (subst (λ (xs : List ℕ). Says t xs more g) b.1 h)
begins_all (r ∷ rs) more g s t bytes left b h = (b.0, b.1, begins_all rs more g (after s r) t b.0 left b.2 h)

fronts_same : (rs ss xs ys : List Record) → length rs ≡ length ss → rs ++ xs ≡ ss ++ ys → rs ≡ ss
fronts_same [] [] xs ys n e = refl
fronts_same [] (q ∷ ss) xs ys n e = absurd (omega (arith, n))
fronts_same (r ∷ rs) [] xs ys n e = absurd (omega (arith, n))
fronts_same (r ∷ rs) (q ∷ ss) xs ys n e =
    let first : r ≡ q = cc in
    let rest : rs ++ xs ≡ ss ++ ys = cc in
    let as_long : length rs ≡ length ss = omega (arith, n) in
    let same = fronts_same rs ss xs ys as_long rest in
    ap (λ (x : Record). x ∷ rs) first ∙ ap (λ (zs : List Record). q ∷ zs) same

-- the bytes end well, or are cut
abbrev EndsWell : Option Refusal → Type 0
EndsWell f = (f ≡ None) ⊎ (f ≡ Some cut)

well_not_bad : (f : Option Refusal) (r : Refusal) → EndsWell f → f ≡ Some r → ¬ (r ≡ cut) → ⊥
well_not_bad f r (inl e) h n = cc
well_not_bad f r (inr e) h n = n (let k : Some r ≡ Some cut = sym h ∙ e in cc)

module _ (s : Stage) (bytes : List ℕ) where
  all : List Record
  all = (read_one_way s bytes).0

  last : Option Refusal
  last = (read_one_way s bytes).1

  front : (rs more : List Record) (g : Option Refusal) (t : Stage) (left : List ℕ) → BeginsWith s bytes rs t left → Says t left more g → (rs ++ more ≡ all) × (g ≡ last)
  unfolding all last
  front rs more g t left b h = (read_one_way s bytes).3 (rs ++ more) g (begins_all rs more g s t bytes left b h)

  -- some records more
  some_more : (rs : List Record) (t : Stage) (left : List ℕ) → BeginsWith s bytes rs t left → (more : List Record) × (rs ++ more ≡ all)
  some_more rs t left b =
      let m = read_one_way t left in
      (m.0, (front rs m.0 m.1 t left b m.2).0)

  within : (rs : List Record) (t : Stage) (left : List ℕ) → BeginsWith s bytes rs t left → length rs ≤ length all
  within rs t left b =
      let m = some_more rs t left b in
      let long = ap (λ (xs : List Record). length xs) m.1 in
      let both = length-append rs m.0 in
      omega (arith, long, both)

  at_end : (rs : List Record) (t : Stage) (left : List ℕ) → BeginsWith s bytes rs t left → IsEnd (next_at t left) → (rs ≡ all) × EndsWell last
  at_end rs t left b (inl h) = let p = front rs [] None t left b h in (sym (append-nil rs) ∙ p.0, inl (sym p.1))
  at_end rs t left b (inr h) = let p = front rs [] (Some cut) t left b h in (sym (append-nil rs) ∙ p.0, inr (sym p.1))

  at_refused : (rs : List Record) (t : Stage) (left : List ℕ) (r : Refusal) → BeginsWith s bytes rs t left → next_at t left ≡ refused r → (rs ≡ all) × (last ≡ Some r)
  at_refused rs t left r b h = let p = front rs [] (Some r) t left b h in (sym (append-nil rs) ∙ p.0, sym p.1)

  -- as many as there are can't be fewer than those that were read
  too_few : (rs ss : List Record) (n : ℕ) (t : Stage) (left : List ℕ) → BeginsWith s bytes rs t left → length rs ≡ n → ss ≡ all → length ss < n → ⊥
  too_few rs ss n t left b h e k =
      let most = within rs t left b in
      let same = ap (λ (xs : List Record). length xs) e in
      omega (arith, most, same, h, k)

  -- ---- any two

  module _ (rs ss : List Record) (t u : Stage) (left more : List ℕ) (b : BeginsWith s bytes rs t left) (d : BeginsWith s bytes ss u more) where
    both_asked : (number : Option ℕ) → AreAsked number rs (next_at t left) → AreAsked number ss (next_at u more) → rs ≡ ss
    both_asked None h k = (at_end rs t left b h).0 ∙ sym (at_end ss u more d k).0
    both_asked (Some n) h k =
        let m = some_more rs t left b in
        let l = some_more ss u more d in
        fronts_same rs ss m.0 l.0 (h ∙ sym k) (m.1 ∙ sym l.1)

    not_fewer : (number : Option ℕ) → AreAsked number rs (next_at t left) → AreFewer number ss (next_at u more) → ⊥
    not_fewer None h k = k
    not_fewer (Some n) h k = too_few rs ss n t left b h (at_end ss u more d k.1).0 k.0

    not_spoiled : (number : Option ℕ) (r : Refusal) → AreAsked number rs (next_at t left) → IsBad number r ss → next_at u more ≡ refused r → ⊥
    not_spoiled None r h k e = well_not_bad last r (at_end rs t left b h).1 (at_refused ss u more r d e).1 k.0
    not_spoiled (Some n) r h k e = too_few rs ss n t left b h (at_refused ss u more r d e).0 k.1

    not_both : (number : Option ℕ) (r : Refusal) → AreFewer number rs (next_at t left) → IsBad number r ss → next_at u more ≡ refused r → ⊥
    not_both None r h k e = h
    not_both (Some n) r h k e = well_not_bad last r (at_end rs t left b h.1).1 (at_refused ss u more r d e).1 k.0

    one_refused : (r q : Refusal) → next_at t left ≡ refused r → next_at u more ≡ refused q → r ≡ q
    one_refused r q h k = let e : Some r ≡ Some q = sym (at_refused rs t left r b h).1 ∙ (at_refused ss u more q d k).1 in cc

  pub one_reach : (number : Option ℕ) (a b : Reach) → Reaches s bytes number a → Reaches s bytes number b → a ≡ b
  one_reach number (asked rs) (asked ss) h k = ap (λ (xs : List Record). asked xs) (both_asked rs ss h.0 k.0 h.1 k.1 h.2 k.2 number h.3 k.3)
  one_reach number (asked rs) fewer h k = absurd (not_fewer rs k.0 h.0 k.1 h.1 k.2 h.2 k.3 number h.3 k.4)
  one_reach number (asked rs) (spoiled r) h k = absurd (not_spoiled rs k.0 h.0 k.1 h.1 k.2 h.2 k.3 number r h.3 k.4.0 k.4.1)
  one_reach number fewer (asked ss) h k = absurd (not_fewer ss h.0 k.0 h.1 k.1 h.2 k.2 h.3 number k.3 h.4)
  one_reach number fewer fewer h k = refl
  one_reach number fewer (spoiled r) h k = absurd (not_both h.0 k.0 h.1 k.1 h.2 k.2 h.3 k.3 number r h.4 k.4.0 k.4.1)
  one_reach number (spoiled r) (asked ss) h k = absurd (not_spoiled ss h.0 k.0 h.1 k.1 h.2 k.2 h.3 number r k.3 h.4.0 h.4.1)
  one_reach number (spoiled r) fewer h k = absurd (not_both k.0 h.0 k.1 h.1 k.2 h.2 k.3 h.3 number r k.4 h.4.0 h.4.1)
  one_reach number (spoiled r) (spoiled q) h k = ap (λ (x : Refusal). spoiled x) (one_refused h.0 k.0 h.1 k.1 h.2 k.2 h.3 k.3 r q h.4.1 k.4.1)
