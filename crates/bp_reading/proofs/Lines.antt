-- Lists up to a byte.
use Rattle.std.proofs.Common.{◌≡◌, ℕ, ◌-◌, ◌≤◌, Bool, true, false, cond, List, [], ◌∷◌, ◌++◌, length, Some, refl, sym, ap, ◌∙◌, inl, inr, arith}
use Rattle.std.proofs.lemmas.Bool.Decides.{eqb_tells}
use Rattle.std.proofs.lemmas.Bool.{false≢true, eq-eqb}
use Rattle.std.specs.Prelude.{◌==◌}
use Rattle.std.proofs.lemmas.Option.{same_Some}
use Rattle.bp_reading.specs.Words.{around}
use Rattle.bp_log.specs.declared.version.Version.{Version}
use Rattle.bp_log.specs.declared.version.Version.TheVariants.{First, Second}
use Rattle.bp_reading.specs.declared.limits.TheConstants.{MOST_LINE_BYTES}
use Rattle.bp_reading.specs.Heads.{line_at, line_room, whole}

-- the byte isn't among them
abbrev pub lacks : ℕ → List ℕ → Bool
lacks c [] = true
lacks c (x ∷ xs) = cond (x == c) false (lacks c xs)

pub lacks-append : (c : ℕ) (xs ys : List ℕ) → lacks c xs ≡ true → lacks c ys ≡ true → lacks c (xs ++ ys) ≡ true
lacks-append c [] ys h k = k
lacks-append c (x ∷ xs) ys h k = elim (eqb_tells x c) [
  | inl same ↦ absurd (false≢true (rw same.0 at h))
  | inr other ↦ rw other.0 (lacks-append c xs ys (rw other.0 at h) k)
]

pub record Parts (x : ℕ) (xs : List ℕ) (c : ℕ) : Type 0 where
  pub other : (x == c) ≡ false
  pub rest : lacks c xs ≡ true

pub lacks_parts : (c x : ℕ) (xs : List ℕ) → lacks c (x ∷ xs) ≡ true → Parts x xs c
lacks_parts c x xs h = elim (eqb_tells x c) [
  | inl same ↦ absurd (false≢true (rw same.0 at h))
  | inr other ↦ record { other = other.0; rest = rw other.0 at h }
]

-- what stands before the first such byte
pub around_is : (c : ℕ) (a rest : List ℕ) → lacks c a ≡ true → around c (a ++ c ∷ rest) ≡ Some (a, rest)
around_is c [] rest h = rw (eq-eqb c c refl) refl
around_is c (x ∷ a) rest h =
    let p = lacks_parts c x a h in
    rw (p.other, around_is c a rest p.rest) refl

pub record Same (a b x y : List ℕ) : Type 0 where
  pub front : a ≡ b
  pub rest : x ≡ y

-- two lists with such a byte are cut at the same place
pub cut_same : (c : ℕ) (a b x y : List ℕ) → lacks c a ≡ true → lacks c b ≡ true → a ++ c ∷ x ≡ b ++ c ∷ y → Same a b x y
cut_same c a b x y h k e =
    let s : (a, x) ≡ (b, y) = same_Some _ _ (sym (around_is c a x h) ∙ ap (around c) e ∙ around_is c b y k) in
    record { front = ap (λ (p : List ℕ × List ℕ). p.0) s; rest = ap (λ (p : List ℕ × List ℕ). p.1) s }

-- the first line
pub line_is : (room : ℕ) (a rest : List ℕ) → lacks 10 a ≡ true → length a ≤ room → line_at room (a ++ 10 ∷ rest) ≡ whole a rest
line_is room [] rest h w = refl
line_is room (x ∷ a) rest h w =
    let p = lacks_parts 10 x a h in
    let some : (room == 0) ≡ false = elim (eqb_tells room 0) [ inl none ↦ absurd (omega (arith, none.1, w)) | inr other ↦ other.0 ] in
    rw (p.other, some, line_is (room - 1) a rest p.rest (omega (arith, w))) refl

-- the lines of records of all versions have one limit
pub room_is : (v : Version) → line_room v ≡ MOST_LINE_BYTES
room_is First = refl
room_is Second = refl
