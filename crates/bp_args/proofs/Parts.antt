-- The parts of a word before and after a byte.
use Rattle.std.proofs.Common.{◌≡◌, ℕ, ◌<◌, false, List, length, Option, Some, None, option_map, refl, arith, Bor}
use Rattle.std.specs.Prelude.{◌==◌, nat_lt, MatchOption, eqb}
use Rattle.std.specs.List.{position_or_len, before_first, after_first}
use Rattle.std.proofs.lemmas.Bool.{lt-ltb, ltb-true, false_from_ne_true}
use Rattle.std.proofs.lemmas.Str.Pattern.{split_once_first, IsSplitOnceResult}
use Rattle.bp_args.specs.Said.{parts_at}

abbrev IsCut : ℕ → List ℕ → Option (Bor (List ℕ) × Bor (List ℕ)) → Type 0
IsCut c bs r = MatchOption r (position_or_len (λ b. eqb b c) bs ≡ length bs)
    (λ x. (position_or_len (λ b. eqb b c) bs < length bs) × (x.0.now ≡ before_first (λ b. eqb b c) bs) × (x.1.now ≡ after_first (λ b. eqb b c) bs))

cut : (c : ℕ) (bs : List ℕ) (r : Option (Bor (List ℕ) × Bor (List ℕ))) → IsCut c bs r → option_map (λ p. (p.0.now, p.1.now)) r ≡ parts_at c bs
cut c bs None h =
    let no : nat_lt (position_or_len (λ b. b == c) bs) (length bs) ≡ false = false_from_ne_true _ (λ t. let k = ltb-true _ _ t in omega (arith, k, h)) in
    rw no refl
cut c bs (Some x) h = rw (lt-ltb _ _ h.0, h.1, h.2) refl

pub parts : (c : ℕ) (bs : List ℕ) (r : Option (Bor (List ℕ) × Bor (List ℕ))) → IsSplitOnceResult c bs r → c < 128 → option_map (λ p. (p.0.now, p.1.now)) r ≡ parts_at c bs
parts c bs r h small = cut c bs r (split_once_first c bs r h small)
