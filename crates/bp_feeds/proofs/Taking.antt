-- A step of a reading takes at most one line.
use Rattle.std.proofs.Common.{◌≡◌, ℕ, ◌≤◌, false, List, [], ◌∷◌, ◌++◌, Option, Some, None, length, inl, refl, sym, ap, ◌∙◌, subst, append_assoc, append-nil, arith}
use Rattle.bp_base.specs.Pieces.{Gives}
use Rattle.bp_feeds.specs.Items.{has_break, lines_of}
use Rattle.bp_feeds.specs.Reading.{Reading, TakesLine, PassesLine, IsSameReading}
use Rattle.bp_feeds.proofs.Cuts.{lines_at_break, lines_unbroken}

-- no line
pub takes_none : (bytes left : List ℕ) → left ≡ bytes → TakesLine bytes left
takes_none bytes left e = record { passed = []; all = sym e; one = omega arith }

-- a line with its LF
pub takes_line : (line more bytes left : List ℕ) → has_break line ≡ false → bytes ≡ line ++ 10 ∷ more → left ≡ more → TakesLine bytes left
takes_line line more bytes left u e f =
    let one : length (lines_of (line ++ 10 ∷ [])) ≡ 1 = ap (λ (l : List (List ℕ)). length l) (lines_at_break line [] u) in
    record {
      passed = line ++ 10 ∷ [];
      all = e ∙ ap (λ (l : List ℕ). line ++ 10 ∷ l) (sym f) ∙ sym (append_assoc line (10 ∷ []) left);
      one = omega (arith, one);
    }

few_unbroken : (line : List ℕ) → has_break line ≡ false → length (lines_of line) ≤ 1
few_unbroken [] u = omega arith
few_unbroken (b ∷ line) u = let one : length (lines_of (b ∷ line)) ≡ 1 = ap (λ (l : List (List ℕ)). length l) (lines_unbroken b line u) in omega (arith, one)

-- a last line
pub takes_last : (line bytes left : List ℕ) → has_break line ≡ false → bytes ≡ line → left ≡ [] → TakesLine bytes left
takes_last line bytes left u e f = record {
  passed = line;
  all = e ∙ sym (append-nil line) ∙ ap (λ (l : List ℕ). line ++ l) (sym f);
  one = few_unbroken line u;
}

gives_nothing : (left : Option (List ℕ)) → Gives left [] left
gives_nothing None = tt
gives_nothing (Some bytes) = refl

-- nothing was read
pub passes_nothing : (old new : Reading) → new.left ≡ old.left → new.held ≡ old.held → PassesLine old new
passes_nothing old new l h = record {
  came = [];
  given = subst (λ (o : Option (List ℕ)). Gives old.left [] o) (sym l) (gives_nothing old.left);
  stops = inl refl;
  takes = takes_none (old.held ++ []) new.held (h ∙ sym (append-nil old.held));
}

-- bytes came, and then a step was made on what is held
pub passes_after : (old mid new : Reading) → IsSameReading old mid → new.left ≡ mid.left → TakesLine mid.held new.held → PassesLine old new
passes_after old mid new s l t = record {
  came = s.came;
  given = subst (λ (o : Option (List ℕ)). Gives old.left s.came o) (sym l) s.given;
  stops = s.stops;
  takes = subst (λ (b : List ℕ). TakesLine b new.held) s.held t;
}
