-- The count of lines, and comments.
use Rattle.std.proofs.Common.{◌≡◌, ℕ, zero, suc, ◌+◌, ◌-◌, ◌<◌, true, false, List, [], ◌∷◌, Option, Some, None, option_map, if◌then◌else◌, nat_eq, length, drop, codes, refl, sym, ap, ◌∙◌, add_assoc, arith}
use Rattle.js_data.proofs.Shared.{if_true, if_false}
use Rattle.js_lexer.specs.Bytes.{begins}
use Rattle.js_lexer.specs.Gaps.{ends_line, line_ends, line_end_size, size_of_line, size_to_close}

-- one more byte
pub line_ends_step : (n b : ℕ) (rest bs : List ℕ) → rest ≡ b ∷ bs → 0 < n → line_ends n rest ≡ (if ends_line rest then 1 else 0) + line_ends (n - 1) bs
line_ends_step zero b rest bs e h = absurd (omega arith)
line_ends_step (suc n) b rest bs e h = let k : suc n - 1 ≡ n = omega arith in rw (e, k) refl

pub line_ends_none : (n : ℕ) (rest : List ℕ) → length rest ≡ 0 → line_ends n rest ≡ 0
line_ends_none zero rest h = refl
line_ends_none (suc n) [] h = refl
line_ends_none (suc n) (b ∷ rest) h = absurd (omega arith)

-- the lines of a front and of what is after it
pub line_ends_add : (m n : ℕ) (bs : List ℕ) → line_ends (m + n) bs ≡ line_ends m bs + line_ends n (drop m bs)
line_ends_add zero n bs = grind arith
line_ends_add (suc m) n [] = grind (arith, line_ends_none (suc m + n) [] refl, line_ends_none n [] refl)
line_ends_add (suc m) n (b ∷ bs) =
    let h : suc m + n ≡ suc (m + n) = omega arith in
    rw (h, line_ends_add m n bs) (sym (add_assoc (if ends_line (b ∷ bs) then 1 else 0) (line_ends m bs) (line_ends n (drop m bs))))

pub size_of_line_step : (b : ℕ) (rest bs : List ℕ) → rest ≡ b ∷ bs → line_end_size rest ≡ 0 → size_of_line rest ≡ suc (size_of_line bs)
size_of_line_step b rest bs e h = ap size_of_line e ∙ if_true _ _ _ (ap (λ n. nat_eq n 0) (ap line_end_size (sym e) ∙ h))

-- this many bytes further on
abbrev pub further : ℕ → Option ℕ → Option ℕ
further n o = option_map (λ m. n + m) o

further_suc : (n : ℕ) (o : Option ℕ) → further n (option_map suc o) ≡ further (n + 1) o
further_suc n None = refl
further_suc n (Some m) = ap Some (omega arith)

pub close_here : (size b : ℕ) (rest bs : List ℕ) → rest ≡ b ∷ bs → begins rest (codes "*/") ≡ true → further size (size_to_close rest) ≡ Some (size + 2)
close_here size b rest bs e h =
    ap (λ r. further size (size_to_close r)) e ∙ ap (further size) (if_true _ _ _ (ap (λ r. begins r (codes "*/")) (sym e) ∙ h))

pub close_step : (size b : ℕ) (rest bs : List ℕ) → rest ≡ b ∷ bs → begins rest (codes "*/") ≡ false → further size (size_to_close rest) ≡ further (size + 1) (size_to_close bs)
close_step size b rest bs e h =
    ap (λ r. further size (size_to_close r)) e ∙ ap (further size) (if_false _ _ _ (ap (λ r. begins r (codes "*/")) (sym e) ∙ h)) ∙
    further_suc size (size_to_close bs)

pub close_none : (size : ℕ) (rest : List ℕ) → length rest ≡ 0 → further size (size_to_close rest) ≡ None
close_none size [] h = refl
close_none size (b ∷ rest) h = absurd (omega arith)
