-- Events that were let go, and those after them.
use Rattle.std.proofs.Common.{◌≡◌, ℕ, suc, ◌+◌, ◌<◌, List, ◌++◌, length, take, drop, remove, sym, ap, ◌∙◌, arith}
use Rattle.std.proofs.lemmas.List.{drop-append-le, drop-take, drop-drop, length-take}

-- one of those that wait is taken out
pub later_remove : {A : Type 0} (g p : ℕ) (xs : List A) → g + p < length xs → drop g (remove xs (g + p)) ≡ remove (drop g xs) p
later_remove {A} g p xs h =
    let e : suc (g + p) ≡ g + suc p = omega arith in
    let l = length-take (g + p) xs in
    drop-append-le g (take (g + p) xs) (drop (suc (g + p)) xs) (omega (arith, h, l)) ∙ ap (λ (ys : List A). ys ++ drop (suc (g + p)) xs) (drop-take g p xs)
    ∙ ap (λ (n : ℕ). take p (drop g xs) ++ drop n xs) e ∙ ap (λ (ys : List A). take p (drop g xs) ++ ys) (sym (drop-drop (suc p) g xs))
