-- Pieces that are appended one after another.
use Rattle.std.proofs.Common.{◌≡◌, ℕ, ◌+◌, ◌-◌, ◌≤◌, List, ◌++◌, length, take, drop, append_assoc, take-append-drop, length-drop, arith, sym, ap, ◌∙◌, subst, refl}
use Rattle.std.specs.Prelude.{Option, Some, None}
use Rattle.std.proofs.Math.Seq.{take-add}
use Rattle.std.proofs.lemmas.List.{take-take, drop-drop, length-take-le, take_all, take_at}
use Rattle.bp_base.specs.Pieces.{Gives, Appends, AppendsFront}

-- the next part of a slice, read from where the last one ended
pub take-part : (xs : List ℕ) (d n : ℕ) → n ≤ length xs - d → take (d + n) xs ≡ take d xs ++ take n (take (length xs - d) (drop d xs))
take-part xs d n h = rw (take-add, take-take n (length xs - d) (drop d xs) h) refl

pub appends-on : (a b c : Option (List ℕ)) (p q : List ℕ) → Appends a p b → Appends b q c → Appends a (p ++ q) c
appends-on None b c p q h k = tt
appends-on (Some w) b c p q h k =
    let k' : c ≡ Some ((w ++ p) ++ q) = rw h at k in
    k' ∙ ap (λ (t : List ℕ). Some t) (append_assoc w p q)

-- a whole part was appended and then nothing
pub appends_front : (a b c : Option (List ℕ)) (xs : List ℕ) (d : ℕ) → Appends a (take d xs) b → c ≡ b → AppendsFront a xs c
appends_front a b c xs d h e = (take d xs, drop d xs, sym (take-append-drop d xs), subst (λ (o : Option (List ℕ)). Appends a (take d xs) o) (sym e) h)

-- a piece, and then another
pub gives-on : (a b c : Option (List ℕ)) (p q : List ℕ) → Gives a p b → Gives b q c → Gives a (p ++ q) c
gives-on None b c p q h k = tt
gives-on (Some w) None c p q h k = absurd h
gives-on (Some w) (Some r) None p q h k = absurd k
gives-on (Some w) (Some r) (Some t) p q h k = h ∙ ap (λ (x : List ℕ). p ++ x) k ∙ sym (append_assoc p q t)

-- a piece of what is left at a place is copied to the front of a buffer
pub copied_front : (left bytes buffer copy : List ℕ) (at n : ℕ) → left ≡ drop at bytes → copy ≡ take n (take (length bytes - at) (drop at bytes)) → n ≤ length (take (length bytes - at) (drop at bytes)) → left ≡ take n (copy ++ drop n buffer) ++ drop (at + n) bytes
copied_front left bytes buffer copy at n e k h =
    let whole : take (length bytes - at) (drop at bytes) ≡ drop at bytes =
    take_all (length bytes - at) (drop at bytes) (omega (arith, length-drop at bytes)) in
    let fits : n ≤ length (drop at bytes) = rw whole at h in
    let front : take n (take n (drop at bytes) ++ drop n buffer) ≡ take n (drop at bytes) =
    take_at (take n (drop at bytes)) (drop n buffer) n (length-take-le n (drop at bytes) fits) in
    rw (e, k, whole, front, ← drop-drop n at bytes) (sym (take-append-drop n (drop at bytes)))
