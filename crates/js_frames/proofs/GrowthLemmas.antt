-- Lists that grow at their end.
use Rattle.std.proofs.Common.{◌≡◌, ℕ, ◌+◌, ◌-◌, ◌≤◌, List, [], ◌∷◌, ◌++◌, length, ◌∙◌, ap, sym, replicate, map, take, drop, arith, append_assoc, Option, Some, None, inl, inr, ◌⊎◌}
use Rattle.std.proofs.lemmas.List.{replicate_more, map-append, length-map, length-append, length-take, length-replicate, drop-set-lt}
use Rattle.js_value.specs.Value.{PlainValue, undefined}
use Rattle.js_program.specs.PlainProgram.{PlainBody}
use Rattle.js_meaning.specs.Variables.{padded, slots_of_call}
use Rattle.std.specs.Prelude.{fold, slice_set, slice_get}
use Rattle.js_frames.proofs.Lists.{drop_at}

-- one more of the same
pub fill_more : {X : Type 0} (x : X) (xs ys : List X) (start counter : ℕ) → start ≤ counter → ys ≡ (xs ++ replicate (counter - start) x) ++ x ∷ [] → ys ≡ xs ++ replicate (counter + 1 - start) x
fill_more x xs ys start counter le e =
    let n : counter - start + 1 ≡ counter + 1 - start = omega arith in
    e ∙ append_assoc xs (replicate (counter - start) x) (x ∷ []) ∙ ap (λ r. xs ++ r) (replicate_more (counter - start) x) ∙ ap (λ k. xs ++ replicate k x) n

-- a value that was moved after those that are there
pub push_next : {X : Type 0} (ys zs : List (Option X)) (xs us : List X) (k : ℕ) (x u : X) → zs ≡ ys ++ Some x ∷ [] → Some x ≡ slice_get xs k → us ≡ slice_set xs k u → zs ++ map Some (drop (k + 1) us) ≡ ys ++ map Some (drop k xs)
push_next ys zs xs us k x u e get put =
    ap (λ l. l ++ map Some (drop (k + 1) us)) e
    ∙ append_assoc ys (Some x ∷ []) (map Some (drop (k + 1) us))
    ∙ ap (λ l. ys ++ (Some x ∷ map Some l)) (ap (drop (k + 1)) put ∙ drop-set-lt (k + 1) xs k u (omega arith))
    ∙ ap (λ l. ys ++ map Some l) (sym (drop_at xs k x (sym get)))

-- one more element that was made of the next
pub moved_next : {X Y : Type 0} (f : X → Y) (ys zs : List Y) (xs : List X) (k : ℕ) (x : X) (y : Y) → zs ≡ ys ++ y ∷ [] → slice_get xs k ≡ Some x → y ≡ f x → zs ++ map f (drop (k + 1) xs) ≡ ys ++ map f (drop k xs)
moved_next f ys zs xs k x y e get h =
    ap (λ l. l ++ map f (drop (k + 1) xs)) e
    ∙ append_assoc ys (y ∷ []) (map f (drop (k + 1) xs))
    ∙ ap (λ q. ys ++ (q ∷ map f (drop (k + 1) xs))) h
    ∙ ap (λ l. ys ++ map f l) (sym (drop_at xs k x get))

pub padded_length : (n : ℕ) (vs : List PlainValue) → length (padded n vs) ≡ n
padded_length n vs = omega (arith, length-append (take n vs) (replicate (n - length vs) undefined), length-take n vs, length-replicate (n - length vs) undefined)

-- the slots of a call, as they are made
pub slots_made : (body : PlainBody) (captured args : List PlainValue) (start a b c d : List (Option PlainValue)) → start ≡ [] → a ≡ start ++ map Some (padded body.parameters args) → b ≡ a ++ map Some captured → c ≡ b ++ replicate (body.slots - length b) None → d ≡ fold (λ slots k. slice_set slots k (Some undefined)) c body.vars → d ≡ slots_of_call body captured args
slots_made body captured args start a b c d none first second third fourth =
    let given = padded body.parameters args in
    let all : b ≡ map Some (given ++ captured) =
    second ∙ ap (λ l. l ++ map Some captured) (first ∙ ap (λ l. l ++ map Some given) none) ∙ sym (map-append Some given captured) in
    let count : length b ≡ body.parameters + length captured =
    ap length all ∙ length-map (given ++ captured) Some ∙ length-append given captured ∙ ap (λ k. k + length captured) (padded_length body.parameters args) in
    fourth ∙ ap (λ l. fold (λ slots k. slice_set slots k (Some undefined)) l body.vars)
    (third ∙ ap (λ l. l ++ replicate (body.slots - length b) None) all ∙ ap (λ k. map Some (given ++ captured) ++ replicate (body.slots - k) None) count)

-- filled up to a count, or past it from the start
pub filled : {X : Type 0} (x : X) (xs ys : List X) (start counter count : ℕ) → ys ≡ xs ++ replicate (counter - start) x → start ≤ counter → (counter ≡ start) ⊎ (counter ≤ count) → count ≤ counter → ys ≡ xs ++ replicate (count - start) x
filled x xs ys start counter count e le so over =
    let n : counter - start ≡ count - start = elim so [ inl same ↦ omega arith | inr few ↦ omega arith ] in
    e ∙ ap (λ k. xs ++ replicate k x) n
