-- Nodes one after the other, and marks of their parts from the last node down.
use Rattle.std.proofs.Common.{◌≡◌, ◌∙◌, ℕ, suc, ◌+◌, ◌-◌, ◌<◌, ◌≤◌, Bool, true, false, ◌||◌, nat_eq, List, [], ◌∷◌, ◌++◌, length, get_or, drop, refl, sym, ap, subst, arith, add-one, drop-cons}
use Rattle.std.specs.Prelude.{Some, slice_get}
use Rattle.std.specs.List.{list_any}
use Rattle.std.proofs.lemmas.List.Folds.{list_any-append}
use Rattle.std.proofs.Math.ListN.{drop_of_length-le}
use Rattle.std.proofs.lemmas.Option.{slice_get_within, get_or_from_slice_get}
use Rattle.js_program.specs.PlainProgram.{PlainNode, parts_of}
use Rattle.bp_check.specs.Tops.{has, with_parts, numbers_in}
use Rattle.bp_check.specs.inner.Marks.{Marks}

-- what a list goes on with at a place
pub drop_at : {X : Type 0} (xs : List X) (i : ℕ) (x : X) → slice_get xs i ≡ Some x → drop i xs ≡ x ∷ drop (suc i) xs
drop_at xs i x h =
    let within : i < length xs = slice_get_within xs i x h in
    drop-cons xs i x within ∙ ap (λ y. y ∷ drop (suc i) xs) (get_or_from_slice_get xs i x x h)

head_passes : {X : Type 0} (test : X → Bool) (x : X) (xs : List X) → test x ≡ true → list_any test (x ∷ xs) ≡ true
head_passes test x xs h = rw h refl

head_fails : {X : Type 0} (test : X → Bool) (x : X) (xs : List X) → test x ≡ false → list_any test (x ∷ xs) ≡ list_any test xs
head_fails test x xs h = rw h refl

pub any_here : {X : Type 0} (test : X → Bool) (xs : List X) (i : ℕ) (x : X) → slice_get xs i ≡ Some x → test x ≡ true → list_any test (drop i xs) ≡ true
any_here test xs i x h t = ap (list_any test) (drop_at xs i x h) ∙ head_passes test x (drop (suc i) xs) t

pub any_later : {X : Type 0} (test : X → Bool) (xs : List X) (i : ℕ) (x : X) → slice_get xs i ≡ Some x → test x ≡ false →
    list_any test (drop i xs) ≡ list_any test (drop (i + 1) xs)
any_later test xs i x h t =
    ap (list_any test) (drop_at xs i x h) ∙ head_fails test x (drop (suc i) xs) t
    ∙ ap (λ (j : ℕ). list_any test (drop j xs)) (sym (add-one i))

with_its_parts : (numbers : List ℕ) (n : ℕ) (x : PlainNode) → has numbers n ≡ true → with_parts numbers n x ≡ numbers ++ parts_of x.form
with_its_parts numbers n x h = rw h refl

without_parts : (numbers : List ℕ) (n : ℕ) (x : PlainNode) → has numbers n ≡ false → with_parts numbers n x ≡ numbers
without_parts numbers n x h = rw h refl

-- the numbers that are asked for by what stands after a node
abbrev behind : List ℕ → ℕ → List PlainNode → List ℕ
behind begun n nodes = numbers_in begun (suc n) (drop (suc n) nodes)

behind_next : (begun : List ℕ) (n : ℕ) (nodes : List PlainNode) → numbers_in begun (n + 1) (drop (n + 1) nodes) ≡ behind begun n nodes
behind_next begun n nodes = ap (λ (m : ℕ). numbers_in begun m (drop m nodes)) (add-one n)

numbers_at : (begun : List ℕ) (n : ℕ) (nodes : List PlainNode) (x : PlainNode) → slice_get nodes n ≡ Some x →
    numbers_in begun n (drop n nodes) ≡ with_parts (behind begun n nodes) n x
numbers_at begun n nodes x h = ap (λ (xs : List PlainNode). numbers_in begun n xs) (drop_at nodes n x h)

-- a node that is marked: its parts are marked too
pub marked_parts : (begun : List ℕ) (n : ℕ) (nodes : List PlainNode) (x : PlainNode) (old new : List Bool) → slice_get nodes n ≡ Some x → n < length old → length new ≡ length old →
    get_or old n false ≡ true → ((k : ℕ) → k < length old → get_or new k false ≡ (get_or old k false || has (parts_of x.form) k)) →
    Marks old (numbers_in begun (n + 1) (drop (n + 1) nodes)) → Marks new (numbers_in begun n (drop n nodes))
marked_parts begun n nodes x old new at within same marked more marks = λ k below.
    let later : List ℕ = behind begun n nodes in
    let inside : k < length old = subst (λ (m : ℕ). k < m) same below in
    let seen : (j : ℕ) → j < length old → get_or old j false ≡ has later j = λ j i. marks j i ∙ ap (λ (ns : List ℕ). has ns j) (behind_next begun n nodes) in
    let here : has later n ≡ true = sym (seen n within) ∙ marked in
    let all : numbers_in begun n (drop n nodes) ≡ later ++ parts_of x.form = numbers_at begun n nodes x at ∙ with_its_parts later n x here in
    more k inside ∙ ap (λ (b : Bool). b || has (parts_of x.form) k) (seen k inside)
    ∙ sym (list_any-append (nat_eq k) later (parts_of x.form)) ∙ ap (λ (ns : List ℕ). has ns k) (sym all)

-- one that is not marked asks for nothing
pub unmarked : (begun : List ℕ) (n : ℕ) (nodes : List PlainNode) (x : PlainNode) (old : List Bool) → slice_get nodes n ≡ Some x → n < length old → get_or old n false ≡ false →
    Marks old (numbers_in begun (n + 1) (drop (n + 1) nodes)) → Marks old (numbers_in begun n (drop n nodes))
unmarked begun n nodes x old at within marked marks = λ k inside.
    let later : List ℕ = behind begun n nodes in
    let seen : (j : ℕ) → j < length old → get_or old j false ≡ has later j = λ j i. marks j i ∙ ap (λ (ns : List ℕ). has ns j) (behind_next begun n nodes) in
    let here : has later n ≡ false = sym (seen n within) ∙ marked in
    seen k inside ∙ ap (λ (ns : List ℕ). has ns k) (sym (numbers_at begun n nodes x at ∙ without_parts later n x here))

-- nothing stands after the last node
pub begun_marks : (begun : List ℕ) (n : ℕ) (nodes : List PlainNode) (old new : List Bool) → n ≡ length nodes → length new ≡ length old → Marks old [] →
    ((k : ℕ) → k < length old → get_or new k false ≡ (get_or old k false || has begun k)) → Marks new (numbers_in begun n (drop n nodes))
begun_marks begun n nodes old new all same clear more = λ k below.
    let inside : k < length old = subst (λ (m : ℕ). k < m) same below in
    let over : length nodes ≤ n = omega (arith, all) in
    let none : drop n nodes ≡ [] = drop_of_length-le nodes over in
    more k inside ∙ ap (λ (b : Bool). b || has begun k) (clear k inside) ∙ ap (λ (xs : List PlainNode). has (numbers_in begun n xs) k) (sym none)

-- from one node to the one before it
pub marks_down : (begun : List ℕ) (n : ℕ) (nodes : List PlainNode) (old new : List Bool) → 0 < n →
    (Marks old (numbers_in begun (n - 1 + 1) (drop (n - 1 + 1) nodes)) → Marks new (numbers_in begun (n - 1) (drop (n - 1) nodes))) →
    Marks old (numbers_in begun n (drop n nodes)) → Marks new (numbers_in begun (n - 1) (drop (n - 1) nodes))
marks_down begun n nodes old new some step marks =
    let same : n ≡ n - 1 + 1 = omega (arith, some) in
    step (subst (λ (m : ℕ). Marks old (numbers_in begun m (drop m nodes))) same marks)
