-- Bytes say one list of records and one end.
use Rattle.std.proofs.Common.{◌≡◌, ◌∙◌, ℕ, zero, suc, ◌≤◌, ◌<◌, List, [], ◌∷◌, length, length-append, Option, Some, None, refl, sym, ap, subst, arith}
use Rattle.bp_log.specs.Logs.{record_text}
use Rattle.bp_log.specs.declared.record.Record.{Record}
use Rattle.bp_reading.specs.Heads.{Refusal}
use Rattle.bp_reading.specs.Reading.{Stage, after, Says, Next, found, finished, refused, next_at}
use Rattle.bp_reading.specs.Laws.{ReadOneWay}
use Rattle.bp_reading.proofs.Told.{found_is, found_again}

-- ---- what stands next is one thing

refused_by : Next → Option Refusal
refused_by (refused f) = Some f
refused_by _ = None

is_found : Next → Option Record
is_found (found r rest) = Some r
is_found _ = None

pub found_unfinished : (x : Next) (r : Record) (rest : List ℕ) → x ≡ found r rest → x ≡ finished → ⊥
unfolding is_found
found_unfinished x r rest h k = let e : Some r ≡ None = ap is_found (sym h ∙ k) in cc

pub found_unrefused : (x : Next) (r : Record) (rest : List ℕ) (f : Refusal) → x ≡ found r rest → x ≡ refused f → ⊥
unfolding is_found
found_unrefused x r rest f h k = let e : Some r ≡ None = ap is_found (sym h ∙ k) in cc

pub finished_unrefused : (x : Next) (f : Refusal) → x ≡ finished → x ≡ refused f → ⊥
unfolding refused_by
finished_unrefused x f h k = let e : None ≡ Some f = ap refused_by (sym h ∙ k) in cc

pub one_refusal : (x : Next) (f g : Refusal) → x ≡ refused f → x ≡ refused g → Some f ≡ Some g
unfolding refused_by
one_refusal x f g h k = ap refused_by (sym h ∙ k)

-- ---- no two lists

one_reading : (rs ss : List Record) (f g : Option Refusal) (s : Stage) (bytes : List ℕ) → Says s bytes rs f → Says s bytes ss g → (ss ≡ rs) × (g ≡ f)
one_reading [] [] None None s bytes h k = (refl, refl)
one_reading [] [] None (Some g) s bytes h k = absurd (finished_unrefused (next_at s bytes) g h k)
one_reading [] [] (Some f) None s bytes h k = absurd (finished_unrefused (next_at s bytes) f k h)
one_reading [] [] (Some f) (Some g) s bytes h k = (refl, one_refusal (next_at s bytes) g f k h)
one_reading [] (q ∷ ss) None g s bytes h k = absurd (found_unfinished (next_at s bytes) q k.0 k.1 h)
one_reading [] (q ∷ ss) (Some f) g s bytes h k = absurd (found_unrefused (next_at s bytes) q k.0 f k.1 h)
one_reading (r ∷ rs) [] f None s bytes h k = absurd (found_unfinished (next_at s bytes) r h.0 h.1 k)
one_reading (r ∷ rs) [] f (Some g) s bytes h k = absurd (found_unrefused (next_at s bytes) r h.0 g h.1 k)
one_reading (r ∷ rs) (q ∷ ss) f g s bytes h k =
    let same = found_is q r k.0 h.0 (sym k.1 ∙ h.1) in
    let says : Says (after s r) h.0 ss g = subst (λ (x : Record). Says (after s x) h.0 ss g) same.0 (subst (λ (xs : List ℕ). Says (after s q) xs ss g) same.1 k.2) in
    let more = one_reading rs ss f g (after s r) h.0 h.2 says in
    (ap (λ (x : Record). x ∷ ss) same.0 ∙ ap (λ (xs : List Record). r ∷ xs) more.0, more.1)

-- ---- there is one

abbrev SaysSome : Stage → List ℕ → Type 0
SaysSome s bytes = (rs : List Record) × (f : Option Refusal) × Says s bytes rs f

by_next : (s : Stage) (bytes : List ℕ) (x : Next) → next_at s bytes ≡ x → ((r : Record) (rest : List ℕ) → next_at s bytes ≡ found r rest → SaysSome (after s r) rest) → SaysSome s bytes
by_next s bytes finished h more = ([], None, h)
by_next s bytes (refused f) h more = ([], Some f, h)
by_next s bytes (found r rest) h more = let m = more r rest h in (r ∷ m.0, m.1, (rest, h, m.2))

shorter : (s : Stage) (bytes rest : List ℕ) (r : Record) → next_at s bytes ≡ found r rest → length rest < length bytes
shorter s bytes rest r h =
    let whole = ap (λ (xs : List ℕ). length xs) (found_again s bytes rest r h) in
    let sum = length-append (record_text r) (10 ∷ rest) in
    omega (arith, whole, sum)

says_some : (n : ℕ) (s : Stage) (bytes : List ℕ) → length bytes ≤ n → SaysSome s bytes
says_some zero s bytes few = by_next s bytes (next_at s bytes) refl (λ r rest h. let less = shorter s bytes rest r h in absurd (omega (arith, less, few)))
says_some (suc n) s bytes few = by_next s bytes (next_at s bytes) refl (λ r rest h. let less = shorter s bytes rest r h in says_some n (after s r) rest (omega (arith, less, few)))

pub read_one_way : ReadOneWay
read_one_way s bytes =
    let m = says_some (length bytes) s bytes (omega arith) in
    (m.0, m.1, m.2, λ ss g k. one_reading m.0 ss m.1 g s bytes m.2 k)
