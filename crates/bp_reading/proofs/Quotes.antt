-- Texts in quotation marks.
use Rattle.std.proofs.Common.{◌≡◌, ℕ, Bool, true, false, cond, List, [], ◌∷◌, ◌++◌, Option, Some, refl, sym, ap, ◌∙◌, inl, inr, arith, append_assoc, subst}
use Rattle.std.proofs.lemmas.Bool.{false≢true, cases_lt, and_parts, ne_eqb, agree_below, agree_below_at}
use Rattle.std.specs.Prelude.{◌==◌, ◌&&◌, not, flat_map}
use Rattle.json.specs.Print.{escape_byte}
use Rattle.json.proofs.Printed.Strings.{escape_byte_plain}
use Rattle.js_data.specs.JsonText.{quoted_text, escaped_byte}
use Rattle.js_json.proofs.Escapes.{escape_byte_is}
use Rattle.bp_reading.specs.Words.{to_quote, onto_front}
use Rattle.bp_reading.proofs.Lines.{lacks, lacks-append}

-- ---- each escape: no LF, no quotation mark that ends the text, no backslash left open

abbrev passes : Bool → List ℕ → Bool
passes escaped [] = not escaped
passes escaped (b ∷ bytes) = cond (not escaped && (b == 34)) false (passes (not escaped && (b == 92)) bytes)

abbrev good : List ℕ → Bool
good bytes = lacks 10 bytes && passes false bytes

all_good : agree_below (λ x. good (escape_byte x)) (λ x. true) 128 ≡ true
unfolding escape_byte
all_good = refl

good_escape : (x : ℕ) → good (escaped_byte x) ≡ true
good_escape x = elim (cases_lt x 128) [
  | inl small ↦ subst (λ bs. good bs ≡ true) (escape_byte_is x) (agree_below_at (λ x. good (escape_byte x)) (λ x. true) 128 x all_good small)
  | inr big ↦ subst (λ bs. good bs ≡ true) (sym (escape_byte_plain x (λ e. omega arith) (λ e. omega arith) (omega arith)) ∙ escape_byte_is x)
      (rw (ne_eqb x 10 (λ e. omega arith), ne_eqb x 34 (λ e. omega arith), ne_eqb x 92 (λ e. omega arith)) refl)
]

lacks_body : (s : List ℕ) → lacks 10 (flat_map escaped_byte s) ≡ true
lacks_body [] = refl
lacks_body (x ∷ s) = lacks-append 10 (escaped_byte x) _ (and_parts _ _ (good_escape x)).0 (lacks_body s)

pub lacks-quoted : (s : List ℕ) → lacks 10 (quoted_text s) ≡ true
lacks-quoted s = lacks-append 10 (flat_map escaped_byte s) (34 ∷ []) (lacks_body s) refl

-- ---- a quoted text ends where it ends

abbrev pub onto_all : List ℕ → Option (List ℕ × List ℕ) → Option (List ℕ × List ℕ)
onto_all [] o = o
onto_all (b ∷ bs) o = onto_front b (onto_all bs o)

on_pass : (t : Bool) (x : Bool) → cond t false x ≡ true → (t ≡ false) × (x ≡ true)
on_pass true x h = absurd (false≢true h)
on_pass false x h = (refl, h)

passed : (e : Bool) (bs r : List ℕ) → passes e bs ≡ true → to_quote e (bs ++ r) ≡ onto_all bs (to_quote false r)
passed true [] r h = absurd (false≢true h)
passed false [] r h = refl
passed e (b ∷ bs) r h =
    let p = on_pass (not e && (b == 34)) (passes (not e && (b == 92)) bs) h in
    rw (p.0) (ap (onto_front b) (passed (not e && (b == 92)) bs r p.1))

pub onto_all_is : (bs x y : List ℕ) → onto_all bs (Some (x, y)) ≡ Some (bs ++ x, y)
onto_all_is [] x y = refl
onto_all_is (b ∷ bs) x y = ap (onto_front b) (onto_all_is bs x y)

pub onto_all-append : (bs cs : List ℕ) (o : Option (List ℕ × List ℕ)) → onto_all (bs ++ cs) o ≡ onto_all bs (onto_all cs o)
onto_all-append [] cs o = refl
onto_all-append (b ∷ bs) cs o = ap (onto_front b) (onto_all-append bs cs o)

body : (s r : List ℕ) → to_quote false (flat_map escaped_byte s ++ r) ≡ onto_all (flat_map escaped_byte s) (to_quote false r)
body [] r = refl
body (x ∷ s) r =
    ap (to_quote false) (append_assoc (escaped_byte x) (flat_map escaped_byte s) r)
    ∙ passed false (escaped_byte x) (flat_map escaped_byte s ++ r) (and_parts _ _ (good_escape x)).1
    ∙ ap (onto_all (escaped_byte x)) (body s r)
    ∙ sym (onto_all-append (escaped_byte x) (flat_map escaped_byte s) (to_quote false r))

-- what stands after the opening mark: the rest of the quoted text, and what follows it
pub to_quote_is : (s r : List ℕ) → to_quote false ((flat_map escaped_byte s ++ 34 ∷ []) ++ r) ≡ Some (flat_map escaped_byte s ++ 34 ∷ [], r)
to_quote_is s r =
    ap (to_quote false) (append_assoc (flat_map escaped_byte s) (34 ∷ []) r)
    ∙ body s (34 ∷ r)
    ∙ onto_all_is (flat_map escaped_byte s) (34 ∷ []) r
