-- What was heard of a source, once it came back.
use Rattle.std.proofs.Common.{◌≡◌, ◌⊎◌, ⊎_elim, ℕ, true, false, List, [], ◌∷◌, ◌++◌, Option, refl, sym, ap, ◌∙◌, subst, append_assoc, append-nil}
use Rattle.std.proofs.lemmas.Bool.{or_left, or_right, or_cases, or_parts, both_ways}
use Rattle.std.proofs.lemmas.List.Folds.{list_any-append}
use mathlib.Core.List.{IsPrefix}
use Rattle.bp_log.specs.declared.item.Item.{Item}
use Rattle.bp_log.specs.declared.item.Item.TheVariants.{Offered, Bad, Failed, End}
use Rattle.bp_log.specs.declared.record.Record.{Record}
use Rattle.bp_feeds.specs.Items.{is_fault, is_last, is_end, has_fault, has_last, has_end, whole_lines, lines_of, items, items_before_fault}
use Rattle.bp_feeds.specs.Reading.{IsAll, BeginsItems, EndsInFault}
use Rattle.bp_feeds.proofs.Behind.{open_before}
use Rattle.bp_feeds.proofs.Cuts.{unended_lines}
use Rattle.bp_inject.proofs.Begins.{prefix_trans, prefix_snoc, fault_among}
use Rattle.bp_steps.specs.Merging.{items_by}
use Rattle.bp_session.specs.Heard.{IsHeard, IsHeardWhole, IsHeardToFault}
use Rattle.bp_session.proofs.Faultless.{faultless_by, faultless_items}

-- ---- lists of items

fault_behind : (xs ks : List Item) → has_fault (xs ++ Failed ∷ ks) ≡ true
fault_behind xs ks = list_any-append is_fault xs (Failed ∷ ks) ∙ or_right (has_fault xs) true refl

fault_before : (xs ks : List Item) → has_fault xs ≡ true → has_fault (xs ++ ks) ≡ true
fault_before xs ks h = list_any-append is_fault xs ks ∙ or_left (has_fault xs) (has_fault ks) h

end_before : (xs ks : List Item) → has_end xs ≡ true → has_end (xs ++ ks) ≡ true
end_before xs ks h = list_any-append is_end xs ks ∙ or_left (has_end xs) (has_end ks) h

end_is_last : (i : Item) → is_end i ≡ true → is_last i ≡ true
end_is_last (Offered e) h = h
end_is_last (Bad n) h = refl
end_is_last Failed h = refl
end_is_last End h = refl

ends_last : (xs : List Item) → has_end xs ≡ true → has_last xs ≡ true
ends_last [] h = h
ends_last (x ∷ xs) h =
    ⊎_elim (λ (e : is_end x ≡ true). or_left (is_last x) (has_last xs) (end_is_last x e))
    (λ (e : has_end xs ≡ true). or_right (is_last x) (has_last xs) (ends_last xs e))
    (or_cases (is_end x) (has_end xs) h)

-- what begins with a fault doesn't begin items of bytes
no_fault : (xs ks : List Item) (bytes : List ℕ) (P : Type 0) → IsPrefix (xs ++ Failed ∷ ks) (items bytes) → P
no_fault xs ks bytes P p =
    absurd (both_ways (has_fault (items bytes)) (faultless_items bytes) (ap has_fault (sym p.1) ∙ fault_before (xs ++ Failed ∷ ks) p.0 (fault_behind xs ks)))

-- ---- the front of the items

front_of : (j : ℕ) (records : List Record) (behind : List Item) (took rest : List ℕ)
    → IsPrefix (items_by j records ++ behind) (items (took ++ rest)) ⊎ EndsInFault took rest (items_by j records ++ behind)
    → IsPrefix (items_by j records) (items (took ++ rest))
front_of j records behind took rest begins =
    let heard = items_by j records in
    ⊎_elim
    (λ (p : IsPrefix (heard ++ behind) (items (took ++ rest))). prefix_trans heard (heard ++ behind) (items (took ++ rest)) (behind, refl) p)
    (λ (f : EndsInFault took rest (heard ++ behind)).
    ⊎_elim (λ (p : IsPrefix heard f.begun). prefix_trans heard f.begun (items (took ++ rest)) p f.begins)
    (λ (e : heard ≡ f.begun ++ Failed ∷ []). absurd (both_ways (has_fault heard) (faultless_by j records) (ap has_fault e ∙ fault_among f.begun)))
    (prefix_snoc heard behind f.begun Failed f.last))
    begins

pub heard_back : (j : ℕ) (records : List Record) (behind : List Item) (start left : Option (List ℕ)) → BeginsItems start left (items_by j records ++ behind) → IsHeard start left (items_by j records)
heard_back j records behind start left b = record {
  took = b.took;
  rest = b.rest;
  taken = b.taken;
  told = b.told;
  begins = front_of j records behind b.took b.rest b.begins;
}

-- ---- up to a fault

nothing_behind : (xs ks : List Item) (took : List ℕ) → xs ++ Failed ∷ ks ≡ items_before_fault took → ks ≡ []
nothing_behind xs [] took e = refl
nothing_behind xs (k ∷ ks) took e =
    let all : (xs ++ Failed ∷ []) ++ k ∷ ks ≡ items_before_fault took = append_assoc xs (Failed ∷ []) (k ∷ ks) ∙ e in
    let last : has_last (xs ++ Failed ∷ []) ≡ true = list_any-append is_last xs (Failed ∷ []) ∙ or_right (has_last xs) true refl in
    absurd (both_ways (has_last (xs ++ Failed ∷ [])) (open_before (whole_lines took) 1 Failed k (xs ++ Failed ∷ []) ks all) last)

pub heard_to_fault : (j : ℕ) (records : List Record) (behind : List Item) (start left : Option (List ℕ)) → BeginsItems start left (items_by j records ++ Failed ∷ behind)
    → IsHeardToFault start left (items_by j records)
heard_to_fault j records behind start left b =
    let heard = items_by j records in
    let whole : heard ++ Failed ∷ behind ≡ items_before_fault b.took =
    ⊎_elim
    (λ (p : IsPrefix (heard ++ Failed ∷ behind) (items (b.took ++ b.rest))). no_fault heard behind (b.took ++ b.rest) (heard ++ Failed ∷ behind ≡ items_before_fault b.took) p)
    (λ (f : EndsInFault b.took b.rest (heard ++ Failed ∷ behind)). f.broken)
    b.begins in
    record {
      took = b.took;
      taken = b.taken;
      all = ap (λ (ks : List Item). heard ++ Failed ∷ ks) (sym (nothing_behind heard behind b.took whole)) ∙ whole;
    }

-- ---- whole

all_heard : (xs ks : List Item) (bytes : List ℕ) → xs ++ ks ≡ items bytes → has_last xs ≡ true → xs ≡ items bytes
all_heard xs [] bytes e l = sym (append-nil xs) ∙ e
all_heard xs (k ∷ ks) bytes e l = absurd (both_ways (has_last xs) (open_before (lines_of bytes) 1 End k xs ks e) l)

-- where the end is among them, no fault is
sound_to_end : (offers : List Item) (took rest : List ℕ) → has_end offers ≡ true → IsPrefix offers (items (took ++ rest)) ⊎ EndsInFault took rest offers → IsPrefix offers (items (took ++ rest))
sound_to_end offers took rest h begins =
    ⊎_elim (λ (p : IsPrefix offers (items (took ++ rest))). p)
    (λ (f : EndsInFault took rest offers). absurd (both_ways (has_end offers) (ap has_end f.broken ∙ unended_lines (whole_lines took) 1) h))
    begins

-- where the end was heard, the last item was offered, and none was a fault
pub sound_whole : (start left : Option (List ℕ)) (heard behind : List Item) → BeginsItems start left (heard ++ behind) → has_end heard ≡ true
    → (has_last (heard ++ behind) ≡ true) × (has_fault (heard ++ behind) ≡ false)
sound_whole start left heard behind b h =
    let ended : has_end (heard ++ behind) ≡ true = end_before heard behind h in
    let first : IsPrefix (heard ++ behind) (items (b.took ++ b.rest)) = sound_to_end (heard ++ behind) b.took b.rest ended b.begins in (
      ends_last (heard ++ behind) ended,
      (or_parts (has_fault (heard ++ behind)) (has_fault first.0) (sym (list_any-append is_fault (heard ++ behind) first.0) ∙ ap has_fault first.1 ∙ faultless_items (b.took ++ b.rest))).0,
    )

pub heard_whole : (j : ℕ) (records : List Record) (behind : List Item) (start left : Option (List ℕ)) → BeginsItems start left (items_by j records ++ behind)
    → has_end (items_by j records) ≡ true → IsHeardWhole start left (items_by j records)
heard_whole j records behind start left b h =
    let heard = items_by j records in
    let ended : has_end (heard ++ behind) ≡ true = end_before heard behind h in
    let none = b.none ended in
    let bytes : b.took ++ b.rest ≡ b.took = ap (λ (r : List ℕ). b.took ++ r) none.0 ∙ append-nil b.took in
    let first : IsPrefix (heard ++ behind) (items (b.took ++ b.rest)) = sound_to_end (heard ++ behind) b.took b.rest ended b.begins in
    let all : heard ≡ items (b.took ++ b.rest) =
    all_heard heard (behind ++ first.0) (b.took ++ b.rest) (sym (append_assoc heard behind first.0) ∙ first.1) (ends_last heard h) in
    record {
      took = b.took;
      taken = b.taken;
      told = subst (λ (t : List ℕ). IsAll start t) bytes b.told;
      all = all ∙ ap items bytes;
      none = none.1;
    }
