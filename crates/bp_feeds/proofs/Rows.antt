-- The items of some texts, by the definition, and the limits.
use Rattle.std.proofs.Common.{◌≡◌, ◌≤◌, ℕ, true, false, List, [], ◌∷◌, ◌++◌, None, length, inl, inr, codes, refl, sym, ap, arith}
use Rattle.std.proofs.lemmas.Bool.{or_left, both_ways}
use Rattle.std.specs.Str.{is_utf8, chars}
use Rattle.serde_json.proofs.OnLiterals.{serde_json_on_literals}
use Rattle.bp_log.specs.declared.item.Item.TheVariants.{Offered, Bad, Failed, End}
use Rattle.bp_feeds.specs.declared.limits.TheConstants.{MOST_LINES, MOST_LENGTH, MOST_READ}
use Rattle.bp_feeds.specs.Reading.{StopsAtLine}
use Rattle.bp_feeds.specs.Items.{is_break, has_break, has_line, item_of, items, items_before_fault}

most_lines : MOST_LINES ≡ 16_777_216
most_lines = refl

most_length : MOST_LENGTH ≡ 32_768
most_length = refl

most_read : MOST_READ ≡ 4_096
most_read = refl

-- ---- where a line is whole, no whole block more is read

broken_at : (x : ℕ) (front : List ℕ) → x ≡ 10 → has_line (x ∷ front) ≡ false → ⊥
broken_at x front e h =
    let broken : has_break (x ∷ front) ≡ true = or_left (is_break x) (has_break front) (ap is_break e) in
    both_ways (has_line (x ∷ front)) h (or_left (has_break (x ∷ front)) _ broken)

ends_in : (front block more : List ℕ) → 10 ∷ more ≡ front ++ block → has_line front ≡ false → length block ≤ MOST_READ → length more ≡ MOST_READ → ⊥
ends_in [] block more e h short full = let same = ap length e in omega (arith, same, short, full)
ends_in (x ∷ front) block more e h short full = broken_at x front (let same : 10 ≡ x = cc in sym same) h

one_block : (more : List ℕ) → length more ≡ MOST_READ → ¬ StopsAtLine [] (10 ∷ more)
one_block more full (inl e) = let none : 10 ∷ more ≡ [] = e in cc
one_block more full (inr b) = ends_in b.front b.block more b.all b.unended b.short full

nothing : items [] ≡ End ∷ []
nothing = refl

blank_lines : items (codes "\n \t\r\n ") ≡ End ∷ []
unfolding serde_json_on_literals is_utf8 chars item_of
blank_lines = refl

two_events : items (codes "[\"x\"]\r\n\n[\"y\"]") ≡ Offered (record { name = codes "x"; extra = None }) ∷ Offered (record { name = codes "y"; extra = None }) ∷ End ∷ []
unfolding serde_json_on_literals is_utf8 chars item_of
two_events = refl

second_is_bad : items (codes "[\"x\"]\noops\n[\"y\"]\n") ≡ Offered (record { name = codes "x"; extra = None }) ∷ Bad 2 ∷ []
unfolding serde_json_on_literals is_utf8 chars item_of
second_is_bad = refl

broken_off : items_before_fault (codes "[\"x\"]\n[\"y\"]") ≡ Offered (record { name = codes "x"; extra = None }) ∷ Failed ∷ []
unfolding serde_json_on_literals is_utf8 chars item_of
broken_off = refl
