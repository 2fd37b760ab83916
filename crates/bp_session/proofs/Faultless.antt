-- No item of records, and none of bytes, is a fault of a source.
use Rattle.std.proofs.Common.{◌≡◌, ℕ, ◌+◌, Bool, true, false, List, [], ◌∷◌, Option, Some, None, option_to_list, refl}
use Rattle.std.specs.Prelude.{◌==◌, if◌then◌else◌}
use Rattle.std.proofs.lemmas.Bool.{or_parts, or_from}
use Rattle.bp_log.specs.declared.item.Item.{Item}
use Rattle.bp_log.specs.declared.item.Item.TheVariants as item
use Rattle.bp_log.specs.declared.record.Record.{Record}
use Rattle.bp_log.specs.declared.record.Record.TheVariants.{In, Bad, Eof, Sel, End}
use Rattle.bp_feeds.specs.Items.{is_fault, has_fault, is_last, followed, item_of, items_from, items, lines_of}
use Rattle.bp_feeds.proofs.Cuts.{sound}
use Rattle.bp_steps.specs.Merging.{item_by, items_by}

-- ---- no record is a fault of a source

faultless_if : (t : Bool) (i : Item) → is_fault i ≡ false → has_fault (option_to_list (if t then Some i else None)) ≡ false
faultless_if true i h = or_from (is_fault i) false h refl
faultless_if false i h = refl

faultless_one : (j : ℕ) (r : Record) → has_fault (option_to_list (item_by j r)) ≡ false
faultless_one j (In k e) = faultless_if (j == k) (item.Offered e) refl
faultless_one j (Bad k n) = faultless_if (j == k) (item.Bad n) refl
faultless_one j (Eof k) = faultless_if (j == k) item.End refl
faultless_one j (Sel e) = refl
faultless_one j (End v) = refl

faultless_more : (o : Option Item) (r : Record) (rs : List Record) (j : ℕ) → item_by j r ≡ o → has_fault (option_to_list o) ≡ false → has_fault (items_by j rs) ≡ false
    → has_fault (items_by j (r ∷ rs)) ≡ false
faultless_more None r rs j e h t = rw e t
faultless_more (Some i) r rs j e h t = rw e (or_from (is_fault i) (has_fault (items_by j rs)) (or_parts (is_fault i) false h).0 t)

pub faultless_by : (j : ℕ) (rs : List Record) → has_fault (items_by j rs) ≡ false
faultless_by j [] = refl
faultless_by j (r ∷ rs) = faultless_more (item_by j r) r rs j refl (faultless_one j r) (faultless_by j rs)

-- ---- nor is an item of bytes

faultless_step : (t : Bool) (i : Item) (tail : List Item) → has_fault (i ∷ []) ≡ false → has_fault tail ≡ false → has_fault (if t then i ∷ [] else i ∷ tail) ≡ false
faultless_step true i tail h k = h
faultless_step false i tail h k = or_from (is_fault i) (has_fault tail) (or_parts (is_fault i) false h).0 k

faultless_line : (o : Option Item) (tail : List Item) → has_fault (option_to_list o) ≡ false → has_fault tail ≡ false → has_fault (followed o tail) ≡ false
faultless_line None tail h k = k
faultless_line (Some i) tail h k = faultless_step (is_last i) i tail h k

faultless_lines : (lines : List (List ℕ)) (number : ℕ) → has_fault (items_from lines number item.End) ≡ false
faultless_lines [] number = refl
faultless_lines (line ∷ lines) number =
    faultless_line (item_of number line) (items_from lines (number + 1) item.End) (sound number line (item_of number line) refl) (faultless_lines lines (number + 1))

pub faultless_items : (bytes : List ℕ) → has_fault (items bytes) ≡ false
faultless_items bytes = faultless_lines (lines_of bytes) 1
