-- Merges and what was heard, at small texts: two injectors of one or two events, and one with a bad line.
use Rattle.std.proofs.Common.{◌≡◌, ℕ, zero, suc, List, [], ◌∷◌, Some, None, refl, sym, ap, ◌∙◌, arith}
use Rattle.std.specs.Prelude.{codes, slice_index_or}
use Rattle.std.specs.Str.{is_utf8, chars}
use Rattle.serde_json.proofs.OnLiterals.{serde_json_on_literals}
use Rattle.js_data.specs.Event.{PlainEvent}
use Rattle.bp_log.specs.declared.item.Item.{Item}
use Rattle.bp_log.specs.declared.item.Item.TheVariants as item
use Rattle.bp_log.specs.declared.record.Record.{Record}
use Rattle.bp_log.specs.declared.record.Record.TheVariants.{In, Bad, Eof, Sel, End}
use Rattle.bp_log.specs.declared.verdict.Verdict.TheVariants as verdict
use Rattle.bp_feeds.specs.Items.{item_of, items, items_before_fault}
use Rattle.bp_steps.specs.Merging.{items_by}
use Rattle.bp_session.specs.Merges.{Merge}
use Rattle.bp_session.specs.Heard.{IsHeard, IsHeardWhole, IsHeardToFault}

abbrev pub x : PlainEvent
x = record { name = codes "x"; extra = None }

abbrev pub y : PlainEvent
y = record { name = codes "y"; extra = None }

abbrev pub first : List ℕ
first = codes "[\"x\"]\n\n[\"y\"]\n"

abbrev pub second : List ℕ
second = codes "[\"y\"]"

abbrev pub third : List ℕ
third = codes "[\"x\"]\noops\n[\"y\"]\n"

items_of_first : items first ≡ item.Offered x ∷ item.Offered y ∷ item.End ∷ []
unfolding serde_json_on_literals is_utf8 chars item_of
items_of_first = refl

items_of_second : items second ≡ item.Offered y ∷ item.End ∷ []
unfolding serde_json_on_literals is_utf8 chars item_of
items_of_second = refl

items_of_third : items third ≡ item.Offered x ∷ item.Bad 2 ∷ []
unfolding serde_json_on_literals is_utf8 chars item_of
items_of_third = refl

abbrev pub inputs : List (List ℕ)
inputs = first ∷ second ∷ third ∷ []

some_is : (xs ys : List ℕ) → Some xs ≡ Some ys → xs ≡ ys
some_is xs ys e = cc

none_is : (ys : List ℕ) → None ≡ Some ys → ⊥
none_is ys e = cc

-- the records of some run of the three, to a bad line
abbrev pub told : List Record
told = In 1 y ∷ In 0 x ∷ Sel y ∷ In 2 x ∷ Eof 1 ∷ In 0 y ∷ Bad 2 2 ∷ End (verdict.Bad 2 2) ∷ []

of_one : items_by 0 told ≡ item.Offered x ∷ item.Offered y ∷ []
of_one = refl

of_another : items_by 1 told ≡ item.Offered y ∷ item.End ∷ []
of_another = refl

up_to_a_bad_line : items_by 2 told ≡ item.Offered x ∷ item.Bad 2 ∷ []
up_to_a_bad_line = refl

pub a_merge : Merge told inputs
a_merge zero bytes is = (item.End ∷ [], sym items_of_first ∙ ap items (some_is first bytes is))
a_merge (suc zero) bytes is = ([], sym items_of_second ∙ ap items (some_is second bytes is))
a_merge (suc (suc zero)) bytes is = ([], sym items_of_third ∙ ap items (some_is third bytes is))
a_merge (suc (suc (suc j))) bytes is = absurd (none_is bytes is)

abbrev first_letter : List Item → ℕ
first_letter (item.Offered e ∷ more) = slice_index_or e.name 0 0
first_letter _ = 0

-- an item that comes twice, two that are swapped, an end before its time, and an item after a bad line
pub no_item_twice : Merge (In 1 y ∷ In 1 y ∷ []) inputs → ⊥
no_item_twice m = let p = m 1 second refl in cc (p.1 ∙ items_of_second)

pub no_items_swapped : Merge (In 0 y ∷ In 0 x ∷ []) inputs → ⊥
no_items_swapped m = let p = m 0 first refl in let e : 121 ≡ 120 = ap first_letter (p.1 ∙ items_of_first) in omega (arith, e)

pub no_early_end : Merge (In 0 x ∷ Eof 0 ∷ []) inputs → ⊥
no_early_end m = let p = m 0 first refl in cc (p.1 ∙ items_of_first)

pub nothing_behind_a_bad_line : Merge (In 2 x ∷ Bad 2 2 ∷ In 2 y ∷ []) inputs → ⊥
nothing_behind_a_bad_line m = let p = m 2 third refl in cc (p.1 ∙ items_of_third)

-- what was heard of a source that gave its first line and its second, of three bytes more
pub heard_so_far : IsHeard (Some first) (Some (codes "\"y\"]\n")) (items_by 0 (In 0 x ∷ []))
heard_so_far = record {
  took = codes "[\"x\"]\n\n[";
  rest = codes "\"y\"]\n";
  taken = refl;
  told = refl;
  begins = (item.Offered y ∷ item.End ∷ [], sym items_of_first);
}

pub heard_whole : IsHeardWhole (Some second) (Some []) (items_by 1 told)
heard_whole = record { took = second; taken = refl; told = refl; all = sym items_of_second; none = refl }

-- an end that was not read is not the whole
pub not_yet_whole : IsHeardWhole (Some second) (Some []) (items_by 1 (In 1 y ∷ [])) → ⊥
not_yet_whole h = cc (h.all ∙ ap items (sym h.told) ∙ items_of_second)

broken_off : items_before_fault (codes "[\"x\"]\n\n[\"y\"") ≡ item.Offered x ∷ item.Failed ∷ []
unfolding serde_json_on_literals is_utf8 chars item_of
broken_off = refl

-- the source failed in the third line
pub heard_to_a_fault : IsHeardToFault (Some first) (Some (codes "]\n")) (items_by 0 (In 0 x ∷ []))
heard_to_a_fault = record { took = codes "[\"x\"]\n\n[\"y\""; taken = refl; all = sym broken_off }
