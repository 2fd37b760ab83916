-- The items of an injector's bytes: the events of its lines, up to the first bad line.
use Rattle.std.specs.Prelude.{ℕ, ◌+◌, Bool, true, false, ◌||◌, ◌==◌, nat_lt, List, [], ◌∷◌, length, Option, Some, None, if◌then◌else◌}
use Rattle.std.specs.List.{list_all, list_any}
use Rattle.js_data.specs.Event.{PlainEvent}
use Rattle.js_json.specs.Json.{event_at}
use Rattle.bp_log.specs.declared.item.Item.{Item}
use Rattle.bp_log.specs.declared.item.Item.TheVariants.{Offered, Bad, Failed, End}
use Rattle.bp_feeds.specs.declared.limits.TheConstants.{MOST_LINES, MOST_LENGTH}

-- LF ends a line
abbrev pub is_break : ℕ → Bool
is_break b = b == 10

abbrev pub has_break : List ℕ → Bool
has_break bytes = list_any is_break bytes

-- whether a line is whole, or is too long to become one that is good
abbrev pub has_line : List ℕ → Bool
has_line bytes = has_break bytes || nat_lt MOST_LENGTH (length bytes)

-- one more byte before these lines
abbrev pub before_lines : ℕ → List (List ℕ) → List (List ℕ)
before_lines b [] = (b ∷ []) ∷ []
before_lines b (line ∷ lines) = (b ∷ line) ∷ lines

-- the lines of the bytes, each without the LF that ends it; the last may have none, and is a line where
-- it is not empty
abbrev pub lines_of : List ℕ → List (List ℕ)
lines_of [] = []
lines_of (b ∷ bytes) = if is_break b then [] ∷ lines_of bytes else before_lines b (lines_of bytes)

-- one more byte before these whole lines: where there are none, no LF follows it
abbrev pub before_whole : ℕ → List (List ℕ) → List (List ℕ)
before_whole b [] = []
before_whole b (line ∷ lines) = (b ∷ line) ∷ lines

-- the lines of the bytes that end with LF
abbrev pub whole_lines : List ℕ → List (List ℕ)
whole_lines [] = []
whole_lines (b ∷ bytes) =
    if is_break b then [] ∷ whole_lines bytes else before_whole b (whole_lines bytes)

-- a space, a tab or CR
abbrev pub is_space : ℕ → Bool
is_space b = (b == 32) || (b == 9) || (b == 13)

abbrev pub is_blank : List ℕ → Bool
is_blank line = list_all is_space line

-- whether a line of this number is bad whatever it says: there are too many lines, or it is too long
abbrev pub is_past : ℕ → List ℕ → Bool
is_past number line = nat_lt MOST_LINES number || nat_lt MOST_LENGTH (length line)

abbrev pub event_item : ℕ → Option PlainEvent → Item
event_item number None = Bad number
event_item number (Some e) = Offered e

-- the item of the line of this number, or none where it is skipped
unfoldable pub item_of : ℕ → List ℕ → Option Item
item_of number line =
    if is_past number line then Some (Bad number)
    else (if is_blank line then None else Some (event_item number (event_at line)))

-- whether nothing follows the item
abbrev pub is_last : Item → Bool
is_last (Offered e) = false
is_last _ = true

abbrev pub ends : Option Item → Bool
ends None = false
ends (Some item) = is_last item

abbrev pub is_fault : Item → Bool
is_fault Failed = true
is_fault _ = false

abbrev pub is_end : Item → Bool
is_end End = true
is_end _ = false

-- whether an item that nothing follows is among the items
abbrev pub has_last : List Item → Bool
has_last items = list_any is_last items

-- whether the end of the bytes is among the items
abbrev pub has_end : List Item → Bool
has_end items = list_any is_end items

-- whether a fault of the source is among the items
abbrev pub has_fault : List Item → Bool
has_fault items = list_any is_fault items

-- the item of a line, where it has one, and then those of the lines after it
abbrev pub followed : Option Item → List Item → List Item
followed None items = items
followed (Some item) items = if is_last item then item ∷ [] else item ∷ items

-- the items of the lines, the first of which has this number, and after them what is last where no
-- line is bad
abbrev pub items_from : List (List ℕ) → ℕ → Item → List Item
items_from [] number last = last ∷ []
items_from (line ∷ lines) number last =
    followed (item_of number line) (items_from lines (number + 1) last)

-- the items of an injector's bytes
abbrev pub items : List ℕ → List Item
items bytes = items_from (lines_of bytes) 1 End

-- the items of bytes after which the source failed: those of the whole lines
abbrev pub items_before_fault : List ℕ → List Item
items_before_fault bytes = items_from (whole_lines bytes) 1 Failed
