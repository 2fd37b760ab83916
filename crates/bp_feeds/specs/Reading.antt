-- How far the lines of a source were read.
use Rattle.std.specs.Prelude.{◌≡◌, ◌⊎◌, ◌↔◌, ℕ, ◌+◌, ◌<◌, ◌≤◌, Bool, true, false, List, [], ◌∷◌, ◌++◌, length, Option, Some, IfSome}
use mathlib.Core.List.{IsPrefix}
use Rattle.bp_base.specs.Pieces.{Gives}
use Rattle.bp_log.specs.declared.item.Item.{Item}
use Rattle.bp_log.specs.declared.item.Item.TheVariants.{Failed, End}
use Rattle.bp_feeds.specs.declared.limits.TheConstants.{MOST_LENGTH, MOST_READ}
use Rattle.bp_feeds.specs.declared.reached.Reached.{Reached}
use Rattle.bp_feeds.specs.declared.reached.Reached.TheVariants.{Within, Last, Ended, Broken, Faulted}
use Rattle.bp_feeds.specs.Items.{lines_of, whole_lines, items_from, items, items_before_fault, has_break, has_line, has_last, has_end, has_fault}

-- a reading of lines: the bytes that were taken of the source and belong to no line that was dealt
-- with, the number of the next line, what was reached, and what the source has left, where it tells it
pub record Reading : Type 0 where
  pub held : List ℕ
  pub number : ℕ
  pub reached : Reached
  pub left : Option (List ℕ)

-- whether the last item was read
abbrev pub is_read : Reached → Bool
is_read Within = false
is_read Last = false
is_read _ = true

-- no bytes, or bytes of which the last is LF
abbrev pub AreWholeLines : List ℕ → Type 0
AreWholeLines bytes = (bytes ≡ []) ⊎ ((front : List ℕ) × (bytes ≡ front ++ 10 ∷ []))

-- The reading stands between two lines. Of the bytes that were taken, `passed` are the lines that it
-- has after it, all of them whole, and the others are held. It gave the items of these lines, of which
-- none is bad; so if the source failed now, its fault would follow them at once. The next line has the
-- next number.
pub record IsBetweenLines (took : List ℕ) (given : List Item) (number : ℕ) (held : List ℕ)
    : Type 0 where
  pub passed : List ℕ
  pub all : took ≡ passed ++ held
  pub whole : AreWholeLines passed
  pub counted : number ≡ length (whole_lines passed) + 1
  pub good : given ++ Failed ∷ [] ≡ items_before_fault passed

-- these are all bytes of a source that had so much left at the start, where it tells them
abbrev pub IsAll : Option (List ℕ) → List ℕ → Type 0
IsAll start bytes = IfSome start (λ all. all ≡ bytes)

-- whatever follows these bytes, its items, the first line of which has this number, follow these
abbrev pub Follows : List ℕ → List Item → ℕ → Type 0
Follows bytes given number = (more : List ℕ) (last : Item)
    → (given ++ items_from (lines_of more) number last
    ≡ items_from (lines_of (bytes ++ more)) 1 last)
    × (given ++ items_from (whole_lines more) number last
    ≡ items_from (whole_lines (bytes ++ more)) 1 last)

-- the items that were given are those of whole lines exactly where the items of whatever follows these
-- lines follow them
abbrev pub ItemsFollow : Type 0
ItemsFollow = (passed : List ℕ) (given : List Item) → AreWholeLines passed
    → (given ++ Failed ∷ [] ≡ items_before_fault passed)
    ↔ Follows passed given (length (whole_lines passed) + 1)

-- the items go up to a bad line: they are all items of the bytes that were taken and the rest, and the
-- end is not among them
pub record IsBroken (start : Option (List ℕ)) (took : List ℕ) (given : List Item) : Type 0 where
  pub rest : List ℕ
  pub told : IsAll start (took ++ rest)
  pub all : given ≡ items (took ++ rest)
  pub endless : has_end given ≡ false

-- what the items are that were given of the bytes that were taken: those of the lines so far; all but
-- the end; all; all, up to a bad line; or those before a fault
abbrev pub HasReached : Reached → Option (List ℕ) → List ℕ → List Item → ℕ → List ℕ → Type 0
HasReached Within start took given number held = IsBetweenLines took given number held
HasReached Last start took given number held = (given ++ End ∷ [] ≡ items took) × IsAll start took
HasReached Ended start took given number held = (given ≡ items took) × IsAll start took
HasReached Broken start took given number held = IsBroken start took given
HasReached Faulted start took given number held = given ≡ items_before_fault took

-- these bytes were taken of a source that had so much left at the start, and these items were read of them
pub record HasRead (start : Option (List ℕ)) (took : List ℕ) (given : List Item) (r : Reading)
    : Type 0 where
  pub taken : Gives start took r.left
  pub is : HasReached r.reached start took given r.number r.held

-- these items more were read, of what was held and of the bytes that came
pub record ReadsOn (old : Reading) (more : List Item) (new : Reading) : Type 0 where
  pub came : List ℕ
  pub on : (start : Option (List ℕ)) (took : List ℕ) (given : List Item)
      → HasRead start took given old → HasRead start (took ++ came) (given ++ more) new

-- these items more were read of what was held, where all bytes of the source were taken
pub record ReadsLast (old : Reading) (more : List Item) (new : Reading) : Type 0 where
  pub on : (start : Option (List ℕ)) (took : List ℕ) (given : List Item)
      → IsAll start took → HasRead start took given old → HasRead start took (given ++ more) new

-- Bytes came behind those that are held, this block of them last, which is no longer than one read gives.
-- Before it no whole line was held.
pub record EndsInBlock (held came : List ℕ) : Type 0 where
  pub front : List ℕ
  pub block : List ℕ
  pub all : came ≡ front ++ block
  pub unended : has_line (held ++ front) ≡ false
  pub short : length block ≤ MOST_READ

-- no more bytes came than a whole line needed, but for those of the block that ended it
abbrev pub StopsAtLine : List ℕ → List ℕ → Type 0
StopsAtLine held came = (came ≡ []) ⊎ EndsInBlock held came

-- bytes came and are held, and nothing was read of them
pub record IsSameReading (old new : Reading) : Type 0 where
  pub was : old.reached ≡ Within
  pub is : new.reached ≡ Within
  pub number : new.number ≡ old.number
  pub came : List ℕ
  pub held : new.held ≡ old.held ++ came
  pub given : Gives old.left came new.left
  pub stops : StopsAtLine old.held came

-- the bytes that came are all that was left
pub record IsSameToEnd (old new : Reading) : Type 0 where
  pub same : IsSameReading old new
  pub all : IsAll old.left same.came

-- at most one line was taken from the front of the bytes, and the others are left
pub record TakesLine (bytes left : List ℕ) : Type 0 where
  pub passed : List ℕ
  pub all : bytes ≡ passed ++ left
  pub one : length (lines_of passed) ≤ 1

-- Bytes came, no more than a whole line needed. Of those that were held, and then these, at most one line
-- was dealt with.
pub record PassesLine (old new : Reading) : Type 0 where
  pub came : List ℕ
  pub given : Gives old.left came new.left
  pub stops : StopsAtLine old.held came
  pub takes : TakesLine (old.held ++ came) new.held

-- the bytes begin with a line that is too long
pub record IsTooLong (bytes : List ℕ) : Type 0 where
  pub front : List ℕ
  pub behind : List ℕ
  pub all : bytes ≡ front ++ behind
  pub unbroken : has_break front ≡ false
  pub long : MOST_LENGTH < length front

-- a fault is the last of the items, which are those of the whole lines among the bytes that were taken
pub record EndsInFault (took rest : List ℕ) (given : List Item) : Type 0 where
  pub begun : List Item
  pub begins : IsPrefix begun (items (took ++ rest))
  pub last : given ≡ begun ++ Failed ∷ []
  pub broken : given ≡ items_before_fault took

-- Bytes were taken of a source that had so much left at the start, and others are left; where it tells
-- what it has, these are its bytes. The items begin theirs, apart from a last fault; where the last of
-- them is among the items, they are all, and where it is the end, nothing is left.
pub record BeginsItems (start left : Option (List ℕ)) (given : List Item) : Type 0 where
  pub took : List ℕ
  pub rest : List ℕ
  pub taken : Gives start took left
  pub told : IsAll start (took ++ rest)
  pub begins : IsPrefix given (items (took ++ rest)) ⊎ EndsInFault took rest given
  pub whole : has_last given ≡ true → has_fault given ≡ false → given ≡ items (took ++ rest)
  pub none : has_end given ≡ true → (rest ≡ []) × IfSome start (λ _. left ≡ Some [])
