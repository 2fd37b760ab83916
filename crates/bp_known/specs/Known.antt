-- What is known of events under block sets.
use Rattle.std.specs.Prelude.{◌≡◌, ℕ, nat_eq, Bool, false, true, not, ◌&&◌, List, [], ◌∷◌, Option, Some, None, Ok, Err, IsOk, if◌then◌else◌}
use Rattle.std.specs.Map.{lookup}
use Rattle.js_data.specs.Event.{PlainEvent}
use Rattle.js_value.specs.Value.{PlainSet}
use Rattle.js_meaning.specs.State.{Ground}
use Rattle.bp_meaning.specs.Membership.{Membership, member}
use Rattle.bp_known.specs.declared.known.Known.{Known}
use Rattle.bp_known.specs.declared.known.Known.TheVariants.{Unknown, Free, Blocked}
use Rattle.bp_known.specs.declared.known.Told.{Told}

-- block sets, by the numbers of their b-threads
abbrev pub Sets : Type 0
Sets = ℕ → Option PlainSet

abbrev pub sets_in : List (ℕ × PlainSet) → Sets
sets_in es n = lookup (nat_eq n) es

-- the block set of this number is this one, or there is none; all others stay
abbrev pub restated : ℕ → Option PlainSet → Sets → Sets
restated n o sets i = if nat_eq n i then o else sets i

-- no set has e
pub record IsFree (base : Ground) (budget : ℕ) (sets : Sets) (e : PlainEvent) : Type 0 where
  pub none : (i : ℕ) (s : PlainSet) → sets i ≡ Some s → member base budget s e ≡ Ok false

-- all sets tell whether they have e, and the one of this number has it
pub record IsBlockedBy (base : Ground) (budget : ℕ) (sets : Sets) (e : PlainEvent) (n : ℕ)
    : Type 0 where
  pub tell : (i : ℕ) (s : PlainSet) → sets i ≡ Some s → IsOk (member base budget s e)
  pub set : PlainSet
  pub there : sets n ≡ Some set
  pub has : member base budget set e ≡ Ok true

abbrev pub IsKnown : Ground → ℕ → Sets → PlainEvent → Known → Type 0
IsKnown base budget sets e Unknown = Unit {0}
IsKnown base budget sets e Free = IsFree base budget sets e
IsKnown base budget sets e (Blocked n) = IsBlockedBy base budget sets e n

-- what is told of each event is so
abbrev pub AreKnown : Ground → ℕ → Sets → List Told → Type 0
AreKnown base budget sets [] = Unit {0}
AreKnown base budget sets (t ∷ ts) =
    IsKnown base budget sets t.event t.known × AreKnown base budget sets ts

-- once the set of this number is gone
abbrev pub without : ℕ → Known → Known
without n Unknown = Unknown
without n Free = Free
without n (Blocked m) = if nat_eq m n then Unknown else Blocked m

-- once the set of this number is one that has it, or one that has it not
abbrev pub with_answer : ℕ → Bool → Known → Known
with_answer n here Unknown = Unknown
with_answer n here Free = if here then Blocked n else Free
with_answer n here (Blocked m) = if nat_eq m n && not here then Unknown else Blocked m

-- once the set of this number is one that has it, has it not, or is at fault
abbrev pub with_membership : ℕ → Membership → Known → Known
with_membership n (Ok here) k = with_answer n here k
with_membership n (Err f) k = Unknown

-- what is known of e once this is the set of this number, or there is none
abbrev pub known_again : Ground → ℕ → ℕ → Option PlainSet → PlainEvent → Known → Known
known_again base budget n None e k = without n k
known_again base budget n (Some s) e k = with_membership n (member base budget s e) k

abbrev pub told_again : Ground → ℕ → ℕ → Option PlainSet → Told → Told
told_again base budget n o t = record {
  event = t.event;
  known = known_again base budget n o t.event t.known;
}
