-- What a command finds outside, and what it leaves there.
use Rattle.std.specs.Prelude.{◌≡◌, ◌⊎◌, ◌≤◌, ℕ, List, Option}
use Rattle.bp_base.specs.Counts.{Rose}
use Rattle.bp_base.specs.Worlds.{Holdings}

-- what the world holds and what it was asked for, where it tells it, and how often reading and
-- writing failed there; what was printed, where the output tells it, and how often printing failed
pub record Outside : Type 0 where
  pub holds : Option Holdings
  pub asked : Option (List (List ℕ))
  pub read_faults : ℕ
  pub write_faults : ℕ
  pub printed : Option (List ℕ)
  pub print_faults : ℕ

-- what is seen of a world and an output, by what they tell
abbrev pub outside : {W K : Type 0} →
    (W → Option Holdings) → (W → Option (List (List ℕ))) → (W → ℕ) → (W → ℕ) →
    (K → Option (List ℕ)) → (K → ℕ) → W → K → Outside
outside holds asked read_faults write_faults printed print_faults world out = record {
  holds = holds world;
  asked = asked world;
  read_faults = read_faults world;
  write_faults = write_faults world;
  printed = printed out;
  print_faults = print_faults out;
}

-- reading failed in the world
abbrev pub ReadFailed : Outside → Outside → Type 0
ReadFailed before after = Rose before.read_faults after.read_faults

-- printing failed, or writing in the world
abbrev pub WriteFailed : Outside → Outside → Type 0
WriteFailed before after =
    Rose before.print_faults after.print_faults ⊎ Rose before.write_faults after.write_faults

-- no count of faults fell
abbrev pub NeverFalls : Outside → Outside → Type 0
NeverFalls before after =
    (before.read_faults ≤ after.read_faults) × (before.write_faults ≤ after.write_faults)
    × (before.print_faults ≤ after.print_faults)

-- nothing was printed, and the world holds what it held
abbrev pub IsAsBefore : Outside → Outside → Type 0
IsAsBefore before after = (after.printed ≡ before.printed) × (after.holds ≡ before.holds)
