-- How many turns are left.
use Rattle.std.proofs.Common.{ℕ, ◌≡◌, ◌+◌, ◌-◌, ◌<◌, ◌≤◌, arith, refl, subst, sym}
use Rattle.bp_log.specs.declared.limits.TheConstants.{MOST_THREADS}
use Rattle.bp_floor.specs.declared.phase.Phase.{Phase}
use Rattle.bp_floor.specs.declared.phase.Phase.TheVariants.{Ready, Lent, Rest, Over}

-- at most this many turns are left with this many b-threads
abbrev pub turns_left : Phase → ℕ → ℕ
turns_left Ready threads = MOST_THREADS + 1 - threads
turns_left Lent threads = 0
turns_left Rest threads = 0
turns_left Over threads = 0

falls_to : (new : Phase) (m n : ℕ) → m ≤ MOST_THREADS → (new ≡ Ready → m < n) → turns_left new n < turns_left Ready m
falls_to Ready m n h k = let l = k refl in omega (arith, h, l)
falls_to Lent m n h k = omega (arith, h)
falls_to Rest m n h k = omega (arith, h)
falls_to Over m n h k = omega (arith, h)

pub falls : (old new : Phase) (m n : ℕ) → old ≡ Ready → m ≤ MOST_THREADS → (new ≡ Ready → m < n) → turns_left new n < turns_left old m
falls old new m n e h k = subst (λ (f : Phase). turns_left new n < turns_left f m) (sym e) (falls_to new m n h k)

-- the same of a core, which lends at once
abbrev pub core_turns_left : Phase → ℕ → ℕ
core_turns_left Ready threads = 0
core_turns_left Lent threads = MOST_THREADS + 1 - threads
core_turns_left Rest threads = 0
core_turns_left Over threads = 0

core_falls_to : (new : Phase) (m n : ℕ) → m ≤ MOST_THREADS → (new ≡ Lent → m < n) → core_turns_left new n < core_turns_left Lent m
core_falls_to Ready m n h k = omega (arith, h)
core_falls_to Lent m n h k = let l = k refl in omega (arith, h, l)
core_falls_to Rest m n h k = omega (arith, h)
core_falls_to Over m n h k = omega (arith, h)

pub core_falls : (old new : Phase) (m n : ℕ) → old ≡ Lent → m ≤ MOST_THREADS → (new ≡ Lent → m < n) → core_turns_left new n < core_turns_left old m
core_falls old new m n e h k = subst (λ (f : Phase). core_turns_left new n < core_turns_left f m) (sym e) (core_falls_to new m n h k)
