-- The limits of a run.
use Rattle.std.proofs.Common.{◌≡◌, refl}
use Rattle.bp_log.specs.declared.limits.TheConstants.{MOST_WAITING, MOST_THREADS, MOST_WEIGHT, MOST_BYTES, MOST_BUDGET, MOST_STEPS, MOST_INJECTORS, MOST_WORKERS, MOST_SLICE}

pub waiting : MOST_WAITING ≡ 16_384
waiting = refl

pub threads : MOST_THREADS ≡ 4_096
threads = refl

pub weight : MOST_WEIGHT ≡ 16_777_216
weight = refl

pub bytes : MOST_BYTES ≡ 1_048_576
bytes = refl

pub budget : MOST_BUDGET ≡ 1_000_000_000
budget = refl

pub steps : MOST_STEPS ≡ 1_000_000
steps = refl

pub injectors : MOST_INJECTORS ≡ 16
injectors = refl

pub workers : MOST_WORKERS ≡ 64
workers = refl

pub slice : MOST_SLICE ≡ 1_000_000_000
slice = refl
