-- The limits of a log.
use Rattle.std.proofs.Common.{◌≡◌, refl}
use Rattle.bp_reading.specs.declared.limits.TheConstants.{MOST_LINE_BYTES, MOST_RECORDS}

pub line_bytes : MOST_LINE_BYTES ≡ 1_048_576
line_bytes = refl

pub records : MOST_RECORDS ≡ 2_100_000
records = refl
