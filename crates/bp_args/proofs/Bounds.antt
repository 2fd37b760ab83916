-- The limits of words.
use Rattle.std.proofs.Common.{◌≡◌, refl}
use Rattle.bp_args.specs.declared.command.TheConstants.{MOST_LARGE}
use Rattle.bp_args.specs.declared.said.TheConstants.{MOST_DIGITS}

pub digits : MOST_DIGITS ≡ 20
digits = refl

pub large : MOST_LARGE ≡ 4_000
large = refl
