use Rattle.std.proofs.Common.{sym, arith}
use Rattle.bp_args.proofs.Numbers.{refused, too_great, read_word}
use Rattle.bp_args.proofs.said.number_of.Goals as goal

pub returns-in_default : goal.returns-in_default
returns-in_default c =
    sym (refused c.args.most c.args.word.now c.parse.result c.in_default.field-0 (omega (arith, c.ranges.most.fits)) c.parse.ensures.value.0
    c.in_default.is (rw c.as_bytes-digits.ensures.value at c.if-digits-eq43.false))

pub returns-then-number-most : goal.returns-then-number-most
returns-then-number-most c =
    sym (too_great c.args.most c.in-Ok.number c.args.word.now c.parse.result c.parse.ensures.value.0 c.in-Ok.is
    (rw c.as_bytes-digits.ensures.value at c.if-digits-eq43.false) c.if-number-most.true)

pub returns : goal.returns
returns c =
    sym (read_word c.args.most c.in-Ok.number c.args.word.now c.parse.result c.parse.ensures.value.0 c.in-Ok.is
    (rw c.as_bytes-digits.ensures.value at c.if-digits-eq43.false)
    (rw c.as_bytes-digits.ensures.value at c.if-digits-gt-MOST_DIGITS.false) c.if-number-most.false)
