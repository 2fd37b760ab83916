use Rattle.std.proofs.Common.{◌∙◌, sym, arith}
use Rattle.bp_reader.proofs.Decimals.{number_none, utf8_digits, refused, too_great, parses, read_number}
use Rattle.bp_reader.proofs.words.number_of.Goals as goal

pub returns-in_default : goal.returns-in_default
returns-in_default c = sym (number_none c.args.most c.args.bytes.now (λ d _. c.in_default.ensures.cases.0 (utf8_digits c.args.bytes.now d.digits)))

pub returns-in_default-parse : goal.returns-in_default-parse
returns-in_default-parse c =
    sym (refused c.args.most c.args.bytes.now c.parse.result c.in_default-parse.field-0 (omega (arith, c.ranges.most.fits)) (rw c.in-Ok.ensures.cases.0 at c.parse.ensures.value.0) c.in_default-parse.is c.if-bytes-eq43.false)

pub returns-then-number-most : goal.returns-then-number-most
returns-then-number-most c =
    sym (too_great c.args.most c.in-Ok-parse.number c.args.bytes.now
    (parses c.args.bytes.now c.parse.result c.in-Ok-parse.number (rw c.in-Ok.ensures.cases.0 at c.parse.ensures.value.0) c.in-Ok-parse.is c.if-bytes-eq43.false)
    (omega arith))

pub returns : goal.returns
returns c =
    sym (read_number c.args.most c.in-Ok-parse.number c.args.bytes.now
    (parses c.args.bytes.now c.parse.result c.in-Ok-parse.number (rw c.in-Ok.ensures.cases.0 at c.parse.ensures.value.0) c.in-Ok-parse.is c.if-bytes-eq43.false)
    (sym c.is_front_zero.ensures ∙ c.if-is_front_zero.false)
    (omega arith))
