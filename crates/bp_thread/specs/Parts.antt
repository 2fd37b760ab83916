-- What stands under the keys of a statement.
use Rattle.std.specs.Prelude.{Option, codes, option_map}
use Rattle.std.specs.Borrow.{Bor}
use Rattle.std.specs.Option.{option_or}
use Rattle.js_value.specs.Value.{PlainValue, ValueFields}
use Rattle.js_value.specs.Views.{plain_value}
use Rattle.js_value.specs.Parts.{field_at}
use Rattle.js_value.specs.declared.value.Value.{Value}
use Rattle.bp_thread.specs.declared.parts.Parts.{Parts}

-- a value that is lent, if one is
abbrev pub lent : Option (Bor Value) → Option PlainValue
lent o = option_map (λ v. plain_value v.now) o

-- the values that a statement has under each of its keys, where it has one
pub record PlainParts : Type 0 where
  pub request : Option PlainValue
  pub wait_for : Option PlainValue
  pub block : Option PlainValue
  pub interrupt : Option PlainValue

abbrev pub plain_parts : Parts → PlainParts
plain_parts p = record {
  request = lent p.request;
  wait_for = lent p.wait_for;
  block = lent p.block;
  interrupt = lent p.interrupt;
}

-- under each key what stands there, or else what these fields have there
abbrev pub parts_then : PlainParts → ValueFields → PlainParts
parts_then p fs = record {
  request = option_or p.request (field_at fs (codes "request"));
  wait_for = option_or p.wait_for (field_at fs (codes "waitFor"));
  block = option_or p.block (field_at fs (codes "block"));
  interrupt = option_or p.interrupt (field_at fs (codes "interrupt"));
}
