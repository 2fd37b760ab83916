-- The event of some texts, by the definition.
use Rattle.std.specs.Prelude.{◌≡◌, pos, Some, None, codes, refl}
use Rattle.std.specs.Str.{is_utf8, chars}
use Rattle.serde_json.proofs.OnLiterals.{serde_json_on_literals}
use Rattle.js_data.specs.Data.{whole, fields, no_fields, field}
use Rattle.js_json.specs.Json.{event_at}

spaces_and_order : event_at (codes "[ \"x\" , {\"b\":2,\"a\":1} ]") ≡ Some (record { name = codes "x"; extra = Some (fields (field (codes "a") (whole (pos 1)) (field (codes "b") (whole (pos 2)) no_fields))) })
unfolding serde_json_on_literals is_utf8 chars
spaces_and_order = refl

name_alone : event_at (codes "[\"x\"]") ≡ Some (record { name = codes "x"; extra = None })
unfolding serde_json_on_literals is_utf8 chars
name_alone = refl

empty_list : event_at (codes "[]") ≡ None
unfolding serde_json_on_literals is_utf8 chars
empty_list = refl

too_many : event_at (codes "[\"x\",1,2]") ≡ None
unfolding serde_json_on_literals is_utf8 chars
too_many = refl

fraction : event_at (codes "[\"x\",1.5]") ≡ None
unfolding serde_json_on_literals is_utf8 chars
fraction = refl

no_list : event_at (codes "{\"x\":1}") ≡ None
unfolding serde_json_on_literals is_utf8 chars
no_list = refl
