-- The entries of a map from keys to fields, as plain fields.
use Rattle.std.specs.Prelude.{◌≡◌, List, [], ◌∷◌, ℕ, map}
use Rattle.std.proofs.Common.{Bor, Global}
use Rattle.std.specs.declared.sync.Arc.{Arc}
use Rattle.js_value.specs.Value.{ValueFields}
use Rattle.js_value.specs.Views.{value_fields_view}
use Rattle.js_value.specs.declared.value.Value.{Value}

-- a key, and the field under it
abbrev pub Entry : Type 0
Entry = Bor (List ℕ) × (Arc (List ℕ) Global × Value)

-- each entry stands under the key of its field
abbrev pub AreUnderTheirKeys : List Entry → Type 0
AreUnderTheirKeys [] = Unit {0}
AreUnderTheirKeys (e ∷ es) = (e.1.0.value ≡ e.0.now) × AreUnderTheirKeys es

abbrev pub entries_view : List Entry → ValueFields
entries_view es = value_fields_view (map (λ (e : Entry). e.1) es)
