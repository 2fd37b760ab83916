-- The lists inside plain data, as plain lists, and back.
use Rattle.std.specs.Prelude.{◌≡◌, ℕ, List, [], ◌∷◌}
use Rattle.std.proofs.Common.{refl, ap}
use Rattle.js_data.specs.Data.{PlainData, DataList, no_data, item, DataFields, no_fields, field}

abbrev pub data_list_of : List PlainData → DataList
data_list_of [] = no_data
data_list_of (d ∷ ds) = item d (data_list_of ds)

abbrev pub data_in : DataList → List PlainData
data_in no_data = []
data_in (item d ds) = d ∷ data_in ds

pub data_in-of : (ds : List PlainData) → data_in (data_list_of ds) ≡ ds
data_in-of [] = refl
data_in-of (d ∷ ds) = ap (λ es. d ∷ es) (data_in-of ds)

abbrev pub data_fields_of : List (List ℕ × PlainData) → DataFields
data_fields_of [] = no_fields
data_fields_of (f ∷ fs) = field f.0 f.1 (data_fields_of fs)

abbrev pub data_fields_in : DataFields → List (List ℕ × PlainData)
data_fields_in no_fields = []
data_fields_in (field k d fs) = (k, d) ∷ data_fields_in fs

pub data_fields_in-of : (fs : List (List ℕ × PlainData)) → data_fields_in (data_fields_of fs) ≡ fs
data_fields_in-of [] = refl
data_fields_in-of (f ∷ fs) = ap (λ gs. f ∷ gs) (data_fields_in-of fs)
