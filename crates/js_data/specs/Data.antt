-- What contracts see of the data of an event.
use Rattle.std.specs.Prelude.{◌≡◌, ℕ, ◌+◌, max, ℤ, List, length, Bool, true, false, ◌&&◌}
use Rattle.std.specs.Bool.{beq}
use Rattle.std.specs.Str.{bytes_eq, is_utf8}
use Rattle.std.specs.Ordering.{nat_cmp, int_eq}
use Rattle.std.specs.declared.cmp.Ordering.TheVariants.{Less}
use Rattle.std.specs.Cmp.Lexicographic.{slice_cmp}
use Rattle.js_data.specs.Whole.{IsWhole}

mutual
  pub data PlainData : Type 0 where
    null : PlainData
    truth : Bool → PlainData
    whole : ℤ → PlainData
    text : List ℕ → PlainData
    list : DataList → PlainData
    fields : DataFields → PlainData

  pub data DataList : Type 0 where
    no_data : DataList
    item : PlainData → DataList → DataList

  pub data DataFields : Type 0 where
    no_fields : DataFields
    field : List ℕ → PlainData → DataFields → DataFields

-- a text weighs one more than its bytes
abbrev pub text_weight : List ℕ → ℕ
text_weight s = 1 + length s

-- one more than the parts, where the key of a field is a part as a text
abbrev mutual
  pub data_weight : PlainData → ℕ
  data_weight null = 1
  data_weight (truth b) = 1
  data_weight (whole n) = 1
  data_weight (text s) = text_weight s
  data_weight (list ds) = 1 + data_list_weight ds
  data_weight (fields fs) = 1 + data_fields_weight fs

  pub data_list_weight : DataList → ℕ
  data_list_weight no_data = 0
  data_list_weight (item d ds) = data_weight d + data_list_weight ds

  pub data_fields_weight : DataFields → ℕ
  data_fields_weight no_fields = 0
  data_fields_weight (field k d fs) = text_weight k + data_weight d + data_fields_weight fs

-- 1 without parts, and else one more than the deepest part; a key has no parts
abbrev mutual
  pub data_nesting : PlainData → ℕ
  data_nesting null = 1
  data_nesting (truth b) = 1
  data_nesting (whole n) = 1
  data_nesting (text s) = 1
  data_nesting (list ds) = 1 + data_list_nesting ds
  data_nesting (fields fs) = 1 + data_fields_nesting fs

  pub data_list_nesting : DataList → ℕ
  data_list_nesting no_data = 0
  data_list_nesting (item d ds) = max (data_nesting d) (data_list_nesting ds)

  pub data_fields_nesting : DataFields → ℕ
  data_fields_nesting no_fields = 0
  data_fields_nesting (field k d fs) = max (data_nesting d) (data_fields_nesting fs)

-- the key stands before each key of the fields
abbrev pub IsBefore : List ℕ → DataFields → Type 0
IsBefore k no_fields = Unit {0}
IsBefore k (field l d fs) = (slice_cmp nat_cmp k l ≡ Less) × IsBefore k fs

-- at every level the keys are sorted by their bytes and distinct
abbrev mutual
  pub IsSortedData : PlainData → Type 0
  IsSortedData null = Unit {0}
  IsSortedData (truth b) = Unit {0}
  IsSortedData (whole n) = Unit {0}
  IsSortedData (text s) = Unit {0}
  IsSortedData (list ds) = AreSortedData ds
  IsSortedData (fields fs) = AreSortedDataFields fs

  pub AreSortedData : DataList → Type 0
  AreSortedData no_data = Unit {0}
  AreSortedData (item d ds) = IsSortedData d × AreSortedData ds

  pub AreSortedDataFields : DataFields → Type 0
  AreSortedDataFields no_fields = Unit {0}
  AreSortedDataFields (field k d fs) = IsBefore k fs × IsSortedData d × AreSortedDataFields fs

-- whether two pieces of data are equal
abbrev mutual
  pub same_data : PlainData → PlainData → Bool
  same_data null null = true
  same_data (truth a) (truth b) = beq a b
  same_data (whole m) (whole n) = int_eq m n
  same_data (text s) (text t) = bytes_eq s t
  same_data (list ds) (list es) = same_data_list ds es
  same_data (fields fs) (fields gs) = same_data_fields fs gs
  same_data _ _ = false

  pub same_data_list : DataList → DataList → Bool
  same_data_list no_data no_data = true
  same_data_list (item d ds) (item e es) = same_data d e && same_data_list ds es
  same_data_list _ _ = false

  pub same_data_fields : DataFields → DataFields → Bool
  same_data_fields no_fields no_fields = true
  same_data_fields (field k d fs) (field l e gs) =
      bytes_eq k l && same_data d e && same_data_fields fs gs
  same_data_fields _ _ = false

-- What each piece of data holds by its types: texts are UTF-8, and numbers are in range.
abbrev mutual
  pub IsHeld : PlainData → Type 0
  IsHeld null = Unit {0}
  IsHeld (truth b) = Unit {0}
  IsHeld (whole n) = IsWhole n
  IsHeld (text s) = is_utf8 s ≡ true
  IsHeld (list ds) = AreHeld ds
  IsHeld (fields fs) = AreHeldFields fs

  pub AreHeld : DataList → Type 0
  AreHeld no_data = Unit {0}
  AreHeld (item d ds) = IsHeld d × AreHeld ds

  pub AreHeldFields : DataFields → Type 0
  AreHeldFields no_fields = Unit {0}
  AreHeldFields (field k d fs) = (is_utf8 k ≡ true) × IsHeld d × AreHeldFields fs
