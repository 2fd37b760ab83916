-- How the logic stores data and events: each as a tree of numbers that is read back.
use Rattle.std.specs.Prelude.{◌≡◌, ℕ, zero, suc, pos, negsuc, List, [], ◌∷◌, true, false, Option, Some, None, refl}
use Rattle.std.proofs.Common.{ap}
use Rattle.std.specs.Coded.{Coded, code_by}
use base.Stored.{Gv, gnil, gnum, gcons}
use Rattle.js_data.specs.Data as d
use Rattle.js_data.specs.Data.{PlainData, DataList, DataFields}
use Rattle.js_data.specs.Event.{PlainEvent}

abbrev pub text_to : List ℕ → Gv
text_to [] = gnil
text_to (x ∷ xs) = gcons (gnum x) (text_to xs)

abbrev pub num_from : Gv → ℕ
num_from gnil = 0
num_from (gnum n) = n
num_from (gcons a b) = 0

abbrev pub text_from : Gv → List ℕ
text_from gnil = []
text_from (gnum n) = []
text_from (gcons a b) = num_from a ∷ text_from b

pub text_back : (s : List ℕ) → text_from (text_to s) ≡ s
text_back [] = refl
text_back (x ∷ xs) = ap (λ t. x ∷ t) (text_back xs)

abbrev pub itself : Coded Gv
itself = record { code = λ g. g; inj = λ x y e. e }

-- ---- data

abbrev mutual
  pub data_to : PlainData → Gv
  data_to d.null = gnil
  data_to (d.truth true) = gnum 1
  data_to (d.truth false) = gnum 0
  data_to (d.whole (pos n)) = gcons (gnum 0) (gnum n)
  data_to (d.whole (negsuc n)) = gcons (gnum 1) (gnum n)
  data_to (d.text s) = gcons (gnum 2) (text_to s)
  data_to (d.list ds) = gcons (gnum 3) (data_list_to ds)
  data_to (d.fields fs) = gcons (gnum 4) (data_fields_to fs)

  pub data_list_to : DataList → Gv
  data_list_to d.no_data = gnil
  data_list_to (d.item x ds) = gcons (data_to x) (data_list_to ds)

  pub data_fields_to : DataFields → Gv
  data_fields_to d.no_fields = gnil
  data_fields_to (d.field k x fs) = gcons (gcons (text_to k) (data_to x)) (data_fields_to fs)

abbrev mutual
  pub data_from : Gv → PlainData
  data_from gnil = d.null
  data_from (gnum zero) = d.truth false
  data_from (gnum (suc n)) = d.truth true
  data_from (gcons (gnum zero) g) = d.whole (pos (num_from g))
  data_from (gcons (gnum (suc zero)) g) = d.whole (negsuc (num_from g))
  data_from (gcons (gnum (suc (suc zero))) g) = d.text (text_from g)
  data_from (gcons (gnum (suc (suc (suc zero)))) g) = d.list (data_list_from g)
  data_from (gcons (gnum (suc (suc (suc (suc n))))) g) = d.fields (data_fields_from g)
  data_from (gcons _ g) = d.null

  pub data_list_from : Gv → DataList
  data_list_from (gcons a b) = d.item (data_from a) (data_list_from b)
  data_list_from _ = d.no_data

  pub data_fields_from : Gv → DataFields
  data_fields_from (gcons (gcons k x) b) = d.field (text_from k) (data_from x) (data_fields_from b)
  data_fields_from _ = d.no_fields

mutual
  pub data_back : (x : PlainData) → data_from (data_to x) ≡ x
  data_back d.null = refl
  data_back (d.truth true) = refl
  data_back (d.truth false) = refl
  data_back (d.whole (pos n)) = refl
  data_back (d.whole (negsuc n)) = refl
  data_back (d.text s) = ap d.text (text_back s)
  data_back (d.list ds) = ap d.list (data_list_back ds)
  data_back (d.fields fs) = ap d.fields (data_fields_back fs)

  pub data_list_back : (ds : DataList) → data_list_from (data_list_to ds) ≡ ds
  data_list_back d.no_data = refl
  data_list_back (d.item x ds) = rw (data_back x, data_list_back ds)

  pub data_fields_back : (fs : DataFields) → data_fields_from (data_fields_to fs) ≡ fs
  data_fields_back d.no_fields = refl
  data_fields_back (d.field k x fs) = rw (text_back k, data_back x, data_fields_back fs)

-- ---- events

abbrev pub extra_to : Option PlainData → Gv
extra_to None = gnil
extra_to (Some x) = gcons (data_to x) gnil

abbrev pub extra_from : Gv → Option PlainData
extra_from (gcons a b) = Some (data_from a)
extra_from _ = None

pub extra_back : (o : Option PlainData) → extra_from (extra_to o) ≡ o
extra_back None = refl
extra_back (Some x) = ap Some (data_back x)

abbrev pub event_to : PlainEvent → Gv
event_to e = gcons (text_to e.name) (extra_to e.extra)

abbrev pub event_from : Gv → PlainEvent
event_from (gcons a b) = record { name = text_from a; extra = extra_from b }
event_from _ = record { name = []; extra = None }

pub event_back : (e : PlainEvent) → event_from (event_to e) ≡ e
event_back e = rw (text_back e.name, extra_back e.extra)

abbrev pub event_code : Coded PlainEvent
event_code = code_by Gv itself event_to event_from event_back
