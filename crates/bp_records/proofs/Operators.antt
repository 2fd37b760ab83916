-- Operators, members, methods and makings of short values give short values.
use Rattle.std.proofs.Common.{◌≡◌, ℕ, ◌≤◌, Bool, true, false, List, [], ◌∷◌, ◌++◌, length, Option, Some, None, Ok, Err, arith, ℤ, pos, negsuc, if◌then◌else◌}
use Rattle.std.specs.List.{starts_with, ends_with}
use Rattle.std.specs.Prelude.{slice_get, flat_map, nat_eq, nat_lt, int_rem, int_div, int_lt, int_le, ◌+ℤ◌, ◌-ℤ◌, ◌*ℤ◌, neg_ℤ, codes}
use Rattle.std.specs.Ordering.{nat_cmp, int_eq, match_ordering}
use Rattle.std.specs.declared.cmp.Ordering.{Ordering}
use Rattle.std.specs.declared.cmp.Ordering.TheVariants.{Less, Equal, Greater}
use Rattle.std.specs.Cmp.Lexicographic.{slice_cmp}
use Rattle.std.specs.Str.{bytes_eq}
use Rattle.std.proofs.lemmas.Bool.{ltb-false}
use Rattle.js_data.specs.Whole.{is_whole}
use Rattle.js_data.specs.Data as d
use Rattle.js_data.specs.Data.{PlainData, DataList, DataFields, data_weight, data_list_weight, data_fields_weight}
use Rattle.js_data.specs.Event.{PlainEvent, event_weight, event_nesting}
use Rattle.js_data.specs.declared.event.TheConstants.Event as event
use Rattle.js_data.specs.declared.fault.Fault.{Fault}
use Rattle.js_data.specs.declared.fault.Fault.TheVariants as fault
use Rattle.js_data.proofs.Shared.{OfSome}
use Rattle.js_value.specs.Value as v
use Rattle.js_value.specs.Value.{PlainValue, PlainSet, ValueList, ValueFields, value_weight, value_nesting, value_text}
use Rattle.js_value.specs.Lists.{value_list_of, values_in}
use Rattle.js_value.specs.Parts.{field_at}
use Rattle.js_value.specs.DataValues.{data_value, data_values, data_value_fields}
use Rattle.js_value.specs.declared.value.TheConstants.Value as value
use Rattle.js_value.specs.declared.op.Op.{Op}
use Rattle.js_value.specs.declared.op.Unary.{Unary}
use Rattle.js_value.specs.declared.op.Unary.TheVariants as unary
use Rattle.js_value.specs.declared.op.Make.{Make}
use Rattle.js_value.specs.declared.op.Make.TheVariants as make
use Rattle.js_value.specs.declared.op.Method.{Method}
use Rattle.js_value.specs.declared.op.Method.TheVariants as method
use Rattle.js_ops.specs.Made.{Answer, made, made_event, made_whole}
use Rattle.js_ops.specs.Kinds.{kind_of}
use Rattle.js_ops.specs.Rules.{rule_for}
use Rattle.js_ops.specs.declared.rule.Rule.{Rule}
use Rattle.js_ops.specs.declared.rule.Rule.TheVariants as rule
use Rattle.js_ops.specs.Operators.{quotient, rounded_down, floor_quotient, remainder, of_wholes, join, by_rule, value_of, of_whole, unary_of}
use Rattle.js_ops.specs.Members.{field_or_undefined, extra_value, event_member, member_of, place_of, index_of}
use Rattle.js_ops.specs.Making.{put, put_all, event_with, event_of, event_of_parts, predicate_of, predicate_of_parts, make_of, extra_of}
use Rattle.js_ops.specs.Methods.{list_in, joined, concat_of, on_texts, of_texts, both_sets, of_sets, negate_of, first_set, called_on, method_of}
use Rattle.bp_records.proofs.Lists.{Each, each_append, each_get, each_flat_map, or_default}
use Rattle.bp_records.proofs.Short.{IsShortText, IsLight, IsShort, AreShort, AreShortFields, IsShortAnswer}

-- ---- lists and fields

pub values_short : (vs : ValueList) → AreShort vs → Each IsShort (values_in vs)
values_short v.no_values h = tt
values_short (v.value x vs) h = (h.0, values_short vs h.1)

pub list_short : (xs : List PlainValue) → Each IsShort xs → AreShort (value_list_of xs)
list_short [] h = tt
list_short (x ∷ xs) h = (h.0, list_short xs h.1)

some_if : (b : Bool) (x : PlainValue) (o : Option PlainValue) → IsShort x → OfSome IsShort o → OfSome IsShort (if b then Some x else o)
some_if true x o h k = h
some_if false x o h k = k

field_at_short : (fs : ValueFields) (key : List ℕ) → AreShortFields fs → OfSome IsShort (field_at fs key)
field_at_short v.no_fields key h = tt
field_at_short (v.field k x fs) key h = some_if (bytes_eq k key) x (field_at fs key) h.0 (field_at_short fs key h.1)

pub field_short : (fs : ValueFields) (key : List ℕ) → AreShortFields fs → IsShort (field_or_undefined fs key)
field_short fs key h = or_default IsShort (field_at fs key) v.undefined (field_at_short fs key h) tt

placed : (o : Ordering) (a b c : ValueFields) → AreShortFields a → AreShortFields b → AreShortFields c → AreShortFields (match_ordering o a b c)
placed Less a b c h k m = h
placed Equal a b c h k m = k
placed Greater a b c h k m = m

put_short : (k : List ℕ) (x : PlainValue) (fs : ValueFields) → IsShort x → AreShortFields fs → AreShortFields (put k x fs)
put_short k x v.no_fields h m = (h, tt)
put_short k x (v.field l y fs) h m =
    placed (slice_cmp nat_cmp k l) (v.field k x (v.field l y fs)) (v.field l x fs) (v.field l y (put k x fs)) (h, m) (h, m.1) (m.0, put_short k x fs h m.1)

put_all_short : (ks : List (List ℕ)) (xs : List PlainValue) (fs : ValueFields) → Each IsShort xs → AreShortFields fs → AreShortFields (put_all ks xs fs)
put_all_short [] xs fs h m = m
put_all_short (k ∷ ks) [] fs h m = m
put_all_short (k ∷ ks) (x ∷ xs) fs h m = put_all_short ks xs (put k x fs) h.1 (put_short k x fs h.0 m)

-- ---- what is made

made_if : (x : PlainValue) (a b : Bool) (f g : Fault) → (a ≡ false → IsShort x) → IsShortAnswer (if a then Err f else (if b then Err g else Ok x))
made_if x true b f g h = tt
made_if x false true f g h = tt
made_if x false false f g h = h (λ i. false)

pub made_short : (x : PlainValue) → (value_weight x ≤ value.MOST_WEIGHT → IsShort x) → IsShortAnswer (made x)
made_short x h =
    made_if x (nat_lt value.MOST_WEIGHT (value_weight x)) (nat_lt value.MOST_NESTING (value_nesting x)) fault.Weight fault.Nesting (λ e. h (ltb-false value.MOST_WEIGHT (value_weight x) e))

made_event_short : (e : PlainEvent) → IsShortAnswer (made_event e)
made_event_short e =
    made_if (v.event e) (nat_lt event.MOST_WEIGHT (event_weight e)) (nat_lt event.MOST_NESTING (event_nesting e)) fault.Weight fault.Nesting
    (λ h. ltb-false event.MOST_WEIGHT (event_weight e) h)

either : (b : Bool) (x y : Answer) → IsShortAnswer x → IsShortAnswer y → IsShortAnswer (if b then x else y)
either true x y h k = h
either false x y h k = k

whole_short : (n : ℤ) → IsShortAnswer (made_whole n)
whole_short n = either (is_whole n) (Ok (v.whole n)) (Err fault.Whole) tt tt

pub text_short : (s : List ℕ) → IsShortAnswer (made (v.text s))
text_short s = made_short (v.text s) (λ h. omega (arith, h))

-- ---- operators

of_wholes_short : (f : ℤ → ℤ → Answer) → ((m n : ℤ) → IsShortAnswer (f m n)) → (x y : PlainValue) → IsShortAnswer (of_wholes f x y)
of_wholes_short f h (v.whole m) (v.whole n) = h m n
of_wholes_short f h _ _ = tt

join_short : (a b : Option (List ℕ)) → IsShortAnswer (join a b)
join_short (Some s) (Some t) = text_short (s ++ t)
join_short _ _ = tt

quotient_short : (m n : ℤ) → IsShortAnswer (quotient m n)
quotient_short m n =
    either (int_eq n (pos 0)) (Err fault.Zero) (if int_eq (int_rem m n) (pos 0) then made_whole (int_div m n) else Err fault.Fraction) tt
    (either (int_eq (int_rem m n) (pos 0)) (made_whole (int_div m n)) (Err fault.Fraction) (whole_short (int_div m n)) tt)

floor_short : (m n : ℤ) → IsShortAnswer (floor_quotient m n)
floor_short m n = either (int_eq n (pos 0)) (Err fault.Zero) (made_whole (rounded_down m n)) tt (whole_short (rounded_down m n))

remainder_short : (m n : ℤ) → IsShortAnswer (remainder m n)
remainder_short m n = either (int_eq n (pos 0)) (Err fault.Zero) (made_whole (int_rem m n)) tt (whole_short (int_rem m n))

by_rule_short : (r : Rule) (x y : PlainValue) → IsShortAnswer (by_rule r x y)
by_rule_short rule.Sum x y = of_wholes_short (λ m n. made_whole (m +ℤ n)) (λ m n. whole_short (m +ℤ n)) x y
by_rule_short rule.Join x y = join_short (value_text x) (value_text y)
by_rule_short rule.Difference x y = of_wholes_short (λ m n. made_whole (m -ℤ n)) (λ m n. whole_short (m -ℤ n)) x y
by_rule_short rule.Product x y = of_wholes_short (λ m n. made_whole (m *ℤ n)) (λ m n. whole_short (m *ℤ n)) x y
by_rule_short rule.Quotient x y = of_wholes_short quotient quotient_short x y
by_rule_short rule.FloorQuotient x y = of_wholes_short floor_quotient floor_short x y
by_rule_short rule.Remainder x y = of_wholes_short remainder remainder_short x y
by_rule_short rule.Less x y = of_wholes_short (λ m n. Ok (v.truth (int_lt m n))) (λ m n. tt) x y
by_rule_short rule.LessEqual x y = of_wholes_short (λ m n. Ok (v.truth (int_le m n))) (λ m n. tt) x y
by_rule_short rule.Greater x y = of_wholes_short (λ m n. Ok (v.truth (int_lt n m))) (λ m n. tt) x y
by_rule_short rule.GreaterEqual x y = of_wholes_short (λ m n. Ok (v.truth (int_le n m))) (λ m n. tt) x y
by_rule_short rule.Always x y = tt
by_rule_short rule.Never x y = tt
by_rule_short rule.Same x y = tt
by_rule_short rule.NotSame x y = tt
by_rule_short rule.Mistyped x y = tt

pub value_of_short : (o : Op) (x y : PlainValue) → IsShortAnswer (value_of o x y)
value_of_short o x y = by_rule_short (rule_for o (kind_of x) (kind_of y)) x y

of_whole_short : (f : ℤ → ℤ) (x : PlainValue) → IsShortAnswer (of_whole f x)
of_whole_short f (v.whole n) = whole_short (f n)
of_whole_short f _ = tt

pub unary_short : (u : Unary) (x : PlainValue) → IsShortAnswer (unary_of u x)
unary_short unary.Minus x = of_whole_short neg_ℤ x
unary_short unary.Plus x = of_whole_short (λ n. n) x
unary_short unary.Not x = tt
unary_short unary.Increment x = of_whole_short (λ n. n +ℤ pos 1) x
unary_short unary.Decrement x = of_whole_short (λ n. n -ℤ pos 1) x

-- ---- members

-- what weighs no more than a value may
mutual
  data_short : (x : PlainData) → data_weight x ≤ 65_536 → IsShort (data_value x)
  data_short d.null h = tt
  data_short (d.truth b) h = tt
  data_short (d.whole n) h = tt
  data_short (d.text s) h = omega (arith, h)
  data_short (d.list ds) h = data_list_short ds (omega (arith, h))
  data_short (d.fields fs) h = data_fields_short fs (omega (arith, h))

  data_list_short : (ds : DataList) → data_list_weight ds ≤ 65_536 → AreShort (data_values ds)
  data_list_short d.no_data h = tt
  data_list_short (d.item x ds) h = (data_short x (omega (arith, h)), data_list_short ds (omega (arith, h)))

  data_fields_short : (fs : DataFields) → data_fields_weight fs ≤ 65_536 → AreShortFields (data_value_fields fs)
  data_fields_short d.no_fields h = tt
  data_fields_short (d.field k x fs) h = (data_short x (omega (arith, h)), data_fields_short fs (omega (arith, h)))

extra_short : (name : List ℕ) (extra : Option PlainData) → event_weight (record { name = name; extra = extra }) ≤ event.MOST_WEIGHT → IsShort (extra_value extra)
extra_short name None h = tt
extra_short name (Some x) h = data_short x (omega (arith, h))

name_short : (name : List ℕ) (extra : Option PlainData) → event_weight (record { name = name; extra = extra }) ≤ event.MOST_WEIGHT → IsShortText name
name_short name None h = omega (arith, h)
name_short name (Some x) h = omega (arith, h)

event_member_short : (e : PlainEvent) (name : List ℕ) → IsLight e → IsShortAnswer (event_member e name)
event_member_short e name h =
    either (bytes_eq name (codes "name")) (Ok (v.text e.name)) (if bytes_eq name (codes "data") then Ok (extra_value e.extra) else Err fault.Mistyped) (name_short e.name e.extra h)
    (either (bytes_eq name (codes "data")) (Ok (extra_value e.extra)) (Err fault.Mistyped) (extra_short e.name e.extra h) tt)

pub member_short : (x : PlainValue) (name : List ℕ) → IsShort x → IsShortAnswer (member_of x name)
member_short (v.list vs) name h = either (bytes_eq name (codes "length")) (made_whole (pos (length (values_in vs)))) (Err fault.Mistyped) (whole_short (pos (length (values_in vs)))) tt
member_short (v.event e) name h = event_member_short e name h
member_short (v.fields fs) name h = field_short fs name h
member_short _ name h = tt

place_short : (o : Option PlainValue) → OfSome IsShort o → IsShortAnswer (place_of o)
place_short None h = tt
place_short (Some x) h = h

pub index_short : (x i : PlainValue) → IsShort x → IsShortAnswer (index_of x i)
index_short (v.list vs) (v.whole (pos n)) h = place_short (slice_get (values_in vs) n) (each_get IsShort (values_in vs) n (values_short vs h))
index_short (v.list vs) (v.whole (negsuc n)) h = tt
index_short (v.fields fs) (v.text key) h = field_short fs key h
index_short _ _ h = tt

-- ---- makings

event_with_short : (name : List ℕ) (o : Option (Option PlainData)) → IsShortAnswer (event_with name o)
event_with_short name None = tt
event_with_short name (Some extra) = made_event_short (record { name = name; extra = extra })

event_of_short : (name x : PlainValue) → IsShortAnswer (event_of name x)
event_of_short (v.text name) x = event_with_short name (extra_of x)
event_of_short _ x = tt

event_parts_short : (xs : List PlainValue) → IsShortAnswer (event_of_parts xs)
event_parts_short [] = tt
event_parts_short (name ∷ []) = event_of_short name v.undefined
event_parts_short (name ∷ x ∷ others) = event_of_short name x

predicate_of_short : (name f : PlainValue) → IsShortAnswer (predicate_of name f)
predicate_of_short (v.text name) (v.function code captured) = made_short (v.set (v.predicate name code captured)) (λ _. tt)
predicate_of_short _ _ = tt

predicate_parts_short : (xs : List PlainValue) → IsShortAnswer (predicate_of_parts xs)
predicate_parts_short [] = tt
predicate_parts_short (name ∷ []) = tt
predicate_parts_short (name ∷ f ∷ others) = predicate_of_short name f

pub make_short : (m : Make) (parts : List PlainValue) (keys : List (List ℕ)) → Each IsShort parts → IsShortAnswer (make_of m parts keys)
make_short make.List parts keys h = made_short (v.list (value_list_of parts)) (λ _. list_short parts h)
make_short make.Fields parts keys h = made_short (v.fields (put_all keys parts v.no_fields)) (λ _. put_all_short keys parts v.no_fields h tt)
make_short make.Event parts keys h = event_parts_short parts
make_short make.Set parts keys h = predicate_parts_short parts

-- ---- methods

list_in_short : (x : PlainValue) → IsShort x → OfSome (Each IsShort) (list_in x)
list_in_short (v.list vs) h = values_short vs h
list_in_short _ h = tt

joined_short : (x : PlainValue) → IsShort x → Each IsShort (joined x)
joined_short x h = or_default (Each IsShort) (list_in x) (x ∷ []) (list_in_short x h) (h, tt)

concat_short : (o : Option (List PlainValue)) (args : List PlainValue) → OfSome (Each IsShort) o → Each IsShort args → IsShortAnswer (concat_of o args)
concat_short None args h k = tt
concat_short (Some xs) [] h k = tt
concat_short (Some xs) (a ∷ others) h k =
    made_short (v.list (value_list_of (xs ++ flat_map joined (a ∷ others))))
    (λ _. list_short (xs ++ flat_map joined (a ∷ others)) (each_append IsShort xs (flat_map joined (a ∷ others)) h (each_flat_map IsShort IsShort joined joined_short (a ∷ others) k)))

on_texts_short : (f : List ℕ → List ℕ → Bool) (x y : PlainValue) → IsShortAnswer (on_texts f x y)
on_texts_short f (v.text s) (v.text t) = tt
on_texts_short f _ _ = tt

of_texts_short : (f : List ℕ → List ℕ → Bool) (x : PlainValue) (args : List PlainValue) → IsShortAnswer (of_texts f x args)
of_texts_short f x [] = tt
of_texts_short f x (a ∷ others) = on_texts_short f x a

of_sets_short : (f : PlainSet → PlainSet → PlainSet) (o : Option (PlainSet × PlainSet)) → IsShortAnswer (of_sets f o)
of_sets_short f None = tt
of_sets_short f (Some p) = made_short (v.set (f p.0 p.1)) (λ _. tt)

negate_short : (o : Option PlainSet) → IsShortAnswer (negate_of o)
negate_short None = tt
negate_short (Some s) = made_short (v.set (v.negate s)) (λ _. tt)

pub method_short : (m : Method) (x : PlainValue) (args : List PlainValue) → IsShort x → Each IsShort args → IsShortAnswer (method_of m x args)
method_short method.Concat x args h k = concat_short (list_in x) args (list_in_short x h) k
method_short method.StartsWith x args h k = of_texts_short (starts_with nat_eq) x args
method_short method.EndsWith x args h k = of_texts_short (ends_with nat_eq) x args
method_short method.Or x args h k = of_sets_short v.or (both_sets (called_on x) (first_set args))
method_short method.And x args h k = of_sets_short v.and (both_sets (called_on x) (first_set args))
method_short method.Xor x args h k = of_sets_short v.xor (both_sets (called_on x) (first_set args))
method_short method.Negate x args h k = negate_short (called_on x)
