-- Names and functions of a part of a tree stand, in text order, among the tokens that spell the part.
use Rattle.std.proofs.Common.{◌≡◌, ℕ, ◌≤◌, List, [], ◌∷◌, ◌++◌, refl, sym, subst, arith, Option, Some, None, Bool, true, false, if◌then◌else◌}
use Rattle.js_lexer.specs.declared.token.Token.{Token}
use Rattle.js_tree.specs.declared.tree.Name.{Name}
use Rattle.js_tree.specs.declared.ending.Ending.{Ending}
use Rattle.js_tree.specs.Nesting.{is_object}
use Rattle.js_grammar.specs.Sorts.{spot}
use Rattle.js_grammar.specs.Grammar.{Params, params_none, params_last, params_more, Header, header_name, header_params, Opening, opening, End, end_mark, end_none}
use Rattle.js_names.specs.declared.mention.Around.{Around}
use Rattle.js_names.specs.declared.mention.What.{What}
use Rattle.js_names.specs.Scopes.{Scope}
use Rattle.js_names.specs.Forms.{is_undefined, is_reserved}
use Rattle.js_names.specs.Unresolved.{Unresolved, one_mention, read_mention, assign_mention, member_mentions, in_function, begin_mention, parameter_mentions}
use Rattle.js_names.specs.Slots.{is_begin}
use Rattle.js_resolver.specs.Spelled.{next, InOrder}
use Rattle.js_resolver.proofs.sound.Functions.{begun, begun-append}
use Rattle.js_resolver.proofs.sound.Mentions.{is_name}
use Rattle.js_resolver.proofs.apart.Bounds.{Ascend, ascend_bounds, ascend_from, ascend_to, ascend_append}
use Rattle.js_resolver.proofs.apart.Order.{name_offset, names_in, names-append}
use Rattle.js_resolver.proofs.sound.Found.{IsFound, AllFound}
use Rattle.js_resolver.proofs.apart.Declared.{found_append}

-- the names and the functions stand between the first token and the rest, and the rest is in order
pub record Lie (end : ℕ) (ts rest : List Token) (ss : List Unresolved) : Type 0 where
  pub order : InOrder end rest
  pub names : Ascend (next end ts) (next end rest) (names_in ss)
  pub begins : Ascend (next end ts) (next end rest) (begun ss)

-- tokens in order up to the rest have these mentions, whose declared names are found
pub record Spans (ts rest : List Token) (ss : List Unresolved) : Type 0 where
  pub lie : (end : ℕ) → InOrder end ts → Lie end ts rest ss
  pub found : AllFound ss

pub nothing : {ts : List Token} → Spans ts ts []
nothing = record { lie = λ end h. record { order = h; names = omega arith; begins = omega arith }; found = tt }

pub and_then : {ts ms rest : List Token} {xs ys : List Unresolved} → Spans ts ms xs → Spans ms rest ys → Spans ts rest (xs ++ ys)
and_then {ts = ts} {ms = ms} {rest = rest} {xs = xs} {ys = ys} p q =
    record {
      lie = λ end h.
          let x = p.lie end h in
          let y = q.lie end x.order in
          record {
            order = y.order;
            names = subst (Ascend (next end ts) (next end rest)) (sym (names-append xs ys)) (ascend_append (next end ts) (next end ms) (next end rest) (names_in xs) (names_in ys) x.names y.names);
            begins = subst (Ascend (next end ts) (next end rest)) (sym (begun-append xs ys)) (ascend_append (next end ts) (next end ms) (next end rest) (begun xs) (begun ys) x.begins y.begins);
          };
      found = found_append xs ys p.found q.found;
    }

-- one token more in front
pub after : {t : Token} {ts rest : List Token} {ss : List Unresolved} → Spans ts rest ss → Spans (t ∷ ts) rest ss
after {t = t} {ts = ts} {rest = rest} {ss = ss} p =
    record {
      lie = λ end h.
          let x = p.lie end h.1 in
          let l : t.from ≤ next end ts = omega (arith, h.0) in
          record { order = x.order; names = ascend_from t.from (next end ts) (next end rest) (names_in ss) l x.names; begins = ascend_from t.from (next end ts) (next end rest) (begun ss) l x.begins };
      found = p.found;
    }

-- and one after
pub up_to : {t : Token} {ts rest : List Token} {ss : List Unresolved} → Spans ts (t ∷ rest) ss → Spans ts rest ss
up_to {t = t} {ts = ts} {rest = rest} {ss = ss} p =
    record {
      lie = λ end h.
          let x = p.lie end h in
          let l : t.from ≤ next end rest = omega (arith, x.order.0) in
          record { order = x.order.1; names = ascend_to (next end ts) t.from (next end rest) (names_in ss) l x.names; begins = ascend_to (next end ts) t.from (next end rest) (begun ss) l x.begins };
      found = p.found;
    }

pub ended : {ends : Ending} {ts ms rest : List Token} {ss : List Unresolved} → Spans ts ms ss → End ends ms rest → Spans ts rest ss
ended p (end_mark h) = up_to p
ended p (end_none h) = p

-- mentions without names and functions
none_there : {ts rest : List Token} {ss : List Unresolved} (other : List Unresolved) → names_in other ≡ [] → begun other ≡ [] → AllFound other → Spans ts rest ss → Spans ts rest other
none_there {ts = ts} {rest = rest} {ss = ss} other names begins found p =
    record {
      lie = λ end h.
          let x = p.lie end h in
          let l = ascend_bounds (next end ts) (next end rest) (names_in ss) x.names in
          record { order = x.order; names = subst (Ascend (next end ts) (next end rest)) (sym names) l; begins = subst (Ascend (next end ts) (next end rest)) (sym begins) l };
      found = found;
    }

pub unless : {ts rest : List Token} {ss : List Unresolved} (b : Bool) → Spans ts rest ss → Spans ts rest (if b then [] else ss)
unless true p = none_there [] refl refl tt p
unless false p = p

pub member_spans : {ts rest : List Token} {ss : List Unresolved} (scopes : List Scope) (a : Around) (object : Option Name) (word : List ℕ) (is_value : Bool) → Spans ts rest ss → Spans ts rest (member_mentions scopes a object word is_value ss)
member_spans scopes a None word is_value p = p
member_spans scopes a (Some object) word true p = none_there [] refl refl tt p
member_spans scopes a (Some object) word false p = none_there _ refl refl (tt, tt) p

-- one name at its token
pub at_name : {t : Token} {ts : List Token} (s : Unresolved) → s.name.spot.at ≡ t.from → is_begin s.what ≡ false → IsFound s.what s → Spans (t ∷ ts) ts (s ∷ [])
at_name {t = t} {ts = ts} s e b found =
    record {
      lie = λ end h.
          let l = h.0 in
          let named : Ascend t.from (next end ts) (s.name.spot.at ∷ []) = (omega (arith, e), omega (arith, e, l)) in
          let alone : Ascend t.from (next end ts) [] = omega (arith, l) in
          record {
            order = h.1;
            names = elim (is_name s.what) as (λ b. Ascend t.from (next end ts) (if b then s.name.spot.at ∷ [] else [])) [ true ↦ named | false ↦ alone ];
            begins = subst (λ (b : Bool). Ascend t.from (next end ts) (if b then s.around.owner ∷ [] else [])) (sym b) alone;
          };
      found = (found, tt);
    }

pub read_spans : {t : Token} {ts : List Token} (scopes : List Scope) (a : Around) (name : Name) → name.spot.at ≡ t.from → Spans (t ∷ ts) ts (read_mention scopes a name)
read_spans {t = t} {ts = ts} scopes a name e =
    elim (is_object name.text) as (λ b. Spans (t ∷ ts) ts (if b then one_mention scopes a What.Misuses name else (if is_undefined name.text then [] else one_mention scopes a What.Reads name))) [
      | true ↦ at_name _ e refl tt
      | false ↦ elim (is_undefined name.text) as (λ b. Spans (t ∷ ts) ts (if b then [] else one_mention scopes a What.Reads name)) [ true ↦ after nothing | false ↦ at_name _ e refl tt ]
    ]

pub assign_spans : {t : Token} {ts : List Token} (scopes : List Scope) (a : Around) (name : Name) → name.spot.at ≡ t.from → Spans (t ∷ ts) ts (assign_mention scopes a name)
assign_spans {t = t} {ts = ts} scopes a name e =
    elim (is_reserved name.text) as (λ b. Spans (t ∷ ts) ts (if b then one_mention scopes a What.Misuses name else one_mention scopes a What.Assigns name)) [ true ↦ at_name _ e refl tt | false ↦ at_name _ e refl tt ]

-- a function begins at its first token
begin_token : {t : Token} {ts : List Token} (scopes : List Scope) → Spans (t ∷ ts) ts (begin_mention scopes t.from (spot t))
begin_token {t = t} {ts = ts} scopes =
    record { lie = λ end h. let l = h.0 in record { order = h.1; names = omega (arith, l); begins = (omega arith, omega (arith, l)) }; found = (tt, tt) }

-- which may be its parameter
begin_name : {t : Token} {ts : List Token} (scopes : List Scope) (x : Name) → x.spot.at ≡ t.from → AllFound (parameter_mentions scopes (in_function t.from) (x ∷ [])) →
    Spans (t ∷ ts) ts (begin_mention scopes t.from (spot t) ++ parameter_mentions scopes (in_function t.from) (x ∷ []))
begin_name {t = t} {ts = ts} scopes x e found =
    record { lie = λ end h. let l = h.0 in record { order = h.1; names = (omega (arith, e), omega (arith, e, l)); begins = (omega arith, omega (arith, l)) }; found = (tt, found) }

params_spans : {ts rest : List Token} {xs : List Name} (scopes : List Scope) (a : Around) → AllFound (parameter_mentions scopes a xs) → Params ts xs rest → Spans ts rest (parameter_mentions scopes a xs)
params_spans scopes a found (params_none h) = after nothing
params_spans scopes a found (params_last h k) = up_to (at_name _ (name_offset _ h) refl found.0)
params_spans scopes a found (params_more h k r) = and_then (up_to (at_name _ (name_offset _ h) refl found.0)) (params_spans scopes a found.1 r)

pub header_spans : {t : Token} {ts ms : List Token} {xs : List Name} (scopes : List Scope) → AllFound (parameter_mentions scopes (in_function t.from) xs) → Header (t ∷ ts) xs ms →
    Spans (t ∷ ts) ms (begin_mention scopes t.from (spot t) ++ parameter_mentions scopes (in_function t.from) xs)
header_spans {t = t} scopes found (header_name {x = x} h k) = up_to (begin_name scopes x (name_offset _ h) found)
header_spans {t = t} scopes found (header_params h p k) = and_then (begin_token scopes) (up_to (params_spans scopes (in_function t.from) found p))

opening_spans : {ts rest : List Token} {xs : List Name} (scopes : List Scope) (a : Around) → AllFound (parameter_mentions scopes a xs) → Opening ts xs rest → Spans ts rest (parameter_mentions scopes a xs)
opening_spans scopes a found (opening h p k) = after (up_to (params_spans scopes a found p))

-- `function` and what stands in parentheses
pub function_spans : {t : Token} {ts ms : List Token} {xs : List Name} (scopes : List Scope) → AllFound (parameter_mentions scopes (in_function t.from) xs) → Opening ts xs ms →
    Spans (t ∷ ts) ms (begin_mention scopes t.from (spot t) ++ parameter_mentions scopes (in_function t.from) xs)
function_spans {t = t} scopes found o = and_then (begin_token scopes) (opening_spans scopes (in_function t.from) found o)

-- `function` and its name
named_token : {t u : Token} {ts : List Token} (inner : List Scope) (s : Unresolved) → s.name.spot.at ≡ u.from → is_name s.what ≡ true → is_begin s.what ≡ false → IsFound s.what s →
    Spans (t ∷ (u ∷ ts)) ts (s ∷ begin_mention inner t.from (spot t))
named_token {t = t} {u = u} {ts = ts} inner s e n b found =
    record {
      lie = λ end h.
          let l = h.0 in
          let k = h.1.0 in
          record {
            order = h.1.1;
            names = subst (λ (b : Bool). Ascend t.from (next end ts) (if b then s.name.spot.at ∷ [] else [])) (sym n) (omega (arith, e, l), omega (arith, e, k));
            begins = subst (λ (b : Bool). Ascend t.from (next end ts) (if b then s.around.owner ∷ (t.from ∷ []) else t.from ∷ [])) (sym b) (omega arith, omega (arith, l, k));
          };
      found = (found, (tt, tt));
    }

pub declared_spans : {t u : Token} {ts ms : List Token} {xs : List Name} (inner : List Scope) (s : Unresolved) → s.name.spot.at ≡ u.from → is_name s.what ≡ true → is_begin s.what ≡ false → IsFound s.what s →
    AllFound (parameter_mentions inner (in_function t.from) xs) → Opening ts xs ms → Spans (t ∷ (u ∷ ts)) ms (s ∷ (begin_mention inner t.from (spot t) ++ parameter_mentions inner (in_function t.from) xs))
declared_spans {t = t} inner s e n b found params o = and_then (named_token inner s e n b found) (opening_spans inner (in_function t.from) params o)
