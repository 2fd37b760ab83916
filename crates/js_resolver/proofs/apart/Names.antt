-- A tree that tokens in order spell keeps its names apart.
use Rattle.std.proofs.Common.{◌≡◌, ◌∙◌, inl, inr, ℕ, suc, ◌≤◌, List, [], ◌∷◌, ◌++◌, refl, ap, sym, subst, map, arith, Some, Bool, true, false, if◌then◌else◌, nat_eq}
use Rattle.std.proofs.lemmas.Bool.{false≢true}
use Rattle.std.specs.Prelude.{is_some}
use Rattle.std.specs.List.{flat_map}
use Rattle.js_lexer.specs.declared.token.Token.{Token}
use Rattle.js_tree.specs.Plain.{PlainItem}
use Rattle.js_grammar.specs.Grammar.{SpellsTree}
use Rattle.js_names.specs.declared.mention.Declared.{Declared}
use Rattle.js_names.specs.declared.mention.Role.{Role}
use Rattle.js_names.specs.declared.mention.Role.TheVariants.{Parameter, Const, Let, Var, Function}
use Rattle.js_names.specs.declared.mention.What.{What}
use Rattle.js_names.specs.Entries.{top}
use Rattle.js_names.specs.Spots.{program_spot}
use Rattle.js_names.specs.Unresolved.{Unresolved, begin_mention, item_mentions, unresolved_mentions}
use Rattle.js_names.specs.Mentions.{Mention, look_up, mentions, declared_at}
use Rattle.js_names.specs.Slots.{held_by, parameter_in, parameter_at, is_begin}
use Rattle.js_resolver.specs.Variables.{second}
use Rattle.js_resolver.specs.Spelled.{next, InOrder}
use Rattle.js_resolver.proofs.sound.Found.{IsFound, AllFound}
use Rattle.js_resolver.proofs.sound.Functions.{begun}
use Rattle.js_resolver.proofs.sound.Known.{AllDeclared}
use Rattle.js_resolver.proofs.sound.Lists.{In, HasMention}
use Rattle.js_resolver.proofs.sound.Mentions.{is_name}
use Rattle.js_resolver.proofs.sound.Program.{program_scopes}
use Rattle.js_resolver.proofs.sound.Resolved.{StandApart}
use Rattle.js_resolver.proofs.sound.Room.{NoRepeats}
use Rattle.js_resolver.proofs.apart.Bounds.{Ascend, ascend_from, ascend_in, ascend_apart}
use Rattle.js_resolver.proofs.apart.Order.{names_in}
use Rattle.js_resolver.proofs.apart.Declared.{program_own, program_vars}
use Rattle.js_resolver.proofs.apart.Spans.{Lie, Spans}
use Rattle.js_resolver.proofs.apart.Spelled.{tree_spans}

-- mentions of one kind with keys of their own

keys : (Mention → Bool) → (Mention → ℕ) → List Mention → List ℕ
keys t key [] = []
keys t key (p ∷ ps) = if t p then key p ∷ keys t key ps else keys t key ps

key_in : (t : Mention → Bool) (key : Mention → ℕ) (q : Mention) (ps : List Mention) → HasMention q ps → t q ≡ true → In (key q) (keys t key ps)
unfolding keys
key_in t key q [] h e = absurd h
key_in t key q (p ∷ ps) (inl m) e = subst (λ (b : Bool). In (key q) (if b then key p ∷ keys t key ps else keys t key ps)) (sym e ∙ ap t m) (inl (ap key m))
key_in t key q (p ∷ ps) (inr h) e =
    let k = key_in t key q ps h e in
    elim (t p) as (λ b. In (key q) (if b then key p ∷ keys t key ps else keys t key ps)) [ true ↦ inr k | false ↦ k ]

keys_behind : (t : Mention → Bool) (key : Mention → ℕ) (p : Mention) (ps : List Mention) → NoRepeats (keys t key (p ∷ ps)) → NoRepeats (keys t key ps)
unfolding keys
keys_behind t key p ps h = elim (t p) as (λ b. NoRepeats (if b then key p ∷ keys t key ps else keys t key ps) → NoRepeats (keys t key ps)) [ true ↦ λ k. k.1 | false ↦ λ k. k ] h

keys_first : (t : Mention → Bool) (key : Mention → ℕ) (p : Mention) (ps : List Mention) → NoRepeats (keys t key (p ∷ ps)) → t p ≡ true → In (key p) (keys t key ps) → ⊥
unfolding keys
keys_first t key p ps h e = (subst (λ (b : Bool). NoRepeats (if b then key p ∷ keys t key ps else keys t key ps)) e h).0

same_mention : (t : Mention → Bool) (key : Mention → ℕ) (q r : Mention) (ps : List Mention) → NoRepeats (keys t key ps) → HasMention q ps → HasMention r ps → t q ≡ true → t r ≡ true → key q ≡ key r → q ≡ r
same_mention t key q r [] n h k e f same = absurd h
same_mention t key q r (p ∷ ps) n (inl x) (inl y) e f same = x ∙ sym y
same_mention t key q r (p ∷ ps) n (inl x) (inr k) e f same =
    absurd (keys_first t key p ps n (sym (ap t x) ∙ e) (subst (λ v. In v (keys t key ps)) (sym same ∙ ap key x) (key_in t key r ps k f)))
same_mention t key q r (p ∷ ps) n (inr h) (inl y) e f same =
    absurd (keys_first t key p ps n (sym (ap t y) ∙ f) (subst (λ v. In v (keys t key ps)) (same ∙ ap key y) (key_in t key q ps h e)))
same_mention t key q r (p ∷ ps) n (inr h) (inr k) e f same = same_mention t key q r ps (keys_behind t key p ps n) h k e f same

keys-names : (ss : List Unresolved) → keys (λ (q : Mention). is_name q.what) (λ (q : Mention). q.name.spot.at) (map look_up ss) ≡ names_in ss
unfolding keys look_up
keys-names [] = refl
keys-names (s ∷ ss) = ap (λ z. if is_name s.what then s.name.spot.at ∷ z else z) (keys-names ss)

keys-begun : (ss : List Unresolved) → keys (λ (q : Mention). is_begin q.what) (λ (q : Mention). q.around.owner) (map look_up ss) ≡ begun ss
unfolding keys look_up
keys-begun [] = refl
keys-begun (s ∷ ss) = ap (λ z. if is_begin s.what then s.around.owner ∷ z else z) (keys-begun ss)

-- what mentions are, looked up

found_declared : (s : Unresolved) (w : What) (role : Role) → IsFound w s → w ≡ What.Declares role → (d : Declared) × (declared_at w s.scopes s.name.text ≡ Some d) × (d.owner ≡ s.around.owner)
found_declared s (What.Declares r) role h e = (h.0, h.1, h.2.owner)
found_declared s What.Reads role h e = absurd (cc)
found_declared s What.Assigns role h e = absurd (cc)
found_declared s What.Misuses role h e = absurd (cc)
found_declared s What.LoopWord role h e = absurd (cc)
found_declared s What.Returns role h e = absurd (cc)
found_declared s What.Begins role h e = absurd (cc)

all_declared : (ss : List Unresolved) → AllFound ss → AllDeclared (map look_up ss)
unfolding look_up
all_declared [] h q k role e = absurd k
all_declared (s ∷ ss) h q (inl m) role e =
    subst (λ (q : Mention). q.what ≡ What.Declares role → (d : Declared) × (q.declared ≡ Some d) × (d.owner ≡ q.around.owner)) (sym m) (λ e. found_declared s s.what role h.0 e) e
all_declared (s ∷ ss) h q (inr k) role e = all_declared ss h.1 q k role e

declared_name : (s : Unresolved) (w : What) → is_some (declared_at w s.scopes s.name.text) ≡ true → is_name w ≡ true
declared_name s (What.Declares r) h = refl
declared_name s What.Reads h = refl
declared_name s What.Assigns h = refl
declared_name s What.Misuses h = absurd (false≢true h)
declared_name s What.LoopWord h = absurd (false≢true h)
declared_name s What.Returns h = absurd (false≢true h)
declared_name s What.Begins h = absurd (false≢true h)

mention_name : (ss : List Unresolved) (q : Mention) → HasMention q (map look_up ss) → is_some q.declared ≡ true → is_name q.what ≡ true
unfolding look_up
mention_name [] q h e = absurd h
mention_name (s ∷ ss) q (inl m) e = subst (λ (q : Mention). is_some q.declared ≡ true → is_name q.what ≡ true) (sym m) (λ e. declared_name s s.what e) e
mention_name (s ∷ ss) q (inr h) e = mention_name ss q h e

-- the parameters of one function are some of the names

ascend_behind : (low high x : ℕ) (xs : List ℕ) → Ascend low high (x ∷ xs) → Ascend low high xs
ascend_behind low high x xs h = ascend_from low (suc x) high xs (omega (arith, h.0)) h.1

held_ascend : (f low high : ℕ) (ss : List Unresolved) → Ascend low high (names_in ss) → Ascend low high (held_by f (flat_map parameter_in (map look_up ss)))
unfolding look_up
held_ascend f low high [] h = h
held_ascend f low high (s ∷ ss) h =
    let offset = s.name.spot.at in
    let rest = flat_map parameter_in (map look_up ss) in
    let less : Ascend low high (offset ∷ names_in ss) → Ascend low high (held_by f rest) = λ k. held_ascend f low high ss (ascend_behind low high offset (names_in ss) k) in
    let more : Ascend low high (offset ∷ names_in ss) → Ascend low high (if nat_eq s.around.owner f then offset ∷ held_by f rest else held_by f rest) = λ k.
    elim (nat_eq s.around.owner f) as (λ b. Ascend low high (if b then offset ∷ held_by f rest else held_by f rest)) [ true ↦ (k.0, held_ascend f (suc offset) high ss k.1) | false ↦ less k ]
    in
    let role : (r : Role) → Ascend low high (offset ∷ names_in ss) → Ascend low high (held_by f (parameter_at (What.Declares r) (look_up s) ++ rest)) =
    λ r. elim r as (λ r. Ascend low high (offset ∷ names_in ss) → Ascend low high (held_by f (parameter_at (What.Declares r) (look_up s) ++ rest))) [ Parameter ↦ more | Const ↦ less | Let ↦ less | Var ↦ less | Function ↦ less ]
    in
    let cases : (w : What) → Ascend low high (if is_name w then offset ∷ names_in ss else names_in ss) → Ascend low high (held_by f (parameter_at w (look_up s) ++ rest)) =
    λ w. elim w as (λ w. Ascend low high (if is_name w then offset ∷ names_in ss else names_in ss) → Ascend low high (held_by f (parameter_at w (look_up s) ++ rest))) [
      | What.Declares r ↦ role r
      | What.Reads ↦ less
      | What.Assigns ↦ less
      | What.Misuses ↦ λ k. held_ascend f low high ss k
      | What.LoopWord ↦ λ k. held_ascend f low high ss k
      | What.Returns ↦ λ k. held_ascend f low high ss k
      | What.Begins ↦ λ k. held_ascend f low high ss k
    ]
    in
    cases s.what h

-- Tokens in order before an end that is not the offset of the top level keep the names of the tree apart that they spell.
pub spelled_apart : (end : ℕ) (ts : List Token) (items : List PlainItem) → end ≤ top → InOrder end ts → SpellsTree ts items → StandApart items
unfolding mentions unresolved_mentions
spelled_apart end ts items l order spelled =
    let scopes = program_scopes items in
    let first = begin_mention scopes top (program_spot items) in
    let ss = flat_map (item_mentions scopes) items in
    let spans : Spans ts [] ss = tree_spans scopes (program_own items) (program_vars items) spelled in
    let lie : Lie end ts [] ss = spans.lie end order in
    let outside : In top (begun ss) → ⊥ = λ k. let r = ascend_in (next end ts) end top (begun ss) lie.begins k in omega (arith, r.1, l) in
    let begins : NoRepeats (begun ss) = ascend_apart (next end ts) end (begun ss) lie.begins in
    record {
      declared = all_declared (first ++ ss) (tt, spans.found);
      begin = λ q r h k e f same.
          ap (λ (p : Mention). second top p.functions)
          (same_mention (λ (q : Mention). is_begin q.what) (λ (q : Mention). q.around.owner) q r (map look_up (first ++ ss)) (subst NoRepeats (sym (keys-begun (first ++ ss))) (outside, begins)) h k e f same);
      found = spans.found;
      names = λ q r h k e f same.
          same_mention (λ (q : Mention). is_name q.what) (λ (q : Mention). q.name.spot.at) q r (map look_up (first ++ ss)) (subst NoRepeats (sym (keys-names (first ++ ss))) (ascend_apart (next end ts) end (names_in ss) lie.names)) h k
          (mention_name (first ++ ss) q h e) (mention_name (first ++ ss) r k f) same;
      functions = begins;
      inner = outside;
      parameters = λ f. ascend_apart (next end ts) end (held_by f (flat_map parameter_in (map look_up (first ++ ss)))) (held_ascend f (next end ts) end (first ++ ss) lie.names);
    }
