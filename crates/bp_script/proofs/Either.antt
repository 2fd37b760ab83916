-- Each bytes are a program, or they are refused.
use Rattle.std.proofs.Common.{◌≡◌, ℕ, zero, suc, ◌<◌, ◌≤◌, nat_eq, nat_lt, Bool, true, false, List, [], ◌∷◌, length, take, refl, sym, ◌∙◌, subst, arith, inl, inr, Option, Some, None, if◌then◌else◌, fold}
use Rattle.std.specs.Str.{IsUtf8, IsValidUpTo, is_utf8}
use Rattle.std.specs.Str.Lossy.{valid_len_up_to}
use Rattle.std.proofs.lemmas.Bool.{false≢true, eqb-true, eqb-false, ltb-true, ltb-false}
use Rattle.std.proofs.lemmas.List.{take_all}
use Rattle.std.proofs.lemmas.Option.{same_Some}
use Rattle.std.proofs.lemmas.Str.{IsUtf8-nil, IsUtf8-from_is_utf8, is_utf8-from_IsUtf8}
use Rattle.js_lexer.specs.declared.limits.TheConstants.{MOST_BYTES}
use Rattle.js_lexer.specs.declared.token.Flaw.{Flaw}
use Rattle.js_lexer.specs.declared.token.Flaw.TheVariants as flaw
use Rattle.js_lexer.specs.declared.token.Token.{Token}
use Rattle.js_lexer.specs.Gaps.{line_of}
use Rattle.js_lexer.specs.Cut.{Refused}
use Rattle.js_lexer.specs.Laws.{CutOrRefused}
use Rattle.js_lexer.proofs.Cutting.{cut_or_refused}
use Rattle.js_tree.specs.Plain.{PlainItem}
use Rattle.js_grammar.specs.Reading.{Found}
use Rattle.js_grammar.specs.Unsupported.{first_unsupported}
use Rattle.js_names.specs.declared.mention.NameFault.{NameFault}
use Rattle.js_names.specs.Mentions.{Mention, mentions}
use Rattle.js_names.specs.Slots.{assigned_in, slot_count}
use Rattle.js_names.specs.Rules.{name_fault, fault_at, sooner, comes_before, fails_unknown, fails_twice, fails_const, fails_capture, fails_loop_word, fails_return, fails_slots}
use Rattle.js_parser.specs.Parse.{all_items}
use Rattle.js_grammar.specs.Trees.{IsLineIn}
use Rattle.js_parser.proofs.Programs.{tree_found, tree_missed}
use Rattle.bp_script.specs.declared.refusal.Kind.{Kind}
use Rattle.bp_script.specs.declared.refusal.Rule.{Rule}
use Rattle.bp_script.specs.declared.refusal.Refusal.{Refusal}
use Rattle.bp_script.specs.Programs.{AreCut, AreSpelled, HasNameFault, IsRefused}
use Rattle.bp_script.specs.Laws.{ProgramOrRefused}
use Rattle.bp_script.proofs.Once.{each_is_program}

-- ---- bytes that are no text

front_at : (bytes : List ℕ) (m n : ℕ) (b : Bool) → is_utf8 (take m bytes) ≡ b → IsUtf8 (take n bytes) → IsUtf8 (take (if b then m else n) bytes)
front_at bytes m n true e rest = IsUtf8-from_is_utf8 (take m bytes) e
front_at bytes m n false e rest = rest

-- the front that is found is text
valid_front : (bytes : List ℕ) (m : ℕ) → IsUtf8 (take (valid_len_up_to bytes m) bytes)
valid_front bytes zero = IsUtf8-nil
valid_front bytes (suc m) = front_at bytes (suc m) (valid_len_up_to bytes m) (is_utf8 (take (suc m) bytes)) refl (valid_front bytes m)

same_or_less : (bytes : List ℕ) (m k : ℕ) (b : Bool) → nat_eq k (suc m) ≡ b → is_utf8 (take (suc m) bytes) ≡ false → k ≤ suc m → IsUtf8 (take k bytes) → (k ≤ m → ⊥) → ⊥
same_or_less bytes m k true same e less u rest =
    false≢true (sym e ∙ subst (λ (n : ℕ). is_utf8 (take n bytes) ≡ true) (eqb-true k (suc m) same) (is_utf8-from_IsUtf8 (take k bytes) u))
same_or_less bytes m k false other e less u rest = let o = eqb-false k (suc m) other in rest (omega (arith, o))

longer_at : (bytes : List ℕ) (m n k : ℕ) (b : Bool) → is_utf8 (take (suc m) bytes) ≡ b → (if b then suc m else n) < k → k ≤ suc m → IsUtf8 (take k bytes) → (n < k → k ≤ m → ⊥) → ⊥
longer_at bytes m n k true e more less u rest = omega arith
longer_at bytes m n k false e more less u rest = same_or_less bytes m k (nat_eq k (suc m)) refl e less u (rest more)

-- and no longer one is
valid_longest : (bytes : List ℕ) (m k : ℕ) → valid_len_up_to bytes m < k → k ≤ m → IsUtf8 (take k bytes) → ⊥
valid_longest bytes zero k more less u = omega arith
valid_longest bytes (suc m) k more less u = longer_at bytes m (valid_len_up_to bytes m) k (is_utf8 (take (suc m) bytes)) refl more less u (λ h l. valid_longest bytes m k h l u)

at_most : (m n : ℕ) (b : Bool) → n ≤ m → (if b then suc m else n) ≤ suc m
at_most m n true h = omega arith
at_most m n false h = omega arith

valid_most : (bytes : List ℕ) (m : ℕ) → valid_len_up_to bytes m ≤ m
valid_most bytes zero = omega arith
valid_most bytes (suc m) = at_most m (valid_len_up_to bytes m) (is_utf8 (take (suc m) bytes)) (valid_most bytes m)

whole_text : (bytes : List ℕ) (k : ℕ) → length bytes ≤ k → IsUtf8 (take k bytes) → IsUtf8 bytes
whole_text bytes k h u = subst IsUtf8 (take_all k bytes h) u

valid_up_to : (bytes : List ℕ) → ¬ (IsUtf8 bytes) → IsValidUpTo bytes (valid_len_up_to bytes (length bytes))
valid_up_to bytes never =
    let most = valid_most bytes (length bytes) in
    let front = valid_front bytes (length bytes) in
    let other : (length bytes ≤ valid_len_up_to bytes (length bytes)) → ⊥ = λ h. never (whole_text bytes (valid_len_up_to bytes (length bytes)) h front) in
    record {
      short = omega (arith, most, other);
      front = front;
      longest = λ m h u.
          let within : m ≤ length bytes → ⊥ = λ l. valid_longest bytes (length bytes) m h l u in
          never (whole_text bytes m (omega (arith, within)) u);
    }

-- ---- refusals

-- the bytes are refused in some way
abbrev AreRefused : List ℕ → Type 0
AreRefused bytes = (refusal : Refusal) × IsRefused bytes refusal

no_text : (bytes : List ℕ) → length bytes ≤ MOST_BYTES → is_utf8 bytes ≡ false → AreRefused bytes
no_text bytes short e =
    let never : ¬ (IsUtf8 bytes) = λ u. false≢true (sym e ∙ is_utf8-from_IsUtf8 bytes u) in
    let place = valid_len_up_to bytes (length bytes) in
    (Refusal.OnLine (line_of bytes place) Kind.Utf8, (short, never, (place, valid_up_to bytes never, refl)))

flawed : (bytes : List ℕ) (f : Flaw) (place : ℕ) → length bytes ≤ MOST_BYTES → IsUtf8 bytes → Refused bytes f place → AreRefused bytes
flawed bytes flaw.Character place short u r = (Refusal.OnLine (line_of bytes place) Kind.Character, (short, u, (place, r, refl)))
flawed bytes flaw.OpenText place short u r = (Refusal.OnLine (line_of bytes place) Kind.OpenText, (short, u, (place, r, refl)))
flawed bytes flaw.Escape place short u r = (Refusal.OnLine (line_of bytes place) Kind.Escape, (short, u, (place, r, refl)))
flawed bytes flaw.NumberRange place short u r = (Refusal.OnLine (line_of bytes place) Kind.NumberRange, (short, u, (place, r, refl)))
flawed bytes flaw.Unsupported place short u r = (Refusal.OnLine (line_of bytes place) Kind.Unsupported, inl (short, u, (place, r, refl)))

-- a line of the tokens
abbrev line_in : List Token → ℕ
line_in [] = 1
line_in (t ∷ ts) = t.line

is_line : (ts : List Token) → IsLineIn ts (line_in ts)
is_line [] = refl
is_line (t ∷ ts) = (0, omega arith, refl)

-- no fault of names is out of memory
abbrev IsNamed : Option NameFault → Type 0
IsNamed o = o ≡ Some NameFault.Memory → ⊥

named_if : (b : Bool) (f : NameFault) (o : Option NameFault) → (f ≡ NameFault.Memory → ⊥) → IsNamed o → IsNamed (if b then Some f else o)
named_if true f o h k e = h (same_Some f NameFault.Memory e)
named_if false f o h k e = k e

named_at : (assigned : List ℕ) (count : ℕ → ℕ) (p : Mention) → IsNamed (fault_at assigned count p)
unfolding fault_at
named_at assigned count p =
    named_if (fails_unknown p) (NameFault.Unknown p.name) _ (λ e. cc)
    (named_if (fails_twice p) (NameFault.Twice p.name) _ (λ e. cc)
    (named_if (fails_const p) (NameFault.AssignConst p.name) _ (λ e. cc)
    (named_if (fails_capture assigned p) (NameFault.Capture p.name) _ (λ e. cc)
    (named_if (fails_loop_word p) (NameFault.LoopWord p.name) _ (λ e. cc)
    (named_if (fails_return p) (NameFault.ReturnPlace p.name) _ (λ e. cc)
    (named_if (fails_slots count p) (NameFault.Slots p.name) None (λ e. cc) (λ e. cc)))))))

named_either : (b : Bool) (f g : NameFault) → IsNamed (Some f) → IsNamed (Some g) → IsNamed (if b then Some g else Some f)
named_either true f g h k = k
named_either false f g h k = h

named_sooner : (f g : Option NameFault) → IsNamed f → IsNamed g → IsNamed (sooner f g)
named_sooner None g h k = k
named_sooner (Some f) None h k = h
named_sooner (Some f) (Some g) h k = named_either (comes_before g f) f g h k

named_all : (fault : Mention → Option NameFault) (ps : List Mention) (f : Option NameFault) → ((p : Mention) → IsNamed (fault p)) → IsNamed f → IsNamed (fold (λ g p. sooner g (fault p)) f ps)
named_all fault [] f h k = k
named_all fault (p ∷ ps) f h k = named_all fault ps (sooner f (fault p)) h (named_sooner f (fault p) k (h p))

named : (tree : List PlainItem) → IsNamed (name_fault tree)
unfolding name_fault
named tree =
    let ps = mentions tree in
    let assigned = assigned_in ps in
    named_all (fault_at assigned (slot_count assigned ps)) ps None (named_at assigned (slot_count assigned ps)) (λ e. cc)

misnamed : (bytes : List ℕ) (fault : NameFault) → IsNamed (Some fault) → HasNameFault bytes fault → AreRefused bytes
misnamed bytes (NameFault.Unknown name) n h = (Refusal.OfName name.spot.line Rule.Unknown name.text, (name, h, refl, refl))
misnamed bytes (NameFault.Twice name) n h = (Refusal.OfName name.spot.line Rule.Twice name.text, (name, h, refl, refl))
misnamed bytes (NameFault.AssignConst name) n h = (Refusal.OfName name.spot.line Rule.Const name.text, (name, h, refl, refl))
misnamed bytes (NameFault.Capture name) n h = (Refusal.OfName name.spot.line Rule.Capture name.text, (name, h, refl, refl))
misnamed bytes (NameFault.LoopWord name) n h = (Refusal.OnLine name.spot.line Kind.LoopWord, (name, h, refl))
misnamed bytes (NameFault.ReturnPlace name) n h = (Refusal.OnLine name.spot.line Kind.ReturnPlace, (name, h, refl))
misnamed bytes (NameFault.Slots name) n h = (Refusal.OnLine name.spot.line Kind.Slots, (name, h, refl))
misnamed bytes NameFault.Memory n h = absurd (n refl)

-- ---- a program, or refused

by_names : (bytes : List ℕ) (tree : List PlainItem) (o : Option NameFault) → AreSpelled bytes tree → name_fault tree ≡ o → ProgramOrRefused bytes
by_names bytes tree None s e = inl (each_is_program bytes tree (record { spelled = s; named = e }))
by_names bytes tree (Some fault) s e = inr (misnamed bytes fault (subst IsNamed e (named tree)) (tree, s, e))

by_tree : (bytes : List ℕ) (ts : List Token) (o : Found (List PlainItem)) → AreCut bytes ts → first_unsupported false ts ≡ None → all_items ts ≡ o → ProgramOrRefused bytes
by_tree bytes ts None cut none e = inr (Refusal.OnLine (line_in ts) Kind.NoTree, (ts, cut, none, tree_missed ts e, is_line ts))
by_tree bytes ts (Some found) cut none e =
    by_names bytes found.0 (name_fault found.0) (record { tokens = ts; cut = cut; supported = none; spelled = tree_found ts found.0 found.1 e }) refl

by_tokens : (bytes : List ℕ) (ts : List Token) (o : Option ℕ) → AreCut bytes ts → first_unsupported false ts ≡ o → ProgramOrRefused bytes
by_tokens bytes ts (Some line) cut e = inr (Refusal.OnLine line Kind.Unsupported, inr (ts, cut, e))
by_tokens bytes ts None cut e = by_tree bytes ts (all_items ts) cut e refl

by_cut : (bytes : List ℕ) → length bytes ≤ MOST_BYTES → IsUtf8 bytes → CutOrRefused bytes → ProgramOrRefused bytes
by_cut bytes short u (inl d) = by_tokens bytes d.0 (first_unsupported false d.0) (record { short = short; utf8 = u; cut = d.1 }) refl
by_cut bytes short u (inr r) = inr (flawed bytes r.0 r.1 short u r.2)

by_text : (bytes : List ℕ) (b : Bool) → length bytes ≤ MOST_BYTES → is_utf8 bytes ≡ b → ProgramOrRefused bytes
by_text bytes true short e = by_cut bytes short (IsUtf8-from_is_utf8 bytes e) (cut_or_refused bytes)
by_text bytes false short e = inr (no_text bytes short e)

by_length : (bytes : List ℕ) (b : Bool) → nat_lt MOST_BYTES (length bytes) ≡ b → ProgramOrRefused bytes
by_length bytes true e = inr (Refusal.TooLong, ltb-true MOST_BYTES (length bytes) e)
by_length bytes false e = by_text bytes (is_utf8 bytes) (ltb-false MOST_BYTES (length bytes) e) refl

pub program_or_refused : (bytes : List ℕ) → ProgramOrRefused bytes
program_or_refused bytes = by_length bytes (nat_lt MOST_BYTES (length bytes)) refl
