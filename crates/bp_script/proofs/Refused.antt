-- Bytes that are refused have one cause, and so one refusal.
use Rattle.std.proofs.Common.{◌≡◌, ℕ, ◌≤◌, ◌<◌, false, List, length, refl, ap, sym, ◌∙◌, subst, arith, inl, inr, None}
use Rattle.std.proofs.lemmas.Str.{utf8_valid_len-IsValidUpTo}
use Rattle.std.proofs.lemmas.Option.{same_Some, none-some}
use Rattle.js_lexer.specs.declared.limits.TheConstants.{MOST_BYTES}
use Rattle.js_lexer.specs.declared.token.Flaw.{Flaw}
use Rattle.js_lexer.specs.declared.token.Flaw.TheVariants as flaw
use Rattle.js_lexer.specs.declared.token.Token.{Token}
use Rattle.js_lexer.specs.Gaps.{line_of}
use Rattle.js_lexer.proofs.Cutting.{one_refusal, never_both}
use Rattle.js_tree.specs.declared.limits.TheConstants.{MOST_NESTING}
use Rattle.js_tree.specs.declared.tree.Name.{Name}
use Rattle.js_tree.specs.Plain.{PlainItem}
use Rattle.js_grammar.specs.Trees.{IsTree}
use Rattle.js_grammar.specs.Unsupported.{first_unsupported}
use Rattle.js_names.specs.declared.mention.NameFault.{NameFault}
use Rattle.js_names.specs.Rules.{name_fault}
use Rattle.bp_script.specs.declared.refusal.Kind.{Kind}
use Rattle.bp_script.specs.declared.refusal.Rule.{Rule}
use Rattle.bp_script.specs.declared.refusal.Refusal.{Refusal}
use Rattle.bp_script.specs.Programs.{AreCut, AreSpelled, HasFlaw, HasRefusedToken, IsNoText, HasNoSpelling, HasNameFault, BreaksRule, IsBroken, IsWrong, IsRefused}
use Rattle.bp_script.specs.Laws.{but_for_line, OneRefusal}
use Rattle.bp_script.proofs.Once.{same_tokens, same_tree}

-- why bytes are refused
data Cause : Type 0 where
  long : Cause
  flawed : Flaw → ℕ → Cause
  no_text : ℕ → Cause
  unsupported : ℕ → Cause
  unspelled : Cause
  misnamed : NameFault → Cause

abbrev Causes : List ℕ → Cause → Type 0
Causes bytes long = MOST_BYTES < length bytes
Causes bytes (flawed f line) = HasFlaw bytes f line
Causes bytes (no_text line) = IsNoText bytes line
Causes bytes (unsupported line) = HasRefusedToken bytes line
Causes bytes unspelled = (line : ℕ) × HasNoSpelling bytes line
Causes bytes (misnamed fault) = HasNameFault bytes fault

-- ---- bytes have one cause

not_long : (bytes : List ℕ) → MOST_BYTES < length bytes → length bytes ≤ MOST_BYTES → ⊥
not_long bytes over short = omega (arith, over, short)

one_flaw : (bytes : List ℕ) (f g : Flaw) (m n : ℕ) → HasFlaw bytes f m → HasFlaw bytes g n → flawed f m ≡ flawed g n
one_flaw bytes f g m n h k =
    let same = one_refusal bytes f g (h.2).0 (k.2).0 (h.2).1 (k.2).1 in
    let lines : m ≡ n = (h.2).2 ∙ ap (λ (p : ℕ). line_of bytes p) same.1 ∙ sym (k.2).2 in
    rw (same.0, lines) refl

one_text : (bytes : List ℕ) (m n : ℕ) → IsNoText bytes m → IsNoText bytes n → m ≡ n
one_text bytes m n h k =
    let place : (h.2).0 ≡ (k.2).0 =
    sym (utf8_valid_len-IsValidUpTo bytes (h.2).0 (h.2).1) ∙ utf8_valid_len-IsValidUpTo bytes (k.2).0 (k.2).1 in
    (h.2).2 ∙ ap (λ (p : ℕ). line_of bytes p) place ∙ sym (k.2).2

one_token : (bytes : List ℕ) (m n : ℕ) → HasRefusedToken bytes m → HasRefusedToken bytes n → m ≡ n
one_token bytes m n h k =
    let same = same_tokens bytes h.0 k.0 h.1 k.1 in
    same_Some m n (sym h.2 ∙ ap (λ (ts : List Token). first_unsupported false ts) same ∙ k.2)

one_name : (bytes : List ℕ) (f g : NameFault) → HasNameFault bytes f → HasNameFault bytes g → f ≡ g
one_name bytes f g h k =
    let same = same_tree bytes h.0 k.0 h.1 k.1 in
    same_Some f g (sym h.2 ∙ ap (λ (t : List PlainItem). name_fault t) same ∙ k.2)

-- a flaw leaves no tokens
no_tokens : (bytes : List ℕ) (f : Flaw) (line : ℕ) (tokens : List Token) → HasFlaw bytes f line → AreCut bytes tokens → ⊥
no_tokens bytes f line tokens h cut = never_both bytes tokens f (h.2).0 cut.cut (h.2).1

unlike : (bytes : List ℕ) (line : ℕ) (tokens : List Token) → HasRefusedToken bytes line → AreCut bytes tokens
    → first_unsupported false tokens ≡ None → ⊥
unlike bytes line tokens h cut none =
    let same = same_tokens bytes h.0 tokens h.1 cut in
    none-some line (sym (sym h.2 ∙ ap (λ (ts : List Token). first_unsupported false ts) same ∙ none))

no_tree : (bytes : List ℕ) (line : ℕ) (tree : List PlainItem) → HasNoSpelling bytes line → AreSpelled bytes tree → ⊥
no_tree bytes line tree h s =
    let same = same_tokens bytes s.tokens h.0 s.cut h.1 in
    h.3 tree (subst (λ (ts : List Token). IsTree MOST_NESTING ts tree) same s.spelled)

one_cause : (bytes : List ℕ) (a b : Cause) → Causes bytes a → Causes bytes b → a ≡ b
one_cause bytes long long h k = refl
one_cause bytes long (flawed g n) h k = absurd (not_long bytes h k.0)
one_cause bytes long (no_text n) h k = absurd (not_long bytes h k.0)
one_cause bytes long (unsupported n) h k = absurd (not_long bytes h (k.1).short)
one_cause bytes long unspelled h k = absurd (not_long bytes h ((k.1).1).short)
one_cause bytes long (misnamed g) h k = absurd (not_long bytes h ((k.1).cut).short)
one_cause bytes (flawed f m) long h k = absurd (not_long bytes k h.0)
one_cause bytes (flawed f m) (flawed g n) h k = one_flaw bytes f g m n h k
one_cause bytes (flawed f m) (no_text n) h k = absurd (k.1 h.1)
one_cause bytes (flawed f m) (unsupported n) h k = absurd (no_tokens bytes f m k.0 h k.1)
one_cause bytes (flawed f m) unspelled h k = absurd (no_tokens bytes f m (k.1).0 h (k.1).1)
one_cause bytes (flawed f m) (misnamed g) h k = absurd (no_tokens bytes f m (k.1).tokens h (k.1).cut)
one_cause bytes (no_text m) long h k = absurd (not_long bytes k h.0)
one_cause bytes (no_text m) (flawed g n) h k = absurd (h.1 k.1)
one_cause bytes (no_text m) (no_text n) h k = ap (λ (n : ℕ). no_text n) (one_text bytes m n h k)
one_cause bytes (no_text m) (unsupported n) h k = absurd (h.1 (k.1).utf8)
one_cause bytes (no_text m) unspelled h k = absurd (h.1 ((k.1).1).utf8)
one_cause bytes (no_text m) (misnamed g) h k = absurd (h.1 ((k.1).cut).utf8)
one_cause bytes (unsupported m) long h k = absurd (not_long bytes k (h.1).short)
one_cause bytes (unsupported m) (flawed g n) h k = absurd (no_tokens bytes g n h.0 k h.1)
one_cause bytes (unsupported m) (no_text n) h k = absurd (k.1 (h.1).utf8)
one_cause bytes (unsupported m) (unsupported n) h k = ap (λ (n : ℕ). unsupported n) (one_token bytes m n h k)
one_cause bytes (unsupported m) unspelled h k = absurd (unlike bytes m (k.1).0 h (k.1).1 (k.1).2)
one_cause bytes (unsupported m) (misnamed g) h k = absurd (unlike bytes m (k.1).tokens h (k.1).cut (k.1).supported)
one_cause bytes unspelled long h k = absurd (not_long bytes k ((h.1).1).short)
one_cause bytes unspelled (flawed g n) h k = absurd (no_tokens bytes g n (h.1).0 k (h.1).1)
one_cause bytes unspelled (no_text n) h k = absurd (k.1 ((h.1).1).utf8)
one_cause bytes unspelled (unsupported n) h k = absurd (unlike bytes n (h.1).0 k (h.1).1 (h.1).2)
one_cause bytes unspelled unspelled h k = refl
one_cause bytes unspelled (misnamed g) h k = absurd (no_tree bytes h.0 k.0 h.1 k.1)
one_cause bytes (misnamed f) long h k = absurd (not_long bytes k ((h.1).cut).short)
one_cause bytes (misnamed f) (flawed g n) h k = absurd (no_tokens bytes g n (h.1).tokens k (h.1).cut)
one_cause bytes (misnamed f) (no_text n) h k = absurd (k.1 ((h.1).cut).utf8)
one_cause bytes (misnamed f) (unsupported n) h k = absurd (unlike bytes n (h.1).tokens k (h.1).cut (h.1).supported)
one_cause bytes (misnamed f) unspelled h k = absurd (no_tree bytes k.0 h.0 k.1 h.1)
one_cause bytes (misnamed f) (misnamed g) h k = ap (λ (x : NameFault). misnamed x) (one_name bytes f g h k)

-- ---- a cause has one refusal

-- the refusal that tells a breach of a rule of names
abbrev named : NameFault → Refusal
named (NameFault.Unknown name) = Refusal.OfName name.spot.line Rule.Unknown name.text
named (NameFault.Twice name) = Refusal.OfName name.spot.line Rule.Twice name.text
named (NameFault.AssignConst name) = Refusal.OfName name.spot.line Rule.Const name.text
named (NameFault.Capture name) = Refusal.OfName name.spot.line Rule.Capture name.text
named (NameFault.LoopWord name) = Refusal.OnLine name.spot.line Kind.LoopWord
named (NameFault.ReturnPlace name) = Refusal.OnLine name.spot.line Kind.ReturnPlace
named (NameFault.Slots name) = Refusal.OnLine name.spot.line Kind.Slots
named NameFault.Memory = Refusal.TooLong

abbrev kind_of : Flaw → Kind
kind_of flaw.Character = Kind.Character
kind_of flaw.OpenText = Kind.OpenText
kind_of flaw.Escape = Kind.Escape
kind_of flaw.NumberRange = Kind.NumberRange
kind_of flaw.Unsupported = Kind.Unsupported

-- the refusal that tells a cause
abbrev told : Cause → Refusal
told long = Refusal.TooLong
told (flawed f line) = Refusal.OnLine line (kind_of f)
told (no_text line) = Refusal.OnLine line Kind.Utf8
told (unsupported line) = Refusal.OnLine line Kind.Unsupported
told unspelled = Refusal.OnLine 1 Kind.NoTree
told (misnamed fault) = named fault

record Told (bytes : List ℕ) (a : Refusal) : Type 0 where
  cause : Cause
  holds : Causes bytes cause
  same : but_for_line a ≡ told cause

on_line : (bytes : List ℕ) (line : ℕ) (kind : Kind) (fault : Name → NameFault)
    → ((name : Name) → named (fault name) ≡ Refusal.OnLine name.spot.line kind)
    → BreaksRule bytes line fault → (name : Name) × Causes bytes (misnamed (fault name)) × (Refusal.OnLine line kind ≡ named (fault name))
on_line bytes line kind fault says h =
    (h.0, h.1, ap (λ (n : ℕ). Refusal.OnLine n kind) h.2 ∙ sym (says h.0))

of_name : (bytes : List ℕ) (line : ℕ) (rule : Rule) (text : List ℕ) (name : Name) → line ≡ name.spot.line → text ≡ name.text
    → Refusal.OfName line rule text ≡ Refusal.OfName name.spot.line rule name.text
of_name bytes line rule text name at is = rw (at, is) refl

wrong : (bytes : List ℕ) (line : ℕ) (kind : Kind) → IsWrong bytes line kind → Told bytes (Refusal.OnLine line kind)
wrong bytes line Kind.Character h = record { cause = flawed flaw.Character line; holds = h; same = refl }
wrong bytes line Kind.OpenText h = record { cause = flawed flaw.OpenText line; holds = h; same = refl }
wrong bytes line Kind.Escape h = record { cause = flawed flaw.Escape line; holds = h; same = refl }
wrong bytes line Kind.NumberRange h = record { cause = flawed flaw.NumberRange line; holds = h; same = refl }
wrong bytes line Kind.Unsupported (inl h) = record { cause = flawed flaw.Unsupported line; holds = h; same = refl }
wrong bytes line Kind.Unsupported (inr h) = record { cause = unsupported line; holds = h; same = refl }
wrong bytes line Kind.Utf8 h = record { cause = no_text line; holds = h; same = refl }
wrong bytes line Kind.NoTree h = record { cause = unspelled; holds = (line, h); same = refl }
wrong bytes line Kind.LoopWord h =
    let e = on_line bytes line Kind.LoopWord NameFault.LoopWord (λ n. refl) h in
    record { cause = misnamed (NameFault.LoopWord e.0); holds = e.1; same = e.2 }
wrong bytes line Kind.ReturnPlace h =
    let e = on_line bytes line Kind.ReturnPlace NameFault.ReturnPlace (λ n. refl) h in
    record { cause = misnamed (NameFault.ReturnPlace e.0); holds = e.1; same = e.2 }
wrong bytes line Kind.Slots h =
    let e = on_line bytes line Kind.Slots NameFault.Slots (λ n. refl) h in
    record { cause = misnamed (NameFault.Slots e.0); holds = e.1; same = e.2 }

broken : (bytes : List ℕ) (line : ℕ) (rule : Rule) (text : List ℕ) → IsBroken bytes line rule text → Told bytes (Refusal.OfName line rule text)
broken bytes line Rule.Unknown text h = record { cause = misnamed (NameFault.Unknown h.0); holds = h.1; same = of_name bytes line _ text h.0 h.2 h.3 }
broken bytes line Rule.Twice text h = record { cause = misnamed (NameFault.Twice h.0); holds = h.1; same = of_name bytes line _ text h.0 h.2 h.3 }
broken bytes line Rule.Const text h = record { cause = misnamed (NameFault.AssignConst h.0); holds = h.1; same = of_name bytes line _ text h.0 h.2 h.3 }
broken bytes line Rule.Capture text h = record { cause = misnamed (NameFault.Capture h.0); holds = h.1; same = of_name bytes line _ text h.0 h.2 h.3 }

told_of : (bytes : List ℕ) (a : Refusal) → IsRefused bytes a → Told bytes a
told_of bytes Refusal.TooLong h = record { cause = long; holds = h; same = refl }
told_of bytes (Refusal.OnLine line kind) h = wrong bytes line kind h
told_of bytes (Refusal.OfName line rule text) h = broken bytes line rule text h

pub one_refusal_only : (bytes : List ℕ) → OneRefusal bytes
one_refusal_only bytes a b h k =
    let x = told_of bytes a h in
    let y = told_of bytes b k in
    x.same ∙ ap (λ (c : Cause). told c) (one_cause bytes x.cause y.cause x.holds y.holds) ∙ sym y.same
