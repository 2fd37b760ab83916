-- Bytes are at most one program, and none that are refused.
use Rattle.std.proofs.Common.{◌≡◌, ℕ, false, List, ap, sym, ◌∙◌, subst, arith, inl, inr, Option, Some, None}
use Rattle.std.proofs.lemmas.Option.{none-some}
use Rattle.js_lexer.specs.declared.token.Token.{Token}
use Rattle.js_lexer.specs.declared.token.Flaw.{Flaw}
use Rattle.js_lexer.proofs.Cutting.{one_cutting, never_both}
use Rattle.js_tree.specs.declared.limits.TheConstants.{MOST_NESTING}
use Rattle.js_tree.specs.Plain.{PlainItem}
use Rattle.js_grammar.specs.Trees.{IsTree}
use Rattle.js_grammar.specs.Unsupported.{first_unsupported}
use Rattle.js_grammar.proofs.Unique.{tree_once}
use Rattle.js_resolver.specs.Resolved.{resolved, unless_fault, program_of_tree}
use Rattle.bp_script.specs.declared.refusal.Kind.{Kind}
use Rattle.bp_script.specs.declared.refusal.Refusal.{Refusal}
use Rattle.bp_script.specs.Programs.{AreCut, AreSpelled, AreAccepted, HasFlaw, HasRefusedToken, HasNameFault, IsWrong, fault_of, NeverBoth, OneProgram, EachIsProgram}
use Rattle.js_names.specs.declared.mention.NameFault.{NameFault}
use Rattle.js_names.specs.Rules.{name_fault}

pub same_tokens : (bytes : List ℕ) (a b : List Token) → AreCut bytes a → AreCut bytes b → a ≡ b
same_tokens bytes a b h k = one_cutting bytes a b h.cut k.cut

pub same_tree : (bytes : List ℕ) (a b : List PlainItem) → AreSpelled bytes a → AreSpelled bytes b → a ≡ b
same_tree bytes a b h k =
    let same = same_tokens bytes h.tokens k.tokens h.cut k.cut in
    let t : IsTree MOST_NESTING k.tokens a = subst (λ (ts : List Token). IsTree MOST_NESTING ts a) same h.spelled in
    tree_once k.tokens a b t.spelled (k.spelled).spelled

no_flaw : (bytes : List ℕ) (tree : List PlainItem) (f : Flaw) (line : ℕ) → AreSpelled bytes tree → HasFlaw bytes f line → ⊥
no_flaw bytes tree f line s h = never_both bytes s.tokens f (h.2).0 (s.cut).cut (h.2).1

no_refused : (bytes : List ℕ) (tree : List PlainItem) (line : ℕ) → AreSpelled bytes tree → HasRefusedToken bytes line → ⊥
no_refused bytes tree line s h =
    let same = same_tokens bytes s.tokens h.0 s.cut h.1 in
    none-some line (sym (sym h.2 ∙ ap (λ (ts : List Token). first_unsupported false ts) (sym same) ∙ s.supported))

no_breach : (bytes : List ℕ) (tree : List PlainItem) (fault : NameFault) → AreAccepted bytes tree → HasNameFault bytes fault → ⊥
no_breach bytes tree fault s h =
    let same = same_tree bytes tree h.0 s.spelled h.1 in
    none-some fault (sym (sym h.2 ∙ ap (λ (t : List PlainItem). name_fault t) (sym same) ∙ s.named))

not_wrong : (bytes : List ℕ) (tree : List PlainItem) (line : ℕ) (kind : Kind) → AreAccepted bytes tree → IsWrong bytes line kind → ⊥
not_wrong bytes tree line Kind.Character s h = no_flaw bytes tree _ line s.spelled h
not_wrong bytes tree line Kind.OpenText s h = no_flaw bytes tree _ line s.spelled h
not_wrong bytes tree line Kind.Escape s h = no_flaw bytes tree _ line s.spelled h
not_wrong bytes tree line Kind.NumberRange s h = no_flaw bytes tree _ line s.spelled h
not_wrong bytes tree line Kind.Unsupported s (inl h) = no_flaw bytes tree _ line s.spelled h
not_wrong bytes tree line Kind.Unsupported s (inr h) = no_refused bytes tree line s.spelled h
not_wrong bytes tree line Kind.Utf8 s h = h.1 ((s.spelled).cut).utf8
not_wrong bytes tree line Kind.NoTree s h =
    let same = same_tokens bytes (s.spelled).tokens h.0 (s.spelled).cut h.1 in
    h.3 tree (subst (λ (ts : List Token). IsTree MOST_NESTING ts tree) same (s.spelled).spelled)
not_wrong bytes tree line Kind.LoopWord s h = no_breach bytes tree (NameFault.LoopWord h.0) s h.1
not_wrong bytes tree line Kind.ReturnPlace s h = no_breach bytes tree (NameFault.ReturnPlace h.0) s h.1
not_wrong bytes tree line Kind.Slots s h = no_breach bytes tree (NameFault.Slots h.0) s h.1

pub never : (bytes : List ℕ) → NeverBoth bytes
never bytes tree Refusal.TooLong s h = let short = ((s.spelled).cut).short in omega (arith, short, h)
never bytes tree (Refusal.OnLine line kind) s h = not_wrong bytes tree line kind s h
never bytes tree (Refusal.OfName line rule text) s h = no_breach bytes tree (fault_of rule h.0) s h.1

pub one_program : (bytes : List ℕ) → OneProgram bytes
one_program bytes a b p q =
    let same = same_tree bytes p.tree q.tree (p.accepted).spelled (q.accepted).spelled in
    let k : Some a ≡ Some b = sym p.is_resolved ∙ ap (λ (x : List PlainItem). resolved x) same ∙ q.is_resolved in cc

no_fault : (tree : List PlainItem) → name_fault tree ≡ None → resolved tree ≡ Some (program_of_tree tree)
unfolding resolved
no_fault tree h = ap (λ (f : Option NameFault). unless_fault f (program_of_tree tree)) h

pub each_is_program : (bytes : List ℕ) → EachIsProgram bytes
each_is_program bytes tree a = (program_of_tree tree, record { tree = tree; accepted = a; is_resolved = no_fault tree a.named })
