-- What injectors brought, by what the world holds under their names.
use Rattle.std.proofs.Common.{◌≡◌, ℕ, zero, suc, ◌<◌, Bool, true, false, List, [], ◌∷◌, ◌++◌, length, refl, sym, ap, subst, ◌∙◌, append-nil, arith}
use Rattle.std.specs.Prelude.{Option, Some, None, IsSome, IfSome, slice_index_or, slice_get}
use Rattle.std.proofs.lemmas.Bool.{false≢true}
use mathlib.Core.List.{IsPrefix}
use Rattle.bp_base.specs.Pieces.{Gives}
use Rattle.bp_base.specs.Worlds.{Holdings, Opens}
use Rattle.bp_log.specs.declared.record.Record.{Record}
use Rattle.bp_log.specs.declared.verdict.Verdict.{Verdict}
use Rattle.bp_log.specs.declared.verdict.Verdict.TheVariants.{Quiet}
use Rattle.bp_feeds.specs.Items.{items}
use Rattle.bp_feeds.specs.Reading.{IsAll}
use Rattle.bp_steps.specs.Merging.{items_by}
use Rattle.bp_session.specs.Heard.{EachHeard, EachHeardWhole}
use Rattle.bp_session.specs.Merges.{Merge}
use Rattle.bp_session.specs.Reports.{BrokeAt}
use Rattle.bp_log.specs.Verdicts.{IsQuiet}
use Rattle.bp_cli.specs.Injected.{AreUnder, MergeWhole, BreaksIn}
use Rattle.bp_cli.specs.inner.Opening.{AreOpened}
use Rattle.bp_loading.specs.Loading.{IsUnder}

-- what an input had at the start is what the world holds
held_all : (o : Option (List ℕ)) (bytes : List ℕ) → IsSome o → IfSome o (λ all. all ≡ bytes) → o ≡ Some bytes
held_all None bytes s a = absurd (cc)
held_all (Some all) bytes s a = ap (λ (x : List ℕ). Some x) a

held_under : (holds : Option Holdings) (name : List ℕ) (left : Option (List ℕ)) (bytes : List ℕ) → Opens holds name left → IsAll left bytes → IsUnder holds name bytes
held_under None name left bytes o a = tt
held_under (Some held) name left bytes o a = held_all (held name) bytes o.0 (subst (λ (x : Option (List ℕ)). IsAll x bytes) o.1 a)

-- a fact of each of some inputs
at_each : (P : ℕ → List ℕ → Type 0) (x : List ℕ) (xs : List (List ℕ)) → P 0 x → ((j : ℕ) (bytes : List ℕ) → slice_get xs j ≡ Some bytes → P (suc j) bytes) → (j : ℕ) (bytes : List ℕ) → slice_get (x ∷ xs) j ≡ Some bytes → P j bytes
at_each P x xs p q zero bytes h = let e : x ≡ bytes = cc in subst (λ (b : List ℕ). P 0 b) e p
at_each P x xs p q (suc j) bytes h = q j bytes h

no_input : (P : ℕ → List ℕ → Type 0) (j : ℕ) (bytes : List ℕ) → slice_get [] j ≡ Some bytes → P j bytes
no_input P zero bytes h = absurd (cc)
no_input P (suc j) bytes h = absurd (cc)

-- these are what the world holds under the names, and P holds of each
abbrev Inputs : Option Holdings → List (List ℕ) → (ℕ → List ℕ → Type 0) → Type 0
Inputs holds names P = (inputs : List (List ℕ)) × AreUnder holds names inputs × ((j : ℕ) (bytes : List ℕ) → slice_get inputs j ≡ Some bytes → P j bytes)

module _ {S : Type 0} (left : S → Option (List ℕ)) (faults : S → ℕ) (holds : Option Holdings) where
  inputs_of : (names : List (List ℕ)) (sources : List S) (P : ℕ → List ℕ → Type 0) → AreOpened left faults holds names sources →
      ((k : ℕ) (d : S) → k < length sources → (bytes : List ℕ) × IsAll (left (slice_index_or sources k d)) bytes × P k bytes) → Inputs holds names P
  inputs_of [] [] P o e = ([], tt, no_input P)
  inputs_of (name ∷ names) [] P o e = absurd o
  inputs_of [] (s ∷ ss) P o e = absurd o
  inputs_of (name ∷ names) (s ∷ ss) P o e =
      let first = e 0 s (omega arith) in
      let rest = inputs_of names ss (λ k b. P (suc k) b) o.1 (λ k d h. e (suc k) d (omega (arith, h))) in
      (first.0 ∷ rest.0, (held_under holds name (left s) first.0 o.0.0 first.1, rest.1), at_each P first.0 rest.0 first.2 rest.2)

  merged : (names : List (List ℕ)) (sources back : List S) (records : List Record) → AreOpened left faults holds names sources → EachHeard left sources back records →
      Inputs holds names (λ j bytes. IsPrefix (items_by j records) (items bytes))
  merged names sources back records o e = inputs_of names sources (λ j bytes. IsPrefix (items_by j records) (items bytes)) o (λ k d h. let r = e k d h in (r.took ++ r.rest, r.told, r.begins))

  whole : (names : List (List ℕ)) (sources back : List S) (records : List Record) → AreOpened left faults holds names sources → EachHeardWhole left sources back records →
      Inputs holds names (λ j bytes. items_by j records ≡ items bytes)
  whole names sources back records o e = inputs_of names sources (λ j bytes. items_by j records ≡ items bytes) o (λ k d h. let r = e k d h in (r.took, r.told, r.all))

  -- what was brought, all of it where this holds
  pub record Brought (names : List (List ℕ)) (records : List Record) (Q : Type 0) : Type 0 where
    pub inputs : List (List ℕ)
    pub under : AreUnder holds names inputs
    pub merge : Merge records inputs
    pub whole : Q → MergeWhole records inputs

  pub brought : (names : List (List ℕ)) (sources back : List S) (records : List Record) → AreOpened left faults holds names sources → EachHeard left sources back records → Brought names records ⊥
  brought names sources back records o e = let m = merged names sources back records o e in record { inputs = m.0; under = m.1; merge = m.2; whole = λ q. absurd q }

  -- where it is not quiet
  brought_only : (Q : Type 0) (names : List (List ℕ)) (records : List Record) → (Q → ⊥) → Brought names records ⊥ → Brought names records Q
  brought_only Q names records none b = record { inputs = b.inputs; under = b.under; merge = b.merge; whole = λ q. absurd (none q) }

  pub brought_to : (v : Verdict) (waits : Bool) (names : List (List ℕ)) (sources back : List S) (records : List Record) → AreOpened left faults holds names sources → EachHeard left sources back records →
      (waits ≡ true → IsQuiet v → EachHeardWhole left sources back records) → Brought names records ((waits ≡ true) × IsQuiet v)
  brought_to (Quiet n) false names sources back records o e w = brought_only _ names records (λ q. false≢true q.0) (brought names sources back records o e)
  brought_to (Quiet n) true names sources back records o e w =
      let m = whole names sources back records o (w refl tt) in
      record {
        inputs = m.0;
        under = m.1;
        merge = λ j bytes h. ([], append-nil (items_by j records) ∙ m.2 j bytes h);
        whole = λ q. m.2;
      }
  brought_to _ waits names sources back records o e w = brought_only _ names records (λ q. q.1) (brought names sources back records o e)

-- ---- an input that failed

front_at : (start left : Option (List ℕ)) (bytes took : List ℕ) → start ≡ Some bytes → Gives start took left → IsPrefix took bytes
front_at start None bytes took e g = let f : ⊥ = subst (λ (x : Option (List ℕ)). Gives x took None) e g in absurd f
front_at start (Some rest) bytes took e g =
    let f : bytes ≡ took ++ rest = subst (λ (x : Option (List ℕ)). Gives x took (Some rest)) e g in (rest, sym f)

module _ {S : Type 0} (left : S → Option (List ℕ)) (faults : S → ℕ) where
  -- what each source had is its input
  input_at : (held : Holdings) (names : List (List ℕ)) (sources : List S) (inputs : List (List ℕ)) (j : ℕ) (d : S) → AreOpened left faults (Some held) names sources → AreUnder (Some held) names inputs → j < length sources →
      (bytes : List ℕ) × (slice_get inputs j ≡ Some bytes) × (left (slice_index_or sources j d) ≡ Some bytes)
  input_at held names [] inputs j d o u l = absurd (omega (arith, l))
  input_at held [] (s ∷ ss) inputs j d o u l = absurd o
  input_at held (name ∷ names) (s ∷ ss) [] j d o u l = absurd u
  input_at held (name ∷ names) (s ∷ ss) (x ∷ xs) zero d o u l = (x, refl, o.0.0.1 ∙ u.0)
  input_at held (name ∷ names) (s ∷ ss) (x ∷ xs) (suc j) d o u l = input_at held names ss xs j d o.1 u.1 (omega (arith, l))

  pub breaks : (holds : Option Holdings) (names : List (List ℕ)) (sources back : List S) (records : List Record) (j : ℕ) (inputs : List (List ℕ)) → AreOpened left faults holds names sources → AreUnder holds names inputs →
      BrokeAt left faults sources back records j → BreaksIn holds records inputs
  breaks None names sources back records j inputs o u b = tt
  breaks (Some held) names [] back records j inputs o u b = absurd (let t = b.there in omega (arith, t))
  breaks (Some held) names (s ∷ ss) back records j inputs o u b =
      let i = input_at held names (s ∷ ss) inputs j s o u b.there in
      let h = b.heard s in
      (j, i.0, i.1, h.took, front_at (left (slice_index_or (s ∷ ss) j s)) (left (slice_index_or back j s)) i.0 h.took i.2 h.taken, h.all)

-- before a run nothing was heard
pub brought_none : {S : Type 0} (left : S → Option (List ℕ)) (faults : S → ℕ) (holds : Option Holdings) (names : List (List ℕ)) (sources : List S) → AreOpened left faults holds names sources →
    ((k : ℕ) (d : S) → k < length sources → (bytes : List ℕ) × IsAll (left (slice_index_or sources k d)) bytes) → Brought left faults holds names [] ⊥
brought_none left faults holds names sources o e =
    let m = inputs_of left faults holds names sources (λ j bytes. IsPrefix (items_by j []) (items bytes)) o (λ k d h. let r = e k d h in (r.0, r.1, (items r.0, refl))) in
    record { inputs = m.0; under = m.1; merge = m.2; whole = λ q. absurd q }

pub all_of : (start : Option (List ℕ)) → (bytes : List ℕ) × IsAll start bytes
all_of None = ([], tt)
all_of (Some bytes) = (bytes, refl)
