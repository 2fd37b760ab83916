-- A program that is taken byte by byte.
use Rattle.std.proofs.Common.{◌≡◌, ◌≢◌, ℕ, zero, suc, List, [], ◌∷◌, ◌++◌, Option, Some, None, Result, Ok, Err, refl, sym, ap, ◌∙◌, inl, inr, append_assoc, append-nil, subst}
use Rattle.std.specs.Prelude.{IfSome, IsSomeAnd}
use Rattle.std.proofs.lemmas.Bool.Decides.{eqb_tells}
use Rattle.bp_base.specs.Pieces.{Gives}
use Rattle.bp_reading.specs.Heads.{Refusal, cut, header, program_at, ◌>>=◌, CutsOff}
use Rattle.bp_reader.specs.Fed.{Between, Comes}

abbrev pub onto_program : List ℕ → Result (List ℕ × List ℕ) Refusal → Result (List ℕ × List ℕ) Refusal
onto_program front read = read >>= λ p. Ok (front ++ p.0, p.1)

-- these bytes were taken, and this many are to come
pub record Along (size : ℕ) (before after : Option (List ℕ)) (taken : List ℕ) (more : ℕ) : Type 0 where
  pub given : Gives before taken after
  pub front : (other : List ℕ) → program_at size (taken ++ other) ≡ onto_program taken (program_at more other)

onto_push : (taken : List ℕ) (b : ℕ) (r : Result (List ℕ × List ℕ) Refusal) → onto_program taken (r >>= λ p. Ok (b ∷ p.0, p.1)) ≡ onto_program (taken ++ b ∷ []) r
onto_push taken b (Ok p) = ap (λ (t : List ℕ). Ok (t, p.1)) (sym (append_assoc taken (b ∷ []) p.0))
onto_push taken b (Err f) = refl

at_end : (n : ℕ) → program_at n [] ≡ Err cut
unfolding program_at
at_end zero = refl
at_end (suc n) = refl

one_more : (n b : ℕ) (rest : List ℕ) → program_at (suc n) (b ∷ rest) ≡ (program_at n rest >>= λ p. Ok (b ∷ p.0, p.1))
unfolding program_at
one_more n b rest = refl

last_good : (rest : List ℕ) → program_at 0 (10 ∷ rest) ≡ Ok ([], rest)
unfolding program_at
last_good rest = refl

last_bad : (b : ℕ) (rest : List ℕ) → b ≢ 10 → program_at 0 (b ∷ rest) ≡ Err header
unfolding program_at
last_bad b rest h = elim (eqb_tells b 10) [ inl same ↦ absurd (h same.1) | inr other ↦ rw other.0 refl ]

gives_none : (before : Option (List ℕ)) → Gives before [] before
gives_none None = tt
gives_none (Some bytes) = refl

onto_none : (r : Result (List ℕ × List ℕ) Refusal) → onto_program [] r ≡ r
onto_none (Ok p) = refl
onto_none (Err f) = refl

pub along_none : (size more : ℕ) (before : Option (List ℕ)) → more ≡ size → Along size before before [] more
along_none size more before e = record { given = gives_none before; front = λ other. ap (λ (n : ℕ). program_at n other) (sym e) ∙ sym (onto_none (program_at more other)) }

module _ (size : ℕ) (before a b : Option (List ℕ)) (taken : List ℕ) (more : ℕ) (h : Along size before a taken more) where
  ends_at : (x y z : Option (List ℕ)) → Gives x taken y → Comes y None z → IfSome x (λ bytes. program_at size bytes ≡ Err cut)
  ends_at None y z g k = tt
  ends_at (Some bytes) None z g k = absurd g
  ends_at (Some bytes) (Some rest) z g k = ap (program_at size) (g ∙ ap (λ (r : List ℕ). taken ++ r) k.0) ∙ h.front [] ∙ ap (onto_program taken) (at_end more)

  pub ends : Comes a None b → IfSome before (λ bytes. program_at size bytes ≡ Err cut)
  ends k = ends_at before a b h.given k

  longer_at : (x y z : Option (List ℕ)) (c : ℕ) → Gives x taken y → Comes y (Some c) z → Gives x (taken ++ c ∷ []) z
  longer_at None y z c g k = tt
  longer_at (Some bytes) None z c g k = absurd g
  longer_at (Some bytes) (Some rest) None c g k = absurd k
  longer_at (Some bytes) (Some rest) (Some next) c g k = g ∙ ap (λ (r : List ℕ). taken ++ r) k ∙ sym (append_assoc taken (c ∷ []) next)

  pub longer : (less c : ℕ) → Comes a (Some c) b → more ≡ suc less → Along size before b (taken ++ c ∷ []) less
  longer less c k e = record {
    given = longer_at before a b c h.given k;
    front = λ other. ap (program_at size) (append_assoc taken (c ∷ []) other) ∙ h.front (c ∷ other) ∙ ap (λ (n : ℕ). onto_program taken (program_at n (c ∷ other))) e
        ∙ ap (onto_program taken) (one_more less c other) ∙ onto_push taken c (program_at less other);
  }

  whole_at : (x y z : Option (List ℕ)) → Gives x taken y → Comes y (Some 10) z → more ≡ 0 → IfSome x (λ bytes. IsSomeAnd z (λ rest. program_at size bytes ≡ Ok (taken, rest)))
  whole_at None y z g k e = tt
  whole_at (Some bytes) None z g k e = absurd g
  whole_at (Some bytes) (Some rest) None g k e = absurd k
  whole_at (Some bytes) (Some rest) (Some next) g k e =
      ap (program_at size) (g ∙ ap (λ (r : List ℕ). taken ++ r) k) ∙ h.front (10 ∷ next) ∙ ap (λ (n : ℕ). onto_program taken (program_at n (10 ∷ next))) e
      ∙ ap (onto_program taken) (last_good next) ∙ ap (λ (t : List ℕ). Ok (t, next)) (append-nil taken)

  pub whole : Comes a (Some 10) b → more ≡ 0 → IfSome before (λ bytes. IsSomeAnd b (λ rest. program_at size bytes ≡ Ok (taken, rest)))
  whole k e = whole_at before a b h.given k e

  wrong_at : (x y z : Option (List ℕ)) (c : ℕ) → Gives x taken y → Comes y (Some c) z → c ≢ 10 → more ≡ 0 → IfSome x (λ bytes. program_at size bytes ≡ Err header)
  wrong_at None y z c g k n e = tt
  wrong_at (Some bytes) None z c g k n e = absurd g
  wrong_at (Some bytes) (Some rest) None c g k n e = absurd k
  wrong_at (Some bytes) (Some rest) (Some next) c g k n e =
      ap (program_at size) (g ∙ ap (λ (r : List ℕ). taken ++ r) k) ∙ h.front (c ∷ next) ∙ ap (λ (m : ℕ). onto_program taken (program_at m (c ∷ next))) e
      ∙ ap (onto_program taken) (last_bad c next n)

  pub wrong : (c : ℕ) → Comes a (Some c) b → c ≢ 10 → more ≡ 0 → IfSome before (λ bytes. program_at size bytes ≡ Err header)
  wrong c k n e = wrong_at before a b c h.given k n e

  breaks_at : (x y : Option (List ℕ)) → Gives x taken y → Between x y (CutsOff (program_at size))
  breaks_at None y g = tt
  breaks_at (Some bytes) None g = absurd g
  breaks_at (Some bytes) (Some rest) g = (taken, g, ap (program_at size) (sym (append-nil taken)) ∙ h.front [] ∙ ap (onto_program taken) (at_end more))

  -- none could be taken
  pub breaks : b ≡ a → Between before b (CutsOff (program_at size))
  breaks e = subst (λ (t : Option (List ℕ)). Between before t (CutsOff (program_at size))) (sym e) (breaks_at before a h.given)
