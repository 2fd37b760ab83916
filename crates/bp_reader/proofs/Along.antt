-- A line that is taken byte by byte.
use Rattle.std.proofs.Common.{◌≡◌, ◌≢◌, ℕ, ◌-◌, ◌<◌, List, [], ◌∷◌, ◌++◌, Option, Some, None, refl, sym, ap, ◌∙◌, arith, option_map, subst, append_assoc, append-nil}
use Rattle.std.specs.Prelude.{IfSome, IsSomeAnd}
use Rattle.std.proofs.lemmas.Bool.{ne_eqb}
use Rattle.bp_reading.specs.Heads.{Front, partial, excess, whole, onto, line_at, LineBreaksOff}
use Rattle.bp_base.specs.Pieces.{Gives, GivesSome}
use Rattle.bp_reader.specs.Fed.{Between, Comes}

abbrev pub onto_line : List ℕ → Front → Front
onto_line [] front = front
onto_line (b ∷ bytes) front = onto b (onto_line bytes front)

-- these bytes of a line of at most `most` were taken, and so much room is left
pub record Along (most : ℕ) (before after : Option (List ℕ)) (line : List ℕ) (room : ℕ) : Type 0 where
  pub taken : Gives before line after
  pub front : (other : List ℕ) → line_at most (line ++ other) ≡ onto_line line (line_at room other)

onto_whole : (line rest : List ℕ) → onto_line line (whole [] rest) ≡ whole line rest
onto_whole [] rest = refl
onto_whole (b ∷ line) rest = ap (onto b) (onto_whole line rest)

onto_partial : (line : List ℕ) → onto_line line partial ≡ partial
onto_partial [] = refl
onto_partial (b ∷ line) = ap (onto b) (onto_partial line)

onto_excess : (line : List ℕ) → onto_line line excess ≡ excess
onto_excess [] = refl
onto_excess (b ∷ line) = ap (onto b) (onto_excess line)

onto_push : (line : List ℕ) (b : ℕ) (f : Front) → onto_line (line ++ b ∷ []) f ≡ onto_line line (onto b f)
onto_push [] b f = refl
onto_push (c ∷ line) b f = ap (onto c) (onto_push line b f)

byte_taken : (room b : ℕ) (rest : List ℕ) → b ≢ 10 → 0 < room → line_at room (b ∷ rest) ≡ onto b (line_at (room - 1) rest)
byte_taken room b rest h r = rw (ne_eqb b 10 h, ne_eqb room 0 (λ e. omega (arith, e, r))) refl

byte_over : (room b : ℕ) (rest : List ℕ) → b ≢ 10 → room ≡ 0 → line_at room (b ∷ rest) ≡ excess
byte_over room b rest h r = rw (ne_eqb b 10 h, r) refl

gives_none : (before : Option (List ℕ)) → Gives before [] before
gives_none None = tt
gives_none (Some bytes) = refl

pub along_none : (most room : ℕ) (before : Option (List ℕ)) → room ≡ most → Along most before before [] room
along_none most room before e = record { taken = gives_none before; front = λ other. ap (λ (n : ℕ). line_at n other) (sym e) }

module _ (most : ℕ) (before a b : Option (List ℕ)) (line : List ℕ) (room : ℕ) (h : Along most before a line room) where
  ends_at : (x y z : Option (List ℕ)) → Gives x line y → Comes y None z → IfSome x (λ bytes. line_at most bytes ≡ partial)
  ends_at None y z g k = tt
  ends_at (Some bytes) None z g k = absurd g
  ends_at (Some bytes) (Some rest) z g k = ap (line_at most) (g ∙ ap (λ (r : List ℕ). line ++ r) k.0) ∙ h.front [] ∙ onto_partial line

  pub ends : Comes a None b → IfSome before (λ bytes. line_at most bytes ≡ partial)
  ends k = ends_at before a b h.taken k

  found_at : (x y z : Option (List ℕ)) → Gives x line y → Comes y (Some 10) z → IfSome x (λ bytes. IsSomeAnd z (λ rest. line_at most bytes ≡ whole line rest))
  found_at None y z g k = tt
  found_at (Some bytes) None z g k = absurd g
  found_at (Some bytes) (Some rest) None g k = absurd k
  found_at (Some bytes) (Some rest) (Some more) g k = ap (line_at most) (g ∙ ap (λ (r : List ℕ). line ++ r) k) ∙ h.front (10 ∷ more) ∙ onto_whole line more

  pub line_found : Comes a (Some 10) b → IfSome before (λ bytes. IsSomeAnd b (λ rest. line_at most bytes ≡ whole line rest))
  line_found k = found_at before a b h.taken k

  module _ (c : ℕ) (other : c ≢ 10) where
    longer_at : (x y z : Option (List ℕ)) → Gives x line y → Comes y (Some c) z → Gives x (line ++ c ∷ []) z
    longer_at None y z g k = tt
    longer_at (Some bytes) None z g k = absurd g
    longer_at (Some bytes) (Some rest) None g k = absurd k
    longer_at (Some bytes) (Some rest) (Some more) g k = g ∙ ap (λ (r : List ℕ). line ++ r) k ∙ sym (append_assoc line (c ∷ []) more)

    pub longer : Comes a (Some c) b → 0 < room → Along most before b (line ++ c ∷ []) (room - 1)
    longer k r = record {
      taken = longer_at before a b h.taken k;
      front = λ rest. ap (line_at most) (append_assoc line (c ∷ []) rest) ∙ h.front (c ∷ rest) ∙ ap (onto_line line) (byte_taken room c rest other r) ∙ sym (onto_push line c _);
    }

    passes_at : (x y z : Option (List ℕ)) → Gives x line y → Comes y (Some c) z → room ≡ 0 → IfSome x (λ bytes. line_at most bytes ≡ excess)
    passes_at None y z g k r = tt
    passes_at (Some bytes) None z g k r = absurd g
    passes_at (Some bytes) (Some rest) None g k r = absurd k
    passes_at (Some bytes) (Some rest) (Some more) g k r =
        ap (line_at most) (g ∙ ap (λ (t : List ℕ). line ++ t) k) ∙ h.front (c ∷ more) ∙ ap (onto_line line) (byte_over room c more other r) ∙ onto_excess line

    pub passes : Comes a (Some c) b → room ≡ 0 → IfSome before (λ bytes. line_at most bytes ≡ excess)
    passes k r = passes_at before a b h.taken k r

  took_at : (x y z : Option (List ℕ)) (c : Option ℕ) → Gives x line y → Comes y c z → GivesSome x z
  took_at None y z c g k = ([], tt)
  took_at (Some bytes) None z c g k = absurd g
  took_at (Some bytes) (Some rest) z None g k = (line, subst (λ (t : Option (List ℕ)). IsSomeAnd t (λ r. bytes ≡ line ++ r)) (sym k.1) (g ∙ ap (λ (r : List ℕ). line ++ r) k.0))
  took_at (Some bytes) (Some rest) None (Some c) g k = absurd k
  took_at (Some bytes) (Some rest) (Some more) (Some c) g k = (line ++ c ∷ [], g ∙ ap (λ (r : List ℕ). line ++ r) k ∙ sym (append_assoc line (c ∷ []) more))

  -- a further byte was taken, or none was left
  pub took : (c : Option ℕ) → Comes a c b → GivesSome before b
  took c k = took_at before a b c h.taken k

  -- none could be taken
  pub stays : b ≡ a → GivesSome before b
  stays e = (line, subst (λ (t : Option (List ℕ)). Gives before line t) (sym e) h.taken)

  breaks_at : (x y : Option (List ℕ)) → Gives x line y → Between x y (LineBreaksOff most)
  breaks_at None y g = tt
  breaks_at (Some bytes) None g = absurd g
  breaks_at (Some bytes) (Some rest) g = (line, g, ap (line_at most) (sym (append-nil line)) ∙ h.front [] ∙ onto_partial line)

  pub breaks : b ≡ a → Between before b (LineBreaksOff most)
  breaks e = subst (λ (t : Option (List ℕ)). Between before t (LineBreaksOff most)) (sym e) (breaks_at before a h.taken)

pub with_room : (most : ℕ) (before after : Option (List ℕ)) (line : List ℕ) (room other : ℕ) → room ≡ other → Along most before after line other → Along most before after line room
with_room most before after line room other e h = rw e h

-- the rest of a block stands before what comes
pub gives_rest : (piece : List ℕ) (after : Option (List ℕ)) → GivesSome (option_map (λ rest. piece ++ rest) after) after
gives_rest piece None = (piece, tt)
gives_rest piece (Some rest) = (piece, refl)

-- a byte that was taken is a piece
pub came : (before after : Option (List ℕ)) (c : ℕ) → Comes before (Some c) after → GivesSome before after
came None after c h = ([], tt)
came (Some bytes) None c h = absurd h
came (Some bytes) (Some rest) c h = (c ∷ [], h)
