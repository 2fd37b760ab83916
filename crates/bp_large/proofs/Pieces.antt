-- A text that is cut piece by piece, as a function.
use Rattle.std.proofs.Common.{◌≡◌, ℕ, zero, suc, ◌+◌, nat_lt, Bool, false, ◌||◌, List, [], ◌∷◌, ◌++◌, drop, refl, sym, ap, ◌∙◌, subst}
use Rattle.std.proofs.lemmas.List.{drop-drop}
use Rattle.js_lexer.specs.declared.token.Token.{Token}
use Rattle.js_lexer.specs.Sorts.{kind_sort}
use Rattle.js_lexer.specs.Gaps.{line_ends, line_of}
use Rattle.js_lexer.specs.Front.{Piece, nothing, gap, token, refused, front}
use Rattle.js_lexer.specs.Cut.{CutFrom, cut_gap, cut_token}
use Rattle.js_lexer.proofs.Lexing.{line_behind}

-- the tokens so far, and where cutting stands: what is left, whether a line end stands before it, its place and its line
pub record Cutting : Type 0 where
  pub tokens : List Token
  pub left : List ℕ
  pub new_line : Bool
  pub place : ℕ
  pub line : ℕ

abbrev pub behind_token : Token → Cutting → Cutting
behind_token t c = record c { tokens = t ∷ c.tokens }

-- by what stands in front; `go` goes on after it
abbrev behind_piece : (List ℕ → Bool → ℕ → ℕ → Cutting) → List ℕ → Bool → ℕ → ℕ → Piece → Cutting
behind_piece go left new_line place line nothing = record { tokens = []; left = left; new_line = new_line; place = place; line = line }
behind_piece go left new_line place line (gap n) = go (drop n left) (new_line || nat_lt 0 (line_ends n left)) (place + n) (line + line_ends n left)
behind_piece go left new_line place line (token kind n) =
    behind_token (record { kind = kind; sort = kind_sort kind; from = place; to = place + n; line = line; new_line = new_line; sorted = refl }) (go (drop n left) false (place + n) (line + line_ends n left))
behind_piece go left new_line place line (refused flaw n) = record { tokens = []; left = left; new_line = new_line; place = place; line = line }

-- at most this many pieces
abbrev pub pieces : ℕ → List ℕ → Bool → ℕ → ℕ → Cutting
pieces zero left new_line place line = record { tokens = []; left = left; new_line = new_line; place = place; line = line }
pieces (suc k) left new_line place line = behind_piece (pieces k) left new_line place line (front left)

-- where cutting stands in the text, and the tokens before it are the text's
pub record Cuts (bytes : List ℕ) (new_line : Bool) (place : ℕ) (c : Cutting) : Type 0 where
  pub left : drop c.place bytes ≡ c.left
  pub line : c.line ≡ line_of bytes c.place
  pub cuts : (us : List Token) → CutFrom bytes c.new_line c.place us → CutFrom bytes new_line place (c.tokens ++ us)

here : (bytes left : List ℕ) (new_line : Bool) (place line : ℕ) → drop place bytes ≡ left → line ≡ line_of bytes place →
    Cuts bytes new_line place (record { tokens = []; left = left; new_line = new_line; place = place; line = line })
here bytes left new_line place line h l = record { left = h; line = l; cuts = λ us d. d }

module _ (bytes : List ℕ) where
  -- going on is sound
  abbrev Goes : (List ℕ → Bool → ℕ → ℕ → Cutting) → Type 0
  Goes go = (left : List ℕ) (new_line : Bool) (place line : ℕ) → drop place bytes ≡ left → line ≡ line_of bytes place → Cuts bytes new_line place (go left new_line place line)

  piece-cut : (go : List ℕ → Bool → ℕ → ℕ → Cutting) → Goes go → (left : List ℕ) (new_line : Bool) (place line : ℕ) (p : Piece) → drop place bytes ≡ left → line ≡ line_of bytes place →
      front (drop place bytes) ≡ p → Cuts bytes new_line place (behind_piece go left new_line place line p)
  piece-cut go g left new_line place line nothing h l f = here bytes left new_line place line h l
  piece-cut go g left new_line place line (refused flaw n) h l f = here bytes left new_line place line h l
  piece-cut go g left new_line place line (gap n) h l f =
      let next = g (drop n left) (new_line || nat_lt 0 (line_ends n left)) (place + n) (line + line_ends n left)
      (sym (drop-drop n place bytes) ∙ ap (drop n) h) (line_behind bytes place n line (line_ends n left) l (ap (line_ends n) (sym h))) in
      record {
        left = next.left;
        line = next.line;
        cuts = λ us d. cut_gap f (subst (λ (xs : List ℕ). CutFrom bytes (new_line || nat_lt 0 (line_ends n xs)) (place + n)
            ((go (drop n left) (new_line || nat_lt 0 (line_ends n left)) (place + n) (line + line_ends n left)).tokens ++ us)) (sym h) (next.cuts us d));
      }
  piece-cut go g left new_line place line (token kind n) h l f =
      let next = g (drop n left) false (place + n) (line + line_ends n left)
      (sym (drop-drop n place bytes) ∙ ap (drop n) h) (line_behind bytes place n line (line_ends n left) l (ap (line_ends n) (sym h))) in
      record {
        left = next.left;
        line = next.line;
        cuts = λ us d. subst (λ (m : ℕ). CutFrom bytes new_line place (record { kind = kind; sort = kind_sort kind; from = place; to = place + n; line = m; new_line = new_line; sorted = refl } ∷ ((go (drop n left) false (place + n) (line + line_ends n left)).tokens ++ us)))
            (sym l) (cut_token f (next.cuts us d));
      }

  pub pieces-cut : (k : ℕ) → Goes (pieces k)
  pieces-cut zero left new_line place line h l = here bytes left new_line place line h l
  pieces-cut (suc k) left new_line place line h l = piece-cut (pieces k) (pieces-cut k) left new_line place line (front left) h l (ap front h)
