-- The tokens of the large program, and the tree that they spell, whatever the number of its b-threads.
use Rattle.std.proofs.Common.{◌≡◌, ℕ, ◌+◌, true, false, List, [], ◌∷◌, ◌++◌, length, drop, pos, refl, sym, ap, ◌∙◌, subst}
use Rattle.std.proofs.Math.Seq.{drop-append_seam}
use Rattle.std.proofs.lemmas.List.{drop-drop}
use Rattle.js_lexer.specs.declared.token.Kind.{Kind}
use Rattle.js_lexer.specs.declared.sort.Sort.{Sort}
use Rattle.js_lexer.specs.declared.token.Token.{Token}
use Rattle.js_lexer.specs.Gaps.{line_ends, line_of}
use Rattle.js_lexer.specs.Front.{front, token}
use Rattle.js_lexer.specs.Cut.{CutFrom, cut_end, cut_token, Cut}
use Rattle.js_lexer.proofs.Lexing.{line_behind}
use Rattle.bp_large.specs.Large as large
use Rattle.bp_large.proofs.Pieces.{Cutting, pieces, Cuts, pieces-cut}

-- before the number, and after it from a place on
unfoldable pub tokens_before : List Token
tokens_before = (pieces 78 (large.front ++ 48 ∷ []) true 0 1).tokens

unfoldable pub tokens_behind : ℕ → List Token
tokens_behind place = (pieces 40 large.rest false place 2).tokens

-- all of them, by the length of the number and the number
unfoldable pub tokens : ℕ → ℕ → List Token
tokens size v = tokens_before ++ record { kind = Kind.Number (pos v); sort = Sort.Number; from = 113; to = 113 + size; line = 2; new_line = false; sorted = refl } ∷ (tokens_behind (113 + size) ++ [])

first_pieces : (d : ℕ) (x : List ℕ) → pieces 78 (large.front ++ d ∷ x) true 0 1 ≡ record { tokens = tokens_before; left = d ∷ x; new_line = false; place = 113; line = 2 }
unfolding tokens_before
first_pieces d x = refl

last_left : (place : ℕ) → (pieces 40 large.rest false place 2).left ≡ []
last_left place = refl

module _ (d : ℕ) (ds : List ℕ) (v : ℕ) (number : front (d ∷ (ds ++ large.rest)) ≡ token (Kind.Number (pos v)) (length (d ∷ ds))) (line : line_ends (length (d ∷ ds)) (d ∷ (ds ++ large.rest)) ≡ 0) where
  abbrev bytes : List ℕ
  bytes = large.front ++ d ∷ (ds ++ large.rest)

  at_number : Cuts bytes true 0 (record { tokens = tokens_before; left = d ∷ (ds ++ large.rest); new_line = false; place = 113; line = 2 })
  at_number = subst (λ (c : Cutting). Cuts bytes true 0 c) (first_pieces d (ds ++ large.rest)) (pieces-cut bytes 78 bytes true 0 1 refl refl)

  abbrev place : ℕ
  place = 113 + length (d ∷ ds)

  left_behind : drop place bytes ≡ large.rest
  left_behind = sym (drop-drop (length (d ∷ ds)) 113 bytes) ∙ ap (drop (length (d ∷ ds))) at_number.left ∙ drop-append_seam (d ∷ ds) large.rest

  line_at : 2 ≡ line_of bytes place
  line_at = line_behind bytes 113 (length (d ∷ ds)) 2 0 at_number.line (sym line ∙ ap (line_ends (length (d ∷ ds))) (sym at_number.left))

  cut_behind : CutFrom bytes false place (tokens_behind place ++ [])
  unfolding tokens_behind
  cut_behind =
      let c = pieces-cut bytes 40 large.rest false place 2 left_behind line_at in
      c.cuts [] (cut_end (ap front (c.left ∙ last_left place)))

  pub cut : Cut bytes (tokens (length (d ∷ ds)) v)
  unfolding tokens
  cut = at_number.cuts _ (subst (λ (m : ℕ). CutFrom bytes false 113 (record { kind = Kind.Number (pos v); sort = Sort.Number; from = 113; to = place; line = m; new_line = false; sorted = refl } ∷ (tokens_behind place ++ [])))
      (sym at_number.line) (cut_token (ap front at_number.left ∙ number) cut_behind))
