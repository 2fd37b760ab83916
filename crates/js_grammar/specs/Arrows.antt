-- Where an arrow function begins.
use Rattle.std.specs.Prelude.{ℕ, zero, suc, ◌+◌, Bool, false, not, ◌&&◌, List, [], ◌∷◌}
use Rattle.js_lexer.specs.declared.token.Token.{Token}
use Rattle.js_lexer.specs.declared.sort.Sort.{Sort}
use Rattle.js_grammar.specs.Sorts.{sort, is}

-- `=>` stands next, on the line of the token before it
abbrev pub starts_arrow : List Token → Bool
starts_arrow [] = false
starts_arrow (t ∷ ts) = is Sort.Arrow t && not t.new_line

-- a token before the matching `)`, or that itself
abbrev pub past : Sort → ℕ → Bool → (ℕ → Bool) → Bool
past Sort.LeftParen depth here next = next (depth + 1)
past Sort.RightParen zero here next = here
past Sort.RightParen (suc depth) here next = next depth
past _ depth here next = next depth

-- `=>` follows the `)` that closes `depth` more pairs and this one
abbrev pub arrow_follows : List Token → ℕ → Bool
arrow_follows [] depth = false
arrow_follows (t ∷ ts) depth = past (sort t) depth (starts_arrow ts) (arrow_follows ts)

-- an arrow function begins here
abbrev pub begins_arrow : Sort → List Token → Bool
begins_arrow Sort.Name ts = starts_arrow ts
begins_arrow Sort.LeftParen ts = arrow_follows ts 0
begins_arrow _ ts = false

abbrev pub starts_function : List Token → Bool
starts_function [] = false
starts_function (t ∷ ts) = begins_arrow (sort t) ts
