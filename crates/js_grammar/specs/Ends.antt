-- Where a statement, and a list of them, ends.
use Rattle.std.specs.Prelude.{Bool, true, false, not, ◌&&◌, ◌||◌, List, [], ◌∷◌}
use Rattle.js_lexer.specs.declared.token.Token.{Token}
use Rattle.js_tree.specs.declared.ending.Ending.{Ending}
use Rattle.js_tree.specs.declared.ending.Ending.TheVariants.{Value, Update}
use Rattle.js_lexer.specs.declared.sort.Sort.{Sort}
use Rattle.js_grammar.specs.Sorts.{sort, is}

-- a list of statements ends here
abbrev pub starts_end : List Token → Bool
starts_end [] = true
starts_end (t ∷ ts) = is Sort.RightBrace t

-- the token would go on with what ends so
abbrev pub can_continue : Ending → Sort → Bool
can_continue Value Sort.LeftParen = true
can_continue Value Sort.LeftBracket = true
can_continue Value Sort.Plus = true
can_continue Value Sort.Minus = true
can_continue Update Sort.Plus = true
can_continue Update Sort.Minus = true
can_continue _ _ = false

-- `;` may be absent here: before `}`, at the text's end, and before a token on another line that does not
-- go on with the statement
abbrev pub end_absent : Ending → List Token → Bool
end_absent ending [] = true
end_absent ending (t ∷ ts) = is Sort.RightBrace t ||
    (t.new_line && not (is Sort.Semicolon t) && not (can_continue ending (sort t)))

-- a `return` ends here without a value
abbrev pub ends_return : List Token → Bool
ends_return [] = true
ends_return (t ∷ ts) = t.new_line || is Sort.Semicolon t || is Sort.RightBrace t

-- a statement that is not an expression begins with this, or no statement at all
abbrev pub begins_other : Sort → Bool
begins_other Sort.Semicolon = true
begins_other Sort.LeftBrace = true
begins_other Sort.Function = true
begins_other Sort.Const = true
begins_other Sort.Let = true
begins_other Sort.Var = true
begins_other Sort.If = true
begins_other Sort.While = true
begins_other Sort.For = true
begins_other Sort.Break = true
begins_other Sort.Continue = true
begins_other Sort.Return = true
begins_other _ = false

abbrev pub starts_other : List Token → Bool
starts_other [] = true
starts_other (t ∷ ts) = begins_other (sort t)
