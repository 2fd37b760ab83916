-- The keywords and marks of the language, each with its sort; unsupported ones are refused later.
use Rattle.std.specs.Prelude.{ℕ, nat_eq, List, [], ◌∷◌, ◌++◌, length, filter, codes}
use Rattle.js_lexer.specs.declared.sort.Sort.{Sort}

abbrev pub keywords : List (List ℕ × Sort)
keywords =
    (codes "const", Sort.Const) ∷ (codes "let", Sort.Let) ∷ (codes "var", Sort.Var)
    ∷ (codes "function", Sort.Function) ∷ (codes "return", Sort.Return) ∷ (codes "if", Sort.If)
    ∷ (codes "else", Sort.Else) ∷ (codes "while", Sort.While) ∷ (codes "for", Sort.For)
    ∷ (codes "break", Sort.Break) ∷ (codes "continue", Sort.Continue)
    ∷ (codes "true", Sort.True) ∷ (codes "false", Sort.False) ∷ (codes "null", Sort.Null) ∷ []

abbrev pub unsupported_keywords : List (List ℕ × Sort)
unsupported_keywords =
    (codes "switch", Sort.Unsupported) ∷ (codes "case", Sort.Unsupported)
    ∷ (codes "default", Sort.Unsupported) ∷ (codes "do", Sort.Unsupported)
    ∷ (codes "try", Sort.Unsupported) ∷ (codes "catch", Sort.Unsupported)
    ∷ (codes "finally", Sort.Unsupported) ∷ (codes "throw", Sort.Unsupported)
    ∷ (codes "new", Sort.Unsupported) ∷ (codes "this", Sort.Unsupported)
    ∷ (codes "class", Sort.Unsupported) ∷ (codes "extends", Sort.Unsupported)
    ∷ (codes "super", Sort.Unsupported) ∷ (codes "yield", Sort.Unsupported)
    ∷ (codes "await", Sort.Unsupported) ∷ (codes "import", Sort.Unsupported)
    ∷ (codes "export", Sort.Unsupported) ∷ (codes "delete", Sort.Unsupported)
    ∷ (codes "in", Sort.Unsupported) ∷ (codes "instanceof", Sort.Unsupported)
    ∷ (codes "typeof", Sort.Unsupported) ∷ (codes "void", Sort.Unsupported)
    ∷ (codes "with", Sort.Unsupported) ∷ (codes "debugger", Sort.Unsupported)
    ∷ (codes "enum", Sort.Unsupported) ∷ []

abbrev pub marks : List (List ℕ × Sort)
marks =
    (codes "===", Sort.Same) ∷ (codes "!==", Sort.NotSame) ∷ (codes "=>", Sort.Arrow)
    ∷ (codes "==", Sort.Equal) ∷ (codes "!=", Sort.NotEqual) ∷ (codes "<=", Sort.LessOrEqual)
    ∷ (codes ">=", Sort.GreaterOrEqual) ∷ (codes "&&", Sort.And) ∷ (codes "||", Sort.Or)
    ∷ (codes "++", Sort.Increment) ∷ (codes "--", Sort.Decrement) ∷ (codes "+=", Sort.AddSet)
    ∷ (codes "-=", Sort.SubtractSet) ∷ (codes "*=", Sort.MultiplySet)
    ∷ (codes "/=", Sort.DivideSet) ∷ (codes "%=", Sort.RemainderSet)
    ∷ (codes "{", Sort.LeftBrace) ∷ (codes "}", Sort.RightBrace) ∷ (codes "(", Sort.LeftParen)
    ∷ (codes ")", Sort.RightParen) ∷ (codes "[", Sort.LeftBracket)
    ∷ (codes "]", Sort.RightBracket) ∷ (codes ".", Sort.Dot) ∷ (codes ";", Sort.Semicolon)
    ∷ (codes ",", Sort.Comma) ∷ (codes "<", Sort.Less) ∷ (codes ">", Sort.Greater)
    ∷ (codes "+", Sort.Plus) ∷ (codes "-", Sort.Minus) ∷ (codes "*", Sort.Star)
    ∷ (codes "/", Sort.Slash) ∷ (codes "%", Sort.Percent) ∷ (codes "!", Sort.Not)
    ∷ (codes "?", Sort.Question) ∷ (codes ":", Sort.Colon) ∷ (codes "=", Sort.Set) ∷ []

abbrev pub unsupported_marks : List (List ℕ × Sort)
unsupported_marks =
    (codes "&", Sort.Unsupported) ∷ (codes "|", Sort.Unsupported)
    ∷ (codes "^", Sort.Unsupported) ∷ (codes "~", Sort.Unsupported)
    ∷ (codes "<<", Sort.Unsupported) ∷ (codes ">>", Sort.Unsupported)
    ∷ (codes ">>>", Sort.Unsupported) ∷ (codes "**", Sort.Unsupported)
    ∷ (codes "??", Sort.Unsupported) ∷ (codes "?.", Sort.Unsupported)
    ∷ (codes "...", Sort.Unsupported) ∷ (codes "&=", Sort.Unsupported)
    ∷ (codes "|=", Sort.Unsupported) ∷ (codes "^=", Sort.Unsupported)
    ∷ (codes "<<=", Sort.Unsupported) ∷ (codes ">>=", Sort.Unsupported)
    ∷ (codes ">>>=", Sort.Unsupported) ∷ (codes "**=", Sort.Unsupported)
    ∷ (codes "&&=", Sort.Unsupported) ∷ (codes "||=", Sort.Unsupported)
    ∷ (codes "??=", Sort.Unsupported) ∷ []

abbrev pub all_keywords : List (List ℕ × Sort)
all_keywords = keywords ++ unsupported_keywords

-- those of this many bytes
abbrev pub of_size : ℕ → List (List ℕ × Sort) → List (List ℕ × Sort)
of_size n entries = filter (λ e. nat_eq (length e.0) n) entries

-- the longest first
abbrev pub longest_first : List (List ℕ × Sort) → List (List ℕ × Sort)
longest_first entries = of_size 4 entries ++ of_size 3 entries ++ of_size 2 entries ++ of_size 1 entries

abbrev pub all_marks : List (List ℕ × Sort)
all_marks = longest_first (marks ++ unsupported_marks)
