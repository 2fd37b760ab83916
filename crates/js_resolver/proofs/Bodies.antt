-- What a call of a function runs, part by part.
use Rattle.std.proofs.Common.{◌≡◌, ℕ, List, ◌∙◌, ap, length}
use Rattle.js_program.specs.PlainProgram.{PlainBody, PlainContent}
use Rattle.js_names.specs.Mentions.{Mention}
use Rattle.js_names.specs.Slots.{assigned_in, slots_of}
use Rattle.js_resolver.specs.Variables.{body_of, capture_slots, var_slots}

abbrev pub body_with : ℕ → ℕ → List ℕ → List ℕ → PlainContent → ℕ → PlainBody
body_with parameters slots captures vars content line = record { parameters = parameters; slots = slots; captures = captures; vars = vars; content = content; line = line }

pub body_made : (ps : List Mention) (f parameters p s : ℕ) (cs vs : List ℕ) (content : PlainContent) (line : ℕ) → p ≡ parameters → s ≡ length (slots_of (assigned_in ps) f ps) → cs ≡ capture_slots ps f → vs ≡ var_slots ps f
    → body_with p s cs vs content line ≡ body_of ps f parameters content line
unfolding body_of
body_made ps f parameters p s cs vs content line a b c d =
    let slots = length (slots_of (assigned_in ps) f ps) in
    ap (λ z. body_with z s cs vs content line) a
    ∙ (ap (λ z. body_with parameters z cs vs content line) b
    ∙ (ap (λ z. body_with parameters slots z vs content line) c ∙ ap (λ z. body_with parameters slots (capture_slots ps f) z content line) d))
