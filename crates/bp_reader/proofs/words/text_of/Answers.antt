use Rattle.std.proofs.Common.{◌≡◌, ◌∙◌, sym, ap, Some, List, ℕ, rules, true}
use Rattle.std.specs.Str.{bytes_eq}
use Rattle.serde_json.specs.Errors.{IsMemory}
use Rattle.serde_json.specs.View.{view}
use Rattle.js_data.specs.JsonText.{quoted_text}
use Rattle.bp_reader.proofs.TextsRead.{text_refused, text_found}
use Rattle.bp_reader.proofs.words.text_of.Goals as goal

pub returns-else-is_memory : goal.returns-else-is_memory
returns-else-is_memory c =
    let other : ¬ (IsMemory c.in-Err.error) = search rules in
    sym (text_refused c.args.bytes.now (c.in-Err.ensures.err other))

pub returns-then-eq : goal.returns-then-eq
returns-then-eq c =
    let name : c.new-text.result ≡ c.in-Some.name.now = c.new-text.ensures ∙ c.in_ok-from_str.ensures.ok in
    let printed : c.as_bytes.result.now ≡ quoted_text c.new-text.result = c.as_bytes.ensures.value ∙ c.as_str-2.ensures ∙ c.in_ok-again.ensures in
    let same : bytes_eq (quoted_text c.new-text.result) c.args.bytes.now ≡ true = ap (λ t. bytes_eq t c.args.bytes.now) (sym printed) ∙ sym c.if-eq.ensures in
    sym (text_found c.args.bytes.now c.new-text.result (view c.in-Ok.json) c.in-Ok.ensures.ok.0 c.in-Ok.ensures.ok.1
    (sym c.in-Some.ensures ∙ ap (λ (t : List ℕ). Some t) (sym name)) same)
