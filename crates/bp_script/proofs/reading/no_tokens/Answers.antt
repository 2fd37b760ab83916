use Rattle.std.proofs.Common.{List, ℕ, ◌≡◌, subst}
use Rattle.js_lexer.specs.declared.token.LexFault.{LexFault}
use Rattle.js_lexer.specs.declared.token.LexFault.TheVariants.{Character, OpenText, Escape, NumberRange, Unsupported}
use Rattle.js_lexer.specs.Lexed.{IsRefusal}
use Rattle.bp_script.proofs.Places.{refused_within}
use Rattle.bp_script.proofs.reading.no_tokens.Goals as goal

refusal : (bytes : List ℕ) (f g : LexFault) → f ≡ g → IsRefusal bytes f → IsRefusal bytes g
refusal bytes f g e h = subst (λ (x : LexFault). IsRefusal bytes x) e h

pub on_line-requires-clause-within : goal.on_line-requires-clause-within
on_line-requires-clause-within c =
    let r : IsRefusal c.args.bytes.now (Character c.in-Character.place) = refusal _ _ _ c.in-Character.is c.requires.refusal in
    refused_within _ _ _ r.1

pub on_line-requires-in-OpenText-clause-within : goal.on_line-requires-in-OpenText-clause-within
on_line-requires-in-OpenText-clause-within c =
    let r : IsRefusal c.args.bytes.now (OpenText c.in-OpenText.place) = refusal _ _ _ c.in-OpenText.is c.requires.refusal in
    refused_within _ _ _ r.1

pub on_line-requires-in-Escape-clause-within : goal.on_line-requires-in-Escape-clause-within
on_line-requires-in-Escape-clause-within c =
    let r : IsRefusal c.args.bytes.now (Escape c.in-Escape.place) = refusal _ _ _ c.in-Escape.is c.requires.refusal in
    refused_within _ _ _ r.1

pub on_line-requires-in-NumberRange-clause-within : goal.on_line-requires-in-NumberRange-clause-within
on_line-requires-in-NumberRange-clause-within c =
    let r : IsRefusal c.args.bytes.now (NumberRange c.in-NumberRange.place) = refusal _ _ _ c.in-NumberRange.is c.requires.refusal in
    refused_within _ _ _ r.1

pub on_line-requires-in-Unsupported-clause-within : goal.on_line-requires-in-Unsupported-clause-within
on_line-requires-in-Unsupported-clause-within c =
    let r : IsRefusal c.args.bytes.now (Unsupported c.in-Unsupported.place) = refusal _ _ _ c.in-Unsupported.is c.requires.refusal in
    refused_within _ _ _ r.1
