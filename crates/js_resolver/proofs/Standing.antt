-- Tables that stand for the mentions of a program, from what they are made of.
use Rattle.std.proofs.Common.{◌≡◌, ℕ, List, ◌∙◌, ap, nat_eq}
use Rattle.std.specs.Prelude.{unwrap_or}
use Rattle.indexmap.specs.IndexMap.{get}
use Rattle.js_program.specs.declared.node.Variable.{Variable}
use Rattle.js_program.specs.declared.node.Variable.TheVariants.{Slot}
use Rattle.js_names.specs.Entries.{top}
use Rattle.js_names.specs.Mentions.{Mention}
use Rattle.js_names.specs.Slots.{assigned_in, slots_of, captures, vars_of, constants_of, functions_in}
use Rattle.js_names.specs.Held.{Sets, held_in}
use Rattle.js_resolver.specs.inner.Tables.{Known}
use Rattle.js_resolver.specs.Variables.{named_there, around_there, name_key, owner_key, known_in, named_at, code_at, around_of, index_in}
use Rattle.js_resolver.specs.inner.TablesOf.{AreTablesOf}

pub stands : (variables : Known Variable) (declared functions assigned : List ℕ) (outer : Known ℕ) (held copied unset : Sets) (ps : List Mention)
    → assigned ≡ assigned_in ps
    → ((q : ℕ) → get nat_eq variables q ≡ known_in name_key (named_there assigned declared (λ f. held_in held f)) q ps)
    → declared ≡ constants_of assigned ps
    → functions ≡ functions_in ps
    → ((f : ℕ) → get nat_eq outer f ≡ known_in owner_key around_there f ps)
    → ((f : ℕ) → held_in held f ≡ slots_of (assigned_in ps) f ps)
    → ((f : ℕ) → held_in copied f ≡ captures assigned f ps)
    → ((f : ℕ) → held_in unset f ≡ vars_of assigned f ps)
    → AreTablesOf variables declared functions outer held copied unset ps
unfolding named_at code_at around_of
stands variables declared functions assigned outer held copied unset ps a n d fs o s c v =
    let constants : declared ≡ constants_of (assigned_in ps) ps = d ∙ ap (λ z. constants_of z ps) a in
    record {
      named = λ q. ap (λ z. unwrap_or z (Slot 0)) (n q
          ∙ (ap (λ z. known_in name_key (named_there z declared (λ f. held_in held f)) q ps) a
          ∙ (ap (λ z. known_in name_key (named_there (assigned_in ps) z (λ f. held_in held f)) q ps) constants
          ∙ ap (λ z. known_in name_key (named_there (assigned_in ps) (constants_of (assigned_in ps) ps) z) q ps) (λ i f. s f i))));
      constants = constants;
      codes = λ q. ap (λ z. index_in z q) fs;
      around = λ f. ap (λ z. unwrap_or z top) (o f);
      slots = s;
      captured = λ f. c f ∙ ap (λ z. captures z f ps) a;
      vars = λ f. v f ∙ ap (λ z. vars_of z f ps) a;
    }
