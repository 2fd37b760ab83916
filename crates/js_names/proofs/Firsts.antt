-- The first breach of a rule, from the lists that the check makes.
use Rattle.std.proofs.Common.{◌≡◌, ℕ, ◌+◌, ◌<◌, List, ◌∙◌, ap, refl, sym, map, fold, length, get_or, drop, Option}
use Rattle.std.proofs.lemmas.List.{at_drop_more}
use Rattle.js_names.specs.declared.mention.NameFault.{NameFault}
use Rattle.js_names.specs.declared.mention.Mention.{Mention as HeldMention}
use Rattle.js_names.specs.declared.breach.Breach.{Breach}
use Rattle.js_names.specs.declared.breach.Breach.TheVariants.{Unknown, Twice, AssignConst, Capture, LoopWord, ReturnPlace, Slots}
use Rattle.js_tree.specs.declared.tree.Name.{Name}
use Rattle.js_tree.specs.Plain.{PlainItem}
use Rattle.js_names.specs.Mentions.{Mention, mentions}
use Rattle.js_names.specs.Slots.{assigned_in, slots_of, slot_count}
use Rattle.js_names.specs.Rules.{fault_at, spot_of, sooner, soonest, name_fault}
use Rattle.js_names.specs.inner.Breaches.{fault_of}
use Rattle.js_names.specs.Views.{mention_of}
use Rattle.js_names.specs.Held.{Sets, held_in}

pub soonest_more : (F : Mention → Option NameFault) (xs : List HeldMention) (i : ℕ) (x : HeldMention) (a b fault all : Option NameFault) → i < length xs → x ≡ get_or xs i x → fault ≡ F (mention_of x) → b ≡ sooner a fault
    → fold (λ f p. sooner f (F p)) a (map mention_of (drop i xs)) ≡ all → fold (λ f p. sooner f (F p)) b (map mention_of (drop (i + 1) xs)) ≡ all
soonest_more F xs i x a b fault all h e f s inv =
    ap (λ z. fold (λ f p. sooner f (F p)) z (map mention_of (drop (i + 1) xs))) (s ∙ (ap (sooner a) f ∙ ap (λ y. sooner a (F (mention_of y))) e))
    ∙ (sym (at_drop_more (λ ys. fold (λ f p. sooner f (F p)) a (map mention_of ys)) xs i x h) ∙ inv)

-- what the lists that the check makes say of the program
pub fault_of_mentions : (items : List PlainItem) (held s : List HeldMention) (assigned : List ℕ) (sets : Sets) (r : Option NameFault) → map mention_of held ≡ mentions items → s ≡ held → assigned ≡ assigned_in (mentions items)
    → ((f : ℕ) → held_in sets f ≡ slots_of (assigned_in (mentions items)) f (mentions items)) → r ≡ soonest (fault_at assigned (λ g. length (held_in sets g))) (map mention_of s) → r ≡ name_fault items
unfolding name_fault slot_count
fault_of_mentions items held s assigned sets r e d a h k =
    let ps = mentions items in
    let taken = assigned_in ps in
    k ∙ (ap (λ c. soonest (fault_at assigned c) (map mention_of s)) (λ i f. ap length (h f) i)
    ∙ (ap (λ z. soonest (fault_at assigned (λ f. length (slots_of taken f ps))) z) (ap (map mention_of) d ∙ e)
    ∙ ap (λ z. soonest (fault_at z (λ f. length (slots_of taken f ps))) ps) a))

-- the variables that something assigns, and the slots
pub assigned_of_mentions : (items : List PlainItem) (held s1 : List HeldMention) (assigned : List ℕ) → map mention_of held ≡ mentions items → s1 ≡ held → assigned ≡ assigned_in (map mention_of s1) → assigned ≡ assigned_in (mentions items)
assigned_of_mentions items held s1 assigned e d a = a ∙ ap assigned_in (ap (map mention_of) d ∙ e)

pub slots_of_mentions : (items : List PlainItem) (held s1 s2 : List HeldMention) (assigned : List ℕ) (sets : Sets) → map mention_of held ≡ mentions items → s1 ≡ held → s2 ≡ held → assigned ≡ assigned_in (map mention_of s1)
    → ((f : ℕ) → held_in sets f ≡ slots_of assigned f (map mention_of s2)) → (f : ℕ) → held_in sets f ≡ slots_of (assigned_in (mentions items)) f (mentions items)
slots_of_mentions items held s1 s2 assigned sets e d1 d2 a h f =
    h f ∙ (ap (slots_of assigned f) (ap (map mention_of) d2 ∙ e) ∙ ap (λ z. slots_of z f (mentions items)) (assigned_of_mentions items held s1 assigned e d1 a))

-- a fault stands at the offset of its name
pub spot_of_fault : (b : Breach) (name : Name) → spot_of (fault_of b name) ≡ name.spot.at
spot_of_fault Unknown name = refl
spot_of_fault Twice name = refl
spot_of_fault AssignConst name = refl
spot_of_fault Capture name = refl
spot_of_fault LoopWord name = refl
spot_of_fault ReturnPlace name = refl
spot_of_fault Slots name = refl
