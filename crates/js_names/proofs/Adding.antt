-- Mentions that a walk adds, under a stack that comes back as it was.
use Rattle.std.proofs.Common.{◌≡◌, ℕ, ◌+◌, ◌-◌, ◌<◌, List, [], ◌∷◌, ◌++◌, ◌∙◌, ap, refl, sym, subst, length, take, get_or, append_assoc, map, arith, length-append, append-nil}
use Rattle.std.specs.Prelude.{Result, Ok, Err, OnOk}
use Rattle.std.specs.List.{flat_map}
use Rattle.std.proofs.lemmas.List.{map-append}
use Rattle.std.proofs.lemmas.List.Folds.{flat_map-map}
use Rattle.std.proofs.Math.Seq.{take-append_seam}
use Rattle.js_data.proofs.Shared.{flat_map_take}
use Rattle.js_names.specs.declared.scope.Scope.{Scope as Held}
use Rattle.js_names.specs.declared.scope.Walk.{Walk}
use Rattle.js_tree.specs.declared.tree.Spot.{Spot}
use Rattle.js_tree.specs.declared.tree.Name.{Name}
use Rattle.js_tree.specs.declared.tree.DeclareKind.{DeclareKind}
use Rattle.js_names.specs.declared.mention.Around.{Around}
use Rattle.js_names.specs.declared.mention.What.{What}
use Rattle.js_names.specs.declared.mention.Role.{Role}
use Rattle.js_tree.specs.declared.tree.Item.{Item}
use Rattle.js_tree.specs.declared.tree.Tree.{Tree}
use Rattle.js_tree.specs.Views.{plain_item, plain_tree}
use Rattle.js_names.specs.Entries.{top}
use Rattle.js_names.specs.Scopes.{Scope, for_of_role, program_scope}
use Rattle.js_names.specs.Spots.{program_spot}
use Rattle.js_names.specs.Unresolved.{Unresolved, one_mention, begin_mention, item_mentions, unresolved_mentions}
use Rattle.js_names.specs.Mentions.{Mention, look_up, mentions}
use Rattle.js_names.specs.Views.{mention_of, scope_of, scopes_of, scopes_onto}
use Rattle.js_names.specs.inner.Walks.{Adds, Enters, EntersForOf, Entered, Left, scopes_in}
use Rattle.js_names.specs.inner.TreeMentions.{tree_item_mentions}
use Rattle.js_names.proofs.Stacks.{scopes_push}

-- two lists of mentions, one after the other
added_both : (p q r : List Mention) (xs ys : List Unresolved) → q ≡ p ++ map look_up xs → r ≡ q ++ map look_up ys → r ≡ p ++ map look_up (xs ++ ys)
added_both p q r xs ys h k =
    k ∙ (ap (λ z. z ++ map look_up ys) h ∙ (append_assoc p (map look_up xs) (map look_up ys) ∙ ap (λ z. p ++ z) (sym (map-append look_up xs ys))))

-- two walks, one after the other
pub adds_both : (f g : List Scope → List Unresolved) (a b c : Walk) → Adds a b (f (scopes_in a)) → Adds b c (g (scopes_in b)) → Adds a c (f (scopes_in a) ++ g (scopes_in a))
adds_both f g a b c h k =
    (k.0 ∙ h.0, added_both (map mention_of a.mentions.items) (map mention_of b.mentions.items) (map mention_of c.mentions.items) _ _ h.1 (k.1 ∙ ap (λ s. map mention_of b.mentions.items ++ map look_up (g (scopes_of s))) h.0))

-- the second of them is the answer
pub adds_then : {A E : Type 0} (r : Result A E) (f g : List Scope → List Unresolved) (a b c : Walk) → Adds a b (f (scopes_in a)) → OnOk r (Adds b c (g (scopes_in b))) → OnOk r (Adds a c (f (scopes_in a) ++ g (scopes_in a)))
adds_then (Ok x) f g a b c h k = adds_both f g a b c h k
adds_then (Err x) f g a b c h k = tt

-- the same mentions, said otherwise
pub adds_as : {A E : Type 0} (r : Result A E) (a b : Walk) (xs ys : List Unresolved) → xs ≡ ys → OnOk r (Adds a b xs) → OnOk r (Adds a b ys)
adds_as r a b xs ys e h = subst (λ zs. OnOk r (Adds a b zs)) e h

pub adds_none : (a : Walk) → Adds a a []
adds_none a = (refl, sym (append-nil (map mention_of a.mentions.items)))

-- one more iteration of a loop of walks
pub adds_more : {X : Type 0} (f : List Scope → X → List Unresolved) (xs : List X) (i : ℕ) (d x : X) (a b c : Walk) → i < length xs → x ≡ get_or xs i d
    → Adds a b (flat_map (f (scopes_in a)) (take i xs)) → Adds b c (f (scopes_in b) x) → Adds a c (flat_map (f (scopes_in a)) (take (i + 1) xs))
adds_more f xs i d x a b c h e s t =
    subst (Adds a c) (sym (flat_map_take (f (scopes_in a)) xs i d x h e))
    (adds_both (λ z. flat_map (f z) (take i xs)) (λ z. f z x) a b c s t)

-- what is left of a stack without its last scope
popped : (xs ys zs : List Held) (x : Held) → zs ≡ take (length ys - 1) ys → ys ≡ xs ++ x ∷ [] → zs ≡ xs
popped xs ys zs x t h =
    let m : length ys - 1 ≡ length xs = omega (arith, ap length h, length-append xs (x ∷ [])) in
    t ∙ (ap (λ k. take k ys) m ∙ (ap (take (length xs)) h ∙ take-append_seam xs (x ∷ [])))

-- a walk under one more scope, which is then taken off
pub adds_under : (f : List Scope → List Unresolved) (a b c d : Walk) (x : Held) (scope : Scope) → scope_of x ≡ scope → Entered a b x → Adds b c (f (scopes_in b)) → Left c d → Adds a d (f (scope ∷ scopes_in a))
adds_under f a b c d x scope s e h l = (
  popped a.scopes.items c.scopes.items d.scopes.items x l.0 (h.0 ∙ e.0),
  ap (map mention_of) l.1 ∙ (h.1 ∙ (ap (λ z. map mention_of z ++ map look_up (f (scopes_in b))) e.1
      ∙ ap (λ z. map mention_of a.mentions.items ++ map look_up (f z)) (ap scopes_of e.0 ∙ (scopes_push a.scopes.items x ∙ ap (λ y. y ∷ scopes_in a) s)))),
)

-- a scope that is pushed
pub enters : (a b : Walk) (x : Held) (scope : Scope) → scope_of x ≡ scope → Entered a b x → Enters a b scope
enters a b x scope s e = (
  ap scopes_of e.0 ∙ (scopes_push a.scopes.items x ∙ ap (λ y. y ∷ scopes_in a) s),
  e.1,
  popped a.scopes.items b.scopes.items (take (length b.scopes.items - 1) b.scopes.items) x refl e.0,
)

pub on_enters : {A E : Type 0} (r : Result A E) (a b : Walk) (x : Held) (scope : Scope) → scope_of x ≡ scope → OnOk r (Entered a b x) → OnOk r (Enters a b scope)
on_enters (Ok y) a b x scope s e = enters a b x scope s e
on_enters (Err y) a b x scope s e = tt

-- and the name of a `for` under it
pub on_enters_each : {A E : Type 0} (r : Result A E) (a b c : Walk) (x : Held) (scope : Scope) (around : Around) (kind : DeclareKind) (role : Role) (name : Name) → scope_of x ≡ scope → Entered a b x → role ≡ for_of_role kind
    → OnOk r (Adds b c (one_mention (scopes_in b) around (What.Declares role) name)) → OnOk r (EntersForOf a c around kind name scope)
on_enters_each (Err y) a b c x scope around kind role name s e q k = tt
on_enters_each (Ok y) a b c x scope around kind role name s e q k =
    let h = enters a b x scope s e in (
      ap scopes_of k.0 ∙ h.0,
      k.1 ∙ (ap (λ z. map mention_of z ++ map look_up (one_mention (scopes_in b) around (What.Declares role) name)) h.1
          ∙ (ap (λ z. map mention_of a.mentions.items ++ map look_up (one_mention z around (What.Declares role) name)) h.0
          ∙ ap (λ z. map mention_of a.mentions.items ++ map look_up (one_mention (scope ∷ scopes_in a) around (What.Declares z) name)) q)),
      ap (λ z. take (length z - 1) z) k.0 ∙ h.2,
    )

-- a walk under such a scope, which is then taken off
pub enters_under : (f : List Scope → List Unresolved) (a b c d : Walk) (scope : Scope) → Enters a b scope → Adds b c (f (scopes_in b)) → Left c d → Adds a d (f (scope ∷ scopes_in a))
enters_under f a b c d scope e h l = (
  l.0 ∙ (ap (λ z. take (length z - 1) z) h.0 ∙ e.2),
  ap (map mention_of) l.1 ∙ (h.1 ∙ (ap (λ z. map mention_of z ++ map look_up (f (scopes_in b))) e.1 ∙ ap (λ z. map mention_of a.mentions.items ++ map look_up (f z)) e.0)),
)

pub each_under : (f : List Scope → List Unresolved) (a b c d : Walk) (around : Around) (kind : DeclareKind) (name : Name) (scope : Scope) → EntersForOf a b around kind name scope → Adds b c (f (scopes_in b)) → Left c d
    → Adds a d (one_mention (scope ∷ scopes_in a) around (What.Declares (for_of_role kind)) name ++ f (scope ∷ scopes_in a))
each_under f a b c d around kind name scope e h l = (
  l.0 ∙ (ap (λ z. take (length z - 1) z) h.0 ∙ e.2),
  ap (map mention_of) l.1
      ∙ added_both (map mention_of a.mentions.items) (map mention_of b.mentions.items) (map mention_of c.mentions.items) (one_mention (scope ∷ scopes_in a) around (What.Declares (for_of_role kind)) name) (f (scope ∷ scopes_in a)) e.1
      (h.1 ∙ ap (λ z. map mention_of b.mentions.items ++ map look_up (f z)) e.0),
)

item_list : (s : List Scope) (is : List Item) → flat_map (tree_item_mentions s) is ≡ flat_map (item_mentions s) (map plain_item is)
item_list s is = sym (flat_map-map (item_mentions s) plain_item is)

-- the mentions of a program, from the walk over all that it lists
pub program_mentions : (t : Tree) (is : List Item) (a b c d : Walk) (x : Held) (k : Spot) → a.scopes.items ≡ [] → a.mentions.items ≡ [] → scope_of x ≡ program_scope (plain_tree t) → Entered a b x
    → k ≡ program_spot (plain_tree t) → Adds b c (begin_mention (scopes_in b) top k) → is ≡ t.items.items → Adds c d (flat_map (tree_item_mentions (scopes_in c)) is) → map mention_of d.mentions.items ≡ mentions (plain_tree t)
unfolding mentions unresolved_mentions scopes_onto
program_mentions t is a b c d x k e f s n q h m j =
    let p = plain_tree t in
    let stack : scopes_in b ≡ program_scope p ∷ [] = ap scopes_of n.0 ∙ (scopes_push a.scopes.items x ∙ (ap (λ y. y ∷ scopes_in a) s ∙ ap (λ z. program_scope p ∷ scopes_of z) e)) in
    let both : Adds b d (begin_mention (scopes_in b) top k ++ flat_map (tree_item_mentions (scopes_in b)) is) = adds_both (λ z. begin_mention z top k) (λ z. flat_map (tree_item_mentions z) is) b c d h j in
    both.1
    ∙ (ap (λ z. map mention_of z ++ map look_up (begin_mention (scopes_in b) top k ++ flat_map (tree_item_mentions (scopes_in b)) is)) (n.1 ∙ f)
    ∙ (ap (λ z. map look_up (begin_mention z top k ++ flat_map (tree_item_mentions z) is)) stack
    ∙ (ap (λ z. map look_up (begin_mention (program_scope p ∷ []) top z ++ flat_map (tree_item_mentions (program_scope p ∷ [])) is)) q
    ∙ (ap (λ z. map look_up (begin_mention (program_scope p ∷ []) top (program_spot p) ++ flat_map (tree_item_mentions (program_scope p ∷ [])) z)) m
    ∙ ap (λ z. map look_up (begin_mention (program_scope p ∷ []) top (program_spot p) ++ z)) (item_list (program_scope p ∷ []) t.items.items)))))
