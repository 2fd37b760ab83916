-- What is heard goes to the records of one injector, and leaves those of the others.
use Rattle.std.proofs.Common.{◌≡◌, ◌≢◌, ℕ, ◌<◌, true, false, List, [], ◌∷◌, ◌++◌, Option, None, option_to_list, length, get_or, set, refl, sym, ap, ◌∙◌, subst, append_assoc, append-nil, eqb-true}
use Rattle.std.specs.Prelude.{◌==◌}
use Rattle.std.proofs.lemmas.Bool.{false_from_ne_true, eq-eqb, or_parts, or_from}
use Rattle.std.proofs.lemmas.List.{get_or-set_other, get_or-set_same, length-set}
use Rattle.std.proofs.lemmas.List.Elements.{filter_map-append}
use Rattle.std.proofs.lemmas.List.Folds.{list_any-append}
use native.Mathlib.Decide.{ℕ_discrete}
use mathlib.Core.Logic.{dite}
use Rattle.js_program.specs.PlainProgram.{PlainProgram}
use Rattle.js_meaning.specs.Bodies.{Origin}
use Rattle.bp_log.specs.Options.{PlainOptions}
use Rattle.bp_log.specs.declared.item.Item.{Item}
use Rattle.bp_log.specs.declared.item.Item.TheVariants as item
use Rattle.bp_log.specs.declared.record.Record.{Record}
use Rattle.bp_lanes.specs.declared.ends.Ear.{Ear}
use Rattle.bp_lanes.specs.Lanes.{taken}
use Rattle.bp_feeds.specs.Items.{is_fault, has_fault}
use Rattle.bp_steps.specs.declared.step.CoreStep.{CoreStep}
use Rattle.bp_steps.specs.declared.step.CoreStep.TheVariants.{Absorb}
use Rattle.bp_steps.specs.Merging.{record_by, item_by, items_by}
use Rattle.bp_steps.specs.Steps.{Moment, played}
use Rattle.bp_steps.proofs.Played.{last, one_step, steps_on}
use Rattle.bp_code.specs.Nodes.{nodes_of}
use Rattle.bp_code.specs.Code.{sealed_code_of as code_of}
use Rattle.bp_arbiter.specs.Arbiters.{PlainArbiter, code_in, options_in}
use Rattle.bp_arbiter.specs.Absorb.{is_failed, absorbed, ComesBack}
use Rattle.bp_floor.specs.declared.absorb.Absorb.{Absorb as Absorbed}
use Rattle.bp_floor.specs.declared.absorb.Absorb.TheVariants.{Full, Memory}
use Rattle.bp_run.specs.Configuration.{Stand}
use Rattle.bp_core.specs.declared.stepping.Core.{Core}
use Rattle.bp_core.specs.Cores.{Makes, KeepsProgram, played_on, Plays}
use Rattle.bp_session.specs.declared.hearing.Hearing.{Hearing}
use Rattle.bp_session.specs.inner.Hearing.{Brings, Hears, entering, records_by, IsRecorded, AreOthers, AreHeard}

-- ---- records and items

same_number : (j : ℕ) → (j == j) ≡ true
same_number j = eq-eqb j j refl

other_number : (j k : ℕ) → (k ≡ j → ⊥) → (k == j) ≡ false
other_number j k n = false_from_ne_true (k == j) (λ e. n (eqb-true k j e))

-- an item of this injector, and what the records of others have of it
own_items : (j : ℕ) (i : Item) → is_fault i ≡ false → items_by j (records_by j (i ∷ [])) ≡ i ∷ []
own_items j (item.Offered e) h = rw (same_number j) refl
own_items j (item.Bad n) h = rw (same_number j) refl
own_items j item.Failed h = absurd (cc)
own_items j item.End h = rw (same_number j) refl

others_items : (j k : ℕ) (i : Item) → (k ≡ j → ⊥) → items_by k (records_by j (i ∷ [])) ≡ []
others_items j k (item.Offered e) n = rw (other_number j k n) refl
others_items j k (item.Bad m) n = rw (other_number j k n) refl
others_items j k item.Failed n = refl
others_items j k item.End n = rw (other_number j k n) refl

by_more : (k j : ℕ) (i : Item) (xs : List Item) → items_by k (records_by j (i ∷ xs)) ≡ items_by k (records_by j (i ∷ [])) ++ items_by k (records_by j xs)
by_more k j i xs = ap (λ (rs : List Record). items_by k rs) (filter_map-append (record_by j) (i ∷ []) xs) ∙ filter_map-append (item_by k) (records_by j (i ∷ [])) (records_by j xs)

pub own_all : (j : ℕ) (xs : List Item) → has_fault xs ≡ false → items_by j (records_by j xs) ≡ xs
own_all j [] h = refl
own_all j (i ∷ xs) h =
    let p = or_parts (is_fault i) (has_fault xs) h in
    by_more j j i xs ∙ ap (λ (l : List Item). l ++ items_by j (records_by j xs)) (own_items j i p.0) ∙ ap (λ (l : List Item). i ∷ l) (own_all j xs p.1)

pub others_none : (j k : ℕ) (xs : List Item) → (k ≡ j → ⊥) → items_by k (records_by j xs) ≡ []
others_none j k [] n = refl
others_none j k (i ∷ xs) n = by_more k j i xs ∙ ap (λ (l : List Item). l ++ items_by k (records_by j xs)) (others_items j k i n) ∙ others_none j k xs n

-- ---- what came

pub brings_same : (h : Hearing) → Brings h h.ear (option_to_list h.kept)
brings_same h = record {
  same = ((refl, refl, refl, refl), refl);
  more = [];
  took = sym (append-nil (taken h.ear));
  all = sym (append-nil (option_to_list h.kept));
}

brings_on : (old mid : Hearing) (ear : Ear) (xs ys came : List Item) → Brings old mid.ear (xs ++ option_to_list mid.kept) → Brings mid ear (ys ++ came) → Brings old ear ((xs ++ ys) ++ came)
brings_on old mid ear xs ys came a b =
    let x = a.same in let y = b.same in
    let kept = option_to_list old.kept in
    record {
      same = ((y.0.0 ∙ x.0.0, y.0.1 ∙ x.0.1, y.0.2 ∙ x.0.2, y.0.3 ∙ x.0.3), y.1 ∙ x.1);
      more = a.more ++ b.more;
      took = b.took ∙ ap (λ (l : List Item). l ++ b.more) a.took ∙ append_assoc (taken old.ear) a.more b.more;
      all = append_assoc xs ys came ∙ ap (λ (l : List Item). xs ++ l) b.all ∙ sym (append_assoc xs (option_to_list mid.kept) b.more)
          ∙ ap (λ (l : List Item). l ++ b.more) a.all ∙ append_assoc kept a.more b.more;
    }

-- ---- steps

played_same : (a b : PlainArbiter) (m : Moment Origin) (steps : List CoreStep) → KeepsProgram a b → played_on a steps m ≡ played_on b steps m
played_same a b m steps k =
    let leads : PlainProgram → PlainOptions → Option (Moment Origin) = λ p o. played (code_of p o) o (nodes_of p o) steps m in
    sym (ap (λ (p : PlainProgram). leads p (options_in b)) k.program ∙ ap (λ (o : PlainOptions). leads a.floor.base.program o) k.options)

plays_none : (c : Core) → Plays c c []
plays_none c = λ lines m h.
    record { next = m; leads = last (code_in c.arbiter) (options_in c.arbiter) (nodes_of c.arbiter.floor.base.program (options_in c.arbiter)) m; at = h }

plays_one : (a b : Core) (s : CoreStep) → Makes a b s → Plays a b (s ∷ [])
plays_one a b s makes = λ lines m h.
    let x = makes lines m h in
    let l = code_in a.arbiter in
    let o = options_in a.arbiter in
    let nodes = nodes_of a.arbiter.floor.base.program o in
    record { next = x.next; leads = one_step l o nodes s [] m x.next x.leads ∙ last l o nodes x.next; at = x.at }

plays_both : (a b c : Core) (xs ys : List CoreStep) → Plays a b xs → KeepsProgram a.arbiter b.arbiter → Plays b c ys → Plays a c (xs ++ ys)
plays_both a b c xs ys p k q = λ lines m h.
    let x = p lines m h in
    let y = q lines x.next x.at in
    let l = code_in a.arbiter in
    let o = options_in a.arbiter in
    let nodes = nodes_of a.arbiter.floor.base.program o in
    record { next = y.next; leads = steps_on l o nodes xs ys m x.next x.leads ∙ played_same a.arbiter b.arbiter x.next ys k ∙ y.leads; at = y.at }

entering_both : (j : ℕ) (xs ys : List Item) → entering j (xs ++ ys) ≡ entering j xs ++ entering j ys
entering_both j [] ys = refl
entering_both j (x ∷ xs) ys = ap (λ (l : List CoreStep). Absorb j x ∷ l) (entering_both j xs ys)

-- ---- hearings

-- nothing entered
pub hears_none : (j : ℕ) (old new : Hearing) (c d : Core) → Brings old new.ear (option_to_list new.kept) → d ≡ c → Hears j old c new d
hears_none j old new c d came e = subst (λ (x : Core). Hears j old c new x) (sym e) (record {
  entered = [];
  came = came;
  sound = refl;
  steps = plays_none c;
  records = sym (append-nil c.arbiter.records);
  kept = record { program = refl; options = refl };
})

pub sound_item : (i : Item) → is_failed i ≡ false → is_fault i ≡ false
sound_item (item.Offered e) h = refl
sound_item (item.Bad n) h = refl
sound_item item.Failed h = absurd (cc)
sound_item item.End h = refl

pub brings_as : (old : Hearing) (ear : Ear) (o p : Option Item) → Brings old ear (option_to_list o) → p ≡ o → Brings old ear (option_to_list p)
brings_as old ear o p b e = subst (λ (x : Option Item). Brings old ear (option_to_list x)) (sym e) b

-- an item that comes back is the one that was to enter
pub back_full : (s : Stand Origin) (i x : Item) (e : Absorbed) → ComesBack s i e → e ≡ Full x → x ≡ i
back_full s i x e h is = (subst (λ (y : Absorbed). ComesBack s i y) is h).0

pub back_memory : (s : Stand Origin) (i x : Item) (e : Absorbed) → ComesBack s i e → e ≡ Memory x → x ≡ i
back_memory s i x e h is = (subst (λ (y : Absorbed). ComesBack s i y) is h).0

records_after : (j : ℕ) (i : Item) (a b : PlainArbiter) → is_fault i ≡ false → b ≡ absorbed j i a → b.records ≡ a.records ++ records_by j (i ∷ [])
records_after j (item.Offered e) a b h is = ap (λ (x : PlainArbiter). x.records) is
records_after j (item.Bad n) a b h is = ap (λ (x : PlainArbiter). x.records) is
records_after j item.Failed a b h is = absurd (cc)
records_after j item.End a b h is = ap (λ (x : PlainArbiter). x.records) is

pub phase_after : (j : ℕ) (i : Item) (a b : PlainArbiter) → b ≡ absorbed j i a → b.phase ≡ a.phase
phase_after j (item.Offered e) a b is = ap (λ (x : PlainArbiter). x.phase) is
phase_after j (item.Bad n) a b is = ap (λ (x : PlainArbiter). x.phase) is
phase_after j item.Failed a b is = ap (λ (x : PlainArbiter). x.phase) is
phase_after j item.End a b is = ap (λ (x : PlainArbiter). x.phase) is

-- an item entered
pub hears_item : (j : ℕ) (old new : Hearing) (i : Item) (c d : Core) → Brings old new.ear (i ∷ []) → new.kept ≡ None → is_fault i ≡ false
    → Makes c d (Absorb j i) → d.arbiter ≡ absorbed j i c.arbiter → KeepsProgram c.arbiter d.arbiter → Hears j old c new d
hears_item j old new i c d came none sound makes is kept = record {
  entered = i ∷ [];
  came = subst (λ (o : Option Item). Brings old new.ear (i ∷ option_to_list o)) (sym none) came;
  sound = or_from (is_fault i) false sound refl;
  steps = plays_one c d (Absorb j i) makes;
  records = records_after j i c.arbiter d.arbiter sound is;
  kept = kept;
}

pub hears_still : (j : ℕ) (h : Hearing) (c : Core) → Hears j h c h c
hears_still j h c = hears_none j h h c c (brings_same h) refl

pub hears_on : (j : ℕ) (old mid new : Hearing) (a b c : Core) → Hears j old a mid b → Hears j mid b new c → Hears j old a new c
hears_on j old mid new a b c x y = record {
  entered = x.entered ++ y.entered;
  came = brings_on old mid new.ear x.entered y.entered (option_to_list new.kept) x.came y.came;
  sound = list_any-append is_fault x.entered y.entered ∙ or_from (has_fault x.entered) (has_fault y.entered) x.sound y.sound;
  steps = subst (λ (l : List CoreStep). Plays a c l) (sym (entering_both j x.entered y.entered))
      (plays_both a b c (entering j x.entered) (entering j y.entered) x.steps x.kept y.steps);
  records = y.records ∙ ap (λ (l : List Record). l ++ records_by j y.entered) x.records ∙ append_assoc a.arbiter.records (records_by j x.entered) (records_by j y.entered)
      ∙ ap (λ (l : List Record). a.arbiter.records ++ l) (sym (filter_map-append (record_by j) x.entered y.entered));
  kept = record { program = (y.kept).program ∙ (x.kept).program; options = (y.kept).options ∙ (x.kept).options };
}

-- what was taken is recorded still
pub still_recorded : (j : ℕ) (old new : Hearing) (a b : Core) → Hears j old a new b → IsRecorded j a.arbiter.records old → IsRecorded j b.arbiter.records new
still_recorded j old new a b h r =
    let before = items_by j a.arbiter.records in
    let after : items_by j b.arbiter.records ≡ before ++ h.entered =
    ap (λ (l : List Record). items_by j l) h.records ∙ filter_map-append (item_by j) a.arbiter.records (records_by j h.entered)
    ∙ ap (λ (l : List Item). before ++ l) (own_all j h.entered h.sound) in
    (h.came).took ∙ ap (λ (l : List Item). l ++ (h.came).more) r ∙ append_assoc before (option_to_list old.kept) (h.came).more
    ∙ ap (λ (l : List Item). before ++ l) (sym (h.came).all) ∙ sym (append_assoc before h.entered (option_to_list new.kept))
    ∙ ap (λ (l : List Item). l ++ option_to_list new.kept) (sym after)

pub others_stay : (j : ℕ) (old new : Hearing) (a b : Core) → Hears j old a new b → AreOthers j a.arbiter.records b.arbiter.records
others_stay j old new a b h = λ k n.
    ap (λ (l : List Record). items_by k l) h.records ∙ filter_map-append (item_by k) a.arbiter.records (records_by j h.entered)
    ∙ ap (λ (l : List Item). items_by k a.arbiter.records ++ l) (others_none j k h.entered n) ∙ append-nil (items_by k a.arbiter.records)

-- ---- all of them

-- one of them was heard further
pub heard_at : {A : Type 0} (hearing : A → Hearing) (before after : List Record) (list : List A) (i : ℕ) (new : A) → i < length list → AreHeard hearing before list
    → IsRecorded i after (hearing new) → AreOthers i before after → AreHeard hearing after (set list i new)
heard_at hearing before after list i new within heard own others = λ k d lt.
    let long : k < length list = subst (λ (n : ℕ). k < n) (length-set list i new) lt in
    dite (ℕ_discrete k i)
    (λ (e : k ≡ i). subst (λ (x : _). IsRecorded k after (hearing x)) (sym (ap (λ n. get_or (set list i new) n d) e ∙ get_or-set_same list i new d within))
    (subst (λ n. IsRecorded n after (hearing new)) (sym e) own))
    (λ (n : k ≢ i). subst (λ (x : _). IsRecorded k after (hearing x)) (sym (get_or-set_other list i k new d n))
    (heard k d long ∙ ap (λ (xs : List Item). xs ++ option_to_list (hearing (get_or list k d)).kept) (sym (others k n))))
