-- Every run is the beginning of a complete story over the same inputs.
use Rattle.std.proofs.Common.{◌≡◌, ℕ, Bool, true, false, List, [], ◌∷◌, ◌++◌, length, map, refl, sym, ap, subst, ◌∙◌, append_assoc, append-nil, Option, Some, None, if◌then◌else◌, option_map}
use Rattle.std.specs.Prelude.{IsSome, IsSomeAnd, slice_get, slice_index_or, ◌+◌}
use Rattle.std.specs.List.{All}
use Rattle.std.proofs.lemmas.List.{length-map}
use Rattle.std.proofs.lemmas.List.Elements.{All-map, length_all_zip}
use Rattle.std.proofs.lemmas.Option.{same_Some, slice_get-map}
use mathlib.Core.List.{IsPrefix}
use Rattle.js_data.specs.Event.{PlainEvent}
use Rattle.js_program.specs.PlainProgram.{PlainProgram}
use Rattle.bp_base.specs.Pieces.{Appends, AppendsFront}
use Rattle.bp_base.specs.Worlds.{Holdings}
use Rattle.bp_log.specs.Options.{PlainOptions}
use Rattle.bp_log.specs.declared.item.Item.{Item}
use Rattle.bp_log.specs.declared.item.Item.TheVariants.{Bad, End}
use Rattle.bp_log.specs.declared.record.Record.{Record}
use Rattle.bp_feeds.specs.Items.{is_past, is_blank, event_item, item_of, followed, items_from, lines_of, items}
use Rattle.bp_steps.specs.Merging.{items_by}
use Rattle.bp_run.specs.Bodies.{Code}
use Rattle.bp_run.specs.Configuration.{Configuration}
use Rattle.bp_run.specs.Story.{story}
use Rattle.bp_run.specs.Text.{text}
use Rattle.bp_run.proofs.Stories.{text_prefix}
use Rattle.bp_code.specs.Code.{code_of, text_of}
use Rattle.bp_complete.specs.Completions.{AreBrought, MergesBrought}
use Rattle.bp_complete.proofs.Completing.{completes}
use Rattle.bp_args.specs.declared.command.Run.{Run}
use Rattle.bp_loading.specs.Loading.{IsUnder}
use Rattle.bp_cli.specs.Outside.{Outside}
use Rattle.bp_cli.specs.Injected.{AreUnder}
use Rattle.bp_cli.specs.Runs.{IsBeginning}
use Rattle.bp_session.specs.Merges.{Merge}

-- ---- what bytes bring

line_brings : (past blank : Bool) (number : ℕ) (e : Option PlainEvent) (tail : List Item) → AreBrought tail → AreBrought (followed (if past then Some (Bad number) else (if blank then None else Some (event_item number e))) tail)
line_brings true blank number e tail h = refl
line_brings false true number e tail h = h
line_brings false false number None tail h = refl
line_brings false false number (Some e) tail h = h

lines_bring : (lines : List (List ℕ)) (number : ℕ) → AreBrought (items_from lines number End)
unfolding item_of
lines_bring [] number = refl
lines_bring (line ∷ lines) number = line_brings (is_past number line) (is_blank line) number _ (items_from lines (number + 1) End) (lines_bring lines (number + 1))

bytes_bring : (inputs : List (List ℕ)) → All AreBrought (map items inputs)
bytes_bring inputs = All-map AreBrought items inputs (λ k d h. lines_bring (lines_of (slice_index_or inputs k d)) 1)

-- ---- merges of bytes, and of their items

input_of : (o : Option (List ℕ)) (own : List Item) → option_map items o ≡ Some own → (bytes : List ℕ) × (o ≡ Some bytes) × (items bytes ≡ own)
input_of None own h = absurd (cc)
input_of (Some bytes) own h = (bytes, refl, same_Some (items bytes) own h)

brought_merged : (records : List Record) (inputs : List (List ℕ)) → Merge records inputs → MergesBrought records (map items inputs)
brought_merged records inputs m = λ j own h.
    let b = input_of (slice_get inputs j) own (sym (slice_get-map items inputs j) ∙ h) in
    subst (λ (xs : List Item). IsPrefix (items_by j records) xs) b.2 (m j b.0 b.1)

merged_bytes : (records : List Record) (inputs : List (List ℕ)) → MergesBrought records (map items inputs) → Merge records inputs
merged_bytes records inputs m = λ j bytes h. m j (items bytes) (slice_get-map items inputs j ∙ ap (λ (o : Option (List ℕ)). option_map items o) h)

-- ---- the beginning of a story

front_on : (before after : Option (List ℕ)) (front rest whole : List ℕ) → whole ≡ front ++ rest → AppendsFront before front after → AppendsFront before whole after
front_on before after front rest whole e a = (a.0, a.1 ++ rest, e ∙ ap (λ (t : List ℕ). t ++ rest) a.2 ∙ append_assoc a.0 a.1 rest, a.3)

prints_on : (program : PlainProgram) (o : PlainOptions) (records later : List Record) (before after : Option (List ℕ)) → (whole : Option (List ℕ)) → text_of program o (records ++ later) ≡ whole → IsSome whole →
    IsSomeAnd (text_of program o records) (λ t. AppendsFront before t after) → IsSomeAnd whole (λ t. AppendsFront before t after)
prints_on program o records later before after None e s p = absurd (cc)
prints_on program o records later before after (Some whole) e s p =
    let t = text_prefix (code_of program o) o records later whole e in
    front_on before after t.0 t.1 whole t.3 (subst (λ (x : Option (List ℕ)). IsSomeAnd x (λ y. AppendsFront before y after)) t.2 p)

-- a story has a text
told : {O S : Type 0} (l : Code O S) (o : PlainOptions) (records : List Record) (c : Configuration O) → story l o records ≡ Some c → IsSome (text l o records)
unfolding text
told l o records c h = rw h refl

mapped_some : {A : Type 0} (f : A → List ℕ) (o : Option A) (P : List ℕ → Type 0) → IsSomeAnd (option_map f o) P → (x : A) × (o ≡ Some x)
mapped_some f None P h = absurd h
mapped_some f (Some x) P h = (x, refl)

-- and what has a text is a story
tells : {O S : Type 0} (l : Code O S) (o : PlainOptions) (records : List Record) (P : List ℕ → Type 0) → IsSomeAnd (text l o records) P → (c : Configuration O) × (story l o records ≡ Some c)
unfolding text
tells l o records P h = mapped_some _ (story l o records) P h

pub as_many : (holds : Option Holdings) (names inputs : List (List ℕ)) → AreUnder holds names inputs → length inputs ≡ length names
as_many holds names inputs u = sym (length_all_zip (IsUnder holds) names inputs u)

-- all of a text is a front of it
pub appended_front : (o before after : Option (List ℕ)) → IsSomeAnd o (λ t. Appends before t after) → IsSomeAnd o (λ t. AppendsFront before t after)
appended_front None before after h = absurd h
appended_front (Some t) before after h = (t, [], sym (append-nil t), h)

pub beginning : (asked : Run) (program : PlainProgram) (records : List Record) (inputs : List (List ℕ)) (before after : Outside) → length inputs ≡ asked.options.injectors → Merge records inputs →
    IsSomeAnd (text_of program asked.options records) (λ t. AppendsFront before.printed t after.printed) → IsBeginning asked program records inputs before after
beginning asked program records inputs before after many m p =
    let o = asked.options in
    let s = tells (code_of program o) o records (λ t. AppendsFront before.printed t after.printed) p in
    let d = completes (code_of program o) o (map items inputs) (length-map inputs items ∙ many) (bytes_bring inputs) records s.0 s.1 (brought_merged records inputs m) in
    record {
      later = d.later;
      complete = d.complete;
      merge = merged_bytes (records ++ d.later) inputs d.merges;
      prints = prints_on program o records d.later before.printed after.printed (text_of program o (records ++ d.later)) refl (told (code_of program o) o (records ++ d.later) d.last d.story) p;
    }
