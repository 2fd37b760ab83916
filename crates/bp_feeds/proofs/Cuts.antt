-- How bytes are cut into lines, and what the items of a first line are.
use Rattle.std.proofs.Common.{◌≡◌, ℕ, zero, suc, ◌+◌, ◌<◌, ◌≤◌, Bool, true, false, List, [], ◌∷◌, ◌++◌, Option, Some, None, length, take, drop, option_to_list, refl, sym, ap, ◌∙◌, append_assoc, length-append, length-take-le, arith}
use Rattle.std.specs.Prelude.{◌==◌, ◌||◌, nat_lt, slice_index, if◌then◌else◌}
use Rattle.std.proofs.lemmas.Bool.{or_parts, or_from, or_left, or_right, false_from_ne_true, ltb-true, ltb-false}
use Rattle.std.proofs.lemmas.Bool.Decides.{nat_tests}
use Rattle.std.proofs.lemmas.List.{take-append-drop, drop_all}
use Rattle.std.proofs.lemmas.List.Folds.{list_any-append}
use Rattle.js_data.specs.Event.{PlainEvent}
use Rattle.js_json.specs.Json.{event_at}
use Rattle.bp_log.specs.declared.item.Item.{Item}
use Rattle.bp_log.specs.declared.item.Item.TheVariants.{Bad, Failed}
use Rattle.bp_feeds.specs.declared.limits.TheConstants.{MOST_LINES, MOST_LENGTH}
use Rattle.bp_feeds.specs.Reading.{IsTooLong}
use Rattle.bp_feeds.specs.Items.{is_break, has_break, before_lines, lines_of, before_whole, whole_lines, is_past, is_blank, event_item, is_last, ends, is_end, has_end, has_fault, followed, item_of, items_from}

pub unbroken_both : (xs ys : List ℕ) → has_break xs ≡ false → has_break ys ≡ false → has_break (xs ++ ys) ≡ false
unbroken_both xs ys a b = list_any-append is_break xs ys ∙ or_from (has_break xs) (has_break ys) a b

stopped_at : (n : ℕ) (block : List ℕ) → (n < length block → (rest : List ℕ) × (drop n block ≡ 10 ∷ rest)) → (b : Bool) → nat_lt n (length block) ≡ b → has_break (drop n block) ≡ b
stopped_at n block stops true h = let r = stops (ltb-true n (length block) h) in ap has_break r.1
stopped_at n block stops false h = ap has_break (drop_all n block (ltb-false n (length block) h))

-- after a line without LF, a block has one exactly where what stands before its first stops short of its end
pub breaks_at : (line block : List ℕ) (n : ℕ) → has_break line ≡ false → has_break (take n block) ≡ false → (n < length block → (rest : List ℕ) × (drop n block ≡ 10 ∷ rest)) → nat_lt n (length block) ≡ has_break (line ++ block)
breaks_at line block n unbroken front stops =
    let behind : has_break block ≡ nat_lt n (length block) =
    ap has_break (sym (take-append-drop n block)) ∙ list_any-append is_break (take n block) (drop n block)
    ∙ ap (λ b. b || has_break (drop n block)) front ∙ stopped_at n block stops (nat_lt n (length block)) refl in
    sym (list_any-append is_break line block ∙ ap (λ b. b || has_break block) unbroken ∙ behind)

pub moved : (line block : List ℕ) (n : ℕ) → (line ++ take n block) ++ drop n block ≡ line ++ block
moved line block n = append_assoc line (take n block) (drop n block) ∙ ap (λ l. line ++ l) (take-append-drop n block)

pub lines_at_break : (xs rest : List ℕ) → has_break xs ≡ false → lines_of (xs ++ 10 ∷ rest) ≡ xs ∷ lines_of rest
lines_at_break [] rest h = refl
lines_at_break (b ∷ xs) rest h =
    let p = or_parts (is_break b) (has_break xs) h in
    let n : (b == 10) ≡ false = p.0 in
    rw n (ap (before_lines b) (lines_at_break xs rest p.1))

pub whole_at_break : (xs rest : List ℕ) → has_break xs ≡ false → whole_lines (xs ++ 10 ∷ rest) ≡ xs ∷ whole_lines rest
whole_at_break [] rest h = refl
whole_at_break (b ∷ xs) rest h =
    let p = or_parts (is_break b) (has_break xs) h in
    let n : (b == 10) ≡ false = p.0 in
    rw n (ap (before_whole b) (whole_at_break xs rest p.1))

-- bytes without LF are one line
pub lines_unbroken : (b : ℕ) (xs : List ℕ) → has_break (b ∷ xs) ≡ false → lines_of (b ∷ xs) ≡ (b ∷ xs) ∷ []
lines_unbroken b [] h = let n : (b == 10) ≡ false = (or_parts (is_break b) false h).0 in rw n refl
lines_unbroken b (c ∷ xs) h =
    let p = or_parts (is_break b) (has_break (c ∷ xs)) h in
    let n : (b == 10) ≡ false = p.0 in
    rw n (ap (before_lines b) (lines_unbroken c xs p.1))

-- and no whole line
pub whole_unbroken : (xs : List ℕ) → has_break xs ≡ false → whole_lines xs ≡ []
whole_unbroken [] h = refl
whole_unbroken (b ∷ xs) h =
    let p = or_parts (is_break b) (has_break xs) h in
    let n : (b == 10) ≡ false = p.0 in
    rw n (ap (before_whole b) (whole_unbroken xs p.1))

pub one_more : (b : ℕ) (lines : List (List ℕ)) → (line : List ℕ) × (more : List (List ℕ)) × (before_lines b lines ≡ (b ∷ line) ∷ more)
one_more b [] = ([], [], refl)
one_more b (line ∷ more) = (line, more, refl)

no_break : (b : ℕ) (bytes : List ℕ) → is_break b ≡ false → lines_of (b ∷ bytes) ≡ before_lines b (lines_of bytes)
no_break b bytes h = let n : (b == 10) ≡ false = h in rw n refl

-- the first line goes on from its first bytes
pub first_line : (b : ℕ) (xs rest : List ℕ) → has_break (b ∷ xs) ≡ false
    → (line : List ℕ) × (more : List (List ℕ)) × (lines_of ((b ∷ xs) ++ rest) ≡ ((b ∷ xs) ++ line) ∷ more)
first_line b [] rest h =
    let o = one_more b (lines_of rest) in
    (o.0, o.1, no_break b rest (or_parts (is_break b) false h).0 ∙ o.2)
first_line b (c ∷ xs) rest h =
    let p = or_parts (is_break b) (has_break (c ∷ xs)) h in
    let o = first_line c xs rest p.1 in
    (o.0, o.1, no_break b ((c ∷ xs) ++ rest) p.0 ∙ ap (before_lines b) o.2)

pub followed_more : (item : Option Item) (tail : List Item) → ends item ≡ false → followed item tail ≡ option_to_list item ++ tail
followed_more None tail h = refl
followed_more (Some item) tail h = let e : is_last item ≡ false = h in rw e refl

pub followed_last : (item : Option Item) (tail : List Item) → ends item ≡ true → followed item tail ≡ option_to_list item
followed_last None tail h = cc
followed_last (Some item) tail h = let e : is_last item ≡ true = h in rw e refl

-- a line that is too long is bad
pub past_is_bad : (number : ℕ) (line : List ℕ) → MOST_LENGTH < length line → item_of number line ≡ Some (Bad number)
unfolding item_of
past_is_bad number line long =
    let much : nat_lt MOST_LENGTH (length line) ≡ true = grind (arith, nat_tests) in
    let e : is_past number line ≡ true = or_right (nat_lt MOST_LINES number) (nat_lt MOST_LENGTH (length line)) much in
    rw e refl

-- and so is one whose number is past the limit
pub many_is_bad : (number : ℕ) (line : List ℕ) → MOST_LINES < number → item_of number line ≡ Some (Bad number)
unfolding item_of
many_is_bad number line many =
    let much : nat_lt MOST_LINES number ≡ true = grind (arith, nat_tests) in
    let e : is_past number line ≡ true = or_left (nat_lt MOST_LINES number) (nat_lt MOST_LENGTH (length line)) much in
    rw e refl

not_past : (number : ℕ) (line : List ℕ) → number ≤ MOST_LINES → length line ≤ MOST_LENGTH → is_past number line ≡ false
not_past number line few short =
    let a : nat_lt MOST_LINES number ≡ false = grind (arith, nat_tests) in
    let b : nat_lt MOST_LENGTH (length line) ≡ false = grind (arith, nat_tests) in
    or_from (nat_lt MOST_LINES number) (nat_lt MOST_LENGTH (length line)) a b

pub judged_blank : (number : ℕ) (line : List ℕ) → number ≤ MOST_LINES → length line ≤ MOST_LENGTH → is_blank line ≡ true → None ≡ item_of number line
unfolding item_of
judged_blank number line few short blank =
    let e : is_past number line ≡ false = not_past number line few short in
    rw (e, blank) refl

pub judged_event : (number : ℕ) (line : List ℕ) (o : Option PlainEvent) → number ≤ MOST_LINES → length line ≤ MOST_LENGTH → is_blank line ≡ false → event_at line ≡ o
    → Some (event_item number o) ≡ item_of number line
unfolding item_of
judged_event number line o few short blank at =
    let e : is_past number line ≡ false = not_past number line few short in
    rw (e, blank) (ap (λ x. Some (event_item number x)) (sym at))

within_in : (past blank : Bool) (o : Option PlainEvent) (n : ℕ) → ends (if past then Some (Bad n) else (if blank then None else Some (event_item n o))) ≡ false → past ≡ false
within_in true blank o n h = h
within_in false blank o n h = refl

-- a line that goes on has a number within the limit
pub counted : (number : ℕ) (line : List ℕ) (item : Option Item) → item ≡ item_of number line → ends item ≡ false → number ≤ MOST_LINES
unfolding item_of
counted number line item is e =
    let past : is_past number line ≡ false = within_in (is_past number line) (is_blank line) (event_at line) number (ap ends (sym is) ∙ e) in
    let few : nat_lt MOST_LINES number ≡ false = (or_parts (nat_lt MOST_LINES number) (nat_lt MOST_LENGTH (length line)) past).0 in
    grind (arith, nat_tests)

sound_in : (past blank : Bool) (o : Option PlainEvent) (n : ℕ) → has_fault (option_to_list (if past then Some (Bad n) else (if blank then None else Some (event_item n o)))) ≡ false
sound_in true blank o n = refl
sound_in false true o n = refl
sound_in false false None n = refl
sound_in false false (Some e) n = refl

-- no line is a fault of the source
pub sound : (number : ℕ) (line : List ℕ) (item : Option Item) → item ≡ item_of number line → has_fault (option_to_list item) ≡ false
unfolding item_of
sound number line item is = ap (λ i. has_fault (option_to_list i)) is ∙ sound_in (is_past number line) (is_blank line) (event_at line) number

unended_in : (past blank : Bool) (o : Option PlainEvent) (n : ℕ) → has_end (option_to_list (if past then Some (Bad n) else (if blank then None else Some (event_item n o)))) ≡ false
unended_in true blank o n = refl
unended_in false true o n = refl
unended_in false false None n = refl
unended_in false false (Some e) n = refl

-- no line is the end
pub unended : (number : ℕ) (line : List ℕ) (item : Option Item) → item ≡ item_of number line → has_end (option_to_list item) ≡ false
unfolding item_of
unended number line item is = ap (λ i. has_end (option_to_list i)) is ∙ unended_in (is_past number line) (is_blank line) (event_at line) number

unended_step : (t : Bool) (item : Item) (tail : List Item) → has_end (item ∷ []) ≡ false → has_end tail ≡ false → has_end (if t then item ∷ [] else item ∷ tail) ≡ false
unended_step true item tail h k = h
unended_step false item tail h k = or_from (is_end item) (has_end tail) (or_parts (is_end item) false h).0 k

unended_more : (i : Option Item) (tail : List Item) → has_end (option_to_list i) ≡ false → has_end tail ≡ false → has_end (followed i tail) ≡ false
unended_more None tail h k = k
unended_more (Some item) tail h k = unended_step (is_last item) item tail h k

-- where a fault is last there is not an end
pub unended_lines : (lines : List (List ℕ)) (number : ℕ) → has_end (items_from lines number Failed) ≡ false
unended_lines [] number = refl
unended_lines (line ∷ lines) number =
    unended_more (item_of number line) (items_from lines (number + 1) Failed) (unended number line (item_of number line) refl) (unended_lines lines (number + 1))

pub unended_both : (xs ys : List Item) → has_end xs ≡ false → has_end ys ≡ false → has_end (xs ++ ys) ≡ false
unended_both xs ys a b = list_any-append is_end xs ys ∙ or_from (has_end xs) (has_end ys) a b

-- bytes before the first LF
pub front_taken : (bytes : List ℕ) (n : ℕ) → ((k : ℕ) → 0 ≤ k → k < n → ¬ (is_break (slice_index bytes k) ≡ true)) → has_break (take n bytes) ≡ false
front_taken [] zero h = refl
front_taken [] (suc n) h = refl
front_taken (b ∷ bytes) zero h = refl
front_taken (b ∷ bytes) (suc n) h =
    or_from (is_break b) (has_break (take n bytes)) (false_from_ne_true (is_break b) (h 0 (omega arith) (omega arith)))
    (front_taken bytes n (λ k l m. h (suc k) (omega arith) (omega arith)))

pub too_long_front : (line block rest : List ℕ) (n : ℕ) → rest ≡ block → has_break line ≡ false → has_break (take n rest) ≡ false → n ≤ length rest
    → MOST_LENGTH < length line + n → IsTooLong (line ++ block)
too_long_front line block rest n e u v within long = record {
  front = line ++ take n rest;
  behind = drop n rest;
  all = ap (λ b. line ++ b) (sym e) ∙ sym (moved line rest n);
  unbroken = unbroken_both line (take n rest) u v;
  long = omega (arith, long, within, length-append line (take n rest), length-take-le n rest within);
}

-- what is held once a line and its LF were taken
pub held_behind : (line block skipped more : List ℕ) → line ≡ [] → skipped ≡ drop 1 block → block ≡ 10 ∷ more → line ++ skipped ≡ more
held_behind line block skipped more e s b = ap (λ l. l ++ skipped) e ∙ s ∙ ap (drop 1) b

pub unbroken_behind : (line block : List ℕ) → has_break line ≡ false → block ≡ [] → has_break (line ++ block) ≡ false
unbroken_behind line block u e = unbroken_both line block u (ap has_break e)
