-- What each step of a reading keeps.
use Rattle.std.proofs.Common.{◌≡◌, ℕ, ◌+◌, ◌<◌, ◌≤◌, true, false, List, [], ◌∷◌, ◌++◌, Option, Some, None, length, option_to_list, inr, refl, sym, ap, ◌∙◌, subst, append_assoc, append-nil, length-append, unwrap_or, arith}
use Rattle.std.specs.Prelude.{nat_lt, IfSome}
use Rattle.std.proofs.lemmas.Bool.{or_parts, or_from}
use Rattle.std.proofs.lemmas.Bool.Decides.{nat_tests}
use Rattle.std.proofs.lemmas.List.Folds.{list_any-append}
use Rattle.bp_base.specs.Pieces.{Gives}
use Rattle.bp_base.proofs.Appending.{gives-on}
use Rattle.bp_log.specs.declared.item.Item.{Item}
use Rattle.bp_log.specs.declared.item.Item.TheVariants.{Bad, Failed, End}
use Rattle.bp_feeds.specs.declared.limits.TheConstants.{MOST_LENGTH, MOST_READ}
use Rattle.bp_feeds.specs.declared.reached.Reached.{Reached}
use Rattle.bp_feeds.specs.declared.reached.Reached.TheVariants.{Within, Last, Ended, Broken, Faulted}
use Rattle.bp_feeds.specs.Items.{has_break, has_line, is_end, has_end, lines_of, whole_lines, ends, followed, item_of, items_from, items, items_before_fault}
use Rattle.bp_feeds.specs.Reading.{Reading, IsBetweenLines, IsAll, IsBroken, HasReached, HasRead, ReadsOn, ReadsLast, IsSameReading, IsSameToEnd, IsTooLong}
use Rattle.bp_feeds.proofs.Cuts.{unended, unended_lines, unended_both, lines_at_break, whole_at_break, lines_unbroken, whole_unbroken, first_line, followed_more, followed_last, past_is_bad}
use Rattle.bp_feeds.proofs.Behind.{whole_behind, lines_follow, whole_follow}

-- ---- what comes of a source

-- what is left, or nothing where it is not told
abbrev pub rest_of : Option (List ℕ) → List ℕ
rest_of left = unwrap_or left []

pub all_with_rest : (start : Option (List ℕ)) (took : List ℕ) (left : Option (List ℕ)) → Gives start took left → IsAll start (took ++ rest_of left)
all_with_rest None took left g = tt
all_with_rest (Some b) took None g = absurd g
all_with_rest (Some b) took (Some l) g = g

-- ---- a reading by its parts

to_parts : (start : Option (List ℕ)) (took : List ℕ) (given : List Item) (r : Reading) (k : Reached) (held : List ℕ) → r.reached ≡ k → r.held ≡ held
    → HasRead start took given r → HasReached k start took given r.number held
to_parts start took given r k held e1 e2 h =
    subst (λ x. HasReached k start took given r.number x) e2 (subst (λ j. HasReached j start took given r.number r.held) e1 h.is)

from_parts : (start : Option (List ℕ)) (took : List ℕ) (given : List Item) (r : Reading) (k : Reached) (held : List ℕ) (number : ℕ) (left : Option (List ℕ))
    → r.reached ≡ k → r.held ≡ held → r.number ≡ number → r.left ≡ left → Gives start took left → HasReached k start took given number held → HasRead start took given r
from_parts start took given r k held number left e1 e2 e3 e4 g h = record {
  taken = subst (λ o. Gives start took o) (sym e4) g;
  is = subst (λ j. HasReached j start took given r.number r.held) (sym e1)
      (subst (λ x. HasReached k start took given r.number x) (sym e2)
      (subst (λ n. HasReached k start took given n held) (sym e3) h));
}

-- a step for which no byte came
of_held : (old new : Reading) (more : List Item)
    → ((start : Option (List ℕ)) (took : List ℕ) (given : List Item) → HasRead start took given old → HasRead start took (given ++ more) new) → ReadsOn old more new
of_held old new more f = record {
  came = [];
  on = λ start took given h. subst (λ t. HasRead start t (given ++ more) new) (sym (append-nil took)) (f start took given h);
}

-- ---- a line with its LF

passes : (took : List ℕ) (given : List Item) (line more : List ℕ) (number : ℕ) (item : Option Item) → has_break line ≡ false → item ≡ item_of number line → ends item ≡ false
    → IsBetweenLines took given number (line ++ 10 ∷ more) → IsBetweenLines took (given ++ option_to_list item) (number + 1) more
passes took given line more number item u is e w =
    let lf : List ℕ = line ++ 10 ∷ [] in
    let one : whole_lines lf ≡ line ∷ [] = whole_at_break line [] u in
    let count : length (whole_lines (w.passed ++ lf)) ≡ length (whole_lines w.passed) + 1 =
    ap length (whole_behind w.passed lf w.whole ∙ ap (λ l. whole_lines w.passed ++ l) one) ∙ length-append (whole_lines w.passed) (line ∷ []) in
    record {
      passed = w.passed ++ lf;
      all = w.all ∙ ap (λ l. w.passed ++ l) (sym (append_assoc line (10 ∷ []) more)) ∙ sym (append_assoc w.passed lf more);
      whole = inr (w.passed ++ line, sym (append_assoc w.passed line (10 ∷ [])));
      counted = omega (arith, count, w.counted);
      good = append_assoc given (option_to_list item) (Failed ∷ [])
          ∙ ap (λ l. given ++ l) (sym (followed_more item (Failed ∷ []) e))
          ∙ ap (λ i. given ++ followed i (Failed ∷ [])) is
          ∙ ap (λ c. given ++ items_from c number Failed) (sym one)
          ∙ whole_follow took given number (line ++ 10 ∷ more) w lf Failed;
    }

-- among the items so far is not an end
pub within_unended : (took : List ℕ) (given : List Item) (number : ℕ) (held : List ℕ) → IsBetweenLines took given number held → has_end given ≡ false
within_unended took given number held w =
    let all : has_end (given ++ Failed ∷ []) ≡ false = ap has_end w.good ∙ unended_lines (whole_lines w.passed) 1 in
    (or_parts (has_end given) (has_end (Failed ∷ [])) (sym (list_any-append is_end given (Failed ∷ [])) ∙ all)).0

-- a first line, of what is held and follows, that is the last one
breaks : (start : Option (List ℕ)) (took : List ℕ) (given : List Item) (number : ℕ) (held rest line : List ℕ) (lines : List (List ℕ)) (item : Option Item)
    → IsAll start (took ++ rest) → lines_of (held ++ rest) ≡ line ∷ lines → item ≡ item_of number line → ends item ≡ true
    → IsBetweenLines took given number held → IsBroken start took (given ++ option_to_list item)
breaks start took given number held rest line lines item told at is e w =
    let tail = items_from lines (number + 1) End in
    let same : took ++ rest ≡ w.passed ++ (held ++ rest) = ap (λ l. l ++ rest) w.all ∙ append_assoc w.passed held rest in
    record {
      rest = rest;
      told = told;
      all = ap (λ l. given ++ l) (sym (followed_last item tail e))
          ∙ ap (λ i. given ++ followed i tail) is
          ∙ ap (λ c. given ++ items_from c number End) (sym at)
          ∙ lines_follow took given number held w (held ++ rest) End
          ∙ ap items (sym same);
      endless = unended_both given (option_to_list item) (within_unended took given number held w) (unended number line item is);
    }

pub line_passed : (old new : Reading) (line more : List ℕ) (item : Option Item) → old.reached ≡ Within → old.held ≡ line ++ 10 ∷ more → has_break line ≡ false
    → item ≡ item_of old.number line → ends item ≡ false → new.reached ≡ Within → new.held ≡ more → new.number ≡ old.number + 1 → new.left ≡ old.left
    → ReadsOn old (option_to_list item) new
line_passed old new line more item w0 h0 u is e w1 h1 n1 l1 =
    of_held old new (option_to_list item) (λ start took given h.
    from_parts start took (given ++ option_to_list item) new Within more (old.number + 1) old.left w1 h1 n1 l1 h.taken
    (passes took given line more old.number item u is e (to_parts start took given old Within (line ++ 10 ∷ more) w0 h0 h)))

pub line_broken : (old new : Reading) (line more : List ℕ) (item : Option Item) → old.reached ≡ Within → old.held ≡ line ++ 10 ∷ more → has_break line ≡ false
    → item ≡ item_of old.number line → ends item ≡ true → new.reached ≡ Broken → new.left ≡ old.left
    → ReadsOn old (option_to_list item) new
line_broken old new line more item w0 h0 u is e w1 l1 =
    of_held old new (option_to_list item) (λ start took given h.
    let rest = rest_of old.left in
    let at : lines_of ((line ++ 10 ∷ more) ++ rest) ≡ line ∷ lines_of (more ++ rest) = ap lines_of (append_assoc line (10 ∷ more) rest) ∙ lines_at_break line (more ++ rest) u in
    from_parts start took (given ++ option_to_list item) new Broken new.held new.number old.left w1 refl refl l1 h.taken
    (breaks start took given old.number (line ++ 10 ∷ more) rest line (lines_of (more ++ rest)) item (all_with_rest start took old.left h.taken) at is e
    (to_parts start took given old Within (line ++ 10 ∷ more) w0 h0 h)))

-- ---- a line that is too long

long_first : (front rest : List ℕ) → has_break front ≡ false → 0 < length front
    → (line : List ℕ) × (more : List (List ℕ)) × (lines_of (front ++ rest) ≡ (front ++ line) ∷ more)
long_first [] rest u some = absurd (omega arith)
long_first (b ∷ xs) rest u some = first_line b xs rest u

pub too_long : (old new : Reading) → old.reached ≡ Within → IsTooLong old.held → new.reached ≡ Broken → new.left ≡ old.left → ReadsOn old (Bad old.number ∷ []) new
too_long old new w0 long w1 l1 =
    of_held old new (Bad old.number ∷ []) (λ start took given h.
    let rest = rest_of old.left in
    let o = long_first long.front (long.behind ++ rest) long.unbroken (omega (arith, long.long)) in
    let longer : MOST_LENGTH < length (long.front ++ o.0) = omega (arith, long.long, length-append long.front o.0) in
    let at : lines_of (old.held ++ rest) ≡ (long.front ++ o.0) ∷ o.1 = ap (λ b. lines_of (b ++ rest)) long.all ∙ ap lines_of (append_assoc long.front long.behind rest) ∙ o.2 in
    from_parts start took (given ++ Bad old.number ∷ []) new Broken new.held new.number old.left w1 refl refl l1 h.taken
    (breaks start took given old.number old.held rest (long.front ++ o.0) o.1 (Some (Bad old.number)) (all_with_rest start took old.left h.taken) at
    (sym (past_is_bad old.number (long.front ++ o.0) longer)) refl (to_parts start took given old Within old.held w0 refl h)))

-- ---- a fault

pub faulted : (old new : Reading) → old.reached ≡ Within → has_break old.held ≡ false → new.reached ≡ Faulted → new.left ≡ old.left → ReadsOn old (Failed ∷ []) new
faulted old new w0 u w1 l1 =
    of_held old new (Failed ∷ []) (λ start took given h.
    let w : IsBetweenLines took given old.number old.held = to_parts start took given old Within old.held w0 refl h in
    let is : given ++ Failed ∷ [] ≡ items_before_fault took =
    ap (λ c. given ++ items_from c old.number Failed) (sym (whole_unbroken old.held u))
    ∙ whole_follow took given old.number old.held w old.held Failed
    ∙ ap items_before_fault (sym w.all) in
    from_parts start took (given ++ Failed ∷ []) new Faulted new.held new.number old.left w1 refl refl l1 h.taken is)

-- ---- the end

last_lines : (line : List ℕ) → has_break line ≡ false → 0 < length line → lines_of (line ++ []) ≡ line ∷ []
last_lines [] u some = absurd (omega arith)
last_lines (b ∷ xs) u some = ap lines_of (append-nil (b ∷ xs)) ∙ lines_unbroken b xs u

pub last_passed : (old new : Reading) (line : List ℕ) (item : Option Item) → old.reached ≡ Within → old.held ≡ line → has_break line ≡ false → 0 < length line
    → item ≡ item_of old.number line → ends item ≡ false → new.reached ≡ Last → new.left ≡ old.left
    → ReadsLast old (option_to_list item) new
last_passed old new line item w0 h0 u some is e w1 l1 = record {
  on = λ start took given all h.
      let w : IsBetweenLines took given old.number line = to_parts start took given old Within line w0 h0 h in
      let read : (given ++ option_to_list item) ++ End ∷ [] ≡ items took =
      append_assoc given (option_to_list item) (End ∷ [])
      ∙ ap (λ t. given ++ t) (sym (followed_more item (End ∷ []) e))
      ∙ ap (λ i. given ++ followed i (End ∷ [])) is
      ∙ ap (λ c. given ++ items_from c old.number End) (sym (last_lines line u some))
      ∙ ap (λ b. given ++ items_from (lines_of b) old.number End) (append-nil line)
      ∙ lines_follow took given old.number line w line End
      ∙ ap items (sym w.all) in
      from_parts start took (given ++ option_to_list item) new Last new.held new.number old.left w1 refl refl l1 h.taken (read, all);
}

pub last_broken : (old new : Reading) (line : List ℕ) (item : Option Item) → old.reached ≡ Within → old.held ≡ line → has_break line ≡ false → 0 < length line
    → item ≡ item_of old.number line → ends item ≡ true → new.reached ≡ Broken → new.left ≡ old.left
    → ReadsLast old (option_to_list item) new
last_broken old new line item w0 h0 u some is e w1 l1 = record {
  on = λ start took given all h.
      from_parts start took (given ++ option_to_list item) new Broken new.held new.number old.left w1 refl refl l1 h.taken
      (breaks start took given old.number line [] line [] item (subst (λ t. IsAll start t) (sym (append-nil took)) all) (last_lines line u some) is e
      (to_parts start took given old Within line w0 h0 h));
}

pub end_told : (old new : Reading) → old.reached ≡ Within → old.held ≡ [] → new.reached ≡ Ended → new.left ≡ old.left → ReadsLast old (End ∷ []) new
end_told old new w0 h0 w1 l1 = record {
  on = λ start took given all h.
      let w : IsBetweenLines took given old.number [] = to_parts start took given old Within [] w0 h0 h in
      from_parts start took (given ++ End ∷ []) new Ended new.held new.number old.left w1 refl refl l1 h.taken
      (lines_follow took given old.number [] w [] End ∙ ap items (sym w.all), all);
}

-- ---- more bytes of the same

pub same_read : (start : Option (List ℕ)) (took : List ℕ) (given : List Item) (a b : Reading) (s : IsSameReading a b) → HasRead start took given a → HasRead start (took ++ s.came) given b
same_read start took given a b s h =
    let w : IsBetweenLines took given a.number a.held = to_parts start took given a Within a.held s.was refl h in
    from_parts start (took ++ s.came) given b Within (a.held ++ s.came) a.number b.left s.is s.held s.number refl (gives-on start a.left b.left took s.came h.taken s.given)
    (record {
      passed = w.passed;
      all = ap (λ l. l ++ s.came) w.all ∙ append_assoc w.passed a.held s.came;
      whole = w.whole;
      counted = w.counted;
      good = w.good;
    })

-- what is read after more bytes came
pub after_same : (old mid new : Reading) (more : List Item) → IsSameReading old mid → ReadsOn mid more new → ReadsOn old more new
after_same old mid new more s r = record {
  came = s.came ++ r.came;
  on = λ start took given h. subst (λ t. HasRead start t (given ++ more) new) (append_assoc took s.came r.came)
      (r.on start (took ++ s.came) given (same_read start took given old mid s h));
}

all_came : (start : Option (List ℕ)) (took : List ℕ) (left : Option (List ℕ)) (came : List ℕ) → Gives start took left → IsAll left came → IsAll start (took ++ came)
all_came None took left came g a = tt
all_came (Some b) took None came g a = absurd g
all_came (Some b) took (Some l) came g a = g ∙ ap (λ x. took ++ x) a

pub after_last : (old mid new : Reading) (more : List Item) → IsSameToEnd old mid → ReadsLast mid more new → ReadsOn old more new
after_last old mid new more s r = record {
  came = s.same.came;
  on = λ start took given h.
      r.on start (took ++ s.same.came) given (all_came start took old.left s.same.came h.taken s.all) (same_read start took given old mid s.same h);
}

pub same_held : (a b c : Reading) → IsSameReading a b → c.held ≡ b.held → c.number ≡ b.number → c.reached ≡ b.reached → c.left ≡ b.left → IsSameReading a c
same_held a b c s held number reached left = record {
  was = s.was;
  is = reached ∙ s.is;
  number = number ∙ s.number;
  came = s.came;
  held = held ∙ s.held;
  given = subst (λ o. Gives a.left s.came o) (sym left) s.given;
  stops = s.stops;
}

-- a line without LF that is not too long is no whole line
pub no_line : (line block : List ℕ) → has_break line ≡ false → length line ≤ MOST_LENGTH → block ≡ [] → has_line (line ++ block) ≡ false
no_line line block u few e =
    or_from (has_break (line ++ block)) (nat_lt MOST_LENGTH (length (line ++ block)))
    (ap (λ b. has_break (line ++ b)) e ∙ ap has_break (append-nil line) ∙ u)
    (ap (λ b. nat_lt MOST_LENGTH (length (line ++ b))) e ∙ ap (λ l. nat_lt MOST_LENGTH (length l)) (append-nil line) ∙ grind (arith, nat_tests))

-- a block that came after a line without LF
pub filled : (a b c : Reading) (line block : List ℕ) → IsSameReading a b → line ++ [] ≡ b.held → c.held ≡ line ++ block → c.number ≡ b.number → c.reached ≡ b.reached
    → Gives b.left block c.left → has_line b.held ≡ false → length block ≤ MOST_READ → IsSameReading a c
filled a b c line block s e held number reached g whole short = record {
  was = s.was;
  is = reached ∙ s.is;
  number = number ∙ s.number;
  came = s.came ++ block;
  held = held ∙ ap (λ l. l ++ block) (sym (append-nil line) ∙ e ∙ s.held) ∙ append_assoc a.held s.came block;
  given = gives-on a.left b.left c.left s.came block s.given g;
  stops = inr (record { front = s.came; block = block; all = refl; unended = ap has_line (sym s.held) ∙ whole; short = short });
}

nothing_more : (a : Option (List ℕ)) (came : List ℕ) (b : Option (List ℕ)) → Gives a came b → IfSome b (λ x. x ≡ []) → IsAll a came
nothing_more None came b g e = tt
nothing_more (Some x) came None g e = absurd g
nothing_more (Some x) came (Some y) g e = g ∙ ap (λ l. came ++ l) e ∙ append-nil came

-- no block came after a line without LF
pub filled_last : (a b c : Reading) (line block : List ℕ) → IsSameReading a b → line ++ [] ≡ b.held → c.held ≡ line ++ block → c.number ≡ b.number → c.reached ≡ b.reached
    → Gives b.left block c.left → has_line b.held ≡ false → length block ≤ MOST_READ → block ≡ [] → IfSome b.left (λ x. x ≡ []) → IsSameToEnd a c
unfolding filled
filled_last a b c line block s e held number reached g whole short none end = record {
  same = filled a b c line block s e held number reached g whole short;
  all = subst (λ l. IsAll a.left l) (sym (ap (λ l. s.came ++ l) none ∙ append-nil s.came)) (nothing_more a.left s.came b.left s.given end);
}
