-- How a feed goes on.
use Rattle.std.proofs.Common.{◌≡◌, ◌⊎◌, ⊎_elim, ℕ, ◌≤◌, true, false, List, [], ◌∷◌, ◌++◌, Option, Some, None, option_to_list, refl, sym, ap, ◌∙◌, subst, append_assoc, append-nil, arith}
use Rattle.std.proofs.lemmas.Bool.{or_cases, or_parts}
use Rattle.std.proofs.lemmas.List.Folds.{list_any-append}
use Rattle.bp_base.specs.Counts.{Rose}
use Rattle.bp_lanes.specs.declared.ends.Mouth.{Mouth}
use Rattle.bp_lanes.specs.Lanes.{offered, IsSameMouth}
use Rattle.bp_log.specs.declared.item.Item.{Item}
use Rattle.bp_feeds.specs.declared.line_reader.LineReader.{LineReader}
use Rattle.bp_feeds.specs.declared.feed.Feed.{Feed}
use Rattle.bp_feeds.specs.Items.{is_fault, has_fault}
use Rattle.bp_feeds.specs.Reading.{Reading, HasRead, ReadsOn, IsSameReading}
use Rattle.bp_feeds.specs.Feeds.{reading_of, given, StandsTo, GoesOn}
use Rattle.bp_feeds.proofs.Within.{same_read}

-- a count that rose has risen when it rises on, and so has one that rises later
pub rose_on : (a b c : ℕ) → Rose a b → a ≤ b → b ≤ c → Rose a c
rose_on a b c r from more = grind arith

pub rose_from : (a b c : ℕ) → Rose b c → a ≤ b → Rose a c
rose_from a b c r from = grind arith

-- nothing was read
pub reads_nothing : (r : Reading) → ReadsOn r [] r
reads_nothing r = record {
  came = [];
  on = λ start took given h. subst (λ l. HasRead start (took ++ []) l r) (sym (append-nil given)) (subst (λ t. HasRead start t given r) (sym (append-nil took)) h);
}

pub reads_same : (old new : Reading) → IsSameReading old new → ReadsOn old [] new
reads_same old new s = record {
  came = s.came;
  on = λ start took given h. subst (λ l. HasRead start (took ++ s.came) l new) (sym (append-nil given)) (same_read start took given old new s h);
}

-- what is read in two steps
pub reads_both : (a b c : Reading) (xs ys : List Item) → ReadsOn a xs b → ReadsOn b ys c → ReadsOn a (xs ++ ys) c
reads_both a b c xs ys r s = record {
  came = r.came ++ s.came;
  on = λ start took given h.
      subst (λ l. HasRead start (took ++ (r.came ++ s.came)) l c) (append_assoc given xs ys)
      (subst (λ t. HasRead start t ((given ++ xs) ++ ys) c) (append_assoc took r.came s.came) (s.on start (took ++ r.came) (given ++ xs) (r.on start took given h)));
}

faults_of : (xs ys : List Item) → has_fault (xs ++ ys) ≡ true → (has_fault xs ≡ true) ⊎ (has_fault ys ≡ true)
faults_of xs ys h = or_cases (has_fault xs) (has_fault ys) (sym (list_any-append is_fault xs ys) ∙ h)

pub sound_parts : (xs ys : List Item) → has_fault (xs ++ ys) ≡ false → (has_fault xs ≡ false) × (has_fault ys ≡ false)
sound_parts xs ys h = or_parts (has_fault xs) (has_fault ys) (sym (list_any-append is_fault xs ys) ∙ h)

same_lane : (a : Mouth) → IsSameMouth a a
same_lane a = ((refl, refl, refl, refl), refl)

lane_on : (a b c : Mouth) → IsSameMouth a b → IsSameMouth b c → IsSameMouth a c
lane_on a b c x y = ((y.0.0 ∙ x.0.0, y.0.1 ∙ x.0.1, y.0.2 ∙ x.0.2, y.0.3 ∙ x.0.3), y.1 ∙ x.1)

module _ {S : Type 0} (left : S → Option (List ℕ)) (faults : S → ℕ) where
  -- a step that gave these items more
  pub goes_more : (old new : Feed S) (more : List Item) → IsSameMouth old.mouth new.mouth → given new ≡ given old ++ more
      → ReadsOn (reading_of left old.lines) more (reading_of left new.lines)
      → (has_fault more ≡ true → Rose (faults old.lines.source) (faults new.lines.source))
      → (has_fault more ≡ false → faults new.lines.source ≡ faults old.lines.source) → faults old.lines.source ≤ faults new.lines.source
      → GoesOn left faults old new
  goes_more old new more lane all reads cause told counts = record { lane = lane; more = more; all = all; reads = reads; cause = cause; told = told; counts = counts }

  -- a step that read nothing
  pub goes_same : (old new : Feed S) → IsSameMouth old.mouth new.mouth → given new ≡ given old → new.lines ≡ old.lines → GoesOn left faults old new
  goes_same old new lane all lines =
      goes_more old new [] lane (all ∙ sym (append-nil (given old)))
      (subst (λ l. ReadsOn (reading_of left old.lines) [] (reading_of left l)) (sym lines) (reads_nothing (reading_of left old.lines)))
      (λ h. cc) (λ h. ap (λ l. faults l.source) lines) (omega (arith, ap (λ l. faults l.source) lines))

  pub gave_item : (old new : Feed S) (item : Item) → old.kept ≡ None → given new ≡ offered old.mouth ++ item ∷ [] → given new ≡ given old ++ item ∷ []
  gave_item old new item none all =
      let gave : given old ≡ offered old.mouth = ap (λ k. offered old.mouth ++ option_to_list k) none ∙ append-nil (offered old.mouth) in
      all ∙ ap (λ l. l ++ item ∷ []) (sym gave)

  -- a step that read an item and offered or kept it
  pub goes_item : (old new : Feed S) (mid : LineReader S) (item : Item) (o : Option Item) → IsSameMouth old.mouth new.mouth → old.kept ≡ None
      → given new ≡ offered old.mouth ++ item ∷ [] → new.lines ≡ mid → o ≡ Some item
      → ReadsOn (reading_of left old.lines) (option_to_list o) (reading_of left mid)
      → (has_fault (option_to_list o) ≡ true → Rose (faults old.lines.source) (faults mid.source))
      → (has_fault (option_to_list o) ≡ false → faults mid.source ≡ faults old.lines.source) → faults old.lines.source ≤ faults mid.source
      → GoesOn left faults old new
  goes_item old new mid item o lane none all lines is reads cause told counts =
      let gave : given old ≡ offered old.mouth = ap (λ k. offered old.mouth ++ option_to_list k) none ∙ append-nil (offered old.mouth) in
      let read : ReadsOn (reading_of left old.lines) (item ∷ []) (reading_of left mid) =
      subst (λ x. ReadsOn (reading_of left old.lines) (option_to_list x) (reading_of left mid)) is reads in
      let caused : has_fault (item ∷ []) ≡ true → Rose (faults old.lines.source) (faults mid.source) =
      subst (λ x. has_fault (option_to_list x) ≡ true → Rose (faults old.lines.source) (faults mid.source)) is cause in
      let spared : has_fault (item ∷ []) ≡ false → faults mid.source ≡ faults old.lines.source =
      subst (λ x. has_fault (option_to_list x) ≡ false → faults mid.source ≡ faults old.lines.source) is told in
      goes_more old new (item ∷ []) lane (all ∙ ap (λ l. l ++ item ∷ []) (sym gave))
      (subst (λ l. ReadsOn (reading_of left old.lines) (item ∷ []) (reading_of left l)) (sym lines) read)
      (subst (λ l. has_fault (item ∷ []) ≡ true → Rose (faults old.lines.source) (faults l.source)) (sym lines) caused)
      (subst (λ l. has_fault (item ∷ []) ≡ false → faults l.source ≡ faults old.lines.source) (sym lines) spared)
      (subst (λ l. faults old.lines.source ≤ faults l.source) (sym lines) counts)

  -- no step
  pub goes_nowhere : (f : Feed S) → GoesOn left faults f f
  goes_nowhere f = goes_same f f (same_lane f.mouth) refl refl

  -- two steps
  pub goes_on : (a b c : Feed S) → GoesOn left faults a b → GoesOn left faults b c → GoesOn left faults a c
  goes_on a b c x y = record {
    lane = lane_on a.mouth b.mouth c.mouth x.lane y.lane;
    more = x.more ++ y.more;
    all = y.all ∙ ap (λ l. l ++ y.more) x.all ∙ append_assoc (given a) x.more y.more;
    reads = reads_both (reading_of left a.lines) (reading_of left b.lines) (reading_of left c.lines) x.more y.more x.reads y.reads;
    cause = λ h. ⊎_elim
        (λ (k : has_fault x.more ≡ true). rose_on (faults a.lines.source) (faults b.lines.source) (faults c.lines.source) (x.cause k) x.counts y.counts)
        (λ (k : has_fault y.more ≡ true). rose_from (faults a.lines.source) (faults b.lines.source) (faults c.lines.source) (y.cause k) x.counts) (faults_of x.more y.more h);
    told = λ h. let p = sound_parts x.more y.more h in y.told p.1 ∙ x.told p.0;
    counts = omega (arith, x.counts, y.counts);
  }

  -- what a feed stands to, it stands to when it went on
  pub stands_on : (start : Option (List ℕ)) (before : List Item) (old new : Feed S) → GoesOn left faults old new → StandsTo left start before old → StandsTo left start before new
  stands_on start before old new g s = record {
    took = s.took ++ g.reads.came;
    gave = s.gave ++ g.more;
    all = g.all ∙ ap (λ l. l ++ g.more) s.all ∙ append_assoc before s.gave g.more;
    read = g.reads.on start s.took s.gave s.read;
  }
