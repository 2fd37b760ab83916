-- Summaries of a run, as the run goes on.
use Rattle.std.proofs.Common.{arith, ◌≡◌, ℕ, ◌<◌, List, [], ◌∷◌, ◌++◌, Bool, true, false, not, nat_lt, ◌-◌, length, take, drop, Option, None, Some, All, refl, sym, ap, ◌∙◌, subst, ◌⊎◌, ⊎_elim, append_assoc, option_map, le_refl, length-append}
use Rattle.std.specs.List.{Contains}
use Rattle.std.proofs.lemmas.Bool.Decides.{nat_tests}
use Rattle.std.proofs.lemmas.List.{take_all, take-append-le, take-append-drop, length-drop}
use Rattle.std.proofs.lemmas.List.Elements.{Contains-append_left, Contains-push, All-append, All-cons, All-nil, All-head, All-contains}
use Rattle.bp_log.specs.Options.{PlainOptions}
use Rattle.bp_log.specs.Records.{is_complete}
use Rattle.bp_log.specs.declared.record.Record.{Record}
use Rattle.bp_log.specs.declared.record.Record.TheVariants.{In, Bad, Eof, Sel, End}
use Rattle.bp_run.specs.Bodies.{Code}
use Rattle.bp_run.specs.Configuration.{Configuration}
use Rattle.bp_run.specs.Story.{story, story_from}
use Rattle.bp_run.specs.Settling.{initial}
use Rattle.bp_run.proofs.Stories.{story_first}
use Rattle.bp_base.specs.Pieces.{Appends, AppendsFront}
use Rattle.bp_base.proofs.Appending.{appends-on}
use Rattle.bp_view.specs.declared.summary.Summary.{Summary}
use Rattle.bp_view.specs.Growing.{is_before, grows, last_of}
use Rattle.bp_view.specs.Lines.{summary_line, summary_lines}
use Rattle.bp_view.specs.Watching.{IsPartWatched, IsViewed}
use Rattle.bp_view.specs.Views.{summary_at, summary_of, IsOfBeginning, AreOfRun, IsWholeViewText}
use Rattle.bp_view.proofs.Growths.{grows_snoc, true_both, has_the_last, has_some, last_snoc, all_before}
use Rattle.bp_view.proofs.Watches.{front_on, one_more}

-- nothing follows complete records in a story
pub nothing_follows : {O S : Type 0} (l : Code O S) (o : PlainOptions) (rs qs : List Record) (c d : Configuration O) → story_from l o (rs ++ qs) c ≡ Some d → is_complete rs ≡ true → qs ≡ []
unfolding story_from
nothing_follows l o [] qs c d h k = absurd (cc)
nothing_follows l o (In j e ∷ rs) qs c d h k = let b = story_first l o (In j e) (rs ++ qs) c d h in nothing_follows l o rs qs b.0 d b.2 k
nothing_follows l o (Bad j n ∷ rs) qs c d h k = let b = story_first l o (Bad j n) (rs ++ qs) c d h in nothing_follows l o rs qs b.0 d b.2 k
nothing_follows l o (Eof j ∷ rs) qs c d h k = let b = story_first l o (Eof j) (rs ++ qs) c d h in nothing_follows l o rs qs b.0 d b.2 k
nothing_follows l o (Sel e ∷ rs) qs c d h k = let b = story_first l o (Sel e) (rs ++ qs) c d h in nothing_follows l o rs qs b.0 d b.2 k
nothing_follows l o (End v ∷ []) [] c d h k = refl
nothing_follows l o (End v ∷ []) (q ∷ qs) c d h k = absurd (cc)
nothing_follows l o (End v ∷ r ∷ rs) qs c d h k = absurd (cc)

module _ {O S : Type 0} (code : Code O S) (o : PlainOptions) where
  -- what is of a beginning of the records is of one of more records
  pub beginning_on : (rs more : List Record) (s : Summary) → IsOfBeginning code o rs s → IsOfBeginning code o (rs ++ more) s
  beginning_on rs more s b = record {
    within = omega (arith, b.within, length-append rs more);
    is = ap (summary_of code o) (take-append-le s.records rs more b.within) ∙ b.is;
  }

  pub run_on : (rs more : List Record) (list : List Summary) → AreOfRun code o rs list → AreOfRun code o (rs ++ more) list
  run_on rs more list a = record {
    each = λ k d h. beginning_on rs more _ (a.each k d h);
    grows = a.grows;
    first = a.first;
    later = a.later;
    begins = a.begins;
    none = a.none;
  }

first_same : {x y : Summary} {xs ys : List Summary} → x ∷ xs ≡ y ∷ ys → x ≡ y
first_same e = cc

still : (b : Bool) → (b ≡ true → ⊥) → b ≡ false
still true h = absurd (h refl)
still false h = refl

is_less : (a b c : ℕ) → b ≡ c → a < b → nat_lt a c ≡ true
is_less a b c e f = grind (arith, nat_tests)

not_so : (m n : ℕ) → m - n ≡ 0 → n < m → ⊥
not_so m n e f = omega arith

module _ {O S : Type 0} (code : Code O S) (o : PlainOptions) where
  there : (rs : List Record) (x : Option (Configuration O)) (s : Summary) → option_map (summary_at rs) x ≡ Some s → (c : Configuration O) × (x ≡ Some c) × (s ≡ summary_at rs c)
  there rs None s e = cc
  there rs (Some c) s e = let q : summary_at rs c ≡ s = cc in (c, refl, sym q)

  all_of : (rs : List Record) (s : Summary) → summary_of code o rs ≡ Some s → s.records ≡ length rs → IsOfBeginning code o rs s
  all_of rs s e n = record {
    within = omega (arith, n);
    is = ap (λ m. summary_of code o (take m rs)) n ∙ ap (summary_of code o) (take_all (length rs) rs (le_refl (length rs))) ∙ e;
  }

  -- a summary of fewer records than the story has is not over
  pub not_over : (rs : List Record) (s t : Summary) → IsOfBeginning code o rs s → summary_of code o rs ≡ Some t → s.records < length rs → s.over ≡ false
  unfolding story
  not_over rs s t b e fewer =
      let n = s.records in
      let p = there (take n rs) (story code o (take n rs)) s b.is in
      let q = there rs (story code o rs) t e in
      let whole : story_from code o (take n rs ++ drop n rs) (initial code o.injectors) ≡ Some q.0 = ap (λ xs. story_from code o xs (initial code o.injectors)) (take-append-drop n rs) ∙ q.1 in
      let over : s.over ≡ is_complete (take n rs) = ap (λ (x : Summary). x.over) p.2 in
      still s.over (λ yes.
      let none : drop n rs ≡ [] = nothing_follows code o (take n rs) (drop n rs) (initial code o.injectors) q.0 whole (sym over ∙ yes) in
      not_so (length rs) n (sym (length-drop n rs) ∙ ap length none) fewer)

  -- the summary of all records is shown
  pub run_more : (rs : List Record) (list : List Summary) (last s : Summary) → AreOfRun code o rs list → last_of list ≡ Some last → summary_of code o rs ≡ Some s → s.records ≡ length rs
      → last.records < length rs → AreOfRun code o rs (list ++ s ∷ [])
  run_more rs list last s a l e n fewer =
      let was = All-contains (IsOfBeginning code o rs) list last a.each (has_the_last list last l) in
      let goes : is_before last s ≡ true = true_both (nat_lt last.records s.records) (not last.over)
      (is_less last.records (length rs) s.records (sym n) fewer) (ap not (not_over rs last s was e fewer)) in record {
        each = All-append (IsOfBeginning code o rs) list (s ∷ []) a.each (All-cons (IsOfBeginning code o rs) s [] (all_of rs s e n) (All-nil (IsOfBeginning code o rs)));
        grows = grows_snoc list last s a.grows l goes;
        first = a.first;
        later = a.later ++ s ∷ [];
        begins = ap (λ xs. xs ++ s ∷ []) a.begins;
        none = a.none;
      }

  -- what was viewed of it is of the run
  pub viewed_run : (rs : List Record) (told later lines : List Summary) (first : Summary) → AreOfRun code o rs told → told ≡ first ∷ later → All (Contains told) lines → grows (first ∷ lines) ≡ true
      → AreOfRun code o rs (first ∷ lines)
  viewed_run rs told later lines first a head among g =
      let same : a.first ≡ first = first_same (sym a.begins ∙ head) in
      let its = All-head (IsOfBeginning code o rs) first later (subst (All (IsOfBeginning code o rs)) head a.each) in record {
        each = All-cons (IsOfBeginning code o rs) first lines its (λ k d h. All-contains (IsOfBeginning code o rs) told _ a.each (among k d h));
        grows = g;
        first = first;
        later = lines;
        begins = refl;
        none = a.none ∙ ap (λ x. Some x) same;
      }

one_first : (s : Summary) (list : List Summary) → summary_lines (s ∷ list) ≡ summary_line s ++ summary_lines list
unfolding summary_lines
one_first s list = refl

front_more : (a b : Option (List ℕ)) (p q : List ℕ) → AppendsFront a p b → AppendsFront a (p ++ q) b
front_more a b p q (front, rest, is, written) = (front, rest ++ q, ap (λ t. t ++ q) is ∙ append_assoc front rest q, written)

head_there : (x : Summary) (xs : List Summary) → Contains (x ∷ xs) x
head_there x xs = Contains-append_left (x ∷ []) xs x (Contains-push [] x)

module _ {O S : Type 0} (code : Code O S) (o : PlainOptions) where
  -- the text of what was viewed to the end, with the first line before it
  pub view_text : (rs : List Record) (first : Summary) (later : List Summary) (start before after : Option (List ℕ)) → AreOfRun code o rs (first ∷ later) → last_of (first ∷ later) ≡ summary_of code o rs
      → Appends start (summary_line first) before → IsViewed first (first ∷ later) before after → (text : List ℕ) × IsWholeViewText code o rs text × Appends start text after
  view_text rs first later start before after a last begun (over, w) =
      let lines = w.these.lines in (
        summary_lines (first ∷ lines),
        record { view = record { shown = first ∷ lines; of_run = viewed_run code o rs (first ∷ later) later lines first a refl w.these.each w.these.grow; lines = refl }; last = w.last ∙ last },
        subst (λ t. Appends start t after) (sym (one_first first lines)) (appends-on start before after (summary_line first) (summary_lines lines) begun w.these.written),
      )

  -- a list of what was told, as a part of one that goes on to the last of it
  to_the_end : (rs : List Record) (first : Summary) (later lines : List Summary) (start after : Option (List ℕ)) (l t : Summary) → AreOfRun code o rs (first ∷ later) → last_of (first ∷ later) ≡ Some t
      → summary_of code o rs ≡ Some t → All (Contains (first ∷ later)) lines → grows (first ∷ lines) ≡ true → last_of (first ∷ lines) ≡ Some l → AppendsFront start (summary_lines (first ∷ lines)) after
      → (l ≡ t) ⊎ (is_before l t ≡ true) → (text : List ℕ) × IsWholeViewText code o rs text × AppendsFront start text after
  to_the_end rs first later lines start after l t a told is among g last written =
      ⊎_elim
      (λ (e : l ≡ t). (
        summary_lines (first ∷ lines),
        record { view = record { shown = first ∷ lines; of_run = viewed_run code o rs (first ∷ later) later lines first a refl among g; lines = refl }; last = last ∙ ap (λ x. Some x) e ∙ sym is },
        written,
      ))
      (λ (e : is_before l t ≡ true).
      let more = lines ++ t ∷ [] in
      let g' : grows (first ∷ more) ≡ true = grows_snoc (first ∷ lines) l t g last e in
      let among' : All (Contains (first ∷ later)) more = All-append (Contains (first ∷ later)) lines (t ∷ []) among (All-cons (Contains (first ∷ later)) t [] (has_the_last (first ∷ later) t told) (All-nil (Contains (first ∷ later)))) in (
        summary_lines (first ∷ more),
        record { view = record { shown = first ∷ more; of_run = viewed_run code o rs (first ∷ later) later more first a refl among' g'; lines = refl }; last = last_snoc (first ∷ lines) t ∙ sym is },
        subst (λ x. AppendsFront start x after) (sym (one_more (first ∷ lines) t)) (front_more start after (summary_lines (first ∷ lines)) (summary_line t) written),
      ))

  -- where a part was viewed, it is a part of such a text
  pub view_part : (rs : List Record) (first : Summary) (later : List Summary) (start before after : Option (List ℕ)) → AreOfRun code o rs (first ∷ later) → last_of (first ∷ later) ≡ summary_of code o rs
      → Appends start (summary_line first) before → IsPartWatched first (first ∷ later) before after → (text : List ℕ) × IsWholeViewText code o rs text × AppendsFront start text after
  view_part rs first later start before after a last begun w =
      let t = has_some first later in
      let l = has_some first w.lines in
      let there : All (Contains (first ∷ later)) (first ∷ w.lines) = All-cons (Contains (first ∷ later)) first w.lines (head_there first later) w.each in
      let mine = All-contains (Contains (first ∷ later)) (first ∷ w.lines) l.0 there (has_the_last (first ∷ w.lines) l.0 l.1) in
      let whole : AppendsFront start (summary_lines (first ∷ w.lines)) after
      = subst (λ x. AppendsFront start x after) (sym (one_first first w.lines)) (front_on start before after (summary_line first) (summary_lines w.lines) begun w.written) in
      to_the_end rs first later w.lines start after l.0 t.0 a t.1 (sym last ∙ t.1) w.each w.grow l.1 whole
      (All-contains (λ y. (y ≡ t.0) ⊎ (is_before y t.0 ≡ true)) (first ∷ later) l.0 (all_before first later t.0 a.grows t.1) mine)
