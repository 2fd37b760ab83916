-- What is watched so far is watched on.
use Rattle.std.proofs.Common.{◌≡◌, ℕ, ◌<◌, ◌≤◌, List, [], ◌∷◌, ◌++◌, Bool, true, false, ◌||◌, Option, None, Some, Result, Ok, Err, OnOk, OnErr, All, refl, sym, ap, ◌∙◌, subst, ◌⊎◌, ⊎_elim, append_assoc, append-nil, le_trans}
use Rattle.std.specs.List.{Contains, list_any}
use Rattle.std.proofs.lemmas.List.Elements.{Contains-append_left, All-append, All-cons, All-nil}
use Rattle.std.proofs.lemmas.List.Folds.{list_any-append}
use Rattle.std.proofs.lemmas.Grind.{flat_map-append}
use Rattle.std.proofs.Math.Bool.{or-false}
use mathlib.Core.List.{IsPrefix}
use Rattle.bp_base.specs.Pieces.{Appends, AppendsFront}
use Rattle.bp_base.proofs.Appending.{appends-on}
use Rattle.bp_view.specs.declared.summary.Summary.{Summary}
use Rattle.bp_view.specs.Growing.{grows, last_of}
use Rattle.bp_base.specs.declared.outside.Sink.{Ghosts}
use Rattle.bp_view.specs.Lines.{summary_line, summary_lines}
use Rattle.bp_view.specs.Sinks.{KeepsSink}
use Rattle.bp_view.specs.Watching.{AreWritten, IsWatched, IsBehind, IsPartWatched, IsViewed, EndsWatching}
use Rattle.bp_view.specs.inner.Going.{broken_by}
use Rattle.bp_view.specs.declared.watching.LineFault.{LineFault}
use Rattle.bp_view.specs.declared.watching.LineFault.TheVariants as fault
use Rattle.bp_view.specs.declared.watching.Watched.{Watched}
use Rattle.bp_view.specs.declared.watching.Watched.TheVariants.{All as Whole, Write, Memory, Halted}
use Rattle.bp_view.proofs.Growths.{SeesOn, news, no_news, grows_snoc, last_snoc, has_the_last, follows_later}

weaken : (seen rest lines : List Summary) → All (Contains seen) lines → All (Contains (seen ++ rest)) lines
weaken seen rest lines a k d h = Contains-append_left seen rest _ (a k d h)

pub seen_still : (seen now lines : List Summary) → IsPrefix seen now → All (Contains seen) lines → All (Contains now) lines
seen_still seen now lines p a = subst (λ l. All (Contains l) lines) p.1 (weaken seen p.0 lines a)

pub one_more : (list : List Summary) (s : Summary) → summary_lines (list ++ s ∷ []) ≡ summary_lines list ++ summary_line s
unfolding summary_lines
one_more list s = flat_map-append summary_line list (s ∷ []) ∙ ap (λ t. summary_lines list ++ t) (append-nil (summary_line s))

pub front_on : (begun old new : Option (List ℕ)) (done piece : List ℕ) → Appends begun done old → AppendsFront old piece new → AppendsFront begun (done ++ piece) new
front_on begun old new done piece a (front, rest, is, b) =
    (done ++ front, rest, ap (λ t. done ++ t) is ∙ sym (append_assoc done front rest), appends-on begun old new done front a b)

whole_front : (before after : Option (List ℕ)) (piece : List ℕ) → Appends before piece after → AppendsFront before piece after
whole_front before after piece a = (piece, [], sym (append-nil piece), a)

-- The line of what is seen last can follow those that were written.
pub record CanFollow (first : Summary) (now : List Summary) (s : Summary) (over : Bool) (before old : Option (List ℕ)) : Type 0 where
  pub these : AreWritten first now over before old
  pub is : last_of now ≡ Some s
  pub follows : grows (first ∷ (these.lines ++ s ∷ [])) ≡ true

written_still : (first : Summary) (seen now : List Summary) (over : Bool) (before old : Option (List ℕ)) → IsPrefix seen now → AreWritten first seen over before old → AreWritten first now over before old
written_still first seen now over before old p w = record { lines = w.lines; each = seen_still seen now w.lines p w.each; grow = w.grow; ended = w.ended; written = w.written }

pub after_watched : (first last s : Summary) (seen now : List Summary) (over : Bool) (before old : Option (List ℕ)) → SeesOn seen now last s → last.records < s.records → IsWatched first seen over before old → CanFollow first now s over before old
unfolding written_still
after_watched first last s seen now over before old h fewer w = record {
  these = written_still first seen now over before old h.longer w.these;
  is = h.is;
  follows = grows_snoc (first ∷ w.these.lines) last s w.these.grow (w.last ∙ h.was) (news seen now last s h fewer);
}

pub after_behind : (first last s : Summary) (seen now : List Summary) (before old : Option (List ℕ)) → SeesOn seen now last s → IsBehind first seen before old → CanFollow first now s false before old
unfolding written_still
after_behind first last s seen now before old h w = record {
  these = written_still first seen now false before old h.longer w.these;
  is = h.is;
  follows = follows_later first w.these.lines w.last s seen now last h w.is_last w.these.grow w.can_follow;
}

-- with that line the lines go on to what is seen last
pub followed : (first s : Summary) (now : List Summary) (over : Bool) (before old new : Option (List ℕ)) → CanFollow first now s over before old → Appends old (summary_line s) new → IsWatched first now (over || s.over) before new
followed first s now over before old new c written = record {
  these = record {
    lines = c.these.lines ++ s ∷ [];
    each = All-append (Contains now) c.these.lines (s ∷ []) c.these.each (All-cons (Contains now) s [] (has_the_last now s c.is) (All-nil (Contains now)));
    grow = c.follows;
    ended = list_any-append (λ t. t.over) c.these.lines (s ∷ []) ∙ ap (λ x. x || (s.over || false)) c.these.ended ∙ ap (λ x. over || x) (or-false s.over);
    written = subst (λ t. Appends before t new) (sym (one_more c.these.lines s)) (appends-on before old new (summary_lines c.these.lines) (summary_line s) c.these.written written);
  };
  last = last_snoc (first ∷ c.these.lines) s ∙ sym c.is;
}

-- a front of that line was written
pub followed_part : (first s : Summary) (now : List Summary) (over : Bool) (before old new : Option (List ℕ)) → CanFollow first now s over before old → AppendsFront old (summary_line s) new → IsPartWatched first now before new
followed_part first s now over before old new c written = record {
  lines = c.these.lines ++ s ∷ [];
  each = All-append (Contains now) c.these.lines (s ∷ []) c.these.each (All-cons (Contains now) s [] (has_the_last now s c.is) (All-nil (Contains now)));
  grow = c.follows;
  written = subst (λ t. AppendsFront before t new) (sym (one_more c.these.lines s)) (front_on before old new (summary_lines c.these.lines) (summary_line s) c.these.written written);
}

-- nothing of that line was written
followed_not : (first s : Summary) (now : List Summary) (before old new : Option (List ℕ)) → CanFollow first now s false before old → new ≡ old → IsBehind first now before new
followed_not first s now before old new c e = subst (λ o. IsBehind first now before o) (sym e) (record { these = c.these; last = s; is_last = c.is; can_follow = c.follows })

-- that line was not written
pub not_followed : (first s : Summary) (now : List Summary) (before old new : Option (List ℕ)) (f : LineFault) → CanFollow first now s false before old → (f ≡ fault.Write → AppendsFront old (summary_line s) new) → (f ≡ fault.Memory → new ≡ old) → EndsWatching first now before new (broken_by f)
not_followed first s now before old new fault.Write c front nothing = followed_part first s now false before old new c (front refl)
not_followed first s now before old new fault.Memory c front nothing = followed_not first s now before old new c (nothing refl)

pub watched_still : (first last s : Summary) (seen now : List Summary) (over : Bool) (before old : Option (List ℕ)) → SeesOn seen now last s → s.records ≤ last.records → IsWatched first seen over before old → IsWatched first now over before old
watched_still first last s seen now over before old h le w = subst (λ l. IsWatched first l over before old) (no_news seen now last s h le) w

written_part : (first : Summary) (now : List Summary) (over : Bool) (before old : Option (List ℕ)) → AreWritten first now over before old → IsPartWatched first now before old
written_part first now over before old w = record { lines = w.lines; each = w.each; grow = w.grow; written = whole_front before old (summary_lines w.lines) w.written }

-- however watching ended, a front of lines of what is seen now was written
pub watched_part : (first : Summary) (seen now : List Summary) (before old : Option (List ℕ)) (watched : Watched) → IsPrefix seen now → EndsWatching first seen before old watched → IsPartWatched first now before old
watched_part first seen now before old Whole p w = written_part first now true before old (written_still first seen now true before old p w.these)
watched_part first seen now before old Write p w = record { lines = w.lines; each = seen_still seen now w.lines p w.each; grow = w.grow; written = w.written }
watched_part first seen now before old Memory p w = written_part first now false before old (written_still first seen now false before old p w.these)
watched_part first seen now before old Halted p w = written_part first now false before old (written_still first seen now false before old p w.these)

nothing_written : summary_lines [] ≡ []
unfolding summary_lines
nothing_written = refl

nothing_more : (before : Option (List ℕ)) → Appends before [] before
nothing_more None = tt
nothing_more (Some w) = ap (λ t. Some t) (sym (append-nil w))

-- before anything was written
pub watched_none : (first : Summary) (seen : List Summary) (before : Option (List ℕ)) → last_of seen ≡ Some first → IsWatched first seen false before before
watched_none first seen before e = record {
  these = record {
    lines = [];
    each = All-nil (Contains seen);
    grow = refl;
    ended = refl;
    written = subst (λ t. Appends before t before) (sym nothing_written) (nothing_more before);
  };
  last = sym e;
}

-- ---- the end of a view

abbrev pub Parts : List Summary → List Summary → Option (List ℕ) → Option (List ℕ) → Watched → Type 0
Parts seen now old new watched = (first : Summary) (before : Option (List ℕ)) → EndsWatching first seen before old watched → IsPartWatched first now before new

abbrev pub Wholes : List Summary → List Summary → Option (List ℕ) → Option (List ℕ) → Watched → Type 0
Wholes seen now old new watched = (first : Summary) (before : Option (List ℕ)) → EndsWatching first seen before old watched → IsViewed first now before new

-- watching ended at the line of a summary that is over, or was halted
abbrev Seeing : Watched → Type 0
Seeing watched = (watched ≡ Whole) ⊎ (watched ≡ Halted)

-- the line of what is seen last is still to be written, where there were so many records and are so many now
abbrev pub IsDue : Watched → ℕ → ℕ → Type 0
IsDue Whole m n = m < n
IsDue Write m n = ⊥
IsDue Memory m n = Unit {0}
IsDue Halted m n = m < n

pub due_seeing : (watched : Watched) (m n : ℕ) → Seeing watched → m < n → IsDue watched m n
due_seeing Whole m n h fewer = fewer
due_seeing Write m n h fewer = ⊎_elim (λ (e : Write ≡ Whole). absurd (cc)) (λ (e : Write ≡ Halted). absurd (cc)) h
due_seeing Memory m n h fewer = tt
due_seeing Halted m n h fewer = fewer

pub due_memory : (watched : Watched) (m n : ℕ) → watched ≡ Memory → IsDue watched m n
due_memory watched m n e = subst (λ x. IsDue x m n) (sym e) tt

follows_on : (first last s : Summary) (seen now : List Summary) (before old : Option (List ℕ)) (watched : Watched) → SeesOn seen now last s → IsDue watched last.records s.records → EndsWatching first seen before old watched → (over : Bool) × CanFollow first now s over before old
follows_on first last s seen now before old Whole h due w = (true, after_watched first last s seen now true before old h due w)
follows_on first last s seen now before old Write h due w = absurd due
follows_on first last s seen now before old Memory h due w = (false, after_behind first last s seen now before old h w)
follows_on first last s seen now before old Halted h due w = (false, after_watched first last s seen now false before old h due w)

-- it is written
pub viewed_more : {T E : Type 0} (r : Result T E) (last s : Summary) (seen now : List Summary) (old new : Option (List ℕ)) (watched : Watched) → SeesOn seen now last s → IsDue watched last.records s.records → OnOk r (Appends old (summary_line s) new) → OnOk r (Wholes seen now old new watched)
viewed_more (Ok x) last s seen now old new watched h due written = λ first before w.
    let c = follows_on first last s seen now before old watched h due w in
    (c.0 || s.over, followed first s now c.0 before old new c.1 written)
viewed_more (Err e) last s seen now old new watched h due written = tt

-- or was not
pub viewed_part : {T : Type 0} (r : Result T LineFault) (last s : Summary) (seen now : List Summary) (old new : Option (List ℕ)) (watched : Watched) → SeesOn seen now last s → IsDue watched last.records s.records
    → (r ≡ Err fault.Write → AppendsFront old (summary_line s) new) → (r ≡ Err fault.Memory → new ≡ old) → OnErr r (Parts seen now old new watched)
viewed_part (Ok x) last s seen now old new watched h due front nothing = tt
viewed_part (Err fault.Write) last s seen now old new watched h due front nothing = λ first before w.
    let c = follows_on first last s seen now before old watched h due w in
    followed_part first s now c.0 before old new c.1 (front refl)
viewed_part (Err fault.Memory) last s seen now old new watched h due front nothing = λ first before w.
    let c = follows_on first last s seen now before old watched h due w in
    subst (λ o. IsPartWatched first now before o) (sym (nothing refl)) (written_part first now c.0 before old c.1.these)

-- it is there
pub viewed_still : (last s : Summary) (seen now : List Summary) (old : Option (List ℕ)) (watched : Watched) → SeesOn seen now last s → Seeing watched → s.records ≤ last.records → Wholes seen now old old watched
viewed_still last s seen now old Whole h which le = λ first before w. (true, watched_still first last s seen now true before old h le w)
viewed_still last s seen now old Write h which le = ⊎_elim (λ (e : Write ≡ Whole). absurd (cc)) (λ (e : Write ≡ Halted). absurd (cc)) which
viewed_still last s seen now old Memory h which le = ⊎_elim (λ (e : Memory ≡ Whole). absurd (cc)) (λ (e : Memory ≡ Halted). absurd (cc)) which
viewed_still last s seen now old Halted h which le = λ first before w. (false, watched_still first last s seen now false before old h le w)

-- nothing was learnt
pub viewed_not : {T E : Type 0} (r : Result T E) (seen now : List Summary) (old : Option (List ℕ)) (watched : Watched) → IsPrefix seen now → OnErr r (Parts seen now old old watched)
viewed_not (Ok x) seen now old watched p = tt
viewed_not (Err e) seen now old watched p = λ first before w. watched_part first seen now before old watched p w

-- ---- what stays of an output

pub keeps_on : {V : Type 0} (v : Ghosts V) (a b c : V) → KeepsSink v a b → KeepsSink v b c → KeepsSink v a c
keeps_on v a b c h k = record { counts = le_trans h.counts k.counts; named = k.named ∙ h.named }
