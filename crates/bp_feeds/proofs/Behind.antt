-- What follows whole lines is cut and judged on its own.
use Rattle.std.proofs.Common.{◌≡◌, ⊎_elim, ℕ, ◌+◌, Bool, true, false, List, [], ◌∷◌, ◌++◌, Option, Some, None, length, drop, option_to_list, refl, sym, ap, ◌∙◌, append_assoc, append-nil, arith}
use Rattle.std.specs.Prelude.{if◌then◌else◌}
use Rattle.std.proofs.lemmas.Bool.{or_parts, or_from}
use Rattle.bp_log.specs.declared.item.Item.{Item}
use Rattle.bp_log.specs.declared.item.Item.TheVariants.{Failed}
use Rattle.bp_feeds.specs.Items.{is_break, before_lines, lines_of, before_whole, whole_lines, is_last, is_fault, has_fault, has_last, followed, item_of, items_from, items_before_fault}
use Rattle.bp_feeds.specs.Reading.{AreWholeLines, IsBetweenLines, ItemsFollow}
use Rattle.bp_feeds.proofs.Cuts.{sound}

-- ---- bytes that end with LF are cut there, whatever follows

record IsCut (front rest : List ℕ) : Type 0 where
  line : List ℕ
  more : List (List ℕ)
  lines : lines_of (front ++ 10 ∷ rest) ≡ (line ∷ more) ++ lines_of rest
  whole : whole_lines (front ++ 10 ∷ rest) ≡ (line ∷ more) ++ whole_lines rest
  alone : whole_lines (front ++ 10 ∷ []) ≡ line ∷ more

one_cut : (t : Bool) (b : ℕ) (line : List ℕ) (more : List (List ℕ)) (a ra w rw f : List (List ℕ)) → a ≡ (line ∷ more) ++ ra → w ≡ (line ∷ more) ++ rw → f ≡ line ∷ more
    → (line' : List ℕ) × (more' : List (List ℕ))
    × ((if t then [] ∷ a else before_lines b a) ≡ (line' ∷ more') ++ ra)
    × ((if t then [] ∷ w else before_whole b w) ≡ (line' ∷ more') ++ rw)
    × ((if t then [] ∷ f else before_whole b f) ≡ line' ∷ more')
one_cut true b line more a ra w rw f e1 e2 e3 = ([], line ∷ more, ap (λ l. [] ∷ l) e1, ap (λ l. [] ∷ l) e2, ap (λ l. [] ∷ l) e3)
one_cut false b line more a ra w rw f e1 e2 e3 = (b ∷ line, more, ap (before_lines b) e1, ap (before_whole b) e2, ap (before_whole b) e3)

cut : (front rest : List ℕ) → IsCut front rest
cut [] rest = record { line = []; more = []; lines = refl; whole = refl; alone = refl }
cut (b ∷ front) rest =
    let c = cut front rest in
    let o = one_cut (is_break b) b c.line c.more (lines_of (front ++ 10 ∷ rest)) (lines_of rest) (whole_lines (front ++ 10 ∷ rest)) (whole_lines rest) (whole_lines (front ++ 10 ∷ [])) c.lines c.whole c.alone in
    record { line = o.0; more = o.1; lines = o.2; whole = o.3; alone = o.4 }

lines_behind_lf : (front passed rest : List ℕ) → passed ≡ front ++ 10 ∷ [] → lines_of (passed ++ rest) ≡ whole_lines passed ++ lines_of rest
lines_behind_lf front passed rest e =
    let c = cut front rest in
    ap (λ p. lines_of (p ++ rest)) e ∙ ap lines_of (append_assoc front (10 ∷ []) rest) ∙ c.lines ∙ ap (λ l. l ++ lines_of rest) (sym c.alone ∙ ap whole_lines (sym e))

whole_behind_lf : (front passed rest : List ℕ) → passed ≡ front ++ 10 ∷ [] → whole_lines (passed ++ rest) ≡ whole_lines passed ++ whole_lines rest
whole_behind_lf front passed rest e =
    let c = cut front rest in
    ap (λ p. whole_lines (p ++ rest)) e ∙ ap whole_lines (append_assoc front (10 ∷ []) rest) ∙ c.whole ∙ ap (λ l. l ++ whole_lines rest) (sym c.alone ∙ ap whole_lines (sym e))

pub lines_behind : (passed rest : List ℕ) → AreWholeLines passed → lines_of (passed ++ rest) ≡ whole_lines passed ++ lines_of rest
lines_behind passed rest w =
    ⊎_elim (λ (e : passed ≡ []). ap (λ p. lines_of (p ++ rest)) e ∙ ap (λ p. whole_lines p ++ lines_of rest) (sym e))
    (λ (f : (front : List ℕ) × (passed ≡ front ++ 10 ∷ [])). lines_behind_lf f.0 passed rest f.1) w

pub whole_behind : (passed rest : List ℕ) → AreWholeLines passed → whole_lines (passed ++ rest) ≡ whole_lines passed ++ whole_lines rest
whole_behind passed rest w =
    ⊎_elim (λ (e : passed ≡ []). ap (λ p. whole_lines (p ++ rest)) e ∙ ap (λ p. whole_lines p ++ whole_lines rest) (sym e))
    (λ (f : (front : List ℕ) × (passed ≡ front ++ 10 ∷ [])). whole_behind_lf f.0 passed rest f.1) w

-- ---- items of lines of which none is bad

none_before : (xs : List Item) (y z : Item) → xs ++ y ∷ [] ≡ z ∷ [] → (xs ≡ []) × (y ≡ z)
none_before [] y z e = (refl, cc)
none_before (x ∷ []) y z e = cc
none_before (x ∷ w ∷ xs) y z e = cc

-- an item that is a line's, and is not bad, is the first of those that were given
given_first : (xs : List Item) (i : Item) (tail : List Item) → is_fault i ≡ false → xs ++ Failed ∷ [] ≡ i ∷ tail → (rest : List Item) × (xs ≡ i ∷ rest) × (rest ++ Failed ∷ [] ≡ tail)
given_first [] i tail n e =
    let same : i ≡ Failed = cc in
    let f : true ≡ false = sym (ap is_fault same) ∙ n in
    absurd cc
given_first (x ∷ xs) i tail n e = (xs, cc, cc)

some_last : (xs : List Item) (y : Item) → xs ++ y ∷ [] ≡ [] → ⊥
some_last [] y e = cc
some_last (x ∷ xs) y e = cc

item_behind : (t : Bool) (i : Item) (given front all rest : List Item) → is_fault i ≡ false → given ++ Failed ∷ [] ≡ (if t then i ∷ [] else i ∷ front)
    → ((g : List Item) → g ++ Failed ∷ [] ≡ front → all ≡ g ++ rest) → (if t then i ∷ [] else i ∷ all) ≡ given ++ rest
item_behind true i given front all rest n e ih = let g = given_first given i [] n e in absurd (some_last g.0 Failed g.2)
item_behind false i given front all rest n e ih = let g = given_first given i front n e in ap (λ l. i ∷ l) (ih g.0 g.2) ∙ ap (λ l. l ++ rest) (sym g.1)

line_behind : (o : Option Item) (given front all rest : List Item) → has_fault (option_to_list o) ≡ false → given ++ Failed ∷ [] ≡ followed o front
    → ((g : List Item) → g ++ Failed ∷ [] ≡ front → all ≡ g ++ rest) → followed o all ≡ given ++ rest
line_behind None given front all rest s e ih = ih given e
line_behind (Some i) given front all rest s e ih = item_behind (is_last i) i given front all rest (or_parts (is_fault i) false s).0 e ih

pub items_behind : (front more : List (List ℕ)) (given : List Item) (number : ℕ) (last : Item)
    → given ++ Failed ∷ [] ≡ items_from front number Failed → items_from (front ++ more) number last ≡ given ++ items_from more (number + length front) last
items_behind [] more given number last e =
    let n = none_before given Failed Failed e in
    let same : number ≡ number + length {A = List ℕ} [] = omega arith in
    ap (λ k. items_from more k last) same ∙ ap (λ g. g ++ items_from more (number + length {A = List ℕ} []) last) (sym n.0)
items_behind (line ∷ front) more given number last e =
    let same : (number + 1) + length front ≡ number + length (line ∷ front) = omega arith in
    line_behind (item_of number line) given (items_from front (number + 1) Failed) (items_from (front ++ more) (number + 1) last) (items_from more ((number + 1) + length front) last)
    (sound number line (item_of number line) refl) e (λ g h. items_behind front more g (number + 1) last h)
    ∙ ap (λ k. given ++ items_from more k last) same

-- ---- whatever follows the lines that were dealt with, its items follow those that were given

pub lines_follow : (took : List ℕ) (given : List Item) (number : ℕ) (held : List ℕ) (w : IsBetweenLines took given number held) (more : List ℕ) (last : Item)
    → given ++ items_from (lines_of more) number last ≡ items_from (lines_of (w.passed ++ more)) 1 last
lines_follow took given number held w more last =
    let k : number ≡ 1 + length (whole_lines w.passed) = omega (arith, w.counted) in
    ap (λ n. given ++ items_from (lines_of more) n last) k
    ∙ sym (items_behind (whole_lines w.passed) (lines_of more) given 1 last w.good)
    ∙ ap (λ l. items_from l 1 last) (sym (lines_behind w.passed more w.whole))

pub whole_follow : (took : List ℕ) (given : List Item) (number : ℕ) (held : List ℕ) (w : IsBetweenLines took given number held) (more : List ℕ) (last : Item)
    → given ++ items_from (whole_lines more) number last ≡ items_from (whole_lines (w.passed ++ more)) 1 last
whole_follow took given number held w more last =
    let k : number ≡ 1 + length (whole_lines w.passed) = omega (arith, w.counted) in
    ap (λ n. given ++ items_from (whole_lines more) n last) k
    ∙ sym (items_behind (whole_lines w.passed) (whole_lines more) given 1 last w.good)
    ∙ ap (λ l. items_from l 1 last) (sym (whole_behind w.passed more w.whole))

whole_within : (passed : List ℕ) (given : List Item) → AreWholeLines passed → given ++ Failed ∷ [] ≡ items_before_fault passed
    → IsBetweenLines passed given (length (whole_lines passed) + 1) []
whole_within passed given w good = record { passed = passed; all = sym (append-nil passed); whole = w; counted = refl; good = good }

pub items_follow : ItemsFollow
unfolding whole_within
items_follow passed given w = (
  λ good more last.
      let h : IsBetweenLines passed given (length (whole_lines passed) + 1) [] = whole_within passed given w good in
      (lines_follow passed given (length (whole_lines passed) + 1) [] h more last, whole_follow passed given (length (whole_lines passed) + 1) [] h more last),
  λ f. (f [] Failed).1 ∙ ap items_before_fault (append-nil passed),
)

-- ---- nothing stands after an item that is last

some_of : (xs : List Item) (y : Item) (ys : List Item) → xs ++ y ∷ ys ≡ [] → ⊥
some_of [] y ys e = cc
some_of (x ∷ xs) y ys e = cc

one_before : (t : Bool) (i y : Item) (xs ys tail : List Item) → is_last i ≡ t → xs ++ y ∷ ys ≡ (if t then i ∷ [] else i ∷ tail)
    → ((zs : List Item) → zs ++ y ∷ ys ≡ tail → has_last zs ≡ false) → has_last xs ≡ false
one_before t i y [] ys tail l e ih = refl
one_before true i y (x ∷ xs) ys tail l e ih = absurd (some_of xs y ys (ap (drop 1) e))
one_before false i y (x ∷ xs) ys tail l e ih =
    let first : x ≡ i = cc in
    let still : is_last x ≡ false = ap is_last first ∙ l in
    let tails : xs ++ y ∷ ys ≡ tail = ap (drop 1) e in
    or_from (is_last x) (has_last xs) still (ih xs tails)

line_before : (o : Option Item) (y : Item) (xs ys tail : List Item) → xs ++ y ∷ ys ≡ followed o tail
    → ((zs : List Item) → zs ++ y ∷ ys ≡ tail → has_last zs ≡ false) → has_last xs ≡ false
line_before None y xs ys tail e ih = ih xs e
line_before (Some i) y xs ys tail e ih = one_before (is_last i) i y xs ys tail refl e ih

one_last : (t : Bool) (i : Item) → i ∷ [] ≡ (if t then i ∷ [] else i ∷ [])
one_last true i = refl
one_last false i = refl

pub open_before : (lines : List (List ℕ)) (number : ℕ) (last y : Item) (xs ys : List Item) → xs ++ y ∷ ys ≡ items_from lines number last → has_last xs ≡ false
open_before [] number last y xs ys e = line_before (Some last) y xs ys [] (e ∙ one_last (is_last last) last) (λ zs h. absurd (some_of zs y ys h))
open_before (line ∷ lines) number last y xs ys e = line_before (item_of number line) y xs ys (items_from lines (number + 1) last) e (λ zs h. open_before lines (number + 1) last y zs ys h)
