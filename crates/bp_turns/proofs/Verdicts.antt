-- A verdict of merging is where the pair settles.
use Rattle.std.proofs.Common.{◌≡◌, ◌+◌, Bool, true, false, List, [], ◌∷◌, refl, ap, sym, ◌∙◌, Option, Some, None, map}
use Rattle.bp_log.specs.declared.limits.TheConstants.{MOST_THREADS}
use Rattle.bp_log.specs.declared.verdict.Verdict.{Verdict}
use Rattle.bp_run.specs.Bodies.{Code}
use Rattle.bp_run.specs.Settling.{Entry, Pair, Ran, ran, unless_at, with_part, merged, turn, at_rest, settle}
use Rattle.bp_run.proofs.Turns.{settled, unsettled}

-- nothing is merged after a verdict
merged_over : {O S : Type 0} (rs : List (Ran O S)) (p : Pair O) (w : Verdict) → p.stand.verdict ≡ Some w → merged rs p ≡ p
merged_over [] p w h = refl
merged_over (r ∷ rs) p w h =
    ap (λ (q : Pair _). merged rs q) (ap (λ (v : Option Verdict). unless_at v (with_part r.entry r.part) p) h) ∙ merged_over rs p w h

rest_turn : {O S : Type 0} (l : Code O S) (p : Pair O) (v : Option Verdict) (ns : List (Entry O)) → p.stand.verdict ≡ v → p.entries ≡ ns →
    (elim v [ None ↦ elim ns [ [] ↦ true | n ∷ more ↦ false ] | Some w ↦ true ]) ≡ true → (turn l p).stand.verdict ≡ v
unfolding turn
rest_turn l p (Some w) ns h e r =
    ap (λ (q : Pair _). q.stand.verdict) (merged_over (map (ran l p.stand) p.entries) (record { stand = p.stand; entries = [] }) w h) ∙ h
rest_turn l p None [] h e r =
    ap (λ (xs : List (Entry _)). (merged (map (ran l p.stand) xs) (record { stand = p.stand; entries = [] })).stand.verdict) e ∙ h
rest_turn l p None (n ∷ ns) h e r = absurd (cc)

over_rests : {O : Type 0} (p : Pair O) (v : Option Verdict) (w : Verdict) → p.stand.verdict ≡ v → v ≡ Some w →
    (elim v [ None ↦ elim p.entries [ [] ↦ true | n ∷ more ↦ false ] | Some w ↦ true ]) ≡ true
over_rests p None w h e = absurd (cc)
over_rests p (Some v) w h e = refl

settles_at : {O S : Type 0} (l : Code O S) (p : Pair O) (b : Bool) (w : Verdict) → at_rest p ≡ b → (turn l p).stand.verdict ≡ Some w → (settle l p).verdict ≡ Some w
unfolding settle
settles_at l p true w h e =
    ap (λ s. s.verdict) (settled l (MOST_THREADS + 1) p h) ∙ sym (rest_turn l p p.stand.verdict p.entries refl refl h) ∙ e
settles_at l p false w h e =
    ap (λ s. s.verdict) (unsettled l MOST_THREADS p h ∙ settled l MOST_THREADS (turn l p) (over_rests (turn l p) (turn l p).stand.verdict w refl e)) ∙ e

-- a pair whose turn has a verdict settles to that verdict
pub settles_over : {O S : Type 0} (l : Code O S) (p : Pair O) (w : Verdict) → (turn l p).stand.verdict ≡ Some w → (settle l p).verdict ≡ Some w
settles_over l p w e = settles_at l p (at_rest p) w refl e
