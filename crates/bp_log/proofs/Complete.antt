-- When a list of records is complete, and the verdict with which it ends.
use Rattle.std.proofs.Common.{◌≡◌, ◌∙◌, ◌-◌, ℕ, zero, suc, refl, sym, ap, arith, List, [], ◌∷◌, ◌++◌, length, slice_get, Option, is_some, option_and_then}
use Rattle.bp_log.specs.Records.{is_complete, verdict_in, verdict_of}
use Rattle.bp_log.specs.declared.record.Record.{Record}
use Rattle.bp_log.specs.declared.record.Record.TheVariants.{In, Bad, Eof, Sel, End}

-- by its last record
pub complete_by_last : (rs : List Record) (r : Record) → is_complete (rs ++ r ∷ []) ≡ is_complete (r ∷ [])
complete_by_last [] r = refl
complete_by_last (In j e ∷ rs) r = complete_by_last rs r
complete_by_last (Bad j n ∷ rs) r = complete_by_last rs r
complete_by_last (Eof j ∷ rs) r = complete_by_last rs r
complete_by_last (Sel e ∷ rs) r = complete_by_last rs r
complete_by_last (End v ∷ []) r = refl
complete_by_last (End v ∷ s ∷ rs) r = complete_by_last (s ∷ rs) r

-- the records end in a verdict where they are complete
pub verdict_complete : (rs : List Record) → is_some (verdict_of rs) ≡ is_complete rs
verdict_complete [] = refl
verdict_complete (In j e ∷ rs) = verdict_complete rs
verdict_complete (Bad j n ∷ rs) = verdict_complete rs
verdict_complete (Eof j ∷ rs) = verdict_complete rs
verdict_complete (Sel e ∷ rs) = verdict_complete rs
verdict_complete (End v ∷ []) = refl
verdict_complete (End v ∷ r ∷ rs) = verdict_complete (r ∷ rs)

pub later_verdict : (r s : Record) (rs : List Record) → verdict_of (r ∷ s ∷ rs) ≡ verdict_of (s ∷ rs)
later_verdict (In j e) s rs = refl
later_verdict (Bad j n) s rs = refl
later_verdict (Eof j) s rs = refl
later_verdict (Sel e) s rs = refl
later_verdict (End v) s rs = refl

-- the verdict is that of the last record
pub verdict_by_last : (rs : List Record) (r : Record) → verdict_of (rs ++ r ∷ []) ≡ verdict_of (r ∷ [])
verdict_by_last [] r = refl
verdict_by_last (q ∷ []) r = later_verdict q r []
verdict_by_last (q ∷ s ∷ rs) r = later_verdict q s (rs ++ r ∷ []) ∙ verdict_by_last (s ∷ rs) r

one_verdict : (r : Record) → verdict_of (r ∷ []) ≡ verdict_in r
one_verdict (In j e) = refl
one_verdict (Bad j n) = refl
one_verdict (Eof j) = refl
one_verdict (Sel e) = refl
one_verdict (End v) = refl

verdict_at : (rs : List Record) (n : ℕ) → length rs ≡ suc n → verdict_of rs ≡ option_and_then verdict_in (slice_get rs n)
verdict_at [] n h = absurd (omega (arith, h))
verdict_at (r ∷ []) zero h = one_verdict r
verdict_at (r ∷ []) (suc n) h = absurd (omega (arith, h))
verdict_at (r ∷ s ∷ rs) zero h = absurd (omega (arith, h))
verdict_at (r ∷ s ∷ rs) (suc n) h = later_verdict r s rs ∙ verdict_at (s ∷ rs) n (omega (arith, h))

-- the last record decides
pub verdict_last : (rs : List Record) (o : Option Record) → o ≡ slice_get rs (length rs - 1) → verdict_of rs ≡ option_and_then verdict_in o
verdict_last [] o h = ap (option_and_then verdict_in) (sym h)
verdict_last (r ∷ rs) o h =
    verdict_at (r ∷ rs) (length rs) (omega arith)
    ∙ ap (λ (n : ℕ). option_and_then verdict_in (slice_get (r ∷ rs) n)) (let e : length rs ≡ length (r ∷ rs) - 1 = omega arith in e)
    ∙ ap (option_and_then verdict_in) (sym h)
