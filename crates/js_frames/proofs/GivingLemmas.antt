-- Parts that give a value at once.
use Rattle.std.proofs.Common.{◌≡◌, ℕ, ◌-◌, ◌<◌, Bool, true, false, cond, not, [], ◌∷◌, Some, None, Result, Ok, refl, sym, ap, ◌∙◌, subst, arith}
use Rattle.std.specs.Prelude.{IfOk, slice_get}
use Rattle.std.specs.declared.alloc.AllocError.{AllocError}
use Rattle.js_tree.specs.declared.tree.Sign.{Sign}
use Rattle.js_tree.specs.declared.tree.Operator.{Operator}
use Rattle.js_tree.specs.declared.tree.Operator.TheVariants as operator
use Rattle.js_value.specs.Value.{PlainValue, is_truthy}
use Rattle.js_value.specs.declared.op.Op.{Op}
use Rattle.js_ops.specs.Operators.{value_of, unary_of}
use Rattle.js_program.specs.PlainProgram as p
use Rattle.js_program.specs.PlainProgram.{PlainNode}
use Rattle.js_meaning.specs.State as js
use Rattle.js_meaning.specs.State.{State, Setting, gives, answered, ◌>>=◌}
use Rattle.js_meaning.specs.Calls.{in_order}
use Rattle.js_meaning.specs.Expressions.{unary_for, op_for, by_rule, combines}
use Rattle.js_meaning.specs.Meaning.{does, does_node, eval, iterations_of}
use Rattle.js_meaning.proofs.Bound.{eval_begins}
use Rattle.js_frames.specs.declared.step.Step.{Step}
use Rattle.js_frames.specs.declared.frame.Part.{Part}
use Rattle.js_frames.specs.declared.frame.Frame.TheVariants.{Waiting}
use Rattle.js_frames.specs.Places.{Place, Beside, setting_at, state_at}
use Rattle.js_frames.specs.Frames.{rest, resume, plug}
use Rattle.js_frames.specs.Fits.{StackFits}
use Rattle.js_frames.specs.inner.Leads.{Within, Leads, node_does, waits_for}
use Rattle.js_frames.specs.inner.Giving.{Gave, with_fuel, skips, value_by}
use Rattle.js_frames.proofs.Steps.{OnlyGives, begins_one, within_trans, on_ok}

-- an operator that is no `||` and no `&&` has the values of both sides, in order
both_sides : (g : Setting) (line left right : ℕ) (o : Operator) (op : Op) (s : State) → op_for o ≡ Some op → does g (eval g) (iterations_of g) line (p.binary o left right) s ≡ in_order (eval g) (left ∷ right ∷ []) [] (combines g (eval g) line (p.binary o left right)) s
both_sides g line left right operator.Or op s e = let no : None ≡ Some op = e in cc
both_sides g line left right operator.And op s e = let no : None ≡ Some op = e in cc
both_sides g line left right operator.Same op s e = refl
both_sides g line left right operator.NotSame op s e = refl
both_sides g line left right operator.Equal op s e = refl
both_sides g line left right operator.NotEqual op s e = refl
both_sides g line left right operator.Less op s e = refl
both_sides g line left right operator.LessOrEqual op s e = refl
both_sides g line left right operator.Greater op s e = refl
both_sides g line left right operator.GreaterOrEqual op s e = refl
both_sides g line left right operator.Add op s e = refl
both_sides g line left right operator.Subtract op s e = refl
both_sides g line left right operator.Multiply op s e = refl
both_sides g line left right operator.Divide op s e = refl
both_sides g line left right operator.Remainder op s e = refl

-- the value of both sides, by an operator that is no `||` and no `&&`
values_both : (g : Setting) (line left right : ℕ) (o : Operator) (op : Op) (a b x : PlainValue) (s between last : State) → op_for o ≡ Some op → eval g left s ≡ gives a between → eval g right between ≡ gives b last → value_of op a b ≡ Ok x → does g (eval g) (iterations_of g) line (p.binary o left right) s ≡ gives x last
values_both g line left right o op a b x s between last rule l r v =
    let made = combines g (eval g) line (p.binary o left right) in
    both_sides g line left right o op s rule
    ∙ ap (λ q. q >>= λ y. in_order (eval g) (right ∷ []) (y ∷ []) made) l
    ∙ ap (λ q. q >>= λ y. made (a ∷ y ∷ [])) r
    ∙ ap (λ q. answered line (by_rule q a b) last) rule
    ∙ ap (λ q. answered line q last) v

not_true : (t : Bool) → not t ≡ true → t ≡ false
not_true true e = let no : false ≡ true = e in cc
not_true false e = refl

not_false : (t : Bool) → not t ≡ false → t ≡ true
not_false true e = refl
not_false false e = let no : true ≡ false = e in cc

-- an operator that skips its right side has the value of the left one
has_left : (g : Setting) (line left right : ℕ) (o : Operator) (a : PlainValue) (s now : State) → skips o a ≡ true → eval g left s ≡ gives a now → does g (eval g) (iterations_of g) line (p.binary o left right) s ≡ gives a now
has_left g line left right operator.Or a s now e l =
    ap (λ q. q >>= λ v. cond (is_truthy v) (gives v) (eval g right)) l
    ∙ ap (λ t. cond t (gives a) (eval g right) now) e
has_left g line left right operator.And a s now e l =
    ap (λ q. q >>= λ v. cond (is_truthy v) (eval g right) (gives v)) l
    ∙ ap (λ t. cond t (eval g right) (gives a) now) (not_true (is_truthy a) e)
has_left g line left right operator.Same a s now e l = let no : false ≡ true = e in cc
has_left g line left right operator.NotSame a s now e l = let no : false ≡ true = e in cc
has_left g line left right operator.Equal a s now e l = let no : false ≡ true = e in cc
has_left g line left right operator.NotEqual a s now e l = let no : false ≡ true = e in cc
has_left g line left right operator.Less a s now e l = let no : false ≡ true = e in cc
has_left g line left right operator.LessOrEqual a s now e l = let no : false ≡ true = e in cc
has_left g line left right operator.Greater a s now e l = let no : false ≡ true = e in cc
has_left g line left right operator.GreaterOrEqual a s now e l = let no : false ≡ true = e in cc
has_left g line left right operator.Add a s now e l = let no : false ≡ true = e in cc
has_left g line left right operator.Subtract a s now e l = let no : false ≡ true = e in cc
has_left g line left right operator.Multiply a s now e l = let no : false ≡ true = e in cc
has_left g line left right operator.Divide a s now e l = let no : false ≡ true = e in cc
has_left g line left right operator.Remainder a s now e l = let no : false ≡ true = e in cc

-- one that does not has the value of both
has_both : (g : Setting) (line left right : ℕ) (o : Operator) (a b x : PlainValue) (s between last : State) → skips o a ≡ false → eval g left s ≡ gives a between → eval g right between ≡ gives b last → value_by (op_for o) a b ≡ Ok x → does g (eval g) (iterations_of g) line (p.binary o left right) s ≡ gives x last
has_both g line left right operator.Or a b x s between last e l r v =
    ap (λ q. q >>= λ w. cond (is_truthy w) (gives w) (eval g right)) l
    ∙ ap (λ t. cond t (gives a) (eval g right) between) e ∙ r ∙ ap (λ q. answered line q last) v
has_both g line left right operator.And a b x s between last e l r v =
    ap (λ q. q >>= λ w. cond (is_truthy w) (eval g right) (gives w)) l
    ∙ ap (λ t. cond t (eval g right) (gives a) between) (not_false (is_truthy a) e) ∙ r ∙ ap (λ q. answered line q last) v
has_both g line left right operator.Same a b x s between last e l r v = values_both g line left right operator.Same _ a b x s between last refl l r v
has_both g line left right operator.NotSame a b x s between last e l r v = values_both g line left right operator.NotSame _ a b x s between last refl l r v
has_both g line left right operator.Equal a b x s between last e l r v = values_both g line left right operator.Equal _ a b x s between last refl l r v
has_both g line left right operator.NotEqual a b x s between last e l r v = values_both g line left right operator.NotEqual _ a b x s between last refl l r v
has_both g line left right operator.Less a b x s between last e l r v = values_both g line left right operator.Less _ a b x s between last refl l r v
has_both g line left right operator.LessOrEqual a b x s between last e l r v = values_both g line left right operator.LessOrEqual _ a b x s between last refl l r v
has_both g line left right operator.Greater a b x s between last e l r v = values_both g line left right operator.Greater _ a b x s between last refl l r v
has_both g line left right operator.GreaterOrEqual a b x s between last e l r v = values_both g line left right operator.GreaterOrEqual _ a b x s between last refl l r v
has_both g line left right operator.Add a b x s between last e l r v = values_both g line left right operator.Add _ a b x s between last refl l r v
has_both g line left right operator.Subtract a b x s between last e l r v = values_both g line left right operator.Subtract _ a b x s between last refl l r v
has_both g line left right operator.Multiply a b x s between last e l r v = values_both g line left right operator.Multiply _ a b x s between last refl l r v
has_both g line left right operator.Divide a b x s between last e l r v = values_both g line left right operator.Divide _ a b x s between last refl l r v
has_both g line left right operator.Remainder a b x s between last e l r v = values_both g line left right operator.Remainder _ a b x s between last refl l r v

module _ (base : js.Ground) where
  module _ (m : Place) where
    -- one that only gives a value
    pub gave_leaf : (n : ℕ) (x : PlainValue) (fuel : ℕ) → OnlyGives base m n x → m.floor < fuel → Gave base (with_fuel m fuel) n x (with_fuel m (fuel - 1))
    gave_leaf n x fuel h room =
        let g = setting_at base m in
        let some : 0 < fuel = omega arith in record {
          same = λ beside.
              eval_begins g n (state_at (with_fuel m fuel) beside)
              ∙ begins_one fuel (node_does g n) (state_at (with_fuel m fuel) beside) some
              ∙ h (fuel - 1) beside;
          place = refl;
          less = omega arith;
          room = omega arith;
        }

    -- a node begins where there is fuel
    pub begins_here : (n fuel : ℕ) (node : PlainNode) (beside : Beside) → slice_get base.program.nodes n ≡ Some node → 0 < fuel → (let g = setting_at base m in eval g n (state_at (with_fuel m fuel) beside) ≡ does g (eval g) (iterations_of g) node.line node.form (state_at (with_fuel m (fuel - 1)) beside))
    begins_here n fuel node beside at some =
        let g = setting_at base m in
        eval_begins g n (state_at (with_fuel m fuel) beside)
        ∙ begins_one fuel (node_does g n) (state_at (with_fuel m fuel) beside) some
        ∙ ap (λ q. does_node g (eval g) (iterations_of g) q (state_at (with_fuel m (fuel - 1)) beside)) at

    -- an operator of one that gave a value
    pub gave_unary : (n part line : ℕ) (sign : Sign) (fuel last : ℕ) (a x : PlainValue) → slice_get base.program.nodes n ≡ Some (record { line = line; form = p.unary sign part }) → m.floor < fuel → Gave base (with_fuel m (fuel - 1)) part a (with_fuel m last) → unary_of (unary_for sign) a ≡ Ok x → Gave base (with_fuel m fuel) n x (with_fuel m last)
    gave_unary n part line sign fuel last a x at room l v =
        let g = setting_at base m in
        let made = combines g (eval g) line (p.unary sign part) in
        let some : 0 < fuel = omega arith in
        let first : last < fuel - 1 = l.less in record {
          same = λ beside.
              begins_here n fuel (record { line = line; form = p.unary sign part }) beside at some
              ∙ ap (λ q. q >>= λ y. made (y ∷ [])) (l.same beside)
              ∙ ap (λ q. answered line q (state_at (with_fuel m last) beside)) v;
          place = refl;
          less = omega arith;
          room = l.room;
        }

    -- an operator that skipped its right side
    pub gave_left : (n left right line : ℕ) (o : Operator) (fuel last : ℕ) (a : PlainValue) → slice_get base.program.nodes n ≡ Some (record { line = line; form = p.binary o left right }) → skips o a ≡ true → m.floor < fuel → Gave base (with_fuel m (fuel - 1)) left a (with_fuel m last) → Gave base (with_fuel m fuel) n a (with_fuel m last)
    gave_left n left right line o fuel last a at skipped room l =
        let g = setting_at base m in
        let some : 0 < fuel = omega arith in
        let first : last < fuel - 1 = l.less in record {
          same = λ beside.
              begins_here n fuel (record { line = line; form = p.binary o left right }) beside at some
              ∙ has_left g line left right o a (state_at (with_fuel m (fuel - 1)) beside) (state_at (with_fuel m last) beside) skipped (l.same beside);
          place = refl;
          less = omega arith;
          room = l.room;
        }

    -- an operator of both sides that gave a value
    pub gave_both : (n left right line : ℕ) (o : Operator) (fuel between last : ℕ) (a b x : PlainValue) → slice_get base.program.nodes n ≡ Some (record { line = line; form = p.binary o left right }) → skips o a ≡ false → m.floor < fuel → Gave base (with_fuel m (fuel - 1)) left a (with_fuel m between) → Gave base (with_fuel m between) right b (with_fuel m last) → value_by (op_for o) a b ≡ Ok x → Gave base (with_fuel m fuel) n x (with_fuel m last)
    gave_both n left right line o fuel between last a b x at follows room l r v =
        let g = setting_at base m in
        let some : 0 < fuel = omega arith in
        let first : between < fuel - 1 = l.less in
        let second : last < between = r.less in record {
          same = λ beside.
              let s : ℕ → State = λ k. state_at (with_fuel m k) beside in
              begins_here n fuel (record { line = line; form = p.binary o left right }) beside at some
              ∙ has_both g line left right o a b x (s (fuel - 1)) (s between) (s last) follows (l.same beside) (r.same beside) v;
          place = refl;
          less = omega arith;
          room = r.room;
        }

  module _ (old mid : Place) (n : ℕ) (x : PlainValue) (v : Gave base old n x mid) where
    pub gave_fits : StackFits base.program old.stack → StackFits base.program mid.stack
    gave_fits fits = subst (λ (q : Place). StackFits base.program q.stack) (sym v.place) fits

    pub gave_within : Within old mid
    gave_within =
        let less = v.less in record {
          same_floor = ap (λ (q : Place). q.floor) v.place;
          less = omega arith;
          above = λ h. v.room;
        }

    -- what would wait for it goes on with the value
    gave_leads : (new : Place) (part : Part) (step : Step) → Leads base mid (rest (setting_at base mid) part x) new step → Leads base old (waits_for (setting_at base old) (Waiting part) n) new step
    unfolding resume
    gave_leads new part step l0 =
        let g = setting_at base old in
        let there = with_fuel old mid.fuel in
        let l = subst (λ q. Leads base q (rest (setting_at base q) part x) new step) v.place l0 in record {
          same = λ beside. l.same beside ∙ ap (λ o. plug g old.stack (resume g (Waiting part) o)) (sym (v.same beside ∙ ap (λ q. gives x (state_at q beside)) v.place));
          same_mode = l.same_mode;
          same_budget = l.same_budget;
          within = within_trans old mid new gave_within l0.within;
          stack_fits = l.stack_fits;
          step_fits = l.step_fits;
          rests = l.rests;
        }

    pub gave_on : (new : Place) (part : Part) (r : Result Step AllocError) → IfOk r (λ step. Leads base mid (rest (setting_at base mid) part x) new step) → IfOk r (λ step. Leads base old (waits_for (setting_at base old) (Waiting part) n) new step)
    gave_on new part r w = on_ok r (λ step l. gave_leads new part step l) w
