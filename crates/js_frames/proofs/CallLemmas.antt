-- Calls of the machine.
use Rattle.std.proofs.Common.{◌≡◌, ℕ, suc, ◌+◌, ◌-◌, true, false, cond, List, [], ◌∷◌, ◌++◌, length, drop, map, Option, Some, None, Result, Ok, Err, refl, sym, ap, ◌∙◌, subst, arith}
use Rattle.std.specs.Prelude.{IfOk, OnOk, slice_get, slice_set, fold, nat_lt, pos, replicate, unwrap_or}
use Rattle.std.specs.declared.alloc.AllocError.{AllocError}
use Rattle.js_data.specs.declared.fault.Fault.TheVariants as fault
use Rattle.js_value.specs.Value as v
use Rattle.js_value.specs.Value.{PlainValue, ValueList}
use Rattle.js_value.specs.Lists.{values_in}
use Rattle.js_value.specs.Views.{plain_value}
use Rattle.js_value.specs.declared.value.Value.{Value}
use Rattle.js_value.specs.declared.value.Value.TheVariants as value
use Rattle.js_program.specs.PlainProgram as p
use Rattle.js_program.specs.PlainProgram.{PlainContent, PlainBody, PlainProgram, content_parts}
use Rattle.js_meaning.specs.State as js
use Rattle.js_meaning.specs.State.{State, Setting, Outcome, went, ◌>>=◌, leaves, breaks}
use Rattle.js_meaning.specs.Variables.{padded, slots_of_call}
use Rattle.js_ops.specs.Methods.{method_named}
use Rattle.js_meaning.specs.Forms.{argument}
use Rattle.js_meaning.specs.Calls.{applies, calls_method, answer_of, no_body, body_of, after_call, sequence, runs, enters, calls, for_each_from, for_each_call}
use Rattle.js_meaning.specs.declared.limits.TheConstants.{MOST_CALLS}
use Rattle.js_meaning.specs.Meaning.{eval}
use Rattle.js_frames.specs.declared.step.Step.{Step}
use Rattle.js_frames.specs.declared.step.Step.TheVariants.{Begin, Give, Ask, Fail, Violate}
use Rattle.js_frames.specs.declared.step.Completion.{Completion}
use Rattle.js_frames.specs.declared.step.Completion.TheVariants as completion
use Rattle.js_frames.specs.declared.step.Completion.TheVariants.{Normal}
use Rattle.js_value.specs.declared.value.Value.TheVariants.{Undefined}
use Rattle.js_frames.specs.declared.engine.Engine.{Engine}
use Rattle.js_frames.specs.declared.frame.Walk.{Walk}
use Rattle.js_frames.specs.declared.frame.Sequence.{Sequence}
use Rattle.js_frames.specs.declared.frame.Part.TheVariants.{Statements, Returned, Walked}
use Rattle.js_frames.specs.declared.frame.Frame.{Frame}
use Rattle.js_frames.specs.declared.frame.Frame.TheVariants.{Waiting, Called}
use Rattle.js_frames.specs.Places.{Place, Beside, plain_effects, place_of, setting_at, state_at}
use Rattle.js_frames.specs.Frames.{plain_completion, rest, resume, plug, statements_in, statements_of, sequence_from, walk_from}
use Rattle.js_frames.specs.Fits.{IsNode, SequenceFits, FrameFits, StackFits}
use Rattle.js_program.specs.Views.{plain_content}
use Rattle.js_program.specs.declared.node.Content.{Content}
use Rattle.js_program.specs.declared.node.Content.TheVariants as content
use Rattle.js_frames.specs.inner.Leads.{IsBegin, Rests, Leads, pushed, entered, first_of}
use Rattle.js_frames.proofs.InOrder.{bind_same}
use Rattle.js_frames.proofs.Lists.{drop_at, drop_past}
use Rattle.js_frames.proofs.Steps.{within_after, plug_pushed, fits_pushed, on_ok, ok_both, wait_leads, completes_at, fails_at, moves}

-- what a body does after it was entered, with the frame that waits for its first part
abbrev pub body_frame : PlainContent → Sequence → Frame
body_frame (p.statements ns) which = Waiting (Statements which 1)
body_frame (p.one_value n) which = Waiting Returned

-- the first node of a body is one of its parts
pub first_part : (content : PlainContent) (n : ℕ) → first_of content ≡ Some n → slice_get (content_parts content) 0 ≡ Some n
first_part (p.statements ns) n e = e
first_part (p.one_value m) n e = e

-- a body begins with its first node
pub body_begins : (g : Setting) (content : PlainContent) (which : Sequence) (n : ℕ) (s : State) → statements_of g.base.program which ≡ statements_in content → first_of content ≡ Some n → resume g (body_frame content which) (eval g n s) ≡ runs (eval g) content s
unfolding resume rest
body_begins g (p.statements ns) which n s same first =
    ap (λ l. eval g n s >>= λ _. sequence (eval g) (drop 1 l)) same
    ∙ ap (λ l. sequence (eval g) l s) (sym (drop_at ns 0 n first))
body_begins g (p.one_value m) which n s same first = let e : n ≡ m = cc in ap (λ k. eval g k s >>= λ x. went (js.returned x)) e

-- a body that begins with none does nothing
pub nothing_runs : (g : Setting) (content : PlainContent) (s : State) → first_of content ≡ None → leaves s ≡ runs (eval g) content s
nothing_runs g (p.statements ns) s first = ap (λ l. sequence (eval g) l s) (sym (drop_past ns 0 first))
nothing_runs g (p.one_value m) s first = cc

module _ (base : js.Ground) (old : Place) (body : PlainBody) (active : ℕ) (captured args : List PlainValue) where
  abbrev entering : State → Outcome
  entering = enters (eval (setting_at base old)) active body captured args

  pub enter_nothing : (step : Step) → step ≡ Give (Normal Undefined) → StackFits base.program old.stack → first_of body.content ≡ None → Leads base old entering old step
  enter_nothing step e fits first =
      subst (Leads base old entering old) (sym e)
      (completes_at base old entering (Normal Undefined) fits (λ beside.
      ap (after_call old.slots old.calls) (nothing_runs (setting_at base old) body.content (record (state_at old beside) { slots = slots_of_call body captured args; calls = active }) first)))

  pub enter_leads : (mid new : Place) (slots : List (Option PlainValue)) (which : Sequence) (n : ℕ) (r : Result Step AllocError) → slots ≡ slots_of_call body captured args → mid ≡ entered old slots active → StackFits base.program old.stack → SequenceFits base.program which → FrameFits base.program (body_frame body.content which) → IsNode base.program n → statements_of base.program which ≡ statements_in body.content → first_of body.content ≡ Some n → IfOk r (λ step. (step ≡ Begin n) × (new ≡ pushed mid (body_frame body.content which))) → IfOk r (λ step. Leads base old entering new step)
  unfolding resume
  enter_leads mid new slots which n r made e fits which_fits frame_fits inside same first w0 =
      let w = subst (λ m. IfOk r (λ step. (step ≡ Begin n) × (new ≡ pushed m (body_frame body.content which)))) e w0 in
      let there = entered old slots active in
      let go = wait_leads base there new (runs (eval (setting_at base old)) body.content) r (body_frame body.content which) n (fits_pushed base.program old.stack (Called old.slots old.calls) fits tt) w frame_fits inside (λ s. body_begins (setting_at base old) body.content which n s same first) in
      let begun = on_ok r (λ step x. x.0) w in
      on_ok r (λ step both. let l = both.1 in record {
        same = λ beside. l.same beside
            ∙ enter_plug beside
            ∙ ap (λ ss. plug (setting_at base old) old.stack (after_call old.slots old.calls (runs (eval (setting_at base old)) body.content (record (state_at old beside) { slots = ss; calls = active })))) made;
        same_mode = l.same_mode;
        same_budget = l.same_budget;
        within = within_after old there new refl l.within;
        stack_fits = l.stack_fits;
        step_fits = l.step_fits;
        rests = subst (λ q. Rests q old.stack new.stack) (sym both.0) tt;
      }) (ok_both _ _ r begun go)
    where
      enter_plug : (beside : Beside) → plug (setting_at base old) (old.stack ++ Called old.slots old.calls ∷ []) (runs (eval (setting_at base old)) body.content (record (state_at old beside) { slots = slots; calls = active })) ≡ plug (setting_at base old) old.stack (after_call old.slots old.calls (runs (eval (setting_at base old)) body.content (record (state_at old beside) { slots = slots; calls = active })))
      enter_plug beside = plug_pushed (setting_at base old) old.stack (Called old.slots old.calls) _

module _ (base : js.Ground) (old : Place) (line code : ℕ) (captured : ValueList) (args : List PlainValue) where
  abbrev calling : State → Outcome
  calling = calls (setting_at base old) (eval (setting_at base old)) line (v.function code captured) args

  pub too_deep : (step : Step) → step ≡ Fail fault.Depth line → nat_lt old.calls MOST_CALLS ≡ false → StackFits base.program old.stack → Leads base old calling old step
  too_deep step e room fits =
      subst (Leads base old calling old) (sym e)
      (fails_at base old calling fault.Depth line fits (λ beside.
      ap (λ t. cond t (enters (eval (setting_at base old)) (old.calls + 1) (body_of base.program code) (values_in captured) args) (breaks fault.Depth line) (state_at old beside)) (sym room)))

  pub no_function : (step : Step) → step ≡ Give (Normal Undefined) → nat_lt old.calls MOST_CALLS ≡ true → StackFits base.program old.stack → slice_get base.program.functions code ≡ None → Leads base old calling old step
  no_function step e room fits none =
      subst (Leads base old calling old) (sym e)
      (completes_at base old calling (Normal Undefined) fits (λ beside.
      ap (λ b. enters (eval (setting_at base old)) (old.calls + 1) b (values_in captured) args (state_at old beside)) (sym (ap (λ o. unwrap_or o no_body) none))
      ∙ ap (λ t. cond t (enters (eval (setting_at base old)) (old.calls + 1) (body_of base.program code) (values_in captured) args) (breaks fault.Depth line) (state_at old beside)) (sym room)))

  pub call_enters : (new : Place) (r : Result Step AllocError) (body : PlainBody) → slice_get base.program.functions code ≡ Some body → nat_lt old.calls MOST_CALLS ≡ true → IfOk r (λ step. Leads base old (enters (eval (setting_at base old)) (old.calls + 1) body (values_in captured) args) new step) → IfOk r (λ step. Leads base old calling new step)
  call_enters new r body found room w =
      on_ok r (λ step l. moves base old old new calling (enters (eval (setting_at base old)) (old.calls + 1) body (values_in captured) args) step refl refl refl refl (λ beside.
      ap (λ b. enters (eval (setting_at base old)) (old.calls + 1) b (values_in captured) args (state_at old beside)) (sym (ap (λ o. unwrap_or o no_body) found))
      ∙ ap (λ t. cond t (enters (eval (setting_at base old)) (old.calls + 1) (body_of base.program code) (values_in captured) args) (breaks fault.Depth line) (state_at old beside)) (sym room)) l) w

-- a walk over a list
module _ (g : Setting) (line : ℕ) (f : PlainValue) (items : PlainValue) where
  pub nothing_walks : (index : ℕ) (xs : List PlainValue) (s : State) → ((x : PlainValue) (k : ℕ) → calls g (eval g) line f (x ∷ v.whole (pos k) ∷ items ∷ []) s ≡ leaves s) → for_each_from g (eval g) line f items index xs s ≡ leaves s
  nothing_walks index [] s h = refl
  nothing_walks index (x ∷ xs) s h =
      ap (λ o. o >>= λ _. for_each_from g (eval g) line f items (suc index) xs) (h x index) ∙ nothing_walks (suc index) xs s h

-- only a function can be called
pub no_call : (g : Setting) (ev : ℕ → State → Outcome) (line : ℕ) (x : Value) (args : List PlainValue) (s : State) → ((code : ℕ) (cs : ValueList) → x ≡ value.Function code cs → ⊥) → breaks fault.Mistyped line s ≡ calls g ev line (plain_value x) args s
no_call g ev line value.Undefined args s h = refl
no_call g ev line value.Null args s h = refl
no_call g ev line (value.Truth b) args s h = refl
no_call g ev line (value.Whole n) args s h = refl
no_call g ev line (value.Text w) args s h = refl
no_call g ev line (value.List xs) args s h = refl
no_call g ev line (value.Fields fs) args s h = refl
no_call g ev line (value.Event e) args s h = refl
no_call g ev line (value.Set e) args s h = refl
no_call g ev line (value.Function c cs) args s h = absurd (h c cs refl)

-- the next statement, and then the others
pub next_statement : (g : Setting) (which : Sequence) (place n : ℕ) (s : State) → slice_get (statements_of g.base.program which) place ≡ Some n → (eval g n s >>= λ _. sequence_from g which (place + 1)) ≡ sequence_from g which place s
next_statement g which place n s at = ap (λ l. sequence (eval g) l s) (sym (drop_at (statements_of g.base.program which) place n at))

pub no_statement : (g : Setting) (which : Sequence) (place : ℕ) (s : State) → slice_get (statements_of g.base.program which) place ≡ None → leaves s ≡ sequence_from g which place s
no_statement g which place s at = ap (λ l. sequence (eval g) l s) (sym (drop_past (statements_of g.base.program which) place at))

-- the frame of a body whose content is known
pub statements_fit : (program : PlainProgram) (held : Content) (ns : _) (which : Sequence) → held ≡ content.Statements ns → SequenceFits program which → FrameFits program (body_frame (plain_content held) which)
statements_fit program held ns which is h = subst (λ q. FrameFits program (body_frame (plain_content q) which)) (sym is) h

pub statements_wait : (mid new : Place) (n : ℕ) (held : Content) (ns : _) (which : Sequence) (r : Result Step AllocError) → held ≡ content.Statements ns → IfOk r (λ step. (step ≡ Begin n) × (new ≡ pushed mid (Waiting (Statements which 1)))) → IfOk r (λ step. (step ≡ Begin n) × (new ≡ pushed mid (body_frame (plain_content held) which)))
statements_wait mid new n held ns which r is w = subst (λ q. IfOk r (λ step. (step ≡ Begin n) × (new ≡ pushed mid (body_frame (plain_content q) which)))) (sym is) w

pub value_fits : (program : PlainProgram) (held : Content) (m : ℕ) (which : Sequence) → held ≡ content.OneValue m → FrameFits program (body_frame (plain_content held) which)
value_fits program held m which is = subst (λ q. FrameFits program (body_frame (plain_content q) which)) (sym is) tt

pub value_waits : (mid new : Place) (n : ℕ) (held : Content) (m : ℕ) (which : Sequence) (r : Result Step AllocError) → held ≡ content.OneValue m → IfOk r (λ step. (step ≡ Begin n) × (new ≡ pushed mid (Waiting Returned))) → IfOk r (λ step. (step ≡ Begin n) × (new ≡ pushed mid (body_frame (plain_content held) which)))
value_waits mid new n held m which r is w = subst (λ q. IfOk r (λ step. (step ≡ Begin n) × (new ≡ pushed mid (body_frame (plain_content q) which)))) (sym is) w

-- the call for an element, and then the walk over those after it
module _ (base : js.Ground) (old new : Place) (w further : Walk) (body : PlainBody) (args : List PlainValue) where
  abbrev calls_it : State → Outcome
  calls_it = enters (eval (setting_at base old)) (old.calls + 1) body (values_in w.captured) args

  pub walks_on : (x : PlainValue) (r : Result Step AllocError) → slice_get base.program.functions w.code ≡ Some body → nat_lt old.calls MOST_CALLS ≡ true → slice_get (values_in w.items) w.index ≡ Some x → padded body.parameters args ≡ padded body.parameters (x ∷ v.whole (pos w.index) ∷ v.list w.items ∷ []) → further ≡ record w { index = w.index + 1 } → StackFits base.program old.stack → IfOk r IsBegin → IfOk r (λ step. Leads base (pushed old (Waiting (Walked further))) calls_it new step) → IfOk r (λ step. Leads base old (walk_from (setting_at base old) w) new step)
  unfolding resume rest
  walks_on x r found room get same is fits begins goes =
      on_ok r (λ step both. let l = both.1 in record {
        same = λ beside. l.same beside
            ∙ plug_pushed (setting_at base old) old.stack (Waiting (Walked further)) (calls_it (state_at old beside))
            ∙ ap (plug (setting_at base old) old.stack) (element beside);
        same_mode = l.same_mode;
        same_budget = l.same_budget;
        within = within_after old (pushed old (Waiting (Walked further))) new refl l.within;
        stack_fits = l.stack_fits;
        step_fits = l.step_fits;
        rests = begun_rests step old.stack new.stack both.0;
      }) (ok_both _ _ r begins goes)
    where
      f : PlainValue
      f = v.function w.code w.captured

      begun_rests : (step : Step) (st st' : List Frame) → IsBegin step → Rests step st st'
      begun_rests (Begin n) st st' h = tt
      begun_rests (Give c) st st' h = absurd h
      begun_rests (Ask s q l) st st' h = absurd h
      begun_rests (Fail k l) st st' h = absurd h
      begun_rests (Violate t) st st' h = absurd h

      element : (beside : Beside) → resume (setting_at base old) (Waiting (Walked further)) (calls_it (state_at old beside)) ≡ walk_from (setting_at base old) w (state_at old beside)
      element beside =
          let g : Setting = setting_at base old in
          let s : State = state_at old beside in
          let xs : List PlainValue = values_in w.items in
          let given : List PlainValue = x ∷ v.whole (pos w.index) ∷ v.list w.items ∷ [] in
          let one : w.index + 1 ≡ suc w.index = omega arith in
          ap (λ o. o >>= λ _. walk_from g further)
          (ap (λ ps. after_call s.slots s.calls (runs (eval g) body.content (record s { slots = fold (λ slots k. slice_set slots k (Some v.undefined)) (map Some (ps ++ values_in w.captured) ++ replicate (body.slots - (body.parameters + length (values_in w.captured))) None) body.vars; calls = old.calls + 1 }))) same
          ∙ ap (λ b. enters (eval g) (old.calls + 1) b (values_in w.captured) given s) (sym (ap (λ o. unwrap_or o no_body) found))
          ∙ ap (λ t. cond t (enters (eval g) (old.calls + 1) (body_of base.program w.code) (values_in w.captured) given) (breaks fault.Depth w.line) s) (sym room))
          ∙ bind_same (calls g (eval g) w.line f given s) (λ _. walk_from g further) (λ _. for_each_from g (eval g) w.line f (v.list w.items) (suc w.index) (drop (w.index + 1) xs))
          (λ y now. ap (λ q. walk_from g q now) is ∙ ap (λ k. for_each_from g (eval g) w.line f (v.list w.items) k (drop (w.index + 1) xs) now) one)
          ∙ ap (λ l. for_each_from g (eval g) w.line f (v.list w.items) w.index l s) (sym (drop_at xs w.index x get))

-- a walk that is over
pub walk_over : (base : js.Ground) (old : Place) (w : Walk) (step : Step) → step ≡ Give (Normal Undefined) → StackFits base.program old.stack → slice_get (values_in w.items) w.index ≡ None → Leads base old (walk_from (setting_at base old) w) old step
walk_over base old w step e fits get =
    subst (Leads base old (walk_from (setting_at base old) w) old) (sym e)
    (completes_at base old (walk_from (setting_at base old) w) (Normal Undefined) fits (λ b.
    ap (λ l. for_each_from (setting_at base old) (eval (setting_at base old)) w.line (v.function w.code w.captured) (v.list w.items) w.index l (state_at old b)) (sym (drop_past (values_in w.items) w.index get))))

-- a walk whose call is too deep
pub walk_too_deep : (base : js.Ground) (old : Place) (w : Walk) (x : PlainValue) (step : Step) → step ≡ Fail fault.Depth w.line → StackFits base.program old.stack → slice_get (values_in w.items) w.index ≡ Some x → nat_lt old.calls MOST_CALLS ≡ false → Leads base old (walk_from (setting_at base old) w) old step
walk_too_deep base old w x step e fits get room =
    let g : Setting = setting_at base old in
    let f : PlainValue = v.function w.code w.captured in
    let xs : List PlainValue = values_in w.items in
    let given : List PlainValue = x ∷ v.whole (pos w.index) ∷ v.list w.items ∷ [] in
    subst (Leads base old (walk_from g w) old) (sym e)
    (fails_at base old (walk_from g w) fault.Depth w.line fits (λ b.
    ap (λ t. cond t (enters (eval g) (old.calls + 1) (body_of base.program w.code) (values_in w.captured) given) (breaks fault.Depth w.line) (state_at old b) >>= λ _. for_each_from g (eval g) w.line f (v.list w.items) (suc w.index) (drop (w.index + 1) xs)) (sym room)
    ∙ ap (λ l. for_each_from g (eval g) w.line f (v.list w.items) w.index l (state_at old b)) (sym (drop_at xs w.index x get))))

-- a walk with a function that begins nothing
pub walk_nothing : (base : js.Ground) (old : Place) (w : Walk) (step : Step) → step ≡ Give (Normal Undefined) → StackFits base.program old.stack → nat_lt old.calls MOST_CALLS ≡ true → first_of (let b = body_of base.program w.code in b.content) ≡ None → Leads base old (walk_from (setting_at base old) w) old step
walk_nothing base old w step e fits room none =
    let g : Setting = setting_at base old in
    let f : PlainValue = v.function w.code w.captured in
    subst (Leads base old (walk_from g w) old) (sym e)
    (completes_at base old (walk_from g w) (Normal Undefined) fits (λ b.
    sym (nothing_walks g w.line f (v.list w.items) w.index (drop w.index (values_in w.items)) (state_at old b) (λ x k.
    ap (λ t. cond t (enters (eval g) (old.calls + 1) (body_of base.program w.code) (values_in w.captured) (x ∷ v.whole (pos k) ∷ v.list w.items ∷ [])) (breaks fault.Depth w.line) (state_at old b)) room
    ∙ ap (after_call old.slots old.calls) (sym (nothing_runs g (let q = body_of base.program w.code in q.content) (record (state_at old b) { slots = slots_of_call (body_of base.program w.code) (values_in w.captured) (x ∷ v.whole (pos k) ∷ v.list w.items ∷ []); calls = old.calls + 1 }) none))))))

-- a method that calls nothing
pub no_method_call : (g : Setting) (ev : ℕ → State → Outcome) (line : ℕ) (word : List ℕ) (x : Value) (args : List PlainValue) (s : State) → ((fs : _) → x ≡ value.Fields fs → ⊥) → ((xs : ValueList) → x ≡ value.List xs → ⊥) → applies line (method_named word) (plain_value x) args s ≡ calls_method g ev line word (plain_value x) args s
no_method_call g ev line word value.Undefined args s h k = refl
no_method_call g ev line word value.Null args s h k = refl
no_method_call g ev line word (value.Truth b) args s h k = refl
no_method_call g ev line word (value.Whole n) args s h k = refl
no_method_call g ev line word (value.Text w) args s h k = refl
no_method_call g ev line word (value.List xs) args s h k = absurd (k xs refl)
no_method_call g ev line word (value.Fields fs) args s h k = absurd (h fs refl)
no_method_call g ev line word (value.Event e) args s h k = refl
no_method_call g ev line word (value.Set e) args s h k = refl
no_method_call g ev line word (value.Function c cs) args s h k = refl

-- a walk begins at the first element
pub walk_begins : (g : Setting) (ev : ℕ → State → Outcome) (line : ℕ) (items : ValueList) (args : List PlainValue) (code : ℕ) (captured : ValueList) (x : Value) (s : State) → x ≡ value.Function code captured → plain_value x ≡ argument 0 args → for_each_from g ev line (v.function code captured) (v.list items) 0 (values_in items) s ≡ for_each_call g ev line items args s
walk_begins g ev line items [] code captured x s is e = let k : plain_value (value.Function code captured) ≡ v.undefined = subst (λ q. plain_value q ≡ v.undefined) is e in cc
walk_begins g ev line items (y ∷ ys) code captured x s is e =
    let k : v.function code captured ≡ y = subst (λ q. plain_value q ≡ y) is e in
    ap (λ q. for_each_call g ev line items (q ∷ ys) s) k

-- what is not a function is none to walk with
pub no_walk : (g : Setting) (ev : ℕ → State → Outcome) (line : ℕ) (items : ValueList) (args : List PlainValue) (x : Value) (s : State) → plain_value x ≡ argument 0 args → ((code : ℕ) (cs : ValueList) → x ≡ value.Function code cs → ⊥) → breaks fault.Mistyped line s ≡ for_each_call g ev line items args s
no_walk g ev line items [] x s e h = refl
no_walk g ev line items (y ∷ ys) x s e h = by_value x e h
  where
    by_value : (x : Value) → plain_value x ≡ y → ((code : ℕ) (cs : ValueList) → x ≡ value.Function code cs → ⊥) → breaks fault.Mistyped line s ≡ for_each_call g ev line items (y ∷ ys) s
    by_value value.Undefined e h = ap (λ q. for_each_call g ev line items (q ∷ ys) s) e
    by_value value.Null e h = ap (λ q. for_each_call g ev line items (q ∷ ys) s) e
    by_value (value.Truth b) e h = ap (λ q. for_each_call g ev line items (q ∷ ys) s) e
    by_value (value.Whole n) e h = ap (λ q. for_each_call g ev line items (q ∷ ys) s) e
    by_value (value.Text w) e h = ap (λ q. for_each_call g ev line items (q ∷ ys) s) e
    by_value (value.List xs) e h = ap (λ q. for_each_call g ev line items (q ∷ ys) s) e
    by_value (value.Fields fs) e h = ap (λ q. for_each_call g ev line items (q ∷ ys) s) e
    by_value (value.Event z) e h = ap (λ q. for_each_call g ev line items (q ∷ ys) s) e
    by_value (value.Set z) e h = ap (λ q. for_each_call g ev line items (q ∷ ys) s) e
    by_value (value.Function c cs) e h = absurd (h c cs refl)

-- a call and a frame make no effects
pub same_effects : (old mid new : Engine) (slots : List (Option PlainValue)) (active : ℕ) (part : ℕ) (frame : Frame) (r : Result Step AllocError) → place_of mid ≡ entered (place_of old) slots active → IfOk r (λ step. (step ≡ Begin part) × (place_of new ≡ pushed (place_of mid) frame)) → OnOk r (plain_effects new.effects ≡ plain_effects old.effects)
same_effects old mid new slots active part frame (Ok step) e w = ap (λ (q : Place). q.effects) w.1 ∙ ap (λ (q : Place). q.effects) e
same_effects old mid new slots active part frame (Err x) e w = tt

pub no_answer : (c : Completion) → ((x : Value) → c ≡ completion.Returned x → ⊥) → v.undefined ≡ answer_of (plain_completion c)
no_answer (completion.Normal x) h = refl
no_answer completion.Broke h = refl
no_answer completion.Continued h = refl
no_answer (completion.Returned x) h = absurd (h x refl)
