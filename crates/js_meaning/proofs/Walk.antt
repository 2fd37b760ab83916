-- A relation between two ways to go on from a state, which holds of what begins no node and through
-- each way to combine, holds of what every form does.
use Rattle.std.proofs.Common.{◌≡◌, ℕ, suc, ◌+◌, Bool, true, false, cond, List, [], ◌∷◌, ◌++◌, Option, Some, None, Ok, Err, refl}
use Rattle.std.specs.Prelude.{pos, unwrap_or, nat_lt, codes, drop}
use Rattle.std.specs.Str.{bytes_eq}
use Rattle.js_data.specs.declared.fault.Fault.{Fault}
use Rattle.js_data.specs.declared.fault.Fault.TheVariants as fault
use Rattle.js_tree.specs.declared.tree.Step.{Step}
use Rattle.js_tree.specs.declared.tree.Fix.{Fix}
use Rattle.js_tree.specs.declared.tree.Fix.TheVariants as fix
use Rattle.js_tree.specs.declared.tree.Operator.TheVariants as operator
use Rattle.js_tree.specs.declared.tree.DeclareKind.{DeclareKind}
use Rattle.js_tree.specs.declared.tree.DeclareKind.TheVariants.{Const, Let, Var}
use Rattle.js_value.specs.Value as v
use Rattle.js_value.specs.Value.{PlainValue, ValueList, is_truthy}
use Rattle.js_value.specs.Lists.{value_list_of, values_in}
use Rattle.js_value.specs.declared.op.Op.{Op}
use Rattle.js_value.specs.declared.op.Op.TheVariants as op
use Rattle.js_value.specs.declared.op.Method.{Method}
use Rattle.js_value.specs.declared.op.Make.TheVariants as make
use Rattle.js_ops.specs.Made.{Answer, made}
use Rattle.js_ops.specs.Operators.{value_of, unary_of}
use Rattle.js_ops.specs.Members.{member_of, index_of, field_or_undefined}
use Rattle.js_ops.specs.Methods.{method_named, method_of}
use Rattle.js_ops.specs.Making.{make_of}
use Rattle.js_program.specs.declared.builtin.Builtin.{Builtin}
use Rattle.js_program.specs.declared.builtin.Builtin.TheVariants as form
use Rattle.js_program.specs.declared.builtin.Mode.{Mode}
use Rattle.js_program.specs.declared.builtin.Mode.TheVariants.{Top, Thread, Handler, Predicate}
use Rattle.js_program.specs.Builtins.{has_effect_in}
use Rattle.js_program.specs.declared.node.Variable.{Variable}
use Rattle.js_program.specs.declared.node.Variable.TheVariants.{Slot, Constant}
use Rattle.js_program.specs.PlainProgram as p
use Rattle.js_program.specs.PlainProgram.{PlainNode, PlainNodeForm, PlainBody, PlainContent, PlainDeclared, parts_of}
use Rattle.js_meaning.specs.declared.limits.TheConstants.{MOST_CALLS}
use Rattle.js_meaning.specs.State.{Setting, Effect, State, Completion, normal, broke, continued, returned, left_of, Outcome, went, violated, spends, ◌>>=◌, gives, leaves, breaks, answered}
use Rattle.js_meaning.specs.Variables.{in_slot, held, set_slot, set_variable, undeclare, if_declared, slots_of_call, captured}
use Rattle.js_meaning.specs.Calls.{body_of, after_call, applies, sequence, in_order, runs, enters, calls, for_each_from, for_each_call, calls_method}
use Rattle.js_meaning.specs.Forms.{argument, does_to_run, registers_thread, asks, asserted, enqueues_event, sets_handler, log_text, logs, floors, takes_effect, applies_form}
use Rattle.js_meaning.specs.Expressions.{unary_for, step_for, op_for, op_before, by_rule, writes, updates, does_update, assigns, combines}
use Rattle.js_meaning.specs.Statements.{after_iteration, without_value, declares, does_declaration, does_if_else, tests, perhaps, one_iteration, each, each_of}
use Rattle.js_meaning.specs.Meaning.{does, does_node}
use Rattle.js_meaning.specs.Bodies.{Origin, the_top, function, runs_body}
use Rattle.js_meaning.specs.Modes.{acts}

-- what such a relation must hold of
pub record Ways (g : Setting) (W : (State → Outcome) → (State → Outcome) → Type 0) : Type 0 where
  pub completing : (c : Completion) → W (went c) (went c)
  pub breaking : (f : Fault) (line : ℕ) → W (breaks f line) (breaks f line)
  pub spending : W spends spends
  pub violating : (text : List ℕ) → has_effect_in g.mode form.Assert ≡ true → W (λ s. violated text (left_of s)) (λ s. violated text (left_of s))
  pub asking : (line : ℕ) (x y : PlainValue) → has_effect_in g.mode form.Sync ≡ true → W (λ s. asks g.budget line x y s.replies s) (λ s. asks g.budget line x y s.replies s)
  pub acting : (x : Effect) → acts g.mode ≡ true → W (does_to_run x) (does_to_run x)
  pub changing : (k : ℕ) (x : Option PlainValue) (f f' : State → Outcome) → W f f' → W (λ s. f (set_slot k x s)) (λ s. f' (set_slot k x s))
  pub declaring : (x : Variable) (y : PlainValue) → W (λ s. leaves (set_variable x y s)) (λ s. leaves (set_variable x y s))
  pub looking : (f f' : List (Option PlainValue) → Option (List (Option PlainValue)) → ℕ → State → Outcome) →
      ((slots : List (Option PlainValue)) (constants : Option (List (Option PlainValue))) (n : ℕ) → W (f slots constants n) (f' slots constants n)) →
      W (λ s. f s.slots s.constants s.calls s) (λ s. f' s.slots s.constants s.calls s)
  pub binding : (f f' : State → Outcome) (c c' : PlainValue → State → Outcome) → W f f' → ((x : PlainValue) → W (c x) (c' x)) → W (λ s. f s >>= c) (λ s. f' s >>= c')
  pub iterating : (f f' c c' : State → Outcome) → W f f' → W c c' → W (λ s. after_iteration (f s) c) (λ s. after_iteration (f' s) c')
  pub entering : (slots : List (Option PlainValue)) (active : ℕ) (f f' : State → Outcome) → W f f' →
      W (λ s. after_call s.slots s.calls (f (record s { slots = slots; calls = active }))) (λ s. after_call s.slots s.calls (f' (record s { slots = slots; calls = active })))

-- forms with an effect have none in predicates
thread_form : (m : Mode) → has_effect_in m form.SetInterruptHandler ≡ true → acts m ≡ true
thread_form Top h = refl
thread_form Thread h = refl
thread_form Handler h = refl
thread_form Predicate h = h

acting_form : (m : Mode) → has_effect_in m form.LogInfo ≡ true → acts m ≡ true
acting_form Top h = refl
acting_form Thread h = refl
acting_form Handler h = refl
acting_form Predicate h = h

module _ (g : Setting) (W : (State → Outcome) → (State → Outcome) → Type 0) (w : Ways g W) where
  pub bind : {f f' : State → Outcome} (c c' : PlainValue → State → Outcome) → W f f' → ((x : PlainValue) → W (c x) (c' x)) → W (λ s. f s >>= c) (λ s. f' s >>= c')
  bind {f} {f'} c c' a h = w.binding f f' c c' a h

  pub either : {f f' h h' : State → Outcome} (c : Bool) → W f f' → W h h' → W (cond c f h) (cond c f' h')
  either true x y = x
  either false x y = y

  -- the first branch where the test is true
  where_true : (f f' h h' : State → Outcome) (c : Bool) → (c ≡ true → W f f') → W h h' → W (cond c f h) (cond c f' h')
  where_true f f' h h' true x y = x refl
  where_true f f' h h' false x y = y

  pub gives_walk : (x : PlainValue) → W (gives x) (gives x)
  gives_walk x = w.completing (normal x)

  pub leaves_walk : W leaves leaves
  leaves_walk = w.completing (normal v.undefined)

  answered_walk : (line : ℕ) (r : Answer) → W (answered line r) (answered line r)
  answered_walk line (Ok x) = gives_walk x
  answered_walk line (Err f) = w.breaking f line

  -- ---- variables

  if_declared_walk : (line : ℕ) (o : Option PlainValue) (f f' : PlainValue → State → Outcome) → ((y : PlainValue) → W (f y) (f' y)) → W (if_declared line o f) (if_declared line o f')
  if_declared_walk line None f f' h = w.breaking fault.Early line
  if_declared_walk line (Some y) f f' h = h y

  pub slot_walk : (line k : ℕ) (f f' : PlainValue → State → Outcome) → ((y : PlainValue) → W (f y) (f' y)) → W (λ s. if_declared line (in_slot k s.slots) f s) (λ s. if_declared line (in_slot k s.slots) f' s)
  slot_walk line k f f' h =
      w.looking (λ slots _ _. if_declared line (in_slot k slots) f) (λ slots _ _. if_declared line (in_slot k slots) f') (λ slots _ _. if_declared_walk line (in_slot k slots) f f' h)

  read_walk : (line : ℕ) (x : Variable) → W (λ s. if_declared line (held g.base x s) gives s) (λ s. if_declared line (held g.base x s) gives s)
  read_walk line (Slot k) = slot_walk line k gives gives gives_walk
  read_walk line (Constant k) =
      w.looking (λ _ constants _. if_declared line (in_slot k (unwrap_or constants g.base.constants)) gives) (λ _ constants _. if_declared line (in_slot k (unwrap_or constants g.base.constants)) gives)
      (λ _ constants _. if_declared_walk line (in_slot k (unwrap_or constants g.base.constants)) gives gives gives_walk)

  undeclare_walk : (ks : List ℕ) (f f' : State → Outcome) → W f f' → W (λ s. f (undeclare ks s)) (λ s. f' (undeclare ks s))
  undeclare_walk [] f f' h = h
  undeclare_walk (k ∷ ks) f f' h = w.changing k None (λ s. f (undeclare ks s)) (λ s. f' (undeclare ks s)) (undeclare_walk ks f f' h)

  pub writes_walk : (line k : ℕ) (r : Answer) → W (writes line k r) (writes line k r)
  writes_walk line k (Ok y) = w.changing k (Some y) (gives y) (gives y) (gives_walk y)
  writes_walk line k (Err f) = w.breaking f line

  updates_walk : (line : ℕ) (fix : Fix) (k : ℕ) (old : PlainValue) (r : Answer) → W (updates line fix k old r) (updates line fix k old r)
  updates_walk line fix.Before k old r = writes_walk line k r
  updates_walk line fix.After k old r = bind _ _ (writes_walk line k r) (λ y. gives_walk old)

  does_update_walk : (line : ℕ) (step : Step) (fix : Fix) (k : ℕ) → W (does_update line step fix k) (does_update line step fix k)
  does_update_walk line step fix k = slot_walk line k _ _ (λ y. updates_walk line fix k y (unary_of (step_for step) y))

  function_walk : (line code : ℕ) (ks : List ℕ) → W (λ s. answered line (made (v.function code (value_list_of (captured ks s.slots)))) s) (λ s. answered line (made (v.function code (value_list_of (captured ks s.slots)))) s)
  function_walk line code ks =
      w.looking (λ slots _ _. answered line (made (v.function code (value_list_of (captured ks slots))))) (λ slots _ _. answered line (made (v.function code (value_list_of (captured ks slots)))))
      (λ slots _ _. answered_walk line (made (v.function code (value_list_of (captured ks slots)))))

  without_value_walk : (kind : DeclareKind) (x : Variable) → W (λ s. leaves (without_value kind x s)) (λ s. leaves (without_value kind x s))
  without_value_walk Var x = leaves_walk
  without_value_walk Let x = w.declaring x v.undefined
  without_value_walk Const x = w.declaring x v.undefined

  -- ---- forms of `bp` and `Math`

  applies_walk : (line : ℕ) (o : Option Method) (x : PlainValue) (args : List PlainValue) → W (applies line o x args) (applies line o x args)
  applies_walk line None x args = w.breaking fault.Mistyped line
  applies_walk line (Some f) x args = answered_walk line (method_of f x args)

  registers_walk : (line : ℕ) (x y : PlainValue) → acts g.mode ≡ true → W (registers_thread line x y) (registers_thread line x y)
  registers_walk line (v.text name) (v.function code captured) is = w.acting _ is
  registers_walk line _ _ is = w.breaking fault.Mistyped line

  asserted_walk : (line : ℕ) (x y : PlainValue) → has_effect_in g.mode form.Assert ≡ true → W (asserted line x y) (asserted line x y)
  asserted_walk line x (v.text text) is = either (is_truthy x) leaves_walk (w.violating text is)
  asserted_walk line x _ is = w.breaking fault.Mistyped line

  enqueues_walk : (line : ℕ) (x : PlainValue) → acts g.mode ≡ true → W (enqueues_event line x) (enqueues_event line x)
  enqueues_walk line (v.event e) is = w.acting _ is
  enqueues_walk line _ is = w.breaking fault.Mistyped line

  sets_handler_walk : (line : ℕ) (x : PlainValue) → acts g.mode ≡ true → W (sets_handler line x) (sets_handler line x)
  sets_handler_walk line (v.function code captured) is = w.acting _ is
  sets_handler_walk line _ is = w.breaking fault.Mistyped line

  logs_walk : (line : ℕ) (o : Option (List ℕ)) → acts g.mode ≡ true → W (logs line o) (logs line o)
  logs_walk line None is = w.breaking fault.Mistyped line
  logs_walk line (Some text) is = w.acting _ is

  floors_walk : (line : ℕ) (x : PlainValue) → W (floors line x) (floors line x)
  floors_walk line (v.whole n) = gives_walk (v.whole n)
  floors_walk line _ = w.breaking fault.Mistyped line

  takes_effect_walk : (line : ℕ) (f : Builtin) (args : List PlainValue) → has_effect_in g.mode f ≡ true → W (takes_effect g.budget line f args) (takes_effect g.budget line f args)
  takes_effect_walk line form.RegisterBThread args is = registers_walk line (argument 0 args) (argument 1 args) (acting_form g.mode is)
  takes_effect_walk line form.Sync args is = w.asking line (argument 0 args) (argument 1 args) is
  takes_effect_walk line form.Event args is = answered_walk line (make_of make.Event args [])
  takes_effect_walk line form.EventSet args is = answered_walk line (make_of make.Set args [])
  takes_effect_walk line form.All args is = gives_walk (v.set v.all)
  takes_effect_walk line form.Nothing args is = gives_walk (v.set v.nothing)
  takes_effect_walk line form.Assert args is = asserted_walk line (argument 0 args) (argument 1 args) is
  takes_effect_walk line form.EnqueueExternalEvent args is = enqueues_walk line (argument 0 args) (acting_form g.mode is)
  takes_effect_walk line form.SetInterruptHandler args is = sets_handler_walk line (argument 0 args) (thread_form g.mode is)
  takes_effect_walk line form.LogInfo args is = logs_walk line (log_text (argument 0 args)) (acting_form g.mode is)
  takes_effect_walk line form.Floor args is = floors_walk line (argument 0 args)

  applies_form_walk : (line : ℕ) (f : Builtin) (args : List PlainValue) → W (applies_form g line f args) (applies_form g line f args)
  applies_form_walk line f args = where_true _ _ _ _ (has_effect_in g.mode f) (takes_effect_walk line f args) (w.breaking fault.Mode line)

  -- ---- what begins parts: `ev` and `ev'` give what a part does

  module _ (ev ev' : ℕ → State → Outcome) (h : (n : ℕ) → W (ev n) (ev' n)) where
    pub sequence_walk : (ns : List ℕ) → W (sequence ev ns) (sequence ev' ns)
    sequence_walk [] = leaves_walk
    sequence_walk (n ∷ ns) = bind _ _ (h n) (λ x. sequence_walk ns)

    pub in_order_walk : (ns : List ℕ) (vs : List PlainValue) (f f' : List PlainValue → State → Outcome) → ((us : List PlainValue) → W (f us) (f' us)) → W (in_order ev ns vs f) (in_order ev' ns vs f')
    in_order_walk [] vs f f' k = k vs
    in_order_walk (n ∷ ns) vs f f' k = bind _ _ (h n) (λ x. in_order_walk ns (vs ++ x ∷ []) f f' k)

    runs_walk : (content : PlainContent) → W (runs ev content) (runs ev' content)
    runs_walk (p.statements ns) = sequence_walk ns
    runs_walk (p.one_value n) = bind _ _ (h n) (λ x. w.completing (returned x))

    enters_walk : (active : ℕ) (body : PlainBody) (held args : List PlainValue) → W (enters ev active body held args) (enters ev' active body held args)
    enters_walk active body held args = w.entering (slots_of_call body held args) active (runs ev body.content) (runs ev' body.content) (runs_walk body.content)

    calls_walk : (line : ℕ) (f : PlainValue) (args : List PlainValue) → W (calls g ev line f args) (calls g ev' line f args)
    calls_walk line (v.function code held) args =
        w.looking (λ _ _ n. cond (nat_lt n MOST_CALLS) (enters ev (n + 1) (body_of g.base.program code) (values_in held) args) (breaks fault.Depth line))
        (λ _ _ n. cond (nat_lt n MOST_CALLS) (enters ev' (n + 1) (body_of g.base.program code) (values_in held) args) (breaks fault.Depth line))
        (λ _ _ n. either (nat_lt n MOST_CALLS) (enters_walk (n + 1) (body_of g.base.program code) (values_in held) args) (w.breaking fault.Depth line))
    calls_walk line _ args = w.breaking fault.Mistyped line

    pub for_each_from_walk : (line : ℕ) (f items : PlainValue) (index : ℕ) (xs : List PlainValue) → W (for_each_from g ev line f items index xs) (for_each_from g ev' line f items index xs)
    for_each_from_walk line f items index [] = leaves_walk
    for_each_from_walk line f items index (x ∷ xs) = bind _ _ (calls_walk line f (x ∷ v.whole (pos index) ∷ items ∷ [])) (λ y. for_each_from_walk line f items (suc index) xs)

    for_each_call_walk : (line : ℕ) (xs : ValueList) (args : List PlainValue) → W (for_each_call g ev line xs args) (for_each_call g ev' line xs args)
    for_each_call_walk line xs (v.function code held ∷ others) = for_each_from_walk line (v.function code held) (v.list xs) 0 (values_in xs)
    for_each_call_walk line xs _ = w.breaking fault.Mistyped line

    calls_method_walk : (line : ℕ) (word : List ℕ) (x : PlainValue) (args : List PlainValue) → W (calls_method g ev line word x args) (calls_method g ev' line word x args)
    calls_method_walk line word (v.fields fs) args = calls_walk line (field_or_undefined fs word) args
    calls_method_walk line word (v.list xs) args = either (bytes_eq word (codes "forEach")) (for_each_call_walk line xs args) (applies_walk line (method_named word) (v.list xs) args)
    calls_method_walk line word x args = applies_walk line (method_named word) x args

    pub combines_walk : (line : ℕ) (node : PlainNodeForm) (vs : List PlainValue) → W (combines g ev line node vs) (combines g ev' line node vs)
    combines_walk line (p.number n) vs = gives_walk (v.whole n)
    combines_walk line (p.text text) vs = answered_walk line (made (v.text text))
    combines_walk line (p.truth b) vs = gives_walk (v.truth b)
    combines_walk line p.null vs = gives_walk v.null
    combines_walk line p.undefined vs = gives_walk v.undefined
    combines_walk line (p.read x) vs = read_walk line x
    combines_walk line (p.function code) vs = function_walk line code (body_of g.base.program code).captures
    combines_walk line (p.update step fix k) vs = does_update_walk line step fix k
    combines_walk line (p.list ns) vs = answered_walk line (make_of make.List vs [])
    combines_walk line (p.fields keys ns) vs = answered_walk line (make_of make.Fields vs keys)
    combines_walk line (p.member x word) vs = answered_walk line (member_of (argument 0 vs) word)
    combines_walk line (p.index x i) vs = answered_walk line (index_of (argument 0 vs) (argument 1 vs))
    combines_walk line (p.call f arguments) vs = calls_walk line (argument 0 vs) (drop 1 vs)
    combines_walk line (p.method x word arguments) vs = calls_method_walk line word (argument 0 vs) (drop 1 vs)
    combines_walk line (p.builtin f arguments) vs = applies_form_walk line f vs
    combines_walk line (p.floor_divide a b dropped) vs = answered_walk line (value_of op.FloorDivide (argument 0 vs) (argument 1 vs))
    combines_walk line (p.unary sign e) vs = answered_walk line (unary_of (unary_for sign) (argument 0 vs))
    combines_walk line (p.binary o a b) vs = answered_walk line (by_rule (op_for o) (argument 0 vs) (argument 1 vs))
    combines_walk line p.break_of vs = w.completing broke
    combines_walk line p.continue_of vs = w.completing continued
    combines_walk line p.return_nothing vs = w.completing (returned v.undefined)
    combines_walk line (p.return_of e) vs = w.completing (returned (argument 0 vs))
    combines_walk line _ vs = leaves_walk

    assigns_walk : (line : ℕ) (o : Option Op) (k e : ℕ) → W (assigns ev line o k e) (assigns ev' line o k e)
    assigns_walk line None k e = bind _ _ (h e) (λ y. slot_walk line k _ _ (λ _. writes_walk line k (Ok y)))
    assigns_walk line (Some o) k e = slot_walk line k _ _ (λ y. bind _ _ (h e) (λ z. writes_walk line k (value_of o y z)))

    declares_walk : (kind : DeclareKind) (x : Variable) (o : Option ℕ) → W (declares ev kind x o) (declares ev' kind x o)
    declares_walk kind x None = without_value_walk kind x
    declares_walk kind x (Some e) = bind _ _ (h e) (λ y. w.declaring x y)

    pub declaration_walk : (kind : DeclareKind) (ds : List PlainDeclared) → W (does_declaration ev kind ds) (does_declaration ev' kind ds)
    declaration_walk kind [] = leaves_walk
    declaration_walk kind (d ∷ ds) = bind _ _ (declares_walk kind d.variable d.value) (λ x. declaration_walk kind ds)

    if_else_walk : (test a b : ℕ) → W (does_if_else ev test a b) (does_if_else ev' test a b)
    if_else_walk test a b = bind _ _ (h test) (λ y. either (is_truthy y) (h a) (h b))

    pub each_walk : (k body : ℕ) (vs : List PlainValue) → W (each ev k body vs) (each ev' k body vs)
    each_walk k body [] = leaves_walk
    each_walk k body (y ∷ ys) = w.iterating _ _ _ _ (w.changing k (Some y) (ev body) (ev' body) (h body)) (each_walk k body ys)

    pub each_of_walk : (line k body : ℕ) (y : PlainValue) → W (each_of ev line k body y) (each_of ev' line k body y)
    each_of_walk line k body (v.list vs) = each_walk k body (values_in vs)
    each_of_walk line k body _ = w.breaking fault.Mistyped line

    pub tests_walk : (test : Option ℕ) → W (tests ev test) (tests ev' test)
    tests_walk None = gives_walk (v.truth true)
    tests_walk (Some n) = h n

    pub perhaps_walk : (o : Option ℕ) → W (perhaps ev o) (perhaps ev' o)
    perhaps_walk None = leaves_walk
    perhaps_walk (Some n) = h n

    pub one_iteration_walk : (test : Option ℕ) (body : ℕ) (next : Option ℕ) (again again' : State → Outcome) → W again again' → W (one_iteration ev test body next again) (one_iteration ev' test body next again')
    one_iteration_walk test body next again again' a =
        bind _ _ (tests_walk test) (λ x. either (is_truthy x) (w.iterating _ _ _ _ (h body) (bind _ _ (perhaps_walk next) (λ _. a))) leaves_walk)

    module _ (repeat repeat' : Option ℕ → ℕ → Option ℕ → State → Outcome) (r : (test : Option ℕ) (body : ℕ) (next : Option ℕ) → W (repeat test body next) (repeat' test body next)) where
      does_walk : (line : ℕ) (node : PlainNodeForm) → W (does g ev repeat line node) (does g ev' repeat' line node)
      does_walk line (p.binary operator.Or a b) = bind _ _ (h a) (λ x. either (is_truthy x) (gives_walk x) (h b))
      does_walk line (p.binary operator.And a b) = bind _ _ (h a) (λ x. either (is_truthy x) (h b) (gives_walk x))
      does_walk line (p.conditional test a b) = if_else_walk test a b
      does_walk line (p.assign o k e) = assigns_walk line (op_before o) k e
      does_walk line (p.block slots ns) = undeclare_walk slots (sequence ev ns) (sequence ev' ns) (sequence_walk ns)
      does_walk line (p.declaration kind declared) = declaration_walk kind declared
      does_walk line (p.if_alone test body) = bind _ _ (h test) (λ y. either (is_truthy y) (h body) leaves_walk)
      does_walk line (p.if_else test body other) = if_else_walk test body other
      does_walk line (p.while_of test body) = r (Some test) body None
      does_walk line (p.for_three slots first test next body) = bind _ _ (undeclare_walk slots (perhaps ev first) (perhaps ev' first) (perhaps_walk first)) (λ y. r test body next)
      does_walk line (p.for_of k items body) = bind _ _ (undeclare_walk (k ∷ []) (ev items) (ev' items) (h items)) (λ y. each_of_walk line k body y)
      does_walk line node = in_order_walk (parts_of node) [] _ _ (combines_walk line node)

      pub node_walk : (o : Option PlainNode) → W (does_node g ev repeat o) (does_node g ev' repeat' o)
      node_walk None = w.spending
      node_walk (Some node) = does_walk node.line node.form

    pub body_walk : (o : Origin) → W (runs_body g ev o) (runs_body g ev' o)
    body_walk the_top = enters_walk 0 g.base.program.top [] []
    body_walk (function mode f args) = calls_walk 0 f args
