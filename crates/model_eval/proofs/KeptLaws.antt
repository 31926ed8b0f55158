-- What a method keeps of a world, row by row.
use Rattle.std.proofs.Common.{◌≡◌, Bool, ℕ, zero, suc, ◌+◌, ◌-◌, true, false, List, [], ◌∷◌, ◌++◌, length, Option, Some, None, nat_eq, refl, subst, arith, if◌then◌else◌, slice_get, bytes_eq}
use Rattle.std.specs.Prelude.{is_some}
use Rattle.std.proofs.lemmas.List.{length_push}
use Rattle.model_value.specs.Plain.{PlainValue, nil, bool, text, ref, list, InBounds, AllInBounds}
use Rattle.model_value.specs.View.{plains_of}
use Rattle.world_plain.specs.World.{ObjectRecord}
use Rattle.world_plain.specs.Valid.{Valid, object_at}
use Rattle.model_tree.specs.Tree.{Name, Expression, this, local, field, unary, binary, builtin, call, future, create, Expressions, no_expressions, expression, Statement, declare, assign, set_field, when, while, give, do_, Statements, no_statements, statement, Otherwise, no_else, else_block, MethodTree, ClassTree, ProgramTree}
use Rattle.model_tree.specs.Tree as tree
use Rattle.model_tree.specs.declared.tree.BinaryOp.{BinaryOp}
use Rattle.model_tree.specs.declared.tree.BinaryOp.TheVariants as op
use Rattle.model_tree.specs.Bounds.{how_many, FewArguments, AllFewArguments, HasFewArguments, AllHaveFewArguments, ElseHasFewArguments, MethodsFit, ClassesFit}
use Rattle.model_tree.specs.Names.{HasShortNames, AllHaveShortNames, NamesAreShort, AllNamesAreShort, ElseNamesAreShort, MethodNamesAreShort, ClassNamesAreShort}
use Rattle.model_solved.specs.Builtins.{builtin_named}
use Rattle.model_solved.specs.Methods.{field_counts, method_named}
use Rattle.world_state.specs.declared.fault.Fault.TheVariants.{Arity, Depth}
use Rattle.world_state.specs.Running.{Running, Outcome, Gives, Faults, and_then, spend_step, give_by_weight, give_pure, truth, decide, Start}
use Rattle.model_eval.specs.Operators.{apply_binary, truly, binary_outcome, apply_unary}
use Rattle.world_state.specs.Objects.{with_named, make_object, is_held}
use Rattle.model_eval.specs.Futures.{send}
use Rattle.model_eval.specs.Builtins.{on_event, run_builtin, run_if_builtin}
use Rattle.model_eval.specs.Arguments.{takes_two}
use Rattle.model_eval.specs.Publishing.{Notice, sender_value, method_on, handler_arguments, handle, run_handlers, tell_handlers, with_outgoing, model_notice, publish}
use Rattle.pubsub.specs.Topics.{handlers_of}
use Rattle.pubsub.specs.declared.handler.Handler.{Handler}
use Rattle.model_solved.specs.declared.builtin.Builtin.{Builtin}
use Rattle.model_solved.specs.declared.builtin.Builtin.TheVariants as builtin_name
use Rattle.model_eval.specs.Meaning.{Here, Local, locals_of, Flow, next, return_with, follow, leave_block, method_result, put_field, Evaluate, Execute, evaluate_all, in_turn, block, otherwise, loop_turns, call_on, init, run_init, create_object, create_if_class, number_of_class, expression_row, statement_row, perform, starts_in, starts_on, start_by, evaluate, execute, starts}
use Rattle.model_eval.specs.Kept.{Anything, CarriesIf, Carries}
use Rattle.model_eval.proofs.FieldBounds.{nil-in_bounds, with_named-in_bounds, length-with_named}
use Rattle.model_eval.proofs.Pending.{if_either}
use Rattle.model_eval.proofs.Created.{get-mapped}
use Rattle.model_eval.proofs.ValueBounds.{one_or_both-in_bounds, sender-in_bounds, bool-in_bounds, int-in_bounds, ref-in_bounds, AllInBounds-push, operated-in_bounds, unary_operated-in_bounds, LocalsFit, local_value-in_bounds, with_local-fit, declared-fit, locals_of-fit, FlowFits, behind-fits, value_of-fits}
use Rattle.model_eval.proofs.Carrying.{kept-refl, kept-published, carries-after, carries-if, carries-more, carries-then, carries-next, carries-test, carries-entering, carries-deciding, carries-replying, carries-bounded, carries-weighed}
use Rattle.model_eval.proofs.Doing.{got-carries, put-carries, send-carries, made-carries, answered_alone-carries}

-- ---- the table

-- values in bounds, as many as a number says
abbrev pub AreMany : ℕ → List PlainValue → Type 0
AreMany n vs = AllInBounds vs × (length vs ≡ n)

-- what a statement or an expression begins with: a valid world, and locals in bounds
abbrev pub Ready : List ℕ → List Local → Running → Type 0
Ready counts locals r = Valid counts r.world × LocalsFit locals

abbrev pub Evaluates : List ℕ → Evaluate → Type 0
Evaluates counts ev = (here : Here) (e : Expression) (locals : List Local) (r : Running) → FewArguments e → HasShortNames e → CarriesIf (Ready counts locals r) counts InBounds r (ev here e locals r)

abbrev pub Executes : List ℕ → Execute → Type 0
Executes counts ex = (here : Here) (s : Statement) (locals : List Local) (r : Running) → HasFewArguments s → NamesAreShort s → CarriesIf (Ready counts locals r) counts FlowFits r (ex here s locals r)

abbrev pub Begins : List ℕ → Start → Type 0
Begins counts start = (object : ℕ) (x : Name) (args : List PlainValue) (r : Running) → CarriesIf (Valid counts r.world × AllInBounds args) counts InBounds r (start object x args r)

-- ---- expressions

module _ (counts : List ℕ) (ev : Evaluate) (keeps : Evaluates counts ev) where
  evaluated-carries : (H : Type 0) (here : Here) (es : Expressions) (locals : List Local) (values : List PlainValue) (r : Running)
      → (H → Ready counts locals r) → (H → AllInBounds values) → AllFewArguments es → AllHaveShortNames es
      → CarriesIf H counts (AreMany (length values + how_many es)) r (evaluate_all ev here es locals values r)
  evaluated-carries H here no_expressions locals values r ready fit few short = (kept-refl r, λ x. ((ready x).0, (fit x, omega arith)))
  evaluated-carries H here (expression e es) locals values r ready fit few short =
      carries-next counts H (Ready counts locals r) InBounds (AreMany (length values + how_many (expression e es))) r (ev here e locals r) (λ a. evaluate_all ev here es locals (values ++ a ∷ []))
      ready (keeps here e locals r few.0 short.0)
      (λ a s. carries-more counts (H × Valid counts s.world × InBounds a) (AreMany (length (values ++ a ∷ []) + how_many es)) (AreMany (length values + how_many (expression e es))) s
      (evaluate_all ev here es locals (values ++ a ∷ []) s) (λ vs many. (many.0, omega (arith, length_push values a, many.1)))
      (evaluated-carries (H × Valid counts s.world × InBounds a) here es locals (values ++ a ∷ []) s (λ x. (x.1, (ready x.0).1)) (λ x. AllInBounds-push values a (fit x.0) x.2) few.1 short.1))

  -- a part, which is a truth
  truly-carries : (H : Type 0) (here : Here) (e : Expression) (locals : List Local) (r : Running)
      → (H → Ready counts locals r) → FewArguments e → HasShortNames e → CarriesIf H counts InBounds r (truly (ev here e locals) r)
  truly-carries H here e locals r ready few short =
      carries-next counts H (Ready counts locals r) InBounds InBounds r (ev here e locals r) (λ w. decide (truth w) (λ b. Gives (bool b))) ready (keeps here e locals r few short)
      (λ w s. carries-deciding counts (H × Valid counts s.world × InBounds w) InBounds s (truth w) (λ b. Gives (bool b)) (λ x. x.1) (λ b. (kept-refl s, λ x. (x.1, bool-in_bounds b))))

  both-carries : (H : Type 0) (here : Here) (o : BinaryOp) (v : PlainValue) (e : Expression) (locals : List Local) (r : Running)
      → (H → Ready counts locals r) → FewArguments e → HasShortNames e → CarriesIf H counts InBounds r (and_then (ev here e locals r) (λ w. give_pure (apply_binary o v w)))
  both-carries H here o v e locals r ready few short =
      carries-next counts H (Ready counts locals r) InBounds InBounds r (ev here e locals r) (λ w. give_pure (apply_binary o v w)) ready (keeps here e locals r few short)
      (λ w s. carries-replying counts (H × Valid counts s.world × InBounds w) InBounds s (apply_binary o v w) (λ x. x.1) (operated-in_bounds o v w))

  operating-carries : (H : Type 0) (here : Here) (o : BinaryOp) (v : PlainValue) (e : Expression) (locals : List Local) (r : Running)
      → (H → Ready counts locals r) → FewArguments e → HasShortNames e → CarriesIf H counts InBounds r (binary_outcome o v (ev here e locals) r)
  operating-carries H here op.Or v e locals r ready few short =
      carries-deciding counts H InBounds r (truth v) (λ b r1. if b then Gives (bool true) r1 else truly (ev here e locals) r1) (λ x. (ready x).0)
      (λ b. carries-test counts H InBounds r b (Gives (bool true) r) (truly (ev here e locals) r) (λ _. (kept-refl r, λ x. ((ready x).0, bool-in_bounds true))) (λ _. truly-carries H here e locals r ready few short))
  operating-carries H here op.And v e locals r ready few short =
      carries-deciding counts H InBounds r (truth v) (λ b r1. if b then truly (ev here e locals) r1 else Gives (bool false) r1) (λ x. (ready x).0)
      (λ b. carries-test counts H InBounds r b (truly (ev here e locals) r) (Gives (bool false) r) (λ _. truly-carries H here e locals r ready few short) (λ _. (kept-refl r, λ x. ((ready x).0, bool-in_bounds false))))
  operating-carries H here o v e locals r ready few short = both-carries H here o v e locals r ready few short

module _ (program : ProgramTree) (ev : Evaluate) (start : Start) (keeps : Evaluates (field_counts program) ev) (begins : Begins (field_counts program) start) where
  called_on-carries : (H : Type 0) (o : PlainValue) (x : Name) (args : List PlainValue) (r : Running)
      → (H → Valid (field_counts program) r.world) → (H → AllInBounds args) → CarriesIf H (field_counts program) InBounds r (call_on start o x args r)
  called_on-carries H (ref object) x args r valid fit =
      carries-if (field_counts program) H (Valid (field_counts program) r.world × AllInBounds args) InBounds r (start object x args r) (λ y. (valid y, fit y)) (begins object x args r)
  called_on-carries H _ x args r valid fit = (kept-refl r, valid)

  initialised-carries : (H : Type 0) (c : ClassTree) (v : PlainValue) (id : ℕ) (r : Running)
      → (H → Valid (field_counts program) r.world) → (H → InBounds v) → CarriesIf H (field_counts program) InBounds r (run_init start c v id r)
  initialised-carries H c v id r valid fit =
      carries-test (field_counts program) H InBounds r (is_some (method_named init c.methods)) (and_then (start id init (v ∷ []) r) (λ _. Gives (ref id))) (Gives (ref id) r)
      (λ _. carries-next (field_counts program) H (Valid (field_counts program) r.world × AllInBounds (v ∷ [])) InBounds InBounds r (start id init (v ∷ []) r) (λ _. Gives (ref id))
      (λ x. (valid x, (fit x, tt))) (begins id init (v ∷ []) r) (λ _ s. (kept-refl s, λ x. (x.1, ref-in_bounds id))))
      (λ _. (kept-refl r, λ x. (valid x, ref-in_bounds id)))

  -- handlers, each of which starts with the value, and with the sender where it wants it
  handled_by-carries : (H : Type 0) (t : Notice) (h : Handler) (r : Running)
      → (H → Valid (field_counts program) r.world) → (H → InBounds t.value) → CarriesIf H (field_counts program) Anything r (handle program start t h r)
  handled_by-carries H t h r valid fit =
      let r1 : Running = record r { fuel = r.fuel - 1 } in
      let args : List PlainValue = handler_arguments program t h r.world in
      let two : Bool = takes_two (method_on program (object_at r.world.objects h.object) h.method) in
      carries-test (field_counts program) H Anything r (is_held h.object r.world) (spend_step r (λ s. and_then (start h.object h.method (handler_arguments program t h s.world) s) (λ _. Gives tt))) (Gives tt r)
      (λ _. carries-entering (field_counts program) H Anything r (λ s. and_then (start h.object h.method (handler_arguments program t h s.world) s) (λ _. Gives tt)) valid
      (carries-next (field_counts program) H (Valid (field_counts program) r1.world × AllInBounds args) InBounds Anything r1 (start h.object h.method args r1) (λ _. Gives tt)
      (λ x. (valid x, one_or_both-in_bounds two t.value (sender_value t.sender) (fit x) (sender-in_bounds t.sender))) (begins h.object h.method args r1) (λ _ s. (kept-refl s, λ x. (x.1, tt)))))
      (λ _. (kept-refl r, λ x. (valid x, tt)))

  pub handled-carries : (H : Type 0) (t : Notice) (hs : List Handler) (r : Running)
      → (H → Valid (field_counts program) r.world) → (H → InBounds t.value) → CarriesIf H (field_counts program) Anything r (run_handlers program start t hs r)
  handled-carries H t [] r valid fit = (kept-refl r, λ x. (valid x, tt))
  handled-carries H t (h ∷ hs) r valid fit =
      carries-then (field_counts program) H Anything Anything r (handle program start t h r) (λ _. run_handlers program start t hs) (handled_by-carries H t h r valid fit)
      (λ u s. handled-carries (H × Valid (field_counts program) s.world × Anything u) t hs s (λ x. x.1) (λ x. fit x.0))

  published-carries : (H : Type 0) (scope event : Name) (v : PlainValue) (r : Running)
      → (H → Valid (field_counts program) r.world) → (H → InBounds v) → CarriesIf H (field_counts program) InBounds r (publish program start scope event v r)
  published-carries H scope event v r valid fit =
      let s : Running = with_outgoing scope event v r in
      carries-after (field_counts program) H H InBounds r s (publish program start scope event v r) (kept-published r (record { time = r.world.time; scope = scope; event = event; value = v } ∷ [])) (λ x. x)
      (carries-then (field_counts program) H Anything InBounds s (tell_handlers program start scope event (model_notice v) s) (λ _. Gives nil)
      (handled-carries H (model_notice v) (handlers_of scope event s.world.subscriptions) s valid fit) (λ _ t. (kept-refl t, λ x. (x.1, nil-in_bounds))))

  on_event-carries : (H : Type 0) (args : List PlainValue) (r : Running)
      → (H → Valid (field_counts program) r.world) → (H → AllInBounds args) → CarriesIf H (field_counts program) InBounds r (on_event (publish program start) args r)
  on_event-carries H (text scope ∷ text event ∷ v ∷ []) r valid fit = published-carries H scope event v r valid (λ x. (fit x).1.1.0)
  on_event-carries H _ r valid fit = (kept-refl r, valid)

  answered-carries : (H : Type 0) (f : Builtin) (object : ℕ) (args : List PlainValue) (r : Running)
      → (H → Valid (field_counts program) r.world) → (H → AllInBounds args) → CarriesIf H (field_counts program) InBounds r (run_builtin program start f object args r)
  answered-carries H builtin_name.Publish object args r valid fit = on_event-carries H args r valid fit
  answered-carries H f object args r valid fit = answered_alone-carries (field_counts program) H f object args r valid fit

  answered_by-carries : (H : Type 0) (f : Option Builtin) (object : ℕ) (args : List PlainValue) (r : Running)
      → (H → Valid (field_counts program) r.world) → (H → AllInBounds args) → CarriesIf H (field_counts program) InBounds r (run_if_builtin program start f object args r)
  answered_by-carries H None object args r valid fit = (kept-refl r, valid)
  answered_by-carries H (Some f) object args r valid fit = answered-carries H f object args r valid fit

  created-carries : (H : Type 0) (n : ℕ) (c : Option ClassTree) (v : PlainValue) (r : Running)
      → (H → Valid (field_counts program) r.world) → (H → InBounds v) → slice_get program n ≡ c → CarriesIf H (field_counts program) InBounds r (create_object start n c v r)
  created-carries H n None v r valid fit e = (kept-refl r, valid)
  created-carries H n (Some c) v r valid fit e =
      carries-then (field_counts program) H Anything InBounds r (make_object n (length c.fields) r) (run_init start c v)
      (made-carries (field_counts program) H n (length c.fields) r valid (get-mapped (λ c. length c.fields) program n c e))
      (λ id s. initialised-carries (H × Valid (field_counts program) s.world × Anything id) c v id s (λ x. x.1) (λ x. fit x.0))

  created_by-carries : (H : Type 0) (n : Option ℕ) (v : PlainValue) (r : Running)
      → (H → Valid (field_counts program) r.world) → (H → InBounds v) → CarriesIf H (field_counts program) InBounds r (create_if_class program start n v r)
  created_by-carries H None v r valid fit = (kept-refl r, valid)
  created_by-carries H (Some n) v r valid fit = created-carries H n (slice_get program n) v r valid fit refl

  -- arguments, in bounds and not too many, and what is done with them
  arguments-carry : (H : Type 0) (here : Here) (args : Expressions) (locals : List Local) (r : Running) (go : List PlainValue → Running → Outcome PlainValue)
      → (H → Ready (field_counts program) locals r) → AllFewArguments args → AllHaveShortNames args
      → ((vs : List PlainValue) (s : Running) → CarriesIf (H × Valid (field_counts program) s.world × AreMany (how_many args) vs) (field_counts program) InBounds s (go vs s))
      → CarriesIf H (field_counts program) InBounds r (and_then (evaluate_all ev here args locals [] r) go)
  arguments-carry H here args locals r go ready few short later =
      carries-then (field_counts program) H (AreMany (how_many args)) InBounds r (evaluate_all ev here args locals [] r) go
      (carries-more (field_counts program) H (AreMany (0 + how_many args)) (AreMany (how_many args)) r (evaluate_all ev here args locals [] r) (λ vs many. (many.0, omega (arith, many.1)))
      (evaluated-carries (field_counts program) ev keeps H here args locals [] r ready (λ _. tt) few short)) later

  -- a part, and what is done with its value
  part-carries : (H : Type 0) (here : Here) (e : Expression) (locals : List Local) (r : Running) (go : PlainValue → Running → Outcome PlainValue)
      → (H → Ready (field_counts program) locals r) → FewArguments e → HasShortNames e
      → ((a : PlainValue) (s : Running) → CarriesIf (H × Valid (field_counts program) s.world × InBounds a) (field_counts program) InBounds s (go a s))
      → CarriesIf H (field_counts program) InBounds r (and_then (ev here e locals r) go)
  part-carries H here e locals r go ready few short later =
      carries-next (field_counts program) H (Ready (field_counts program) locals r) InBounds InBounds r (ev here e locals r) go ready (keeps here e locals r few short) later

  future-carries : (H : Type 0) (here : Here) (object delay : Expression) (x : Name) (args : Expressions) (locals : List Local) (r : Running)
      → (H → Ready (field_counts program) locals r) → FewArguments (future object delay x args) → HasShortNames (future object delay x args)
      → CarriesIf H (field_counts program) InBounds r (expression_row program ev start here (future object delay x args) locals r)
  future-carries H here object delay x args locals r ready few short =
      part-carries H here object locals r _ ready few.0 short.0
      (λ o s. part-carries (H × Valid (field_counts program) s.world × InBounds o) here delay locals s _ (λ y. (y.1, (ready y.0).1)) few.1 short.1
      (λ d t. arguments-carry ((H × Valid (field_counts program) s.world × InBounds o) × Valid (field_counts program) t.world × InBounds d) here args locals t (send o d x)
      (λ y. (y.1, (ready y.0.0).1)) few.2.1 short.3
      (λ vs u. send-carries (field_counts program) _ o d x vs u (λ y. y.1) (λ y. (y.2.0, omega (arith, y.2.1, few.2.0))) short.2)))

  pub expression-carries : (here : Here) (e : Expression) (locals : List Local) (r : Running) → FewArguments e → HasShortNames e
      → CarriesIf (Ready (field_counts program) locals r) (field_counts program) InBounds r (expression_row program ev start here e locals r)
  expression-carries here tree.nil locals r few short = (kept-refl r, λ x. (x.0, nil-in_bounds))
  expression-carries here (tree.bool b) locals r few short = (kept-refl r, λ x. (x.0, bool-in_bounds b))
  expression-carries here (tree.int n) locals r few short = (kept-refl r, λ x. (x.0, int-in_bounds n))
  expression-carries here (tree.text s) locals r few short = carries-bounded (field_counts program) (Ready (field_counts program) locals r) r (text s) (λ x. x.0)
  expression-carries here this locals r few short = (kept-refl r, λ x. (x.0, ref-in_bounds here.object))
  expression-carries here (local x) locals r few short = (kept-refl r, λ y. (y.0, local_value-in_bounds x locals y.1))
  expression-carries here (field x) locals r few short =
      got-carries (field_counts program) (Ready (field_counts program) locals r) (object_at r.world.objects here.object) here.object x here.class.fields r (λ y. y.0) refl
  expression-carries here (tree.list items) locals r few short =
      arguments-carry (Ready (field_counts program) locals r) here items locals r (λ vs. give_by_weight (list (plains_of vs))) (λ x. x) few short
      (λ vs s. carries-weighed (field_counts program) _ s (list (plains_of vs)) (λ x. x.1))
  expression-carries here (unary o e) locals r few short =
      part-carries (Ready (field_counts program) locals r) here e locals r (λ v. give_pure (apply_unary o v)) (λ x. x) few short
      (λ v s. carries-replying (field_counts program) _ InBounds s (apply_unary o v) (λ x. x.1) (unary_operated-in_bounds o v))
  expression-carries here (binary o a b) locals r few short =
      part-carries (Ready (field_counts program) locals r) here a locals r (λ v. binary_outcome o v (ev here b locals)) (λ x. x) few.0 short.0
      (λ v s. operating-carries (field_counts program) ev keeps _ here o v b locals s (λ x. (x.1, x.0.1)) few.1 short.1)
  expression-carries here (builtin x args) locals r few short =
      arguments-carry (Ready (field_counts program) locals r) here args locals r (run_if_builtin program start (builtin_named x) here.object) (λ y. y) few short.1
      (λ vs s. answered_by-carries _ (builtin_named x) here.object vs s (λ y. y.1) (λ y. y.2.0))
  expression-carries here (call object x args) locals r few short =
      part-carries (Ready (field_counts program) locals r) here object locals r _ (λ y. y) few.0 short.0
      (λ o s. arguments-carry (Ready (field_counts program) locals r × Valid (field_counts program) s.world × InBounds o) here args locals s (call_on start o x) (λ y. (y.1, y.0.1)) few.1.1 short.2
      (λ vs t. called_on-carries _ o x vs t (λ y. y.1) (λ y. y.2.0)))
  expression-carries here (future object delay x args) locals r few short = future-carries (Ready (field_counts program) locals r) here object delay x args locals r (λ y. y) few short
  expression-carries here (create x options) locals r few short =
      part-carries (Ready (field_counts program) locals r) here options locals r (create_if_class program start (number_of_class x program)) (λ y. y) few short.1
      (λ v s. created_by-carries _ (number_of_class x program) v s (λ y. y.1) (λ y. y.2))

-- ---- statements

module _ (counts : List ℕ) where
  follow-carries : (H : Type 0) (go : List Local → Running → Outcome (Flow (List Local))) (flow : Flow (List Local)) (r : Running) → (H → Valid counts r.world) → (H → FlowFits flow)
      → ((locals : List Local) → CarriesIf (Ready counts locals r) counts FlowFits r (go locals r)) → CarriesIf H counts FlowFits r (follow go flow r)
  follow-carries H go (next locals) r valid fits keeps = carries-if counts H (Ready counts locals r) FlowFits r (go locals r) (λ x. (valid x, fits x)) (keeps locals)
  follow-carries H go (return_with v) r valid fits keeps = (kept-refl r, λ x. (valid x, fits x))

module _ (counts : List ℕ) (ex : Execute) (keeps : Executes counts ex) where
  in_turn-carries : (here : Here) (ss : Statements) (locals : List Local) (r : Running) → AllHaveFewArguments ss → AllNamesAreShort ss
      → CarriesIf (Ready counts locals r) counts FlowFits r (in_turn ex here ss locals r)
  in_turn-carries here no_statements locals r few short = (kept-refl r, λ x. (x.0, x.1))
  in_turn-carries here (statement s ss) locals r few short =
      carries-then counts (Ready counts locals r) FlowFits FlowFits r (ex here s locals r) (follow (in_turn ex here ss)) (keeps here s locals r few.0 short.0)
      (λ flow t. follow-carries counts _ (in_turn ex here ss) flow t (λ x. x.1) (λ x. x.2) (λ ls. in_turn-carries here ss ls t few.1 short.1))

  pub block-carries : (here : Here) (ss : Statements) (locals : List Local) (r : Running) → AllHaveFewArguments ss → AllNamesAreShort ss
      → CarriesIf (Ready counts locals r) counts FlowFits r (block ex here ss locals r)
  block-carries here ss locals r few short =
      carries-then counts (Ready counts locals r) FlowFits FlowFits r (in_turn ex here ss locals r) (λ f. Gives (leave_block (length locals) f)) (in_turn-carries here ss locals r few short)
      (λ f s. (kept-refl s, λ x. (x.1, behind-fits (length locals) f x.2)))

  otherwise-carries : (here : Here) (o : Otherwise) (locals : List Local) (r : Running) → ElseHasFewArguments o → ElseNamesAreShort o
      → CarriesIf (Ready counts locals r) counts FlowFits r (otherwise ex here o locals r)
  otherwise-carries here no_else locals r few short = (kept-refl r, λ x. (x.0, x.1))
  otherwise-carries here (else_block ss) locals r few short = block-carries here ss locals r few short

module _ (counts : List ℕ) (ev : Evaluate) (ex : Execute) (evaluates : Evaluates counts ev) (executes : Executes counts ex) where
  -- a part, and what is done with its value
  value-carries : (here : Here) (e : Expression) (locals : List Local) (r : Running) (go : PlainValue → Running → Outcome (Flow (List Local))) → FewArguments e → HasShortNames e
      → ((a : PlainValue) (s : Running) → CarriesIf (Ready counts locals r × Valid counts s.world × InBounds a) counts FlowFits s (go a s))
      → CarriesIf (Ready counts locals r) counts FlowFits r (and_then (ev here e locals r) go)
  value-carries here e locals r go few short later =
      carries-then counts (Ready counts locals r) InBounds FlowFits r (ev here e locals r) go (evaluates here e locals r few short) later

  looped-carries : (turns : ℕ) (here : Here) (test : Expression) (body : Statements) (locals : List Local) (r : Running)
      → FewArguments test → HasShortNames test → AllHaveFewArguments body → AllNamesAreShort body
      → CarriesIf (Ready counts locals r) counts FlowFits r (loop_turns turns ev ex here test body locals r)
  looped-carries zero here test body locals r few short fewer shorter = (kept-refl r, λ x. x.0)
  looped-carries (suc turns) here test body locals r few short fewer shorter =
      value-carries here test locals r _ few short
      (λ v s. carries-deciding counts (Ready counts locals r × Valid counts s.world × InBounds v) FlowFits s (truth v) _ (λ x. x.1)
      (λ b. carries-test counts (Ready counts locals r × Valid counts s.world × InBounds v) FlowFits s b (and_then (block ex here body locals s) (follow (loop_turns turns ev ex here test body))) (Gives (next locals) s)
      (λ _. carries-next counts _ (Ready counts locals s) FlowFits FlowFits s (block ex here body locals s) (follow (loop_turns turns ev ex here test body)) (λ x. (x.1, x.0.1))
      (block-carries counts ex executes here body locals s fewer shorter)
      (λ flow t. follow-carries counts _ (loop_turns turns ev ex here test body) flow t (λ x. x.1) (λ x. x.2) (λ ls. looped-carries turns here test body ls t few short fewer shorter)))
      (λ _. (kept-refl s, λ x. (x.1, x.0.1)))))

  set_field-carries : (here : Here) (x : Name) (e : Expression) (locals : List Local) (r : Running) → FewArguments e → HasShortNames e
      → CarriesIf (Ready counts locals r) counts FlowFits r (statement_row ev ex here (set_field x e) locals r)
  set_field-carries here x e locals r few short =
      value-carries here e locals r _ few short
      (λ a s. carries-then counts (Ready counts locals r × Valid counts s.world × InBounds a) Anything FlowFits s (put_field here x a s) (λ _. Gives (next locals))
      (put-carries counts _ (object_at s.world.objects here.object) here.object (with_named x a here.class.fields) s (λ y. y.1) (length-with_named x a here.class.fields)
      (λ y vs. with_named-in_bounds x a here.class.fields vs y.2))
      (λ _ t. (kept-refl t, λ y. (y.1, y.0.0.1))))

  when-carries : (here : Here) (test : Expression) (body : Statements) (other : Otherwise) (locals : List Local) (r : Running)
      → HasFewArguments (when test body other) → NamesAreShort (when test body other)
      → CarriesIf (Ready counts locals r) counts FlowFits r (statement_row ev ex here (when test body other) locals r)
  when-carries here test body other locals r few short =
      value-carries here test locals r _ few.0 short.0
      (λ v s. carries-deciding counts (Ready counts locals r × Valid counts s.world × InBounds v) FlowFits s (truth v) _ (λ x. x.1)
      (λ b. carries-if counts _ (Ready counts locals s) FlowFits s (if b then block ex here body locals s else otherwise ex here other locals s) (λ x. (x.1, x.0.1))
      (carries-test counts (Ready counts locals s) FlowFits s b (block ex here body locals s) (otherwise ex here other locals s)
      (λ _. block-carries counts ex executes here body locals s few.1 short.1) (λ _. otherwise-carries counts ex executes here other locals s few.2 short.2))))

  statement-carries : (here : Here) (s : Statement) (locals : List Local) (r : Running) → HasFewArguments s → NamesAreShort s
      → CarriesIf (Ready counts locals r) counts FlowFits r (statement_row ev ex here s locals r)
  statement-carries here (declare x e) locals r few short =
      value-carries here e locals r _ few short.1 (λ a s. (kept-refl s, λ y. (y.1, declared-fit x a locals y.2 y.0.1)))
  statement-carries here (assign x e) locals r few short =
      value-carries here e locals r _ few short.1 (λ a s. (kept-refl s, λ y. (y.1, with_local-fit x a locals y.2 y.0.1)))
  statement-carries here (set_field x e) locals r few short = set_field-carries here x e locals r few short.1
  statement-carries here (when test body other) locals r few short = when-carries here test body other locals r few short
  statement-carries here (while test body) locals r few short = looped-carries r.fuel here test body locals r few.0 short.0 few.1 short.1
  statement-carries here (give e) locals r few short = value-carries here e locals r _ few short (λ a s. (kept-refl s, λ y. (y.1, y.2)))
  statement-carries here (do_ e) locals r few short = value-carries here e locals r _ few short (λ a s. (kept-refl s, λ y. (y.1, y.0.1)))

-- ---- methods

-- a class of a program fits, and its names are short
class_fits : (cs : ProgramTree) (i : ℕ) (c : ClassTree) → ClassesFit cs → ClassNamesAreShort cs → slice_get cs i ≡ Some c → MethodsFit c.methods × MethodNamesAreShort c.methods
class_fits [] i c fit short e = absurd cc
class_fits (d ∷ cs) zero c fit short e = let same : d ≡ c = cc in subst (λ c. MethodsFit c.methods × MethodNamesAreShort c.methods) same (fit.0.2, short.0.2)
class_fits (d ∷ cs) (suc i) c fit short e = class_fits cs i c fit.1 short.1 e

-- and so does the body of one of its methods
method_fits : (x : Name) (ms : List MethodTree) (m : MethodTree) → MethodsFit ms → MethodNamesAreShort ms → method_named x ms ≡ Some m → AllHaveFewArguments m.body × AllNamesAreShort m.body
method_fits x [] m fit short = λ e. absurd cc
method_fits x (n ∷ ms) m fit short =
    if_either (λ found. found ≡ Some m → AllHaveFewArguments m.body × AllNamesAreShort m.body) (bytes_eq x n.name) (Some n) (method_named x ms)
    (λ _ e. let same : n ≡ m = cc in subst (λ m. AllHaveFewArguments m.body × AllNamesAreShort m.body) same (fit.0.1, short.0.2))
    (λ _ e. method_fits x ms m fit.1 short.1 e)

module _ (counts : List ℕ) (ex : Execute) (keeps : Executes counts ex) where
  performed-carries : (here : Here) (m : Option MethodTree) (args : List PlainValue) (r : Running)
      → ((n : MethodTree) → m ≡ Some n → AllHaveFewArguments n.body × AllNamesAreShort n.body) → CarriesIf (Valid counts r.world × AllInBounds args) counts InBounds r (perform ex here m args r)
  performed-carries here None args r fit = (kept-refl r, λ x. x.0)
  performed-carries here (Some m) args r fit =
      let fits : AllHaveFewArguments m.body × AllNamesAreShort m.body = fit m refl in
      let H : Type 0 = Valid counts r.world × AllInBounds args in
      let locals : List Local = locals_of m.params args in
      carries-test counts H InBounds r (nat_eq (length args) (length m.params)) (and_then (in_turn ex here m.body locals r) (λ f. Gives (method_result f))) (Faults Arity r)
      (λ _. carries-next counts H (Ready counts locals r) FlowFits InBounds r (in_turn ex here m.body locals r) (λ f. Gives (method_result f)) (λ x. (x.0, locals_of-fit m.params args x.1))
      (in_turn-carries counts ex keeps here m.body locals r fits.0 fits.1) (λ f s. (kept-refl s, λ x. (x.1, value_of-fits f x.2))))
      (λ _. (kept-refl r, λ x. x.0))

  starts_in-carries : (c : Option ClassTree) (object : ℕ) (x : Name) (args : List PlainValue) (r : Running)
      → ((d : ClassTree) → c ≡ Some d → MethodsFit d.methods × MethodNamesAreShort d.methods) → CarriesIf (Valid counts r.world × AllInBounds args) counts InBounds r (starts_in ex c object x args r)
  starts_in-carries None object x args r fit = (kept-refl r, λ y. y.0)
  starts_in-carries (Some c) object x args r fit =
      let fits : MethodsFit c.methods × MethodNamesAreShort c.methods = fit c refl in
      performed-carries (record { class = c; object = object }) (method_named x c.methods) args r (λ m. method_fits x c.methods m fits.0 fits.1)

  starts_on-carries : (program : ProgramTree) (o : Option ObjectRecord) (object : ℕ) (x : Name) (args : List PlainValue) (r : Running)
      → ClassesFit program → ClassNamesAreShort program → CarriesIf (Valid counts r.world × AllInBounds args) counts InBounds r (starts_on program ex o object x args r)
  starts_on-carries program None object x args r fit short = (kept-refl r, λ y. y.0)
  starts_on-carries program (Some o) object x args r fit short = starts_in-carries (slice_get program o.class) object x args r (λ c. class_fits program o.class c fit short)

  pub starting-begins : (program : ProgramTree) → ClassesFit program → ClassNamesAreShort program → Begins counts (start_by program ex)
  starting-begins program fit short object x args r = starts_on-carries program (object_at r.world.objects object) object x args r fit short

-- ---- at every room

pub row-kept : (program : ProgramTree) (room : ℕ) → ClassesFit program → ClassNamesAreShort program
    → Evaluates (field_counts program) (evaluate program room) × Executes (field_counts program) (execute program room)
row-kept program zero fit short = (
  λ here e locals r few brief. carries-entering (field_counts program) (Ready (field_counts program) locals r) InBounds r (Faults Depth) (λ x. x.0) (kept-refl (record r { fuel = r.fuel - 1 }), λ x. x.0),
  λ here s locals r few brief. carries-entering (field_counts program) (Ready (field_counts program) locals r) FlowFits r (Faults Depth) (λ x. x.0) (kept-refl (record r { fuel = r.fuel - 1 }), λ x. x.0),
)
row-kept program (suc room) fit short =
    let below : Evaluates (field_counts program) (evaluate program room) × Executes (field_counts program) (execute program room) = row-kept program room fit short in
    let begins : Begins (field_counts program) (start_by program (execute program room)) = starting-begins (field_counts program) (execute program room) below.1 program fit short in (
      λ here e locals r few brief.
          carries-entering (field_counts program) (Ready (field_counts program) locals r) InBounds r (expression_row program (evaluate program room) (start_by program (execute program room)) here e locals) (λ x. x.0)
          (expression-carries program (evaluate program room) (start_by program (execute program room)) below.0 begins here e locals (record r { fuel = r.fuel - 1 }) few brief),
      λ here s locals r few brief.
          carries-entering (field_counts program) (Ready (field_counts program) locals r) FlowFits r (statement_row (evaluate program room) (execute program room) here s locals) (λ x. x.0)
          (statement-carries (field_counts program) (evaluate program room) (execute program room) below.0 below.1 here s locals (record r { fuel = r.fuel - 1 }) few brief),
    )

pub starts-carries : (program : ProgramTree) (room object : ℕ) (x : Name) (args : List PlainValue) (r : Running)
    → ClassesFit program → ClassNamesAreShort program → CarriesIf (Valid (field_counts program) r.world × AllInBounds args) (field_counts program) InBounds r (starts program room object x args r)
starts-carries program room object x args r fit short =
    starting-begins (field_counts program) (execute program room) (row-kept program room fit short).1 program fit short object x args r

-- the same of arguments in bounds
pub starts-kept : (program : ProgramTree) (room object : ℕ) (x : Name) (args : List PlainValue) (r : Running)
    → ClassesFit program → ClassNamesAreShort program → AllInBounds args → Carries (field_counts program) InBounds r (starts program room object x args r)
starts-kept program room object x args r fit short bounds =
    carries-if (field_counts program) (Valid (field_counts program) r.world) (Valid (field_counts program) r.world × AllInBounds args) InBounds r (starts program room object x args r)
    (λ v. (v, bounds)) (starts-carries program room object x args r fit short)

-- models that are told of an event
pub told-kept : (program : ProgramTree) (room : ℕ) (scope event : Name) (t : Notice) (r : Running)
    → ClassesFit program → ClassNamesAreShort program → InBounds t.value → Carries (field_counts program) Anything r (tell_handlers program (starts program room) scope event t r)
told-kept program room scope event t r fit short bounds =
    let below = row-kept program room fit short in
    handled-carries program (evaluate program room) (starts program room) below.0 (starting-begins (field_counts program) (execute program room) below.1 program fit short)
    (Valid (field_counts program) r.world) t (handlers_of scope event r.world.subscriptions) r (λ x. x) (λ _. bounds)
