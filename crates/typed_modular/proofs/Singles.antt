-- Single statements, and results of calls, do under the set in force what they do under all active sets.
use Rattle.std.proofs.Common.{◌≡◌, ℕ, ◌+◌, Bool, true, false, ◌&&◌, if◌then◌else◌, ℤ, pos, negsuc, List, [], ◌∷◌, Option, Some, None, refl, sym, ap, ◌∙◌, subst, arith}
use Rattle.std.specs.List.{list_all}
use Rattle.std.proofs.lemmas.Bool.{false≢true, lt-ltb}
use Rattle.wp_base.specs.declared.kinds.CellKind.{CellKind}
use Rattle.wp_base.specs.Blocks.{Table, is_cell}
use Rattle.typed_prog.specs.declared.types.CoreType.{CoreType}
use Rattle.typed_prog.specs.declared.operators.Path.{Path}
use Rattle.typed_prog.specs.Tree as tree
use Rattle.c_runs.specs.TruthStates.{Value, pointer, block_of, offset_of}
use Rattle.c_runs.specs.Program.{Program}
use Rattle.c_runs.specs.States.{Here, Granted, plain, with_local, with_memory, stored_in, plain_globals}
use Rattle.c_runs.specs.Objects.{plain_root, is_plain_in, cell_of, address, along, start as start_at}
use Rattle.c_runs.specs.Claims.{may_change}
use Rattle.c_runs.specs.Effects.{granted, cell_written, kind_there, wrote_act}
use Rattle.c_runs.specs.CoreRun.{CoreWorld, Ending, goes_on, with_eval, in_world}
use Rattle.c_runs.specs.Checks.{Check}
use Rattle.c_runs.specs.Tree.{Goal, Step, set, store, start, call, branch, repeat, around, exit, give, claim, scope, Steps}
use Rattle.c_runs.specs.CheckedRun as run
use Rattle.c_runs.specs.CheckedRun.{place_test, way_values, stored_value}
use Rattle.goal_segments.specs.Segments.{is_single, no_deeper}
use Rattle.typed_memories.proofs.CellKinds.{no_cell_of}
use Rattle.typed_memories.proofs.Decoding.{no_hidden_cell}
use Rattle.program_steps.specs.Temporaries.{Temporaries, live}
use Rattle.typed_runs.specs.Fitting.{Shape, InScope, LeadsTo, to_local, to_global, to_cell, place_checks, Receives, by_none, by_unused, by_temporary, by_place, by_variable, FitsStep}
use Rattle.typed_runs.specs.Kept.{Holds}
use Rattle.typed_runs.proofs.Values.{place_cell}
use Rattle.typed_runs.proofs.Storing.{plain_global_home}
use Rattle.typed_modular.proofs.Including.{Agrees}

-- what stands behind checks counts where they are met
asked_same : (cs : List Check) (test : Check → Bool) (x y : Ending) → (list_all test cs ≡ true → x ≡ y) → run.asked cs test x ≡ run.asked cs test y
asked_same [] test x y h = h refl
asked_same (c ∷ cs) test x y h = by (test c) refl (asked_same cs test x y) where
  by : (b : Bool) → test c ≡ b → ((list_all test cs ≡ true → x ≡ y) → run.asked cs test x ≡ run.asked cs test y)
      → (if b then run.asked cs test x else run.goes_wrong c.kind c.line) ≡ (if b then run.asked cs test y else run.goes_wrong c.kind c.line)
  by true e rest = rest (λ all. h (ap (λ b. b && list_all test cs) e ∙ all))
  by false e rest = refl

module _ (q : Program Steps) (s : Shape) (here : Here) (gs : List Granted) (agrees : Agrees q.facts gs here.granted) where
  abbrev own : Here
  own = record here { granted = gs }

  -- a cell of a block
  cell_may : (t : Table) (k j : CellKind) (b o : ℤ) → is_cell j t b o ≡ true → may_change gs k b o ≡ may_change here.granted k b o
  cell_may t k j (pos i) o is = agrees.cells k i o
  cell_may t k j (negsuc i) o is = absurd (false≢true (sym (no_cell_of j t (negsuc i) o (no_hidden_cell t i o)) ∙ is))

  put_same : (f : InScope) (t : Temporaries) (c : CoreWorld) → Holds q.facts s f t c → (type : CoreType) (l : ℕ) (path : Path) (vs : List Value) (es : tree.Values) (v : Value)
      → LeadsTo q.facts s f t type path → list_all (place_test q.facts s.variables c.temps c.world type path vs es) (place_checks q.facts s path es) ≡ true
      → run.put q.facts s.variables own l type path c.world vs v ≡ run.put q.facts s.variables here l type path c.world vs v
  put_same f t c h type l path vs es v (to_local x y r steps e plainly kind on) met =
      let root_is : plain_root s.variables path.root ≡ Some x =
      ap (plain_root s.variables) r ∙ ap (λ o. if is_plain_in o then Some x else None) e ∙ ap (λ b. if b then Some x else None) plainly in
      ap (λ o. run.put_by o q.facts own l type path c.world vs v) root_is
      ∙ ap (λ b. granted b l (with_local x (plain v true) c.world)) (agrees.hidden.locals x)
      ∙ sym (ap (λ o. run.put_by o q.facts here l type path c.world vs v) root_is)
  put_same f t c h type l path vs es v (to_global x y r steps e plainly kind) met =
      let root_is : plain_root s.variables path.root ≡ None = ap (plain_root s.variables) r in
      let home = plain_global_home q.facts x y e plainly in
      let at_home : address q.facts c.world path vs ≡ pointer (negsuc (0 + home.number)) (pos 0) =
      ap (λ ss. along vs ss (start_at q.facts c.world path.root vs)) steps ∙ ap (λ r. start_at q.facts c.world r vs) r ∙ ap (λ b. pointer b (pos 0)) home.same in
      let below = home.below in
      let way : (h : Here) → run.put q.facts s.variables h l type path c.world vs v ≡ cell_written h l (cell_of type) c.world (pointer (negsuc (0 + home.number)) (pos 0)) v =
      λ h. ap (λ o. run.put_by o q.facts h l type path c.world vs v) root_is ∙ ap (λ a. cell_written h l (cell_of type) c.world a v) at_home in
      way own
      ∙ ap (λ b. granted b l (with_memory (stored_in (negsuc (0 + home.number)) (pos 0) v c.world.memory) c.world))
      (agrees.hidden.globals (0 + home.number) (lt-ltb (0 + home.number) (plain_globals q.facts) (omega (arith, below))))
      ∙ sym (way here)
  put_same f t c h type l path vs es v (to_cell no_local no_global typed) met =
      let a = address q.facts c.world path vs in
      let is = place_cell q.facts s f t c h type path vs es no_local no_global typed met in
      ap (λ o. run.put_by o q.facts own l type path c.world vs v) no_local
      ∙ ap (λ b. granted b l (with_memory (stored_in (block_of a) (offset_of a) v c.world.memory) c.world))
      (cell_may c.world.memory.blocks (kind_there c.world.memory.blocks (cell_of type) a) (cell_of type) (block_of a) (offset_of a) is)
      ∙ sym (ap (λ o. run.put_by o q.facts here l type path c.world vs v) no_local)

  -- ---- results of calls

  pub result_same : (deeper : run.Deeper) (f : InScope) (low : ℕ) (used t : Temporaries) (r : Option CellKind) (to : Goal) → Receives q.facts s f low used t r to → (v : Value) (c : CoreWorld)
      → Holds q.facts s f used c → run.result_to q no_deeper s.variables own to v c ≡ run.result_to q deeper s.variables here to v c
  result_same deeper f low used t r _ by_none v c h = refl
  result_same deeper f low used t r _ (by_unused either) v c h = refl
  result_same deeper f low used t r _ (by_temporary kind) v c h = refl
  result_same deeper f low used t r _ (by_place {cs = cs} {type = type} {l = l} {path = path} {es = es} typed way checks) v c h =
      asked_same cs _ _ _ (λ met. ap (λ x. with_eval (wrote_act v x) (λ z w. goes_on (in_world c w)))
      (put_same f used c h type l path (run.totals_in q deeper s.variables c es) es v way
      (subst (λ cs. list_all (place_test q.facts s.variables c.temps c.world type path (run.totals_in q deeper s.variables c es) es) cs ≡ true) checks met)))
  result_same deeper f low used t r _ (by_variable d) v c h = refl

  -- ---- single statements

  pub single_same : (deeper : run.Deeper) (f : InScope) (low : ℕ) (os : List Temporaries) (t : Temporaries) (a : Step) → FitsStep q.facts s q.functions f low os t a → is_single a ≡ true
      → (c : CoreWorld)
      → Holds q.facts s f (live a os t) c → run.exec q no_deeper s.variables own a c ≡ run.exec q deeper s.variables here a c
  single_same deeper f low os t (set cs n e) fit is c h = refl
  single_same deeper f low os t (store cs type l path es) fit is c h =
      let vs = run.totals_in q deeper s.variables c es in
      asked_same cs _ _ _ (λ met. ap (λ x. with_eval (wrote_act (stored_value vs) x) (λ z w. goes_on (in_world c w)))
      (put_same f (live (store cs type l path es) os t) c h type l path (way_values vs) es (stored_value vs) fit.way
      (subst (λ cs. list_all (place_test q.facts s.variables c.temps c.world type path (way_values vs) es) cs ≡ true) fit.checks met)))
  single_same deeper f low os t (start cs x e) fit is c h = refl
  single_same deeper f low os t (call cs to n l es) fit is c h = absurd (false≢true is)
  single_same deeper f low os t (branch cs e a b) fit is c h = absurd (false≢true is)
  single_same deeper f low os t (repeat l ss) fit is c h = absurd (false≢true is)
  single_same deeper f low os t (around ss) fit is c h = absurd (false≢true is)
  single_same deeper f low os t (exit k) fit is c h = refl
  single_same deeper f low os t (give cs None) fit is c h = refl
  single_same deeper f low os t (give cs (Some e)) fit is c h = refl
  single_same deeper f low os t (claim a) fit is c h = refl
  single_same deeper f low os t (scope ys ss) fit is c h = absurd (false≢true is)
