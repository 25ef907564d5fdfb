-- Single statements, and results of calls that go somewhere, do under the set in force what they do under all active sets.
use Rattle.std.proofs.Common.{◌≡◌, ℕ, zero, suc, ◌+◌, ◌<◌, ◌≤◌, ℤ, pos, negsuc, Bool, true, false, ◌&&◌, ◌||◌, if◌then◌else◌, List, [], ◌∷◌, map, length, Option, Some, None, slice_get, refl, sym, ap, ◌∙◌, subst, arith}
use Rattle.std.specs.Prelude.{nat_lt}
use Rattle.std.specs.List.{list_all}
use Rattle.std.proofs.lemmas.Bool.{false≢true, and_parts, lt-ltb}
use Rattle.wp_base.specs.declared.kinds.Kind.{Kind}
use Rattle.typed_prog.specs.declared.types.CoreType.{CoreType}
use Rattle.typed_prog.specs.declared.operators.Path.{Path}
use Rattle.typed_prog.specs.declared.operators.Root.TheVariants as root
use Rattle.typed_prog.specs.declared.operators.Variable.TheVariants as variable
use Rattle.typed_prog.specs.Tree as tree
use Rattle.c_runs.specs.TruthStates.{Value, pointer}
use Rattle.c_runs.specs.Program.{Variable, Function, Program}
use Rattle.c_runs.specs.States.{World, Here, Granted, plain, with_local, with_memory, stored_in, plain_globals}
use Rattle.c_runs.specs.Objects.{plain_root, is_plain_in, cell_of, address, along, start as start_at}
use Rattle.c_runs.specs.Claims.{may_change, may_change_local}
use Rattle.c_runs.specs.Effects.{granted, cell_written, kind_there, wrote_act}
use Rattle.c_runs.specs.CoreRun.{CoreWorld, Ending, goes_on, with_eval, in_world}
use Rattle.c_runs.specs.Checks.{Check}
use Rattle.c_runs.specs.Tree.{Goal, nowhere, temporary, place, variable as to_variable, Step, set, store, start, call, branch, repeat, around, exit, give, claim, scope, Steps}
use Rattle.c_runs.specs.CheckedRun as run
use Rattle.plain_runs.specs.Told.{is_integer, are_one_integer}
use Rattle.plain_runs.proofs.Told.{found_below, listed_integer}
use Rattle.plain_runs.specs.Fitting.{Shape, LeadsTo, to_local, to_global, Receives, by_temporary, by_place, by_variable, FitsStep}
use Rattle.plain_runs.proofs.Objects.{home_is}
use Rattle.plain_runs.proofs.Whole.{all_plain}
use Rattle.goal_segments.specs.Segments.{is_single, no_deeper}
use Rattle.goal_segments.proofs.Including.{Agrees}

module _ (q : Program Steps) (globals : list_all is_integer q.facts.globals ≡ true) (s : Shape) (integers : list_all is_integer s.variables ≡ true)
    (here : Here) (gs : List Granted) (agrees : Agrees q.facts gs here.granted) where
  abbrev own : Here
  own = record here { granted = gs }

  put_same : (f : ℕ → Bool) (path : Path) (k : Kind) → LeadsTo q.facts s f path k → (type : CoreType) (l : ℕ) (w : World) (ws : List Value) (v : Value)
      → run.put q.facts s.variables own l type path w ws v ≡ run.put q.facts s.variables here l type path w ws v
  put_same f path k (to_local x y r ss e kind so) type l w ws v =
      let is_plain = (and_parts y.is_plain (are_one_integer y.layout.cells) (listed_integer s.variables integers x y e)).0 in
      let plainly : plain_root s.variables path.root ≡ Some x =
      ap (plain_root s.variables) r ∙ ap (λ o. if is_plain_in o then Some x else None) e ∙ ap (λ b. if b then Some x else None) is_plain in
      ap (λ o. run.put_by o q.facts own l type path w ws v) plainly
      ∙ ap (λ b. granted b l (with_local x (plain v true) w)) (agrees.locals x)
      ∙ sym (ap (λ o. run.put_by o q.facts here l type path w ws v) plainly)
  put_same f path k (to_global x y r ss e kind) type l w ws v =
      let there : address q.facts w path ws ≡ pointer (negsuc x) (pos 0) =
      ap (λ ss. along ws ss (start_at q.facts w path.root ws)) ss ∙ ap (λ r. start_at q.facts w r ws) r ∙ ap (λ b. pointer b (pos 0)) (home_is q.facts globals x y e) in
      let way : (h : Here) → run.put q.facts s.variables h l type path w ws v ≡ cell_written h l (cell_of type) w (pointer (negsuc x) (pos 0)) v =
      λ h. ap (λ r. run.put_by (plain_root s.variables r) q.facts h l type path w ws v) r ∙ ap (λ a. cell_written h l (cell_of type) w a v) there in
      way own
      ∙ ap (λ b. granted b l (with_memory (stored_in (negsuc x) (pos 0) v w.memory) w)) (agrees.globals x (ap (nat_lt x) (all_plain q.facts.globals globals) ∙ lt-ltb x (length q.facts.globals) (found_below q.facts.globals x y e)))
      ∙ sym (way here)

  -- ---- results of calls

  pub result_same : (deeper : run.Deeper) (f : ℕ → Bool) (low : ℕ) (k : Kind) (to : Goal) → Receives q.facts s f low k to → (v : Value) (c : CoreWorld)
      → run.result_to q no_deeper s.variables own to v c ≡ run.result_to q deeper s.variables here to v c
  result_same deeper f low k nowhere none v c = refl
  result_same deeper f low k (temporary n) r v c = refl
  result_same deeper f low k (place cs type l path es) (by_place way) v c =
      ap (λ x. run.asked cs (run.place_test q.facts s.variables c.temps c.world type path [] tree.stop) (with_eval (wrote_act v x) (λ z w. goes_on (in_world c w)))) (put_same f path k way type l c.world [] v)
  result_same deeper f low k (to_variable x) r v c = refl

  -- ---- single statements

  pub single_same : (deeper : run.Deeper) (f : ℕ → Bool) (low : ℕ) (a : Step) → FitsStep q.facts s q.functions f low a → is_single a ≡ true → (c : CoreWorld)
      → run.exec q no_deeper s.variables own a c ≡ run.exec q deeper s.variables here a c
  single_same deeper f low (set cs n e) h is c = refl
  single_same deeper f low (store cs type l path es) h is c =
      ap (λ x. run.asked cs (run.place_test q.facts s.variables c.temps c.world type path (run.way_values (run.totals_in q deeper s.variables c es)) es)
      (with_eval (wrote_act (run.stored_value (run.totals_in q deeper s.variables c es)) x) (λ z w. goes_on (in_world c w))))
      (put_same f path h.0 h.1 type l c.world (run.way_values (run.totals_in q deeper s.variables c es)) (run.stored_value (run.totals_in q deeper s.variables c es)))
  single_same deeper f low (start cs x e) h is c = refl
  single_same deeper f low (call cs to n l es) h is c = absurd (false≢true is)
  single_same deeper f low (branch cs e a b) h is c = absurd (false≢true is)
  single_same deeper f low (repeat l ss) h is c = absurd (false≢true is)
  single_same deeper f low (around ss) h is c = absurd (false≢true is)
  single_same deeper f low (exit k) h is c = refl
  single_same deeper f low (give cs None) h is c = refl
  single_same deeper f low (give cs (Some e)) h is c = refl
  single_same deeper f low (claim a) h is c = refl
  single_same deeper f low (scope ys ss) h is c = absurd (false≢true is)
