-- What a statement stores in a variable is kept so.
use Rattle.std.proofs.Common.{◌≡◌, ℕ, ◌+◌, ◌≤◌, ℤ, pos, negsuc, Bool, true, false, if◌then◌else◌, List, [], ◌∷◌, length, Option, Some, None, is_some, slice_get, zero, suc, refl, sym, ap, ◌∙◌, subst, arith}
use Rattle.std.specs.Prelude.{◌==◌}
use Rattle.std.specs.List.{list_all}
use Rattle.std.proofs.lemmas.Bool.{false≢true, and_parts}
use Rattle.wp_base.specs.declared.kinds.Kind.{Kind}
use Rattle.c_kinds.specs.Models.{holds}
use Rattle.typed_prog.specs.declared.types.CoreType.{CoreType}
use Rattle.typed_prog.specs.declared.operators.Path.{Path}
use Rattle.typed_prog.specs.declared.operators.Root.{Root}
use Rattle.typed_prog.specs.declared.operators.Root.TheVariants as root
use Rattle.typed_prog.specs.declared.operators.Variable.TheVariants as variable
use Rattle.c_runs.specs.TruthStates.{Value, number, pointer}
use Rattle.c_runs.specs.Program.{Variable, Facts, Program}
use Rattle.c_runs.specs.States.{Memory, World, Here, Local, plain, with_local, with_memory, stored_in, home_from, global_home}
use Rattle.c_runs.specs.Objects.{plain_root, is_plain_in, cell_of, address, along, start}
use Rattle.c_runs.specs.Claims.{may_change, may_change_local}
use Rattle.c_runs.specs.Effects.{granted, cell_written, kind_there, wrote_act, initial_act, initial_by}
use Rattle.plain_states.specs.Told.{Ending, goes_on, in_world, with_eval}
use Rattle.c_runs.specs.Tree.{Steps}
use Rattle.c_runs.specs.CheckedRun as run
use Rattle.plain_states.specs.Slots.{State, with_variable, result_slot, world_in, core_in}
use Rattle.plain_states.specs.Scopes.{is_integer, are_one_integer, kind_of}
use Rattle.plain_states.proofs.Puts.{changes_are_puts}
use Rattle.plain_states.proofs.Entering.{when_true}
use Rattle.plain_states.proofs.Scoping.{found_below, listed_integer}
use Rattle.plain_runs.specs.Fitting.{Shape, sizes, Fit, LeadsTo, to_local, to_global, Takes}
use Rattle.plain_runs.specs.Kept.{is_local, may_change_global, AllBelow, IsScoped, Kept, Returned, Comes}
use Rattle.plain_runs.proofs.Sets.{high_may}
use Rattle.plain_runs.proofs.Keeping.{kept_more}
use Rattle.plain_runs.proofs.Writes.{local_kept, global_kept}

-- ---- variables of the file stand in blocks -1, -2, ..

homes_from : (k : ℕ) (xs : List Variable) → list_all is_integer xs ≡ true → (x : ℕ) (v : Variable) → slice_get xs x ≡ Some v → home_from 0 k xs x ≡ negsuc (k + x)
homes_from k [] h x v e = absurd (false≢true (ap (λ (o : Option Variable). is_some o) e))
homes_from k (y ∷ xs) h zero v e =
    ap (λ b. if b then negsuc k else pos 1) (and_parts y.is_plain (are_one_integer y.layout.cells) (and_parts (is_integer y) (list_all is_integer xs) h).0).0 ∙ ap negsuc (omega arith)
homes_from k (y ∷ xs) h (suc x) v e =
    ap (λ b. if b then home_from 0 (suc k) xs x else home_from 1 k xs x) (and_parts y.is_plain (are_one_integer y.layout.cells) (and_parts (is_integer y) (list_all is_integer xs) h).0).0
    ∙ homes_from (suc k) xs (and_parts (is_integer y) (list_all is_integer xs) h).1 x v e ∙ ap negsuc (omega arith)

pub home_is : (p : Facts) → list_all is_integer p.globals ≡ true → (x : ℕ) (v : Variable) → slice_get p.globals x ≡ Some v → global_home p x ≡ negsuc x
home_is p h x v e = homes_from 0 p.globals h x v e ∙ ap negsuc (omega arith)

abbrev plain_value : Value → Local
plain_value v = plain v true

plainly : (y : Variable) (x : ℕ) (local : Local) (v : Value) (w : World) → y.is_plain ≡ true → initial_by (Some y) x local v w ≡ with_local x (plain v true) w
plainly y x local v w e = when_true y.is_plain _ _ e

module _ (q : Program Steps) (deeper : run.Deeper) (s : Shape) (globals : list_all is_integer q.facts.globals ≡ true) (integers : list_all is_integer s.variables ≡ true) (m : Memory) where
  -- a local that is integer is plain
  plain_here : (x : ℕ) (v : Variable) → slice_get s.variables x ≡ Some v → v.is_plain ≡ true
  plain_here x v e = (and_parts v.is_plain (are_one_integer v.layout.cells) (listed_integer s.variables integers x v e)).0

  module _ (here : Here) (t u f : ℕ → Bool) (n : ℕ) (vs : List Value) (st : State) (fit : Fit q.facts s st) (scoped : IsScoped q.facts s f st) where
    big : result_slot (sizes q.facts s) ≤ length st
    big = let size = fit.size in omega (arith, size)

    abbrev Ends : Ending → Type 0
    Ends o = Comes q.facts s m (Kept q.facts s here.granted t u f st) (λ v after. Returned q.facts s here.granted v st after) o

    -- a variable of the function, where that may be
    local_set : (x : ℕ) (v : Variable) (z : ℤ) → slice_get s.variables x ≡ Some v → holds q.facts.model (kind_of v) z ≡ true → f x ≡ true → may_change_local q.facts here.granted x ≡ true
        → ((i : ℕ) → t i ≡ false → (x == i) ≡ false) → Ends (goes_on (in_world (core_in (sizes q.facts s) m n vs st) (with_local x (plain (number z) true) (world_in (sizes q.facts s) m n vs st))))
    local_set x v z e k so may only = record {
      turns = n;
      contents = vs;
      state = with_variable ((sizes q.facts s).globals + x) z (pos 1) st;
      same = (changes_are_puts (sizes q.facts s) m n vs st).set x z (found_below s.variables x v e) big;
      so = kept_more q.facts s here.granted here.granted t (λ i. x == i) u u f st (with_variable ((sizes q.facts s).globals + x) z (pos 1) st) (λ x h. h) (λ x h. h) only (λ n h. h)
          (local_kept q.facts s here.granted u f st fit scoped x v z e k so may);
    }

    global_set : (x : ℕ) (v : Variable) (z : ℤ) → slice_get q.facts.globals x ≡ Some v → holds q.facts.model (kind_of v) z ≡ true → may_change_global here.granted x ≡ true
        → Ends (goes_on (in_world (core_in (sizes q.facts s) m n vs st) (with_memory (stored_in (negsuc x) (pos 0) (number z) (world_in (sizes q.facts s) m n vs st).memory) (world_in (sizes q.facts s) m n vs st))))
    global_set x v z e k may = record {
      turns = n;
      contents = vs;
      state = with_variable x z (pos 1) st;
      same = (changes_are_puts (sizes q.facts s) m n vs st).of_file x z (found_below q.facts.globals x v e) big;
      so = global_kept q.facts s here.granted u f st fit scoped t x v z e k may;
    }

    if_granted : (v : Value) (l : ℕ) (w : World) (b : Bool) → (b ≡ true → Ends (goes_on (in_world (core_in (sizes q.facts s) m n vs st) w)))
        → Ends (with_eval (wrote_act v (granted b l w)) (λ z w. goes_on (in_world (core_in (sizes q.facts s) m n vs st) w)))
    if_granted v l w true h = h refl
    if_granted v l w false h = tt

    at_root : (path : Path) (r : Root) → path.root ≡ r → (here : Here) (l : ℕ) (type : CoreType) (w : World) (ws : List Value) (v : Value)
        → run.put q.facts s.variables here l type path w ws v ≡ run.put_by (plain_root s.variables r) q.facts here l type path w ws v
    at_root path r e here l type w ws v = ap (λ r. run.put_by (plain_root s.variables r) q.facts here l type path w ws v) e

    pub stores : (type : CoreType) (l : ℕ) (path : Path) (ws : List Value) (k : Kind) (v : Value) (z : ℤ) → LeadsTo q.facts s f path k → v ≡ number z → holds q.facts.model k z ≡ true
        → ((i : ℕ) → t i ≡ false → is_local path.root i ≡ false) → Ends (run.put_to q deeper s.variables here type l path ws v (core_in (sizes q.facts s) m n vs st))
    stores type l path ws k v z (to_local x y r ss e kind so) same fits only =
        let plain : plain_root s.variables (root.Variable (variable.Local x)) ≡ Some x =
        ap (λ o. if is_plain_in o then Some x else None) e ∙ ap (λ b. if b then Some x else None) (plain_here x y e) in
        let way : run.put q.facts s.variables here l type path (world_in (sizes q.facts s) m n vs st) ws v
        ≡ granted (may_change_local q.facts here.granted x) l (with_local x (plain_value v) (world_in (sizes q.facts s) m n vs st)) =
        at_root path (root.Variable (variable.Local x)) r here l type (world_in (sizes q.facts s) m n vs st) ws v
        ∙ ap (λ o. run.put_by o q.facts here l type path (world_in (sizes q.facts s) m n vs st) ws v) plain in
        subst (λ w. Ends (with_eval (wrote_act v w) (λ z w. goes_on (in_world (core_in (sizes q.facts s) m n vs st) w)))) (sym way)
        (subst (λ v. Ends (with_eval (wrote_act v (granted (may_change_local q.facts here.granted x) l (with_local x (plain_value v) (world_in (sizes q.facts s) m n vs st)))) (λ z w. goes_on (in_world (core_in (sizes q.facts s) m n vs st) w)))) (sym same)
        (if_granted (number z) l (with_local x (plain_value (number z)) (world_in (sizes q.facts s) m n vs st)) (may_change_local q.facts here.granted x)
        (λ may. local_set x y z e (ap (λ k. holds q.facts.model k z) kind ∙ fits) so may (λ i h. sym (ap (λ r. is_local r i) r) ∙ only i h))))
    stores type l path ws k v z (to_global x y r ss e kind) same fits only =
        let w = world_in (sizes q.facts s) m n vs st in
        let there : address q.facts w path ws ≡ pointer (negsuc x) (pos 0) =
        ap (λ ss. along ws ss (start q.facts w path.root ws)) ss ∙ ap (λ r. start q.facts w r ws) r ∙ ap (λ b. pointer b (pos 0)) (home_is q.facts globals x y e) in
        let way : run.put q.facts s.variables here l type path w ws v ≡ cell_written here l (cell_of type) w (pointer (negsuc x) (pos 0)) v =
        at_root path (root.Variable (variable.Global x)) r here l type w ws v ∙ ap (λ a. cell_written here l (cell_of type) w a v) there in
        subst (λ w'. Ends (with_eval (wrote_act v w') (λ z w. goes_on (in_world (core_in (sizes q.facts s) m n vs st) w)))) (sym way)
        (subst (λ v. Ends (with_eval (wrote_act v (cell_written here l (cell_of type) w (pointer (negsuc x) (pos 0)) v)) (λ z w. goes_on (in_world (core_in (sizes q.facts s) m n vs st) w)))) (sym same)
        (if_granted (number z) l (with_memory (stored_in (negsuc x) (pos 0) (number z) w.memory) w) (may_change here.granted (kind_there w.memory.blocks (cell_of type) (pointer (negsuc x) (pos 0))) (negsuc x) (pos 0))
        (λ may. global_set x y z e (ap (λ k. holds q.facts.model k z) kind ∙ fits) may)))

    -- a declared variable gets its first value
    pub takes : (low : ℕ) → AllBelow low here.granted → (x : ℕ) (k : Kind) (v : Value) (z : ℤ) → Takes q.facts s f low x k → v ≡ number z → holds q.facts.model k z ≡ true
        → ((i : ℕ) → t i ≡ false → (x == i) ≡ false)
        → Ends (goes_on (in_world (core_in (sizes q.facts s) m n vs st) (initial_act s.variables x v (world_in (sizes q.facts s) m n vs st))))
    takes low below x k v z d same fits only =
        let w = world_in (sizes q.facts s) m n vs st in
        let way : initial_act s.variables x v w ≡ with_local x (plain_value v) w =
        ap (λ o. initial_by o x (w.locals x) v w) d.1 ∙ plainly d.0 x (w.locals x) v w (plain_here x d.0 d.1) in
        subst (λ w'. Ends (goes_on (in_world (core_in (sizes q.facts s) m n vs st) w'))) (sym way)
        (subst (λ v. Ends (goes_on (in_world (core_in (sizes q.facts s) m n vs st) (with_local x (plain_value v) w)))) (sym same)
        (local_set x d.0 z d.1 (ap (λ k. holds q.facts.model k z) d.2 ∙ fits) d.3 (high_may q.facts low here.granted below x d.4) only))
