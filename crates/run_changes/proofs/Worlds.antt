-- Scopes, parameters and writes keep the memory as it has to be, and the homes of variables new.
use Rattle.std.proofs.Common.{◌≡◌, ℕ, suc, ℤ, pos, ◌+ℤ◌, Bool, true, false, ◌&&◌, List, [], ◌∷◌, ◌++◌, map, Option, Some, None, slice_get, refl, sym, ap, ◌∙◌}
use Rattle.wp_base.specs.declared.kinds.CellKind.{CellKind}
use Rattle.wp_base.specs.Blocks.{count, cells_of}
use Rattle.typed_prog.specs.declared.types.CoreType.{CoreType}
use Rattle.typed_prog.specs.declared.operators.Path.{Path}
use Rattle.c_runs.specs.TruthStates.{Value, nothing_of, block_of, offset_of}
use Rattle.c_runs.specs.Program.{Facts, Variable, Contract, Loop}
use Rattle.c_runs.specs.States.{Local, plain, home, World, Memory, Here, Granted, with_local, with_memory, unset, no_locals, stored_in, seen}
use Rattle.c_runs.specs.Operators.{Val, is, wrong}
use Rattle.c_runs.specs.Objects.{plain_root, cell_of}
use Rattle.c_runs.specs.Values.{Vals, are, wrongs}
use Rattle.c_runs.specs.Claims.{Stop, spent, undefined, failed, lets_cell, may_change, may_change_local, of_caller, granted_in, granted_by, at_entry, here_in, in_body, in_loop, parts_of}
use Rattle.c_runs.specs.Scopes.{others, next_content, filled, cleared, with_block, scalar_of, plain_made, block_made, variable_made, entered, ended_since, without_locals, left, param_made, params_made, arrived}
use Rattle.c_runs.specs.Calls.{Eval, gives, stops, nought}
use Rattle.c_runs.specs.Effects.{Written, wrote, unwritten, granted, kind_there, cell_written, written_at, target, written_by, write, wrote_act, assigned, assign_act, initial_in, initial_by, initial_act}
use Rattle.run_changes.proofs.Tables.{IsNew, if_by, at_by, all_second}
use Rattle.run_changes.proofs.Memories.{Kept, kept_stored, may_new, next_new, kept_block, kept_cleared, kept_ended, the_set, may_there}

-- ---- what is kept

abbrev pub IsNewHome : Memory → Local → Type 0
IsNewHome before (plain v is_set) = Unit {0}
IsNewHome before (home b) = IsNew before.blocks b

pub record KeptWorld (rs : List Value) (before : Memory) (w : World) : Type 0 where
  pub memory : Kept rs before w.memory
  pub homes : (x : ℕ) → IsNewHome before (w.locals x)

-- where the turns are spent
abbrev pub KeptStop : List Value → Memory → Stop → Type 0
KeptStop rs before (spent w) = Kept rs before w.memory
KeptStop rs before (undefined u line) = Unit {0}
KeptStop rs before (failed b line) = Unit {0}

abbrev pub KeptEval : List Value → Memory → Eval → Type 0
KeptEval rs before (gives v w) = KeptWorld rs before w
KeptEval rs before (stops s) = KeptStop rs before s

abbrev pub KeptWritten : List Value → Memory → Written → Type 0
KeptWritten rs before (wrote w) = KeptWorld rs before w
KeptWritten rs before (unwritten s) = KeptStop rs before s

-- what all active sets let change, this one lets
pub record IsBounded (rs : List Value) (before : Memory) (gs : List Granted) : Type 0 where
  pub lets : (k : CellKind) (b o : ℤ) → may_change gs k b o ≡ true → lets_cell k b o (the_set rs before) ≡ true

callers_same : (gs : List Granted) (k : CellKind) (b o : ℤ) → may_change (map of_caller gs) k b o ≡ may_change gs k b o
callers_same [] k b o = refl
callers_same (g ∷ gs) k b o = ap (λ t. lets_cell k b o g && t) (callers_same gs k b o)

module _ (rs : List Value) (before : Memory) where
  bounded_more : (gs hs : List Granted) → IsBounded rs before hs → IsBounded rs before (gs ++ hs)
  bounded_more gs hs i = record { lets = λ k b o h. i.lets k b o (all_second (lets_cell k b o) gs hs h) }

  pub bounded_call : (p : Facts) (f : ℕ) (vs : List Value) (m : Memory) (c : Contract) (gs : List Granted) → IsBounded rs before gs → IsBounded rs before (here_in p f vs m c gs).granted
  bounded_call p f vs m c gs i =
      bounded_more (granted_in p (at_entry p vs m) (count m.blocks) (parts_of c)) (map of_caller gs) (record { lets = λ k b o h. i.lets k b o (sym (callers_same gs k b o) ∙ h) })

  pub bounded_loop : (p : Facts) (here : Here) (l : Loop) (w : World) → IsBounded rs before here.granted → IsBounded rs before (in_loop p here l w).granted
  bounded_loop p here l w i =
      bounded_more (granted_by p (in_body p (record here { loop_entry = seen p w }) w) (count w.memory.blocks) l.declared l.assigns) here.granted i

  -- ---- parts of a world

  pub kept_local : (x : ℕ) (l : Local) (w : World) → IsNewHome before l → KeptWorld rs before w → KeptWorld rs before (with_local x l w)
  kept_local x l w new a = record { memory = a.memory; homes = λ y. at_by (IsNewHome before) x l w.locals y new (a.homes y) }

  pub kept_memory : (m : Memory) (w : World) → Kept rs before m → KeptWorld rs before w → KeptWorld rs before (with_memory m w)
  kept_memory m w k a = record { memory = k; homes = a.homes }

  -- ---- scopes

  kept_filled : (p : Facts) (n b o : ℤ) (ks : List CellKind) (w : World) → IsNew before.blocks b → KeptWorld rs before w → KeptWorld rs before (filled p n b o ks w)
  kept_filled p n b o [] w new a = a
  kept_filled p n b o (k ∷ ks) w new a =
      kept_filled p n b (o +ℤ pos 1) ks (record w { contents = others w.contents; memory = stored_in b o (next_content p n k w.contents) w.memory }) new
      (record { memory = kept_stored rs before w.memory b o (next_content p n k w.contents) (may_new rs before b o new) a.memory; homes = a.homes })

  kept_plain : (p : Facts) (x : ℕ) (v : Variable) (w : World) → KeptWorld rs before w → KeptWorld rs before (plain_made p x v w)
  kept_plain p x v w a =
      let held = next_content p (count w.memory.blocks) (scalar_of v.layout.cells) w.contents in
      let drawn = record w { contents = others w.contents } in
      if_by (KeptWorld rs before) v.has_value (with_local x (plain (nothing_of (scalar_of v.layout.cells)) true) w) (with_local x (plain held false) drawn)
      (kept_local x (plain (nothing_of (scalar_of v.layout.cells)) true) w tt a) (kept_local x (plain held false) drawn tt (record { memory = a.memory; homes = a.homes }))

  -- the block of a variable, and its home
  kept_home : (x : ℕ) (v : Variable) (w : World) → KeptWorld rs before w → KeptWorld rs before (with_local x (home (count w.memory.blocks)) (with_memory (with_block v w.memory) w))
  kept_home x v w a =
      kept_local x (home (count w.memory.blocks)) (with_memory (with_block v w.memory) w) (next_new rs before w.memory a.memory)
      (kept_memory (with_block v w.memory) w (kept_block rs before v w.memory a.memory) a)

  kept_block_made : (p : Facts) (x : ℕ) (v : Variable) (w : World) → KeptWorld rs before w → KeptWorld rs before (block_made p x v w)
  kept_block_made p x v w a =
      let b = count w.memory.blocks in
      let made = with_local x (home b) (with_memory (with_block v w.memory) w) in
      let k = kept_home x v w a in
      let new = next_new rs before w.memory a.memory in
      if_by (KeptWorld rs before) v.has_value (with_memory (cleared b (pos 0) (cells_of v.layout) made.memory) made) (filled p (count made.memory.blocks) b (pos 0) (cells_of v.layout) made)
      (kept_memory (cleared b (pos 0) (cells_of v.layout) made.memory) made (kept_cleared rs before b (pos 0) (cells_of v.layout) made.memory new k.memory) k)
      (kept_filled p (count made.memory.blocks) b (pos 0) (cells_of v.layout) made new k)

  kept_variable : (p : Facts) (x : ℕ) (v : Option Variable) (w : World) → KeptWorld rs before w → KeptWorld rs before (variable_made p x v w)
  kept_variable p x None w a = a
  kept_variable p x (Some v) w a = if_by (KeptWorld rs before) v.is_plain (plain_made p x v w) (block_made p x v w) (kept_plain p x v w a) (kept_block_made p x v w a)

  pub kept_entered : (p : Facts) (xs : List Variable) (ys : List ℕ) (w : World) → KeptWorld rs before w → KeptWorld rs before (entered p xs ys w)
  kept_entered p xs [] w a = a
  kept_entered p xs (x ∷ ys) w a = kept_entered p xs ys (variable_made p x (slice_get xs x) w) (kept_variable p x (slice_get xs x) w a)

  kept_unset : (ys : List ℕ) (w : World) → KeptWorld rs before w → KeptWorld rs before (without_locals ys w)
  kept_unset [] w a = a
  kept_unset (x ∷ ys) w a = kept_unset ys (with_local x unset w) (kept_local x unset w tt a)

  pub kept_left : (m : Memory) (ys : List ℕ) (w : World) → Kept rs before m → KeptWorld rs before w → KeptWorld rs before (left m ys w)
  kept_left m ys w k a = kept_memory (ended_since m w.memory) (without_locals ys w) (kept_ended rs before m w.memory k a.memory) (kept_unset ys w a)

  -- ---- parameters

  kept_param : (x : ℕ) (y : Option Variable) (v : Value) (w : World) → KeptWorld rs before w → KeptWorld rs before (param_made x y v w)
  kept_param x None v w a = a
  kept_param x (Some y) v w a =
      let b = count w.memory.blocks in
      let m = with_block y w.memory in
      let new = next_new rs before w.memory a.memory in
      let k = kept_stored rs before m b (pos 0) v (may_new rs before b (pos 0) new) (kept_block rs before y w.memory a.memory) in
      if_by (KeptWorld rs before) y.is_plain (with_local x (plain v true) w) (with_local x (home b) (with_memory (stored_in b (pos 0) v m) w))
      (kept_local x (plain v true) w tt a) (kept_local x (home b) (with_memory (stored_in b (pos 0) v m) w) new (kept_memory (stored_in b (pos 0) v m) w k a))

  kept_params : (xs : List Variable) (n : ℕ) (vs : List Value) (w : World) → KeptWorld rs before w → KeptWorld rs before (params_made xs n vs w)
  kept_params xs n [] w a = a
  kept_params xs n (v ∷ vs) w a = kept_params xs (suc n) vs (param_made n (slice_get xs n) v w) (kept_param n (slice_get xs n) v w a)

  pub kept_arrived : (xs : List Variable) (vs : List Value) (w : World) → KeptWorld rs before w → KeptWorld rs before (arrived xs vs w)
  kept_arrived xs vs w a = kept_params xs 0 vs (record w { locals = no_locals }) (record { memory = a.memory; homes = λ x. tt })

  -- ---- values of declared variables

  kept_initial_in : (l : Local) (v : Value) (m : Memory) → IsNewHome before l → Kept rs before m → Kept rs before (initial_in l v m)
  kept_initial_in (plain held is_set) v m new k = k
  kept_initial_in (home b) v m new k = kept_stored rs before m b (pos 0) v (may_new rs before b (pos 0) new) k

  kept_initial_by : (x : Option Variable) (n : ℕ) (l : Local) (v : Value) (w : World) → IsNewHome before l → KeptWorld rs before w → KeptWorld rs before (initial_by x n l v w)
  kept_initial_by None n l v w new a = a
  kept_initial_by (Some x) n l v w new a =
      if_by (KeptWorld rs before) x.is_plain (with_local n (plain v true) w) (with_memory (initial_in l v w.memory) w)
      (kept_local n (plain v true) w tt a) (kept_memory (initial_in l v w.memory) w (kept_initial_in l v w.memory new a.memory) a)

  pub kept_initial : (xs : List Variable) (n : ℕ) (v : Value) (w : World) → KeptWorld rs before w → KeptWorld rs before (initial_act xs n v w)
  kept_initial xs n v w a = kept_initial_by (slice_get xs n) n (w.locals n) v w (a.homes n) a

  -- ---- writes

  kept_granted : (t : Bool) (l : ℕ) (w : World) → (t ≡ true → KeptWorld rs before w) → KeptWritten rs before (granted t l w)
  kept_granted true l w h = h refl
  kept_granted false l w h = tt

  module _ (here : Here) (bounded : IsBounded rs before here.granted) where
    kept_cell : (l : ℕ) (k : CellKind) (w : World) (a v : Value) → KeptWorld rs before w → KeptWritten rs before (cell_written here l k w a v)
    kept_cell l k w a v kept =
        let j = kind_there w.memory.blocks k a in
        kept_granted (may_change here.granted j (block_of a) (offset_of a)) l (with_memory (stored_in (block_of a) (offset_of a) v w.memory) w)
        (λ e.
        let may = may_there rs before w.memory kept.memory k (block_of a) (offset_of a) (bounded.lets j (block_of a) (offset_of a) e) in
        kept_memory (stored_in (block_of a) (offset_of a) v w.memory) w (kept_stored rs before w.memory (block_of a) (offset_of a) v may kept.memory) kept)

    kept_at : (l : ℕ) (k : CellKind) (w : World) (t : Val) (v : Value) → KeptWorld rs before w → KeptWritten rs before (written_at here l k w t v)
    kept_at l k w (is a) v kept = kept_cell l k w a v kept
    kept_at l k w (wrong u line) v kept = tt

    kept_by : (o : Option ℕ) (p : Facts) (l : ℕ) (type : CoreType) (path : Path) (w : World) (vs : List Value) (v : Value) → KeptWorld rs before w → KeptWritten rs before (written_by o p here l type path w vs v)
    kept_by (Some x) p l type path w vs v kept = kept_granted (may_change_local p here.granted x) l (with_local x (plain v true) w) (λ e. kept_local x (plain v true) w tt kept)
    kept_by None p l type path w vs v kept = kept_at l (cell_of type) w (target p w (cell_of type) path vs) v kept

    kept_write : (p : Facts) (xs : List Variable) (l : ℕ) (type : CoreType) (path : Path) (w : World) (vs : List Value) (v : Value) → KeptWorld rs before w → KeptWritten rs before (write p xs here l type path w vs v)
    unfolding write
    kept_write p xs l type path w vs v kept = kept_by (plain_root xs path.root) p l type path w vs v kept

    kept_wrote : (v : Value) (x : Written) → KeptWritten rs before x → KeptEval rs before (wrote_act v x)
    kept_wrote v (wrote w) k = k
    kept_wrote v (unwritten s) k = k

    pub kept_stores : (p : Facts) (xs : List Variable) (l : ℕ) (type : CoreType) (path : Path) (u v : Value) (vs : List Value) (w : World) → KeptWorld rs before w
        → KeptEval rs before (wrote_act u (write p xs here l type path w vs v))
    kept_stores p xs l type path u v vs w kept = kept_wrote u (write p xs here l type path w vs v) (kept_write p xs l type path w vs v kept)

    kept_assigned : (p : Facts) (xs : List Variable) (l : ℕ) (type : CoreType) (path : Path) (vs : List Value) (w : World) → KeptWorld rs before w → KeptEval rs before (assigned p xs here l type path vs w)
    kept_assigned p xs l type path [] w kept = kept_stores p xs l type path nought nought [] w kept
    kept_assigned p xs l type path (v ∷ vs) w kept = kept_stores p xs l type path v v vs w kept

    pub kept_assign : (p : Facts) (xs : List Variable) (l : ℕ) (type : CoreType) (path : Path) (vs : Vals) (w : World) → KeptWorld rs before w → KeptEval rs before (assign_act p xs here l type path vs w)
    kept_assign p xs l type path (are vs) w kept = kept_assigned p xs l type path vs w kept
    kept_assign p xs l type path (wrongs u k) w kept = tt
