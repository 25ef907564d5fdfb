-- What single statements change.
use Rattle.std.proofs.Common.{◌≡◌, ℕ, Bool, true, false, if◌then◌else◌, ℤ, pos, negsuc, List, [], ◌∷◌, Some, None, slice_get, refl, sym, ap, ◌∙◌, subst, arith}
use Rattle.std.proofs.lemmas.Int.{ints}
use Rattle.c_kinds.proofs.Converting.{le_test}
use Rattle.std.specs.Prelude.{◌==◌, int_le}
use Rattle.std.specs.Option.{unwrap_or}
use Rattle.std.specs.List.{list_all}
use Rattle.wp_base.specs.declared.kinds.CellKind.{CellKind}
use Rattle.wp_base.specs.Blocks.{Table, count, block_at, block_cells, has_cell, is_cell}
use Rattle.typed_prog.specs.declared.types.CoreType.{CoreType}
use Rattle.typed_prog.specs.declared.operators.Path.{Path}
use Rattle.typed_prog.specs.Tree as tree
use Rattle.c_runs.specs.TruthStates.{Value, pointer, block_of, offset_of}
use Rattle.c_runs.specs.Program.{Variable, Facts}
use Rattle.c_runs.specs.States.{plain, Memory, World, Here, Granted, with_local, with_memory, stored_in, global_home}
use Rattle.c_runs.specs.Objects.{plain_root, is_plain_in, cell_of, address, along, start}
use Rattle.c_runs.specs.Claims.{may_change, may_change_local}
use Rattle.c_runs.specs.Scopes.{is_content}
use Rattle.c_runs.specs.Effects.{granted, kind_there, cell_written, wrote_act, initial_in, initial_by, initial_act}
use Rattle.c_runs.specs.CoreRun.{CoreWorld, Ending, goes_on, in_world, with_temp, with_eval}
use Rattle.c_runs.specs.Tests.{is_set_by}
use Rattle.c_runs.specs.CheckedRun as run
use Rattle.c_runs.specs.CheckedRun.{place_test}
use Rattle.goal_segments.specs.Told.{may_change_global}
use Rattle.plain_runs.specs.Fitting.{IsGood}
use Rattle.plain_runs.specs.Kept.{AllBelow, is_local}
use Rattle.plain_runs.proofs.Sets.{high_may}
use Rattle.typed_memories.proofs.Tests.{on_test, not_both, chosen, unchosen, is_here, same_address, with_cell_apart}
use Rattle.typed_memories.proofs.CellKinds.{kind_same, kind_of_cell, same_kind, one_kind, no_cell_of, apart_from_cell}
use Rattle.typed_memories.proofs.Decoding.{no_hidden_cell}
use Rattle.program_steps.specs.Temporaries.{Temporaries}
use Rattle.typed_runs.specs.Fitting.{Shape, InScope, kind_of, LeadsTo, to_local, to_global, to_cell, place_checks, Takes}
use Rattle.typed_runs.specs.Kept.{home_at, HoldsValue, HasHome, Holds, NewHomes, KeptMemory, Ends}
use Rattle.typed_runs.proofs.Values.{place_cell}
use Rattle.typed_runs.proofs.Storing.{stored_good, set_good, set_apart}
use Rattle.typed_runs.proofs.Keeping.{blocks_same, memory_same, new_may}
use Rattle.typed_runs.proofs.Opening.{same_name}

module _ (p : Facts) (s : Shape) (f : InScope) (os : List Temporaries) (gs : List Granted) (c : CoreWorld) where
  abbrev blocks : Table
  blocks = c.world.memory.blocks

  -- ---- temporaries

  -- where it is used, it has a value of its kind
  pub temp_ends : (t t' : Temporaries) (tx : InScope) (n : ℕ) (v : Value) → Holds p s f t c → (t' n ≡ true → is_content p (count blocks) (s.temp_kind n) v ≡ true)
      → ((m : ℕ) → (n == m) ≡ false → t' m ≡ true → t m ≡ true) → Ends p s f os t' gs tx (λ m. n == m) c (goes_on (with_temp n v c))
  temp_ends t t' tx n v h content others = (
    record {
      good = h.good;
      locals = h.locals;
      homes = h.homes;
      scoped = h.scoped;
      temporaries = λ m used. on_test (n == m)
          (λ here. subst (λ u. is_content p (count blocks) (s.temp_kind m) u ≡ true) (sym (chosen (n == m) v (c.temps m) here))
          (subst (λ m. t' m ≡ true → is_content p (count blocks) (s.temp_kind m) v ≡ true) (same_name n m here) content used))
          (λ other. subst (λ u. is_content p (count blocks) (s.temp_kind m) u ≡ true) (sym (unchosen (n == m) v (c.temps m) other)) (h.temporaries m (others m other used)));
    },
    record {
      memory = memory_same gs c.world.memory;
      allowed = λ x no. refl;
      untouched = λ x no. refl;
      rises = λ x is. is;
      homes = λ x. refl;
      temporaries = λ m other. unchosen (n == m) v (c.temps m) other;
    },
  )

  -- ---- a local that no pointer leads to

  local_set : (t : Temporaries) (tx : InScope) (u : Temporaries) (x : ℕ) (y : Variable) (v : Value) → Holds p s f t c → slice_get s.variables x ≡ Some y → y.is_plain ≡ true → f x ≡ true
      → is_content p (count blocks) (kind_of y) v ≡ true → may_change_local p gs x ≡ true → ((i : ℕ) → tx i ≡ false → (x == i) ≡ false)
      → Ends p s f os t gs tx u c (goes_on (in_world c (with_local x (plain v true) c.world)))
  local_set t tx u x y v h found is on content may only = (
    record {
      good = h.good;
      locals = λ i w e scoped plainly. on_test (x == i)
          (λ here. subst (HoldsValue p (count blocks) w) (sym (chosen (x == i) (plain v true) (c.world.locals i) here))
          (subst (λ w. HoldsValue p (count blocks) w (plain v true)) (same_variable i w here e) (record { held = v; is_set = true; same = refl; content = content })))
          (λ other. subst (HoldsValue p (count blocks) w) (sym (unchosen (x == i) (plain v true) (c.world.locals i) other)) (h.locals i w e scoped plainly));
      homes = λ i w e scoped not_plain. on_test (x == i)
          (λ here. not_both w.is_plain (ap (λ (w : Variable). w.is_plain) (sym (same_variable i w here e)) ∙ is) not_plain)
          (λ other. subst (HasHome blocks w) (sym (unchosen (x == i) (plain v true) (c.world.locals i) other)) (h.homes i w e scoped not_plain));
      scoped = λ i out. on_test (x == i)
          (λ here. not_both (f i) (subst (λ i. f i ≡ true) (same_name x i here) on) out)
          (λ other. unchosen (x == i) (plain v true) (c.world.locals i) other ∙ h.scoped i out);
      temporaries = h.temporaries;
    },
    record {
      memory = memory_same gs c.world.memory;
      allowed = λ i no. on_test (x == i)
          (λ here. not_both (may_change_local p gs i) (subst (λ i. may_change_local p gs i ≡ true) (same_name x i here) may) no)
          (λ other. unchosen (x == i) (plain v true) (c.world.locals i) other);
      untouched = λ i no. unchosen (x == i) (plain v true) (c.world.locals i) (only i no);
      rises = λ i set. on_test (x == i)
          (λ here. ap is_set_by (chosen (x == i) (plain v true) (c.world.locals i) here))
          (λ other. ap is_set_by (unchosen (x == i) (plain v true) (c.world.locals i) other) ∙ set);
      homes = λ i. on_test (x == i)
          (λ here. ap home_at (chosen (x == i) (plain v true) (c.world.locals i) here) ∙ subst (λ i. None ≡ home_at (c.world.locals i)) (same_name x i here)
          (sym (ap home_at (h.locals x y found on is).same)))
          (λ other. ap home_at (unchosen (x == i) (plain v true) (c.world.locals i) other));
      temporaries = λ n no. refl;
    },
  ) where
    same_variable : (i : ℕ) (w : Variable) → (x == i) ≡ true → slice_get s.variables i ≡ Some w → y ≡ w
    same_variable i w here e = by y w (sym found ∙ ap (slice_get s.variables) (same_name x i here) ∙ e) where
      by : (a b : Variable) → Some a ≡ Some b → a ≡ b
      by a b e = cc

  -- ---- memory

  -- the same world with another memory that has the same blocks
  memory_set : (t : Temporaries) (tx : InScope) (u : Temporaries) (m : Memory) → Holds p s f t c → IsGood p m → m.blocks ≡ blocks → KeptMemory gs c.world.memory m
      → Ends p s f os t gs tx u c (goes_on (in_world c (with_memory m c.world)))
  memory_set t tx u m h good same kept = (
    record {
      good = good;
      locals = λ x v e on is. subst (λ t. HoldsValue p (count t) v (c.world.locals x)) (sym same) (h.locals x v e on is);
      homes = λ x v e on not_plain. subst (λ t. HasHome t v (c.world.locals x)) (sym same) (h.homes x v e on not_plain);
      scoped = h.scoped;
      temporaries = λ n used. ap (λ t. is_content p (count t) (s.temp_kind n) (c.temps n)) same ∙ h.temporaries n used;
    },
    record {
      memory = kept;
      allowed = λ x no. refl;
      untouched = λ x no. refl;
      rises = λ x is. is;
      homes = λ x. refl;
      temporaries = λ n no. refl;
    },
  )

  -- a cell, where that may be
  pub cell_set : (t : Temporaries) (tx : InScope) (u : Temporaries) (k : CellKind) (b o : ℤ) (v : Value) → Holds p s f t c → is_cell k blocks b o ≡ true
      → is_content p (count blocks) k v ≡ true → may_change gs k b o ≡ true → Ends p s f os t gs tx u c (goes_on (in_world c (with_memory (stored_in b o v c.world.memory) c.world)))
  cell_set t tx u k b o v h is content may =
      memory_set t tx u (stored_in b o v c.world.memory) h (stored_good p c.world.memory h.good k b o v is content) refl
      (record {
        blocks = blocks_same blocks;
        cells = λ l b' o' there no. on_test (is_here b o b' o')
            (λ here. let e = same_address b o b' o' here in
            let moved : is_cell k blocks b' o' ≡ true = subst (λ x. is_cell k blocks b' x ≡ true) e.1 (subst (λ x. is_cell k blocks x o ≡ true) e.0 is) in
            let same : l ≡ k = same_kind l k (one_kind l k blocks b' o' there moved) in
            not_both (may_change gs l b' o') (subst (λ l. may_change gs l b' o' ≡ true) (sym same) (subst (λ x. may_change gs k b' x ≡ true) e.1 (subst (λ x. may_change gs k x o ≡ true) e.0 may))) no)
            (λ other. with_cell_apart b o v c.world.memory.cells b' o' other);
        hidden = λ x o' no. with_cell_apart b o v c.world.memory.cells (negsuc x) o' (apart_from_cell k blocks b o (negsuc x) o' is (no_cell_of k blocks (negsuc x) o' (no_hidden_cell blocks x o')));
      })

  -- a variable of the file that no pointer leads to
  global_set : (t : Temporaries) (tx : InScope) (u : Temporaries) (x : ℕ) (y : Variable) (v : Value) → Holds p s f t c → slice_get p.globals x ≡ Some y → y.is_plain ≡ true
      → is_content p (count blocks) (kind_of y) v ≡ true → ((i : ℕ) → global_home p x ≡ negsuc i → may_change_global gs i ≡ true)
      → Ends p s f os t gs tx u c (goes_on (in_world c (with_memory (stored_in (global_home p x) (pos 0) v c.world.memory) c.world)))
  global_set t tx u x y v h found is content may =
      memory_set t tx u (stored_in (global_home p x) (pos 0) v c.world.memory) h (set_good p c.world.memory h.good x y found is v content) refl
      (record {
        blocks = blocks_same blocks;
        cells = λ l b o there no. set_apart p c.world.memory h.good x y found is v content l b o there;
        hidden = λ i o no. on_test (is_here (global_home p x) (pos 0) (negsuc i) o)
            (λ here. not_both (may_change_global gs i) (may i (same_address (global_home p x) (pos 0) (negsuc i) o here).0) no)
            (λ other. with_cell_apart (global_home p x) (pos 0) v c.world.memory.cells (negsuc i) o other);
      })

  -- ---- what is granted

  if_granted : (t : Temporaries) (tx : InScope) (u : Temporaries) (v : Value) (l : ℕ) (w : World) (b : Bool) → (b ≡ true → Ends p s f os t gs tx u c (goes_on (in_world c w)))
      → Ends p s f os t gs tx u c (with_eval (wrote_act v (granted b l w)) (λ z w. goes_on (in_world c w)))
  if_granted t tx u v l w true h = h refl
  if_granted t tx u v l w false h = tt

  -- the kind of the cell that stands there
  kind_found : (k l : CellKind) (b o : ℤ) → is_cell k blocks b o ≡ true → kind_there blocks l (pointer b o) ≡ k
  kind_found k l b o is = ap (λ x. unwrap_or x l) (kind_of_cell k blocks b o is)

  kind_there_is : (k l : CellKind) (a : Value) → is_cell k blocks (block_of a) (offset_of a) ≡ true → kind_there blocks l a ≡ k
  kind_there_is k l a is = kind_found k l (block_of a) (offset_of a) is
  -- ---- an object that is written

-- ---- an object that is written

above : (k : CellKind) (t : Table) (b o : ℤ) → is_cell k t b o ≡ true → int_le (pos 0) b ≡ true
above k t (pos n) o is = le_test (pos 0) (pos n) (omega (arith, ints))
above k t (negsuc n) o is = not_both (is_cell k t (negsuc n) o) is (no_cell_of k t (negsuc n) o (no_hidden_cell t n o))

module _ (p : Facts) (s : Shape) (f : InScope) (os : List Temporaries) (here : Here) (c : CoreWorld) where
  abbrev Done : (t : Temporaries) (tx : InScope) (u : Temporaries) → Ending → Type 0
  Done t tx u o = Ends p s f os t here.granted tx u c o

  -- what an assignment of the value comes to, where the checks of its place are met
  pub stores : (t t' : Temporaries) (tx : InScope) (u : Temporaries) → Holds p s f t c → Holds p s f t' c → (l : ℕ) (type : CoreType) (path : Path) (vs : List Value) (es : tree.Values) (v : Value)
      → LeadsTo p s f t type path → list_all (place_test p s.variables c.temps c.world type path vs es) (place_checks p s path es) ≡ true
      → is_content p (count c.world.memory.blocks) (cell_of type) v ≡ true → ((i : ℕ) → tx i ≡ false → is_local path.root i ≡ false)
      → Done t' tx u (with_eval (wrote_act v (run.put p s.variables here l type path c.world vs v)) (λ z w. goes_on (in_world c w)))
  stores t t' tx u h h' l type path vs es v (to_local x y r steps e plainly kind on) met content only =
      let root_is : plain_root s.variables path.root ≡ Some x =
      ap (plain_root s.variables) r ∙ ap (λ o. if is_plain_in o then Some x else None) e ∙ ap (λ b. if b then Some x else None) plainly in
      subst (λ o. Done t' tx u (with_eval (wrote_act v (run.put_by o p here l type path c.world vs v)) (λ z w. goes_on (in_world c w)))) (sym root_is)
      (if_granted p s f os here.granted c t' tx u v l (with_local x (plain v true) c.world) (may_change_local p here.granted x)
      (λ may. local_set p s f os here.granted c t' tx u x y v h' e plainly on (subst (λ k. is_content p (count c.world.memory.blocks) k v ≡ true) (sym kind) content) may
      (λ i no. sym (ap (λ r. is_local r i) r) ∙ only i no)))
  stores t t' tx u h h' l type path vs es v (to_global x y r steps e plainly kind) met content only =
      let root_is : plain_root s.variables path.root ≡ None = ap (plain_root s.variables) r in
      let at_home : address p c.world path vs ≡ pointer (global_home p x) (pos 0) =
      ap (λ ss. along vs ss (start p c.world path.root vs)) steps ∙ ap (λ r. start p c.world r vs) r in
      subst (λ o. Done t' tx u (with_eval (wrote_act v (run.put_by o p here l type path c.world vs v)) (λ z w. goes_on (in_world c w)))) (sym root_is)
      (subst (λ a. Done t' tx u (with_eval (wrote_act v (cell_written here l (cell_of type) c.world a v)) (λ z w. goes_on (in_world c w)))) (sym at_home)
      (if_granted p s f os here.granted c t' tx u v l (with_memory (stored_in (global_home p x) (pos 0) v c.world.memory) c.world)
      (may_change here.granted (kind_there c.world.memory.blocks (cell_of type) (pointer (global_home p x) (pos 0))) (global_home p x) (pos 0))
      (λ may. global_set p s f os here.granted c t' tx u x y v h' e plainly (subst (λ k. is_content p (count c.world.memory.blocks) k v ≡ true) (sym kind) content)
      (λ i is. subst (λ b. may_change here.granted (kind_there c.world.memory.blocks (cell_of type) (pointer (global_home p x) (pos 0))) b (pos 0) ≡ true) is may))))
  stores t t' tx u h h' l type path vs es v (to_cell no_local no_global typed) met content only =
      let a = address p c.world path vs in
      let is = place_cell p s f t c h type path vs es no_local no_global typed met in
      subst (λ o. Done t' tx u (with_eval (wrote_act v (run.put_by o p here l type path c.world vs v)) (λ z w. goes_on (in_world c w)))) (sym no_local)
      (if_granted p s f os here.granted c t' tx u v l (with_memory (stored_in (block_of a) (offset_of a) v c.world.memory) c.world)
      (may_change here.granted (kind_there c.world.memory.blocks (cell_of type) a) (block_of a) (offset_of a))
      (λ may. cell_set p s f os here.granted c t' tx u (cell_of type) (block_of a) (offset_of a) v h' is content
      (subst (λ k. may_change here.granted k (block_of a) (offset_of a) ≡ true) (kind_there_is p s f os here.granted c (cell_of type) (cell_of type) a is) may)))

  -- the value that a variable is declared with
  pub takes : (low : ℕ) → AllBelow low here.granted → (t : Temporaries) (tx : InScope) (u : Temporaries) → NewHomes low tx here.granted c.world.locals → Holds p s f t c
      → (x : ℕ) (k : CellKind) (v : Value)
      → Takes p s f low x k → is_content p (count c.world.memory.blocks) k v ≡ true → tx x ≡ true → ((i : ℕ) → tx i ≡ false → (x == i) ≡ false)
      → Done t tx u (goes_on (in_world c (initial_act s.variables x v c.world)))
  takes low below t tx u new h x k v d content on only =
      subst (λ o. Done t tx u (goes_on (in_world c (initial_by o x (c.world.locals x) v c.world)))) (sym d.found)
      (on_test d.variable.is_plain
      (λ is. subst (λ w. Done t tx u (goes_on (in_world c w))) (sym
      (chosen d.variable.is_plain (with_local x (plain v true) c.world) (with_memory (initial_in (c.world.locals x) v c.world.memory) c.world) is))
      (local_set p s f os here.granted c t tx u x d.variable v h d.found is d.scoped (subst (λ k. is_content p (count c.world.memory.blocks) k v ≡ true) (sym d.kind) content)
      (high_may p low here.granted below x d.inside) only))
      (λ not_plain. subst (λ w. Done t tx u (goes_on (in_world c w)))
      (sym (unchosen d.variable.is_plain (with_local x (plain v true) c.world) (with_memory (initial_in (c.world.locals x) v c.world.memory) c.world) not_plain)) (in_block not_plain))) where
        in_block : d.variable.is_plain ≡ false → Done t tx u (goes_on (in_world c (with_memory (initial_in (c.world.locals x) v c.world.memory) c.world)))
        in_block not_plain =
            let r = h.homes x d.variable d.found d.scoped not_plain in
            let cells : block_cells (block_at c.world.memory.blocks r.block) ≡ k ∷ [] = ap block_cells r.layout ∙ d.one_cell not_plain in
            let is : is_cell k c.world.memory.blocks r.block (pos 0) ≡ true = ap (λ ks. has_cell k ks (pos 0)) cells ∙ kind_same k k refl in
            subst (λ l. Done t tx u (goes_on (in_world c (with_memory (initial_in l v c.world.memory) c.world)))) (sym r.same)
            (cell_set p s f os here.granted c t tx u k r.block (pos 0) v h is content
            (new_may here.granted k r.block (pos 0) (new x r.block on d.inside (ap home_at r.same)) (above k c.world.memory.blocks r.block (pos 0) is)))
