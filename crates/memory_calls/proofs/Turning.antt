-- What the sets in force inside of a loop let its turns change: the clause that they go by, and the behaviors of the function that count besides.
use Rattle.std.proofs.Common.{◌≡◌, ℕ, suc, ℤ, pos, Bool, true, false, not, ◌&&◌, ◌||◌, if◌then◌else◌, List, [], ◌∷◌, ◌++◌, Option, Some, None, slice_get, refl, sym, ap, ◌∙◌, subst, ◌≤◌, arith}
use Rattle.std.specs.Prelude.{int_le}
use Rattle.std.specs.Option.{option_map}
use Rattle.std.specs.List.{list_all}
use Rattle.std.proofs.lemmas.Bool.{false≢true, le-leb}
use Rattle.wp_base.specs.declared.kinds.CellKind.{CellKind}
use Rattle.wp_base.specs.Blocks.{count, is_cell}
use Rattle.typed_prog.specs.declared.operators.Variable.TheVariants as variables
use Rattle.acsl_trees.specs.Tree as acsl
use Rattle.c_runs.specs.TruthStates as labelled
use Rattle.c_runs.specs.TruthStates.{Value, is_negative}
use Rattle.c_runs.specs.TruthAllowed.{is_named, lies_in}
use Rattle.acsl_encode.specs.Meaning.{Stands}
use Rattle.qed_terms.specs.Meaning as sense
use Rattle.qed_terms.specs.Memory as goal
use Rattle.c_runs.specs.Program.{Variable, Behavior, Contract, Loop, Facts}
use Rattle.c_runs.specs.States.{Here, Granted, global_home}
use Rattle.c_runs.specs.Claims.{holds, in_state, regions_of, may_change, lets_cell, granted_by, granted_in}
use Rattle.c_runs.specs.Objects.{is_plain_in}
use Rattle.c_runs.specs.CoreRun.{CoreWorld}
use Rattle.c_runs.specs.Tree.{Steps}
use Rattle.goal_segments.specs.Sets.{own_loop}
use Rattle.goal_segments.specs.Segments.{lets_at_head, own_regions}
use Rattle.typed_memories.specs.Cells.{lies_inside}
use Rattle.typed_memories.specs.Changes.{Sets, LacksSince}
use Rattle.memory_steps.specs.State.{State}
use Rattle.memory_words.specs.Leaves.{leaves_of}
use Rattle.memory_words.specs.Shapes.{FileCells, Shape}
use Rattle.memory_words.specs.Readings.{Texts, Standpoint, hidden_block, body_reading}
use Rattle.memory_words.specs.Standing.{Frame}
use Rattle.memory_words.specs.Seen.{SeenAtLoop, state_of}
use Rattle.memory_words.proofs.Worlds.{annotations_read}
use Rattle.memory_words.specs.Points.{Force, of_function, of_loop, Point, later}
use Rattle.memory_words.specs.Sets.{has_variable, lacks, since, entry_at, assumed_at}
use Rattle.memory_words.specs.Words.{own_kind, entered_loop}
use Rattle.memory_words.specs.Typed.{AllOf}
use Rattle.memory_words.specs.Placed.{Openings, OfFunction, OfLoop, GrantedBy, SinceForce}
use Rattle.memory_statements.specs.Renewed.{LeaveIs}
use Rattle.memory_statements.specs.Regions.{set_of}
use Rattle.memory_calls.specs.Havoc.{Havoc}
use Rattle.memory_calls.specs.Stays.{all_stay}
use Rattle.memory_calls.proofs.Homes.{cell_of_plain}
use Rattle.memory_calls.specs.LoopSets.{InForce, anything, by_function, by_loop, by_own, in_force, names, lets_local, variable_changes, some_has, three_later, set_regions, renewed_kind, leave_of, turns}
use Rattle.memory_calls.specs.LoopWords.{stay_trees}
use Rattle.memory_calls.specs.LoopFits.{has_level, SetRegion, SetRegions, ClauseFits, ForceFits}
use Rattle.memory_calls.proofs.Regions.{body_plain, entry_plain, global_hidden}
use Rattle.memory_calls.proofs.Taken.{taken, taken_lies, taken_leave, taken_names, taken_stays, not_newer}
use Rattle.memory_calls.proofs.Sites.{Site}
use Rattle.memory_calls.proofs.Passing.{entered, entry_sees, has_blocks, newer_none}

or_parts : (a b : Bool) → (a || b) ≡ false → (a ≡ false) × (b ≡ false)
or_parts true b h = absurd (false≢true (sym h))
or_parts false b h = (refl, h)

pub and_so : (a : Bool) → (a && true) ≡ a
and_so true = refl
and_so false = refl

twice : (b : Bool) → b ≡ not (not b)
twice true = refl
twice false = refl

levels_same : (o : Option ℕ) → has_level (option_map suc (option_map suc (option_map suc o))) ≡ has_level o
levels_same (Some l) = refl
levels_same None = refl

module _ (m : sense.World) (p : Facts) (s : Shape) (cells : FileCells) (texts : Texts) (contract : Contract) (here : Here) (pt : Point) (olds : List State) (fr : Frame)
    (os : Openings) (l : Loop) (ss : Steps) (c : CoreWorld) (st : State) (site : Site m p s cells texts contract here pt olds fr os l ss c st) where
  abbrev pub sts : List State
  sts = st ∷ olds

  abbrev pub havoc : Havoc
  havoc = turns p s cells texts contract pt l ss

  abbrev pub inside : Here
  inside = own_loop p here l c.world

  abbrev pub at_entry : labelled.World
  at_entry = in_state p here.entry

  pub record Turning : Type 0 where
    pub firsts : List Granted
    pub behaviors : List Behavior
    pub blocks : ℤ
    pub granted : inside.granted ≡ firsts ++ granted_in p at_entry blocks behaviors
    pub counted : cells.has_blocks ≡ true → blocks ≡ count (state_of sts pt.stands.entry).table
    pub fit : AllOf (ClauseFits m p s cells texts pt.stands.is_param) behaviors
    pub stays : stay_trees p s cells texts contract pt l ss
        ≡ all_stay p s cells texts (entry_at p s cells texts (later pt.stands)) (assumed_at p s cells texts (later pt.stands)) (since (later pt.stands).entry) havoc behaviors
    pub set : Sets
    pub leave : (z : State) → LeaveIs m havoc.leave z sts set
    pub cells_are : (k : CellKind) → cells.has_kind k ≡ true → havoc.kinds k ≡ true → (b : ℕ) (o : ℤ) → may_change firsts k (pos b) o ≡ lies_inside (set k) (pos b) o
    pub kept : (k : CellKind) → cells.has_kind k ≡ true → havoc.kinds k ≡ false → (b : ℕ) (o : ℤ) → is_cell k c.world.memory.blocks (pos b) o ≡ true → may_change firsts k (pos b) o ≡ false
    pub globals_are : (x : ℕ) (v : Variable) → slice_get p.globals x ≡ Some v → v.is_plain ≡ true → (k : CellKind)
        → may_change firsts k (global_home p x) (pos 0) ≡ havoc.variables (variables.Global x)
    pub lets : (x : ℕ) (v : Variable) → slice_get s.variables x ≡ Some v → v.is_plain ≡ true
        → lets_at_head p inside.granted ss x (own_regions l.assigns inside.granted) ≡ lets_local l ss x

  -- ---- a set by a clause

  -- a variable of the file is let change where it is named
  named_lets : (vs : List Value) (n : ℤ) (d : ℕ) (rs : List acsl.Tree) (x : ℕ) (v : Variable) → slice_get p.globals x ≡ Some v → v.is_plain ≡ true
      → is_named vs (hidden_block p s cells (variables.Global x)) ≡ has_variable rs (variables.Global x) → (k : CellKind)
      → may_change (set_of vs n d ∷ []) k (global_home p x) (pos 0) ≡ not (lacks (Some rs) (variables.Global x))
  named_lets vs n d rs x v e plain names k =
      let h = cell_of_plain p x v e plain in
      ap (λ t. (if t then is_named vs (global_home p x) else int_le n (global_home p x) || lies_in vs k (global_home p x) (pos 0)) && true) (ap is_negative h.1)
      ∙ and_so (is_named vs (global_home p x))
      ∙ ap (is_named vs) (sym (global_hidden p s cells x (ap is_plain_in e ∙ plain))) ∙ names ∙ twice (has_variable rs (variables.Global x))

  lets_same : (vs : List Value) (n n' : ℤ) (d : ℕ) (k : CellKind) (b : ℕ) (o : ℤ) → n ≡ n' → may_change (set_of vs n d ∷ []) k (pos b) o ≡ lets_cell k (pos b) o (set_of vs n' d)
  lets_same vs n n' d k b o e = and_so (lets_cell k (pos b) o (set_of vs n d)) ∙ ap (λ n. lets_cell k (pos b) o (set_of vs n d)) e

  leave_by : (w : InForce) → in_force contract pt l ≡ w → (set : Sets) (z : State) → LeaveIs m (leave_of p s cells texts pt w) z sts set → LeaveIs m havoc.leave z sts set
  leave_by w e set z h = subst (λ w. LeaveIs m (leave_of p s cells texts pt w) z sts set) (sym e) h

  -- ---- its own set

  module _ (rs : List acsl.Tree) (e : l.assigns ≡ Some rs) where
    abbrev own_point : Standpoint
    own_point = three_later p s cells texts (entered_loop pt)

    abbrev own_world : labelled.World
    own_world = entered m p s cells texts contract here pt olds fr os l ss c st site

    own_stands : (x y z : State) (a : acsl.Tree) → Stands m (body_reading p s cells texts own_point a) (leaves_of (x ∷ y ∷ z ∷ sts)) own_world
    own_stands x y z a =
        let sees = entry_sees m p s cells texts contract here pt olds fr os l ss c st site in
        (annotations_read m p s cells texts site.setting (x ∷ y ∷ z ∷ sts) own_world a).body own_point
        (record { file = record { model = refl; structs = λ n. refl }; here_is = sees; pre_is = site.placed.entry st; post_is = sees; loop_is = sees })

    own_fits : AllOf (SetRegion m p s cells pt.stands.in_scope (body_reading p s cells texts own_point)) rs
    own_fits = subst (λ o. SetRegions m p s cells pt.stands.in_scope (body_reading p s cells texts own_point) o) e (site.fits.regions 3 (suc (suc (suc pt.stands.entry))) 3)

    own_is : in_force contract pt l ≡ by_own rs
    own_is = λ i. in_force contract pt (record l { assigns = e i })

    abbrev own_values : List Value
    own_values = regions_of p own_world rs

    abbrev own_set : Granted
    own_set = set_of own_values (count c.world.memory.blocks) l.declared

    own_granted : inside.granted ≡ own_set ∷ []
    own_granted = λ i. (own_loop p here (record l { assigns = e i }) c.world).granted

    own_count : (k : CellKind) → cells.has_kind k ≡ true → count c.world.memory.blocks ≡ count st.table
    own_count k h = ap count (sym (site.stands.table_is (has_blocks m p s cells texts contract here pt olds fr os l ss c st site k h)))

    abbrev own_taken : Sets
    own_taken = taken m p s cells sts pt.stands.in_scope (body_reading p s cells texts own_point) (body_plain p s cells texts own_point) own_world own_stands rs own_fits 0 l.declared

    turning_own : Turning
    turning_own = record {
      firsts = own_set ∷ [];
      behaviors = [];
      blocks = count (state_of sts pt.stands.entry).table;
      granted = own_granted;
      counted = λ has. refl;
      fit = tt;
      stays = λ i. stay_trees p s cells texts contract pt (record l { assigns = e i }) ss;
      set = own_taken;
      leave = λ z. leave_by (by_own rs) own_is own_taken z
          (taken_leave m p s cells sts pt.stands.in_scope (body_reading p s cells texts own_point) (body_plain p s cells texts own_point) own_world own_stands rs own_fits 0 l.declared z);
      cells_are = λ k has on b o.
          lets_same own_values (count c.world.memory.blocks) (count st.table) l.declared k b o (own_count k has)
          ∙ sym (taken_lies m p s cells sts pt.stands.in_scope (body_reading p s cells texts own_point) (body_plain p s cells texts own_point) own_world own_stands rs own_fits 0 l.declared k b o);
      kept = λ k has off b o is.
          lets_same own_values (count c.world.memory.blocks) (count st.table) l.declared k b o (own_count k has)
          ∙ taken_stays m p s cells sts pt.stands.in_scope (body_reading p s cells texts own_point) (body_plain p s cells texts own_point) own_world own_stands rs own_fits 0 l.declared k
          (or_parts (some_has k (set_regions p s cells texts pt (by_own rs))) false (sym (ap (λ w. renewed_kind p s cells texts pt w k) own_is) ∙ off)).0 b o
          (not_newer k st.table fr.table c.world.memory.blocks (newer_none m p s cells texts contract here pt olds fr os l ss c st site k has) site.stands.blocks_are (pos b) o is);
      globals_are = λ x v q plain k.
          named_lets own_values (count c.world.memory.blocks) l.declared rs x v q plain
          (taken_names m p s cells sts pt.stands.in_scope (body_reading p s cells texts own_point) (body_plain p s cells texts own_point) own_world own_stands rs own_fits 0 l.declared
          (variables.Global x) (ap is_plain_in q ∙ plain)) k
          ∙ ap (λ w. variable_changes w l ss (variables.Global x)) (sym own_is);
      lets = λ x v q plain.
          (λ i. lets_at_head p (own_granted i) ss x (own_regions (e i) (own_granted i)))
          ∙ taken_names m p s cells sts pt.stands.in_scope (body_reading p s cells texts own_point) (body_plain p s cells texts own_point) own_world own_stands rs own_fits 0 l.declared
          (variables.Local x) (ap is_plain_in q ∙ plain)
          ∙ sym (λ i. lets_local (record l { assigns = e i }) ss x);
    }

  -- ---- without one

  module _ (e : l.assigns ≡ None) where
    none_granted : inside.granted ≡ here.granted
    none_granted = λ i. (own_loop p here (record l { assigns = e i }) c.world).granted

    none_lets : (x : ℕ) → lets_at_head p inside.granted ss x (own_regions l.assigns inside.granted) ≡ lets_local l ss x
    none_lets x = (λ i. lets_at_head p inside.granted ss x (own_regions (e i) inside.granted)) ∙ sym (λ i. lets_local (record l { assigns = e i }) ss x)

    -- the set of a loop around
    module _ (sp : Standpoint) (rs : List acsl.Tree) (d : ℕ) (f : pt.force ≡ of_loop sp rs d) where
      abbrev around_point : Standpoint
      around_point = three_later p s cells texts sp

      around_granted : OfLoop m p s cells texts contract here olds sp rs d
      around_granted = subst (GrantedBy m p s cells texts contract here olds pt.stands.entry) f site.placed.carried.granted

      loop_later : (x y z : State) (o : Option ℕ) (q : labelled.State) → SeenAtLoop m p s cells texts sp sts o q
          → SeenAtLoop m p s cells texts around_point (x ∷ y ∷ z ∷ sts) (option_map suc (option_map suc (option_map suc o))) q
      loop_later x y z (Some l) q h = h
      loop_later x y z None q h = h

      around_stands : (x y z : State) (a : acsl.Tree) → Stands m (body_reading p s cells texts around_point a) (leaves_of (x ∷ y ∷ z ∷ sts)) around_granted.world
      around_stands x y z a =
          let h = around_granted.seen st in
          (annotations_read m p s cells texts site.setting (x ∷ y ∷ z ∷ sts) around_granted.world a).body around_point
          (record { file = h.file; here_is = h.here_is; pre_is = h.pre_is; post_is = h.post_is; loop_is = loop_later x y z sp.loop_entry around_granted.world.loop_entry h.loop_is })

      around_fits : AllOf (SetRegion m p s cells sp.in_scope (body_reading p s cells texts around_point)) rs
      around_fits = subst (ForceFits m p s cells texts contract pt) f site.fits.force around_point.here around_point.entry around_point.loop_entry (levels_same sp.loop_entry)

      around_is : in_force contract pt l ≡ by_loop sp rs
      around_is = λ i. in_force contract (record pt { force = f i }) (record l { assigns = e i })

      abbrev around_values : List Value
      around_values = regions_of p around_granted.world rs

      abbrev around_set : Granted
      around_set = set_of around_values around_granted.blocks d

      around_count : (k : CellKind) → cells.has_kind k ≡ true → around_granted.blocks ≡ count (state_of sts sp.here).table
      around_count k h = around_granted.since (has_blocks m p s cells texts contract here pt olds fr os l ss c st site k h) st

      around_lacks : (k : CellKind) → cells.has_kind k ≡ true → own_kind s.variables k ≡ false → LacksSince k (state_of sts sp.here).table fr.table
      around_lacks k has own = (subst (SinceForce k sts fr.table) f (site.placed.since_force k has own st)).1

      abbrev around_taken : Sets
      around_taken = taken m p s cells sts sp.in_scope (body_reading p s cells texts around_point) (body_plain p s cells texts around_point) around_granted.world around_stands rs around_fits sp.here d

      turning_around : Turning
      turning_around = record {
        firsts = around_set ∷ [];
        behaviors = [];
        blocks = count (state_of sts pt.stands.entry).table;
        granted = none_granted ∙ around_granted.granted;
        counted = λ has. refl;
        fit = tt;
        stays = λ i. stay_trees p s cells texts contract (record pt { force = f i }) (record l { assigns = e i }) ss;
        set = around_taken;
        leave = λ z. leave_by (by_loop sp rs) around_is around_taken z
            (taken_leave m p s cells sts sp.in_scope (body_reading p s cells texts around_point) (body_plain p s cells texts around_point) around_granted.world around_stands rs
            around_fits sp.here d z);
        cells_are = λ k has on b o.
            lets_same around_values around_granted.blocks (count (state_of sts sp.here).table) d k b o (around_count k has)
            ∙ sym (taken_lies m p s cells sts sp.in_scope (body_reading p s cells texts around_point) (body_plain p s cells texts around_point) around_granted.world around_stands rs
            around_fits sp.here d k b o);
        kept = λ k has off b o is.
            let parts = or_parts (some_has k (set_regions p s cells texts pt (by_loop sp rs))) (own_kind s.variables k) (sym (ap (λ w. renewed_kind p s cells texts pt w k) around_is) ∙ off) in
            lets_same around_values around_granted.blocks (count (state_of sts sp.here).table) d k b o (around_count k has)
            ∙ taken_stays m p s cells sts sp.in_scope (body_reading p s cells texts around_point) (body_plain p s cells texts around_point) around_granted.world around_stands rs
            around_fits sp.here d k
            parts.0 b o (not_newer k (state_of sts sp.here).table fr.table c.world.memory.blocks (around_lacks k has parts.1) site.stands.blocks_are (pos b) o is);
        globals_are = λ x v q plain k.
            named_lets around_values around_granted.blocks d rs x v q plain
            (taken_names m p s cells sts sp.in_scope (body_reading p s cells texts around_point) (body_plain p s cells texts around_point) around_granted.world around_stands rs around_fits sp.here d
            (variables.Global x) (ap is_plain_in q ∙ plain)) k
            ∙ ap (λ w. variable_changes w l ss (variables.Global x)) (sym around_is);
        lets = λ x v q plain. none_lets x;
      }

    -- the function's clauses
    module _ (f : pt.force ≡ of_function) where
      abbrev entry_point : Standpoint
      entry_point = three_later p s cells texts pt.stands

      function_granted : OfFunction m p s cells texts contract here olds pt.stands.entry
      function_granted = subst (GrantedBy m p s cells texts contract here olds pt.stands.entry) f site.placed.carried.granted

      function_fits : ForceFits m p s cells texts contract pt of_function
      function_fits = subst (ForceFits m p s cells texts contract pt) f site.fits.force

      abbrev first_of : Option (List acsl.Tree) → List Granted
      first_of o = granted_by p at_entry function_granted.blocks 0 o

      parts_granted : inside.granted ≡ first_of contract.plain.assigns ++ granted_in p at_entry function_granted.blocks contract.behaviors
      parts_granted = none_granted ∙ function_granted.granted
          ∙ ap (λ (as_ : List acsl.Tree). (if list_all (holds p at_entry) as_ then first_of contract.plain.assigns else []) ++ granted_in p at_entry function_granted.blocks contract.behaviors)
          function_fits.0

      function_stays : stay_trees p s cells texts contract pt l ss
          ≡ all_stay p s cells texts (entry_at p s cells texts (later pt.stands)) (assumed_at p s cells texts (later pt.stands)) (since (later pt.stands).entry) havoc contract.behaviors
      function_stays =
          (λ i. stay_trees p s cells texts contract (record pt { force = f i }) (record l { assigns = e i }) ss)
          ∙ sym (λ i. all_stay p s cells texts (entry_at p s cells texts (later pt.stands)) (assumed_at p s cells texts (later pt.stands)) (since (later pt.stands).entry)
          (turns p s cells texts contract (record pt { force = f i }) (record l { assigns = e i }) ss) contract.behaviors)

      abbrev plain_set : Option (List acsl.Tree) → Contract
      plain_set o = record contract { plain = record contract.plain { assigns = o } }

      -- one that doesn't say what may change
      module _ (g : contract.plain.assigns ≡ None) where
        all_is : in_force contract pt l ≡ anything
        all_is = λ i. in_force (plain_set (g i)) (record pt { force = f i }) (record l { assigns = e i })

        abbrev everything : Sets
        everything k = goal.new (pos 0) ∷ []

        turning_all : Turning
        turning_all = record {
          firsts = [];
          behaviors = contract.behaviors;
          blocks = function_granted.blocks;
          granted = parts_granted ∙ ap (λ o. first_of o ++ granted_in p at_entry function_granted.blocks contract.behaviors) g;
          counted = λ has. function_granted.since has st;
          fit = function_fits.1.1;
          stays = function_stays;
          set = everything;
          leave = λ z. subst (λ w. LeaveIs m (leave_of p s cells texts pt w) z sts everything) (sym all_is) (λ k b o. everywhere b);
          cells_are = λ k has on b o. sym (everywhere b);
          kept = λ k has off b o is. absurd (false≢true (sym off ∙ ap (λ w. renewed_kind p s cells texts pt w k) all_is));
          globals_are = λ x v q plain k. ap (λ w. variable_changes w l ss (variables.Global x)) (sym all_is);
          lets = λ x v q plain. none_lets x;
        }
          where
            everywhere : (b : ℕ) → (int_le (pos 0) (pos b) || false) ≡ true
            everywhere b = let z : 0 ≤ b = omega arith in ap (λ t. t || false) (le-leb 0 b z)

      module _ (rs : List acsl.Tree) (g : contract.plain.assigns ≡ Some rs) where
        entry_stands : (x y z : State) (a : acsl.Tree) → Stands m (entry_at p s cells texts entry_point a) (leaves_of (x ∷ y ∷ z ∷ sts)) at_entry
        entry_stands x y z a =
            let sees = site.placed.entry st in
            (annotations_read m p s cells texts site.setting (x ∷ y ∷ z ∷ sts) at_entry a).entry entry_point.entry pt.stands.is_param
            (record { file = record { model = refl; structs = λ n. refl }; here_is = sees; pre_is = sees; post_is = sees; loop_is = sees })

        entry_fits : AllOf (SetRegion m p s cells pt.stands.is_param (entry_at p s cells texts entry_point)) rs
        entry_fits = subst (λ o. SetRegions m p s cells pt.stands.is_param (entry_at p s cells texts entry_point) o) g (function_fits.1.0.regions entry_point.entry)

        clause_is : in_force contract pt l ≡ by_function rs
        clause_is = λ i. in_force (plain_set (g i)) (record pt { force = f i }) (record l { assigns = e i })

        abbrev clause_values : List Value
        clause_values = regions_of p at_entry rs

        clause_count : (k : CellKind) → cells.has_kind k ≡ true → function_granted.blocks ≡ count (state_of sts pt.stands.entry).table
        clause_count k h = function_granted.since (has_blocks m p s cells texts contract here pt olds fr os l ss c st site k h) st

        abbrev clause_taken : Sets
        clause_taken = taken m p s cells sts pt.stands.is_param (entry_at p s cells texts entry_point) (entry_plain p s cells texts entry_point.entry pt.stands.is_param) at_entry
            entry_stands rs entry_fits pt.stands.entry 0

        turning_clause : Turning
        turning_clause = record {
          firsts = set_of clause_values function_granted.blocks 0 ∷ [];
          behaviors = contract.behaviors;
          blocks = function_granted.blocks;
          granted = parts_granted ∙ ap (λ o. first_of o ++ granted_in p at_entry function_granted.blocks contract.behaviors) g;
          counted = λ has. function_granted.since has st;
          fit = function_fits.1.1;
          stays = function_stays;
          set = clause_taken;
          leave = λ z. leave_by (by_function rs) clause_is clause_taken z
              (taken_leave m p s cells sts pt.stands.is_param (entry_at p s cells texts entry_point) (entry_plain p s cells texts entry_point.entry pt.stands.is_param) at_entry
              entry_stands rs entry_fits
              pt.stands.entry 0 z);
          cells_are = λ k has on b o.
              lets_same clause_values function_granted.blocks (count (state_of sts pt.stands.entry).table) 0 k b o (clause_count k has)
              ∙ sym (taken_lies m p s cells sts pt.stands.is_param (entry_at p s cells texts entry_point) (entry_plain p s cells texts entry_point.entry pt.stands.is_param) at_entry entry_stands rs
              entry_fits pt.stands.entry 0 k b o);
          kept = λ k has off b o is.
              let parts = or_parts (some_has k (set_regions p s cells texts pt (by_function rs))) (own_kind s.variables k) (sym (ap (λ w. renewed_kind p s cells texts pt w k) clause_is) ∙ off) in
              lets_same clause_values function_granted.blocks (count (state_of sts pt.stands.entry).table) 0 k b o (clause_count k has)
              ∙ taken_stays m p s cells sts pt.stands.is_param (entry_at p s cells texts entry_point) (entry_plain p s cells texts entry_point.entry pt.stands.is_param) at_entry
              entry_stands rs entry_fits
              pt.stands.entry 0 k parts.0 b o
              (not_newer k (state_of sts pt.stands.entry).table fr.table c.world.memory.blocks (site.placed.since_entry k has parts.1 st) site.stands.blocks_are (pos b) o is);
          globals_are = λ x v q plain k.
              named_lets clause_values function_granted.blocks 0 rs x v q plain
              (taken_names m p s cells sts pt.stands.is_param (entry_at p s cells texts entry_point) (entry_plain p s cells texts entry_point.entry pt.stands.is_param) at_entry
              entry_stands rs entry_fits
              pt.stands.entry 0 (variables.Global x) (ap is_plain_in q ∙ plain)) k
              ∙ ap (λ w. variable_changes w l ss (variables.Global x)) (sym clause_is);
          lets = λ x v q plain. none_lets x;
        }

  pub turning : Turning
  turning = by_own_set l.assigns refl where
    by_plain : (e : l.assigns ≡ None) (f : pt.force ≡ of_function) (o : Option (List acsl.Tree)) → contract.plain.assigns ≡ o → Turning
    by_plain e f None g = turning_all e f g
    by_plain e f (Some rs) g = turning_clause e f rs g

    by_force : (e : l.assigns ≡ None) (w : Force) → pt.force ≡ w → Turning
    by_force e of_function f = by_plain e f contract.plain.assigns refl
    by_force e (of_loop sp rs d) f = turning_around e sp rs d f

    by_own_set : (o : Option (List acsl.Tree)) → l.assigns ≡ o → Turning
    by_own_set None e = by_force e pt.force refl
    by_own_set (Some rs) e = turning_own rs e
