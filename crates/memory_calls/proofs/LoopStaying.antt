-- What behaviors let stay at the head of a loop: all that they say is that what their sets don't let change is as it was.
use Rattle.std.proofs.Common.{◌≡◌, ℕ, ℤ, pos, negsuc, Bool, true, false, not, ◌&&◌, ◌||◌, if◌then◌else◌, List, [], ◌∷◌, ◌++◌, Option, Some, None, slice_get, refl, sym, ap, ◌∙◌}
use Rattle.std.specs.Prelude.{int_le}
use Rattle.std.proofs.lemmas.Bool.{false≢true, and_parts}
use Rattle.wp_base.specs.declared.kinds.CellKind.{CellKind}
use Rattle.wp_base.specs.declared.kinds.CellKind.TheVariants as cell
use Rattle.wp_base.specs.Blocks.{count, is_cell}
use Rattle.typed_prog.specs.declared.operators.Variable.TheVariants as variables
use Rattle.acsl_trees.specs.Tree as acsl
use Rattle.c_runs.specs.TruthStates as labelled
use Rattle.c_runs.specs.TruthStates.{is_negative}
use Rattle.c_runs.specs.TruthAllowed.{is_named, lies_in}
use Rattle.acsl_encode.specs.Readings as annotation
use Rattle.acsl_encode.specs.Meaning.{Stands}
use Rattle.qed_terms.specs.Meaning as sense
use Rattle.qed_terms.specs.Meaning.{truth}
use Rattle.qed_terms.specs.Tree.{Tree}
use Rattle.c_runs.specs.Program.{Variable, Behavior, Contract, Loop, Facts}
use Rattle.c_runs.specs.States.{Here, Granted, global_home}
use Rattle.c_runs.specs.Claims.{is_assumed, regions_of, may_change, lets_cell, granted_by, granted_in}
use Rattle.c_runs.specs.Objects.{is_plain_in}
use Rattle.c_runs.specs.CoreRun.{CoreWorld}
use Rattle.c_runs.specs.Tree.{Steps}
use Rattle.goal_segments.proofs.Told.{no_negative}
use Rattle.typed_memories.specs.Cells.{lies_inside}
use Rattle.typed_memories.specs.Changes.{Sets}
use Rattle.memory_steps.specs.State.{State}
use Rattle.memory_words.specs.Leaves.{leaves_of}
use Rattle.memory_words.specs.Shapes.{FileCells, Shape}
use Rattle.memory_words.specs.Readings.{Texts, entry_reading}
use Rattle.memory_words.specs.Standing.{Frame}
use Rattle.memory_words.specs.Seen.{ClaimFits, state_of}
use Rattle.memory_words.proofs.Worlds.{annotations_read}
use Rattle.memory_words.specs.Points.{Point, later}
use Rattle.memory_words.specs.Regions.{of_kind, regions_in}
use Rattle.memory_words.specs.Sets.{has_variable, lacks, since, entry_at, assumed_at}
use Rattle.memory_words.specs.Typed.{AllOf}
use Rattle.memory_words.specs.Placed.{Openings}
use Rattle.memory_statements.specs.Renewed.{regions_at}
use Rattle.memory_statements.specs.Regions.{set_of}
use Rattle.memory_calls.specs.HavocLaws.{BehaviorFits, StaysBy, BehaviorStays}
use Rattle.memory_calls.proofs.Homes.{cell_of_plain}
use Rattle.memory_calls.specs.LoopFits.{SetRegion, SetRegions, ClauseFits}
use Rattle.memory_calls.proofs.Regions.{entry_plain, regions_closed, global_hidden, names_so}
use Rattle.memory_calls.proofs.Clauses.{since_is, clause_lies}
use Rattle.memory_calls.proofs.Formulas.{assumed_closed, assumed_is}
use Rattle.memory_calls.proofs.LoopInside.{at_level}
use Rattle.memory_calls.proofs.Sites.{Site}
use Rattle.memory_calls.proofs.Turning.{at_entry, havoc, and_so}
use Rattle.memory_calls.proofs.Passing.{has_blocks}

pub may_both : (xs ys : List Granted) (k : CellKind) (b o : ℤ) → may_change (xs ++ ys) k b o ≡ (may_change xs k b o && may_change ys k b o)
may_both [] ys k b o = refl
may_both (x ∷ xs) ys k b o = ap (λ t. lets_cell k b o x && t) (may_both xs ys k b o) ∙ by (lets_cell k b o x) where
  by : (a : Bool) → (a && (may_change xs k b o && may_change ys k b o)) ≡ ((a && may_change xs k b o) && may_change ys k b o)
  by true = refl
  by false = refl

pub first_false : (a b : Bool) → a ≡ false → (a && b) ≡ false
first_false a b h = ap (λ a. a && b) h

pub second_false : (a b : Bool) → b ≡ false → (a && b) ≡ false
second_false true b h = h
second_false false b h = refl

pub one_false : {P : Type 0} (a b : Bool) → (a && b) ≡ false → (a ≡ false → P) → (b ≡ false → P) → P
one_false true b h f g = g h
one_false false b h f g = f refl

module _ (m : sense.World) (p : Facts) (s : Shape) (cells : FileCells) (texts : Texts) (contract : Contract) (here : Here) (pt : Point) (olds : List State) (fr : Frame)
    (os : Openings) (l : Loop) (ss : Steps) (c : CoreWorld) (st : State) (site : Site m p s cells texts contract here pt olds fr os l ss c st)
    (new : State) (blocks : ℤ) (counted : cells.has_blocks ≡ true → blocks ≡ count (state_of (st ∷ olds) pt.stands.entry).table) where
  abbrev sts : List State
  sts = new ∷ st ∷ olds

  abbrev entry : labelled.World
  entry = at_entry m p s cells texts contract here pt olds fr os l ss c st site

  abbrev r : acsl.Tree → annotation.Reading
  r = entry_at p s cells texts (later pt.stands)

  abbrev pub assumed : Behavior → Tree
  assumed = assumed_at p s cells texts (later pt.stands)

  abbrev pub then_since : Tree
  then_since = since (later pt.stands).entry

  read : (a : acsl.Tree) → Stands m (r a) (leaves_of sts) entry
  read a =
      let sees = site.placed.entry st in
      (annotations_read m p s cells texts site.setting sts entry a).entry (later pt.stands).entry pt.stands.is_param
      (record { file = record { model = refl; structs = λ n. refl }; here_is = sees; pre_is = sees; post_is = sees; loop_is = sees })

  -- the cells of a clause
  abbrev pub set_of_it : Option (List acsl.Tree) → Sets
  set_of_it None k = []
  set_of_it (Some ws) k = regions_at m (leaves_of sts) (then_since ∷ []) (of_kind k (regions_in r ws))

  abbrev pub set_by : Behavior → Sets
  set_by b = set_of_it b.assigns

  abbrev Param : acsl.Tree → Type 0
  Param a = SetRegion m p s cells pt.stands.is_param r a

  abbrev granted_of : Behavior → Option (List acsl.Tree) → List Granted
  granted_of b o = if is_assumed p entry b then granted_by p entry blocks 0 o else []

  module _ (b : Behavior) (fit : ClauseFits m p s cells texts pt.stands.is_param b) where
    abbrev with_set : Option (List acsl.Tree) → Behavior
    with_set o = record b { assigns = o }

    assumes_fit : AllOf (ClaimFits m p r) b.assumes
    assumes_fit = at_level (λ level a. ClaimFits m p (entry_reading p s cells texts level pt.stands.is_param) a) b.assumes fit.assumes (later pt.stands).entry

    one_fits : (o : Option (List acsl.Tree)) → SetRegions m p s cells pt.stands.is_param r o → BehaviorFits m sts assumed set_by r then_since (with_set o)
    one_fits None h = tt
    one_fits (Some ws) h = (
      assumed_closed m sts p r entry read b.assumes assumes_fit,
      record {
        closed_since = refl;
        closed_regions = regions_closed m p s cells pt.stands.is_param r (entry_plain p s cells texts (later pt.stands).entry pt.stands.is_param) sts entry read ws h;
        inside = λ k i o. refl;
      },
    )

    -- the clause lets a cell change that lies in its set
    clause_cell : (ws : List acsl.Tree) → AllOf Param ws → (k : CellKind) → cells.has_kind k ≡ true → (i : ℕ) (o : ℤ)
        → lies_inside (set_of_it (Some ws) k) (pos i) o ≡ lets_cell k (pos i) o (set_of (regions_of p entry ws) blocks 0)
    clause_cell ws h k has i o =
        clause_lies m p s cells pt.stands.is_param r (entry_plain p s cells texts (later pt.stands).entry pt.stands.is_param) sts entry read ws h then_since
        (count (state_of (st ∷ olds) pt.stands.entry).table) (since_is m sts (later pt.stands).entry) 0 k i o
        ∙ ap (λ n. lets_cell k (pos i) o (set_of (regions_of p entry ws) n 0))
        (sym (counted (has_blocks m p s cells texts contract here pt olds fr os l ss c st site k has)))

    clause_name : (ws : List acsl.Tree) → AllOf Param ws → (x : ℕ) (v : Variable) → slice_get p.globals x ≡ Some v → v.is_plain ≡ true → (k : CellKind)
        → lets_cell k (global_home p x) (pos 0) (set_of (regions_of p entry ws) blocks 0) ≡ not (lacks (Some ws) (variables.Global x))
    clause_name ws h x v e plain k =
        let home = cell_of_plain p x v e plain in
        ap (λ t. if t then is_named (regions_of p entry ws) (global_home p x)
        else int_le blocks (global_home p x) || lies_in (regions_of p entry ws) k (global_home p x) (pos 0)) (ap is_negative home.1)
        ∙ ap (is_named (regions_of p entry ws)) (sym (global_hidden p s cells x (ap is_plain_in e ∙ plain)))
        ∙ names_so m p s cells pt.stands.is_param r (entry_plain p s cells texts (later pt.stands).entry pt.stands.is_param) sts entry read (variables.Global x) (ap is_plain_in e ∙ plain) ws h
        ∙ twice (has_variable ws (variables.Global x)) where
          twice : (b : Bool) → b ≡ not (not b)
          twice true = refl
          twice false = refl

    assumed_so : truth m (leaves_of sts) (assumed b) ≡ is_assumed p entry b
    assumed_so = assumed_is m sts p r entry read b.assumes assumes_fit

    module _ (d : CoreWorld) where
      abbrev SameCell : ℕ → ℤ → Type 0
      SameCell i o = d.world.memory.cells (pos i) o ≡ c.world.memory.cells (pos i) o

      abbrev SameGlobal : ℕ → Type 0
      SameGlobal x = d.world.memory.cells (global_home p x) (pos 0) ≡ c.world.memory.cells (global_home p x) (pos 0)

      abbrev Stays : Option (List acsl.Tree) → Type 0
      Stays o = BehaviorStays m sts assumed set_by p cells (havoc m p s cells texts contract here pt olds fr os l ss c st site) c.world.memory d.world.memory (with_set o)

      one_back : (o : Option (List acsl.Tree)) → SetRegions m p s cells pt.stands.is_param r o → Stays o → (a : Bool) → is_assumed p entry b ≡ a
          → ((k : CellKind) → cells.has_kind k ≡ true → (havoc m p s cells texts contract here pt olds fr os l ss c st site).kinds k ≡ true → (i : ℕ) (z : ℤ)
          → is_cell k c.world.memory.blocks (pos i) z ≡ true → may_change (if a then granted_by p entry blocks 0 o else []) k (pos i) z ≡ false → SameCell i z)
          × ((x : ℕ) (v : Variable) → slice_get p.globals x ≡ Some v → v.is_plain ≡ true
          → (havoc m p s cells texts contract here pt olds fr os l ss c st site).variables (variables.Global x) ≡ true
          → may_change (if a then granted_by p entry blocks 0 o else []) cell.Ptr (global_home p x) (pos 0) ≡ false → SameGlobal x)
      one_back o h stays false e = (λ k has on i z is off. absurd (false≢true (sym off)), λ x v q plain on off. absurd (false≢true (sym off)))
      one_back None h stays true e = (λ k has on i z is off. absurd (false≢true (sym off)), λ x v q plain on off. absurd (false≢true (sym off)))
      one_back (Some ws) h stays true e =
          let by = stays (assumed_so ∙ e) in (
            λ k has on i z is off. by.cells k (pos i) z (λ j. has j && on j) is (clause_cell ws h k has i z ∙ sym (and_so _) ∙ off),
            λ x v q plain on off. by.globals x v q plain on (lacking (lacks (Some ws) (variables.Global x)) (sym (clause_name ws h x v q plain cell.Ptr) ∙ sym (and_so _) ∙ off)),
          )
        where
          lacking : (b : Bool) → not b ≡ false → b ≡ true
          lacking true h = refl
          lacking false h = absurd (false≢true (sym h))

      some_forth : (ws : List acsl.Tree) → AllOf Param ws
          → ((k : CellKind) → cells.has_kind k ≡ true → (i : ℕ) (z : ℤ) → is_cell k c.world.memory.blocks (pos i) z ≡ true → may_change (granted_of b (Some ws)) k (pos i) z ≡ false → SameCell i z)
          → ((x : ℕ) (v : Variable) → slice_get p.globals x ≡ Some v → v.is_plain ≡ true → may_change (granted_of b (Some ws)) cell.Ptr (global_home p x) (pos 0) ≡ false → SameGlobal x)
          → truth m (leaves_of sts) (assumed b) ≡ true
          → StaysBy p cells (havoc m p s cells texts contract here pt olds fr os l ss c st site) ws (set_of_it (Some ws)) c.world.memory d.world.memory
      some_forth ws h cell_same global_same told = record {
        cells = λ k b z both is lies. by k b z (and_parts (cells.has_kind k) (h_kinds k) both).0 is lies;
        globals = λ x v q plain on off. global_same x v q plain
            (ap (λ a. may_change (if a then set_of (regions_of p entry ws) blocks 0 ∷ [] else []) cell.Ptr (global_home p x) (pos 0)) so
            ∙ and_so _ ∙ clause_name ws h x v q plain cell.Ptr ∙ ap not off);
      }
        where
          h_kinds : CellKind → Bool
          h_kinds k = (havoc m p s cells texts contract here pt olds fr os l ss c st site).kinds k

          so : is_assumed p entry b ≡ true
          so = sym assumed_so ∙ told

          by : (k : CellKind) (b' z : ℤ) → cells.has_kind k ≡ true → is_cell k c.world.memory.blocks b' z ≡ true → lies_inside (set_of_it (Some ws) k) b' z ≡ false
              → d.world.memory.cells b' z ≡ c.world.memory.cells b' z
          by k (pos i) z has is lies = cell_same k has i z is
              (ap (λ a. may_change (if a then set_of (regions_of p entry ws) blocks 0 ∷ [] else []) k (pos i) z) so
              ∙ and_so _ ∙ sym (clause_cell ws h k has i z) ∙ lies)
          by k (negsuc n) z has is lies = absurd (no_negative k c.world.memory.blocks n z is)

      one_forth : (o : Option (List acsl.Tree)) → SetRegions m p s cells pt.stands.is_param r o
          → ((k : CellKind) → cells.has_kind k ≡ true → (i : ℕ) (z : ℤ) → is_cell k c.world.memory.blocks (pos i) z ≡ true → may_change (granted_of b o) k (pos i) z ≡ false → SameCell i z)
          → ((x : ℕ) (v : Variable) → slice_get p.globals x ≡ Some v → v.is_plain ≡ true → may_change (granted_of b o) cell.Ptr (global_home p x) (pos 0) ≡ false → SameGlobal x) → Stays o
      one_forth None h cell_same global_same = tt
      one_forth (Some ws) h cell_same global_same = some_forth ws h cell_same global_same

  -- ---- all of them

  module _ (d : CoreWorld) where
    abbrev pub AllStay : List Behavior → Type 0
    AllStay bs = AllOf (BehaviorStays m sts assumed set_by p cells (havoc m p s cells texts contract here pt olds fr os l ss c st site) c.world.memory d.world.memory) bs

    -- cells that these let not change are the same, and so are variables of the file
    abbrev pub CellsStay : (renewed : CellKind → Bool) → List Behavior → Type 0
    CellsStay f bs = (k : CellKind) → cells.has_kind k ≡ true → f k ≡ true → (i : ℕ) (z : ℤ) → is_cell k c.world.memory.blocks (pos i) z ≡ true
        → may_change (granted_in p entry blocks bs) k (pos i) z ≡ false → d.world.memory.cells (pos i) z ≡ c.world.memory.cells (pos i) z

    abbrev pub GlobalsStay : (changed : ℕ → Bool) → List Behavior → Type 0
    GlobalsStay f bs = (x : ℕ) (v : Variable) → slice_get p.globals x ≡ Some v → v.is_plain ≡ true → f x ≡ true
        → may_change (granted_in p entry blocks bs) cell.Ptr (global_home p x) (pos 0) ≡ false → d.world.memory.cells (global_home p x) (pos 0) ≡ c.world.memory.cells (global_home p x) (pos 0)

    pub all_fit : (bs : List Behavior) → AllOf (ClauseFits m p s cells texts pt.stands.is_param) bs → AllOf (BehaviorFits m sts assumed set_by r then_since) bs
    all_fit [] fits = tt
    all_fit (b ∷ bs) fits = (one_fits b fits.0 b.assigns (fits.0.regions (later pt.stands).entry), all_fit bs fits.1)

    pub all_forth : (bs : List Behavior) → AllOf (ClauseFits m p s cells texts pt.stands.is_param) bs → CellsStay (λ k. true) bs → GlobalsStay (λ x. true) bs → AllStay bs
    all_forth [] fits cell_same global_same = tt
    all_forth (b ∷ bs) fits cell_same global_same = (
      one_forth b fits.0 d b.assigns (fits.0.regions (later pt.stands).entry)
          (λ k has i z is off. cell_same k has refl i z is (may_both (granted_of b b.assigns) (granted_in p entry blocks bs) k (pos i) z
          ∙ first_false (may_change (granted_of b b.assigns) k (pos i) z) (may_change (granted_in p entry blocks bs) k (pos i) z) off))
          (λ x v q plain off. global_same x v q plain refl (may_both (granted_of b b.assigns) (granted_in p entry blocks bs) cell.Ptr (global_home p x) (pos 0)
          ∙ first_false (may_change (granted_of b b.assigns) cell.Ptr (global_home p x) (pos 0)) (may_change (granted_in p entry blocks bs) cell.Ptr (global_home p x) (pos 0)) off)),
      all_forth bs fits.1
          (λ k has on i z is off. cell_same k has refl i z is (may_both (granted_of b b.assigns) (granted_in p entry blocks bs) k (pos i) z
          ∙ second_false (may_change (granted_of b b.assigns) k (pos i) z) (may_change (granted_in p entry blocks bs) k (pos i) z) off))
          (λ x v q plain on off. global_same x v q plain refl (may_both (granted_of b b.assigns) (granted_in p entry blocks bs) cell.Ptr (global_home p x) (pos 0)
          ∙ second_false (may_change (granted_of b b.assigns) cell.Ptr (global_home p x) (pos 0)) (may_change (granted_in p entry blocks bs) cell.Ptr (global_home p x) (pos 0)) off)),
    )

    pub all_back : (bs : List Behavior) → AllOf (ClauseFits m p s cells texts pt.stands.is_param) bs → AllStay bs
        → CellsStay (havoc m p s cells texts contract here pt olds fr os l ss c st site).kinds bs
        × GlobalsStay (λ x. (havoc m p s cells texts contract here pt olds fr os l ss c st site).variables (variables.Global x)) bs
    all_back [] fits stay = (λ k has on i z is off. absurd (false≢true (sym off)), λ x v q plain on off. absurd (false≢true (sym off)))
    all_back (b ∷ bs) fits stay =
        let first = one_back b fits.0 d b.assigns (fits.0.regions (later pt.stands).entry) stay.0 (is_assumed p entry b) refl in
        let more = all_back bs fits.1 stay.1 in (
          λ k has on i z is off. one_false (may_change (granted_of b b.assigns) k (pos i) z) (may_change (granted_in p entry blocks bs) k (pos i) z)
              (sym (may_both (granted_of b b.assigns) (granted_in p entry blocks bs) k (pos i) z) ∙ off) (λ h. first.0 k has on i z is h) (λ h. more.0 k has on i z is h),
          λ x v q plain on off. one_false (may_change (granted_of b b.assigns) cell.Ptr (global_home p x) (pos 0)) (may_change (granted_in p entry blocks bs) cell.Ptr (global_home p x) (pos 0))
              (sym (may_both (granted_of b b.assigns) (granted_in p entry blocks bs) cell.Ptr (global_home p x) (pos 0)) ∙ off)
              (λ h. first.1 x v q plain on h) (λ h. more.1 x v q plain on h),
        )
