-- What the clauses of a function that is called let change: by the clause outside behaviors, as havoc changes it, and by behaviors, as they let it stay.
use Rattle.std.proofs.Common.{◌≡◌, ℕ, zero, suc, ℤ, pos, negsuc, Bool, true, false, not, ◌&&◌, ◌||◌, if◌then◌else◌, List, [], ◌∷◌, Option, Some, None, slice_get, refl, sym, ap, ◌∙◌, ◌≤◌, arith}
use Rattle.std.specs.Prelude.{int_le}
use Rattle.std.specs.List.{list_all}
use Rattle.std.proofs.lemmas.Bool.{false≢true, and_parts, le-leb}
use Rattle.wp_base.specs.declared.kinds.CellKind.{CellKind}
use Rattle.wp_base.specs.Blocks.{Table, count, is_cell}
use Rattle.typed_prog.specs.declared.operators.Variable.TheVariants as variables
use Rattle.typed_prog.specs.Tree as t
use Rattle.acsl_trees.specs.Tree as acsl
use Rattle.c_runs.specs.TruthStates as labelled
use Rattle.c_runs.specs.TruthStates.{Value, is_negative}
use Rattle.c_runs.specs.TruthAllowed.{is_named, lies_in, Allows}
use Rattle.acsl_encode.specs.Readings as annotation
use Rattle.acsl_encode.specs.Meaning.{Stands}
use Rattle.qed_terms.specs.Memory as goal
use Rattle.qed_terms.specs.Meaning as sense
use Rattle.qed_terms.specs.Meaning.{truth}
use Rattle.qed_terms.specs.Tree.{Tree}
use Rattle.c_runs.specs.Program.{Variable, Behavior, Function, Facts}
use Rattle.c_runs.specs.Objects.{is_plain_in}
use Rattle.c_runs.specs.States.{Memory, global_home, home_from, params_from, seen_by_contract}
use Rattle.c_runs.specs.Allowed.{SetAllows, AllAllow}
use Rattle.c_runs.specs.Claims.{holds, is_assumed, at_entry, regions_of, lets_cell}
use Rattle.c_runs.specs.Tree.{Steps}
use Rattle.goal_segments.proofs.Told.{no_negative}
use Rattle.typed_memories.specs.Cells.{lies_inside}
use Rattle.typed_memories.proofs.Tests.{on_test}
use Rattle.typed_memories.specs.Changes.{Sets}
use Rattle.typed_memories.proofs.Tables.{cell_below, test_lt, not_le_test}
use Rattle.memory_steps.specs.State.{State, state}
use Rattle.memory_words.specs.Leaves.{leaves_of}
use Rattle.walk_steps.specs.State.{at_or}
use Rattle.memory_words.specs.Shapes.{FileCells, Shape}
use Rattle.memory_words.specs.Readings.{Texts}
use Rattle.memory_words.specs.Seen.{InSetting, ClaimFits}
use Rattle.memory_words.proofs.Contents.{hidden_negative, open_address, hidden_cell}
use Rattle.memory_words.specs.Regions.{of_kind, regions_in}
use Rattle.memory_words.specs.Sets.{has_variable, lacks, since}
use Rattle.memory_words.specs.Typed.{AllOf}
use Rattle.memory_statements.specs.Renewed.{regions_at, LeaveIs}
use Rattle.memory_statements.specs.Regions.{set_of}
use Rattle.memory_calls.specs.Havoc.{Havoc}
use Rattle.memory_calls.specs.HavocLaws.{BehaviorFits, StaysBy, BehaviorStays}
use Rattle.memory_calls.specs.LoopSets.{some_has}
use Rattle.memory_calls.specs.LoopFits.{SetRegion, SetRegions}
use Rattle.memory_calls.proofs.Regions.{regions_closed, global_hidden, names_so}
use Rattle.memory_calls.proofs.Clauses.{since_is, clause_lies}
use Rattle.memory_calls.proofs.Formulas.{assumed_closed, assumed_is}
use Rattle.memory_calls.proofs.LoopInside.{at_level}
use Rattle.memory_calls.proofs.Taken.{taken, taken_leave, taken_lies, taken_stays}
use Rattle.memory_calls.specs.Callee.{entered_at}
use Rattle.memory_calls.specs.CallSets.{callee_assumes, callee_regions, havoc_by}
use Rattle.memory_calls.specs.CallFits.{no_local, CalleeBehaviorFits, CalleeFits}
use Rattle.memory_calls.proofs.CallInside.{callee_plain}

-- what isn't there has no address of its own
no_home : (n k : ℕ) (vs : List Variable) (x : ℕ) → slice_get vs x ≡ None → is_negative (home_from n k vs x) ≡ false
no_home n k [] x e = refl
no_home n k (v ∷ vs) zero e = absurd (some_none e) where
  some_none : {X : Type 0} {x : X} → Some x ≡ None → ⊥
  some_none e = cc
no_home n k (v ∷ vs) (suc x) e = by v.is_plain (no_home n (suc k) vs x e) (no_home (suc n) k vs x e) where
  by : (b : Bool) → is_negative (home_from n (suc k) vs x) ≡ false → is_negative (home_from (suc n) k vs x) ≡ false
      → is_negative (if b then home_from n (suc k) vs x else home_from (suc n) k vs x) ≡ false
  by true one two = one
  by false one two = two

or_false : (a b : Bool) → (a || b) ≡ false → (a ≡ false) × (b ≡ false)
or_false true b h = absurd (false≢true (sym h))
or_false false b h = (refl, h)

either_false : (a b : Bool) → a ≡ false → b ≡ false → (a || b) ≡ false
either_false a b h k = λ i. h i || k i

not_false : (b : Bool) → not b ≡ false → b ≡ true
not_false true h = refl
not_false false h = absurd (false≢true (sym h))

not_true : (b : Bool) → not b ≡ true → b ≡ false
not_true true h = absurd (false≢true h)
not_true false h = refl

-- a block with a cell isn't newer than its table
pub not_newer : (k : CellKind) (t : Table) (b o : ℤ) → is_cell k t b o ≡ true → int_le (count t) b ≡ false
not_newer k t b o is = not_le_test (count t) b (test_lt b (count t) (cell_below k t b o is))

module _ (m : sense.World) (p : Facts) (s : Shape) (cells : FileCells) (setting : InSetting m p s cells) (texts : Texts) (g : Function Steps) (es : t.Values)
    (fits : CalleeFits m p s cells texts g es) (vs : List Value) (mem : Memory) (st : State) (olds : List State) (table_is : cells.has_blocks ≡ true → st.table ≡ mem.blocks)
    (stands_at : (sts : List State) (l : ℕ) → at_or (state [] []) sts l ≡ st → (a : acsl.Tree) → Stands m (entered_at p s cells texts g es l a) (leaves_of sts) (at_entry p vs mem)) where
  abbrev w : labelled.World
  w = at_entry p vs mem

  has_blocks : (k : CellKind) → cells.has_kind k ≡ true → cells.has_blocks ≡ true
  has_blocks k h = on_test cells.has_blocks (λ t. t) (λ t. absurd (false≢true (sym (setting.no_kinds t k) ∙ h)))

  counted : (k : CellKind) → cells.has_kind k ≡ true → count st.table ≡ count mem.blocks
  counted k h = ap count (table_is (has_blocks k h))

  abbrev Fits : ℕ → List acsl.Tree → Type 0
  Fits l ws = AllOf (SetRegion m p s cells no_local (entered_at p s cells texts g es l)) ws

  -- ---- names

  named_is : (l : ℕ) (sts : List State) → at_or (state [] []) sts l ≡ st → (ws : List acsl.Tree) → Fits l ws → (x : ℕ) (v : Variable) → slice_get p.globals x ≡ Some v → v.is_plain ≡ true
      → is_named (regions_of p w ws) (global_home p x) ≡ has_variable ws (variables.Global x)
  named_is l sts is ws ok x v e plain =
      let here = ap is_plain_in e ∙ plain in
      ap (is_named (regions_of p w ws)) (sym (global_hidden p s cells x here))
      ∙ names_so m p s cells no_local (entered_at p s cells texts g es l) (callee_plain p s cells texts g es l) sts w (stands_at sts l is) (variables.Global x) here ws ok

  -- ---- a world behind it

  module _ (u : Memory) where
    abbrev before : labelled.State
    before = seen_by_contract p vs mem

    abbrev behind : labelled.State
    behind = seen_by_contract p vs u

    abbrev SameCell : ℤ → ℤ → Type 0
    SameCell b o = u.cells b o ≡ mem.cells b o

    abbrev SameGlobal : ℕ → Type 0
    SameGlobal x = u.cells (global_home p x) (pos 0) ≡ mem.cells (global_home p x) (pos 0)

    -- by what a set allows
    global_kept : (ws : List acsl.Tree) → Allows (regions_of p w ws) before behind → (x : ℕ) (v : Variable) → slice_get p.globals x ≡ Some v → v.is_plain ≡ true
        → is_named (regions_of p w ws) (global_home p x) ≡ false → SameGlobal x
    global_kept ws allows x v e plain named =
        sym (hidden_cell p x v e plain (params_from 0 vs) u.cells) ∙ allows.globals x (hidden_negative p x v e plain) named ∙ hidden_cell p x v e plain (params_from 0 vs) mem.cells

    cell_kept : (ws : List acsl.Tree) → Allows (regions_of p w ws) before behind → (n : ℤ) (d : ℕ) (k : CellKind) (i : ℕ) (o : ℤ) → is_cell k mem.blocks (pos i) o ≡ true
        → lets_cell k (pos i) o (set_of (regions_of p w ws) n d) ≡ false → SameCell (pos i) o
    cell_kept ws allows n d k i o is off = allows.cells k (pos i) o is (or_false (int_le n (pos i)) (lies_in (regions_of p w ws) k (pos i) o) off).1

    -- and back
    allows_so : (ws : List acsl.Tree)
        → ((k : CellKind) (i : ℕ) (o : ℤ) → is_cell k mem.blocks (pos i) o ≡ true → lets_cell k (pos i) o (set_of (regions_of p w ws) (count mem.blocks) 0) ≡ false → SameCell (pos i) o)
        → ((x : ℕ) (v : Variable) → slice_get p.globals x ≡ Some v → v.is_plain ≡ true → is_named (regions_of p w ws) (global_home p x) ≡ false → SameGlobal x)
        → Allows (regions_of p w ws) before behind
    allows_so ws cell_same global_same = record { cells = by_cell; globals = by_global } where
      by_cell : (k : CellKind) (b o : ℤ) → is_cell k mem.blocks b o ≡ true → lies_in (regions_of p w ws) k b o ≡ false → behind.cells b o ≡ before.cells b o
      by_cell k (pos i) o is off = cell_same k i o is (either_false _ _ (not_newer k mem.blocks (pos i) o is) off)
      by_cell k (negsuc n) o is off = absurd (no_negative k mem.blocks n o is)

      by_global : (n : ℕ) → is_negative (global_home p n) ≡ true → is_named (regions_of p w ws) (global_home p n) ≡ false
          → behind.cells (global_home p n) (pos 0) ≡ before.cells (global_home p n) (pos 0)
      by_global n hidden named = found (slice_get p.globals n) refl where
        found : (o : Option Variable) → slice_get p.globals n ≡ o → behind.cells (global_home p n) (pos 0) ≡ before.cells (global_home p n) (pos 0)
        found None e = absurd (false≢true (sym (no_home 0 0 p.globals n e) ∙ hidden))
        found (Some v) e = on_test v.is_plain
            (λ plain. hidden_cell p n v e plain (params_from 0 vs) u.cells ∙ global_same n v e plain named ∙ sym (hidden_cell p n v e plain (params_from 0 vs) mem.cells))
            (λ other. absurd (false≢true (sym (open_address p n v e other) ∙ hidden)))

  -- ---- the clause outside behaviors

  abbrev pub havoc_of : Option (List acsl.Tree) → Havoc
  havoc_of o = havoc_by p s cells texts g es o

  -- the set of a clause, whose cells havoc changes
  pub record PlainSet (o : Option (List acsl.Tree)) : Type 0 where
    pub set : Sets
    pub leave : (z : State) → LeaveIs m (havoc_of o).leave z (st ∷ olds) set
    pub renewed : (u : Memory) → SetAllows p w o (seen_by_contract p vs mem) (seen_by_contract p vs u) → (k : CellKind) (b o' : ℤ) → cells.has_kind k && (havoc_of o).kinds k ≡ true
        → is_cell k mem.blocks b o' ≡ true → lies_inside (set k) b o' ≡ false → u.cells b o' ≡ mem.cells b o'
    pub kept : (u : Memory) → SetAllows p w o (seen_by_contract p vs mem) (seen_by_contract p vs u) → (k : CellKind) (b o' : ℤ) → cells.has_kind k ≡ true → (havoc_of o).kinds k ≡ false
        → is_cell k mem.blocks b o' ≡ true → u.cells b o' ≡ mem.cells b o'
    pub globals : (u : Memory) → SetAllows p w o (seen_by_contract p vs mem) (seen_by_contract p vs u) → (x : ℕ) (v : Variable) → slice_get p.globals x ≡ Some v → v.is_plain ≡ true
        → not (lacks o (variables.Global x)) ≡ false → u.cells (global_home p x) (pos 0) ≡ mem.cells (global_home p x) (pos 0)
    -- where all else stays
    pub allows : (u : Memory)
        → ((k : CellKind) (i : ℕ) (o' : ℤ) → is_cell k mem.blocks (pos i) o' ≡ true → (cells.has_kind k ≡ true → (havoc_of o).kinds k ≡ true → lies_inside (set k) (pos i) o' ≡ false)
        → u.cells (pos i) o' ≡ mem.cells (pos i) o')
        → ((x : ℕ) (v : Variable) → slice_get p.globals x ≡ Some v → v.is_plain ≡ true → not (lacks o (variables.Global x)) ≡ false
        → u.cells (global_home p x) (pos 0) ≡ mem.cells (global_home p x) (pos 0))
        → SetAllows p w o (seen_by_contract p vs mem) (seen_by_contract p vs u)

  abbrev everything : Sets
  everything k = goal.new (pos 0) ∷ []

  in_everything : (i : ℕ) (o : ℤ) (k : CellKind) → lies_inside (everything k) (pos i) o ≡ true
  in_everything i o k = let z : 0 ≤ i = omega arith in ap (λ t. t || false) (le-leb 0 i z)

  all_of_it : PlainSet None
  all_of_it = record {
    set = everything;
    leave = λ z k i o. in_everything i o k;
    renewed = renewed_all;
    kept = λ u allows k b o has off is. absurd (false≢true (sym off));
    globals = λ u allows x v e plain off. absurd (false≢true (sym off));
    allows = λ u cell_same global_same. tt;
  }
    where
      renewed_all : (u : Memory) → Unit {0} → (k : CellKind) (b o' : ℤ) → cells.has_kind k && true ≡ true → is_cell k mem.blocks b o' ≡ true → lies_inside (everything k) b o' ≡ false
          → u.cells b o' ≡ mem.cells b o'
      renewed_all u allows k (pos i) o' both is off = absurd (false≢true (sym off ∙ in_everything i o' k))
      renewed_all u allows k (negsuc n) o' both is off = absurd (no_negative k mem.blocks n o' is)

  module _ (ws : List acsl.Tree) (ok : (l : ℕ) → Fits l ws) where
    abbrev r : acsl.Tree → annotation.Reading
    r = entered_at p s cells texts g es 3

    stands_later : (x y z : State) (a : acsl.Tree) → Stands m (r a) (leaves_of (x ∷ y ∷ z ∷ st ∷ olds)) w
    stands_later x y z a = stands_at (x ∷ y ∷ z ∷ st ∷ olds) 3 refl a

    abbrev its_set : Sets
    its_set = taken m p s cells (st ∷ olds) no_local r (callee_plain p s cells texts g es 3) w stands_later ws (ok 3) 0 0

    set_is : (k : CellKind) → cells.has_kind k ≡ true → (i : ℕ) (o : ℤ) → lies_inside (its_set k) (pos i) o ≡ lets_cell k (pos i) o (set_of (regions_of p w ws) (count mem.blocks) 0)
    set_is k has i o =
        taken_lies m p s cells (st ∷ olds) no_local r (callee_plain p s cells texts g es 3) w stands_later ws (ok 3) 0 0 k i o
        ∙ ap (λ n. lets_cell k (pos i) o (set_of (regions_of p w ws) n 0)) (counted k has)

    set_stays : (k : CellKind) → cells.has_kind k ≡ true → some_has k (callee_regions p s cells texts g es 3 ws) ≡ false → (i : ℕ) (o : ℤ) → is_cell k mem.blocks (pos i) o ≡ true
        → lets_cell k (pos i) o (set_of (regions_of p w ws) (count mem.blocks) 0) ≡ false
    set_stays k has none i o is =
        sym (ap (λ n. lets_cell k (pos i) o (set_of (regions_of p w ws) n 0)) (counted k has))
        ∙ taken_stays m p s cells (st ∷ olds) no_local r (callee_plain p s cells texts g es 3) w stands_later ws (ok 3) 0 0 k none i o
        (ap (λ n. int_le n (pos i)) (counted k has) ∙ not_newer k mem.blocks (pos i) o is)

    name_is : (x : ℕ) (v : Variable) → slice_get p.globals x ≡ Some v → v.is_plain ≡ true → is_named (regions_of p w ws) (global_home p x) ≡ has_variable ws (variables.Global x)
    name_is = named_is 0 (st ∷ olds) refl ws (ok 0)

    twice : (b : Bool) → not (not b) ≡ b
    twice true = refl
    twice false = refl

    of_clause : PlainSet (Some ws)
    of_clause = record {
      set = its_set;
      leave = λ z. taken_leave m p s cells (st ∷ olds) no_local r (callee_plain p s cells texts g es 3) w stands_later ws (ok 3) 0 0 z;
      renewed = renewed_it;
      kept = kept_it;
      globals = λ u allows x v e plain off. global_kept u ws allows x v e plain (name_is x v e plain ∙ sym (twice (has_variable ws (variables.Global x))) ∙ off);
      allows = λ u cell_same global_same. allows_so u ws
          (λ k i o is off. cell_same k i o is (λ has on. set_is k has i o ∙ off))
          (λ x v e plain named. global_same x v e plain (twice (has_variable ws (variables.Global x)) ∙ sym (name_is x v e plain) ∙ named));
    }
      where
        renewed_it : (u : Memory) → Allows (regions_of p w ws) (seen_by_contract p vs mem) (seen_by_contract p vs u) → (k : CellKind) (b o' : ℤ)
            → cells.has_kind k && (havoc_of (Some ws)).kinds k ≡ true → is_cell k mem.blocks b o' ≡ true → lies_inside (its_set k) b o' ≡ false → u.cells b o' ≡ mem.cells b o'
        renewed_it u allows k (pos i) o' both is off =
            cell_kept u ws allows (count mem.blocks) 0 k i o' is (sym (set_is k (and_parts (cells.has_kind k) _ both).0 i o') ∙ off)
        renewed_it u allows k (negsuc n) o' both is off = absurd (no_negative k mem.blocks n o' is)

        kept_it : (u : Memory) → Allows (regions_of p w ws) (seen_by_contract p vs mem) (seen_by_contract p vs u) → (k : CellKind) (b o' : ℤ) → cells.has_kind k ≡ true
            → (havoc_of (Some ws)).kinds k ≡ false → is_cell k mem.blocks b o' ≡ true → u.cells b o' ≡ mem.cells b o'
        kept_it u allows k (pos i) o' has off is = cell_kept u ws allows (count mem.blocks) 0 k i o' is (set_stays k has off i o' is)
        kept_it u allows k (negsuc n) o' has off is = absurd (no_negative k mem.blocks n o' is)

  pub plain_set : PlainSet g.contract.plain.assigns
  plain_set = by g.contract.plain.assigns fits.plain.assigns where
    by : (o : Option (List acsl.Tree)) → ((l : ℕ) → SetRegions m p s cells no_local (entered_at p s cells texts g es l) o) → PlainSet o
    by None ok = all_of_it
    by (Some ws) ok = of_clause ws ok

  pub plain_assumed : is_assumed p w g.contract.plain ≡ true
  plain_assumed = ap (list_all (holds p w)) fits.assumes

  -- ---- behaviors, as they let it stay

  module _ (h : Havoc) (new : State) where
    abbrev sts : List State
    sts = new ∷ st ∷ olds

    abbrev r1 : acsl.Tree → annotation.Reading
    r1 = entered_at p s cells texts g es 1

    abbrev assumed : Behavior → Tree
    assumed = callee_assumes p s cells texts g es 1

    abbrev pub set_by_clause : Option (List acsl.Tree) → Sets
    set_by_clause None k = []
    set_by_clause (Some ws) k = regions_at m (leaves_of sts) (since 1 ∷ []) (of_kind k (regions_in r1 ws))

    abbrev pub set_by : Behavior → Sets
    set_by b = set_by_clause b.assigns

    cell_of_it : (ws : List acsl.Tree) → Fits 1 ws → (k : CellKind) → cells.has_kind k ≡ true → (i : ℕ) (o : ℤ)
        → lies_inside (set_by_clause (Some ws) k) (pos i) o ≡ lets_cell k (pos i) o (set_of (regions_of p w ws) (count mem.blocks) 0)
    cell_of_it ws ok k has i o =
        clause_lies m p s cells no_local r1 (callee_plain p s cells texts g es 1) sts w (stands_at sts 1 refl) ws ok (since 1) (count st.table) (since_is m sts 1) 0 k i o
        ∙ ap (λ n. lets_cell k (pos i) o (set_of (regions_of p w ws) n 0)) (counted k has)

    name_of_it : (ws : List acsl.Tree) → Fits 1 ws → (x : ℕ) (v : Variable) → slice_get p.globals x ≡ Some v → v.is_plain ≡ true
        → is_named (regions_of p w ws) (global_home p x) ≡ has_variable ws (variables.Global x)
    name_of_it ws ok x v e plain = named_is 1 sts refl ws ok x v e plain

    module _ (b : Behavior) (fit : CalleeBehaviorFits m p s cells texts g es b) where
      abbrev with_set : Option (List acsl.Tree) → Behavior
      with_set o = record b { assigns = o }

      assumes_fit : AllOf (ClaimFits m p r1) b.assumes
      assumes_fit = at_level (λ level a. ClaimFits m p (entered_at p s cells texts g es level) a) b.assumes fit.assumes 1

      one_fits : (o : Option (List acsl.Tree)) → SetRegions m p s cells no_local r1 o → BehaviorFits m sts assumed set_by r1 (since 1) (with_set o)
      one_fits None ok = tt
      one_fits (Some ws) ok = (
        assumed_closed m sts p r1 w (stands_at sts 1 refl) b.assumes assumes_fit,
        record {
          closed_since = refl;
          closed_regions = regions_closed m p s cells no_local r1 (callee_plain p s cells texts g es 1) sts w (stands_at sts 1 refl) ws ok;
          inside = λ k i o. refl;
        },
      )

      assumed_so : truth m (leaves_of sts) (assumed b) ≡ is_assumed p w b
      assumed_so = assumed_is m sts p r1 w (stands_at sts 1 refl) b.assumes assumes_fit

      module _ (u : Memory) where
        abbrev Stay : Option (List acsl.Tree) → Type 0
        Stay o = BehaviorStays m sts assumed set_by p cells h mem u (with_set o)

        abbrev May : Option (List acsl.Tree) → Type 0
        May o = (is_assumed p w b ≡ true) → SetAllows p w o (seen_by_contract p vs mem) (seen_by_contract p vs u)

        stay_forth : (o : Option (List acsl.Tree)) → SetRegions m p s cells no_local r1 o → May o → Stay o
        stay_forth None ok may = tt
        stay_forth (Some ws) ok may = λ told. by (may (sym assumed_so ∙ told)) where
          by : Allows (regions_of p w ws) (seen_by_contract p vs mem) (seen_by_contract p vs u) → StaysBy p cells h ws (set_by_clause (Some ws)) mem u
          by allows = record {
            cells = cell;
            globals = λ x v e plain on off. global_kept u ws allows x v e plain (name_of_it ws ok x v e plain ∙ not_true (has_variable ws (variables.Global x)) off);
          } where
            cell : (k : CellKind) (b' o' : ℤ) → cells.has_kind k && h.kinds k ≡ true → is_cell k mem.blocks b' o' ≡ true → lies_inside (set_by_clause (Some ws) k) b' o' ≡ false
                → u.cells b' o' ≡ mem.cells b' o'
            cell k (pos i) o' both is off =
                cell_kept u ws allows (count mem.blocks) 0 k i o' is (sym (cell_of_it ws ok k (and_parts (cells.has_kind k) (h.kinds k) both).0 i o') ∙ off)
            cell k (negsuc n) o' both is off = absurd (no_negative k mem.blocks n o' is)

        -- where all else stays
        stay_back : (o : Option (List acsl.Tree)) → SetRegions m p s cells no_local r1 o
            → ((k : CellKind) (i : ℕ) (o' : ℤ) → is_cell k mem.blocks (pos i) o' ≡ true → cells.has_kind k && h.kinds k ≡ false → u.cells (pos i) o' ≡ mem.cells (pos i) o')
            → ((x : ℕ) (v : Variable) → slice_get p.globals x ≡ Some v → v.is_plain ≡ true → h.variables (variables.Global x) ≡ false
            → u.cells (global_home p x) (pos 0) ≡ mem.cells (global_home p x) (pos 0))
            → Stay o → May o
        stay_back None ok cell_same global_same stay = λ is. tt
        stay_back (Some ws) ok cell_same global_same stay = λ is. by (stay (assumed_so ∙ is)) where
          by : StaysBy p cells h ws (set_by_clause (Some ws)) mem u → Allows (regions_of p w ws) (seen_by_contract p vs mem) (seen_by_contract p vs u)
          by so = allows_so u ws
              (λ k i o' is off. on_test (cells.has_kind k && h.kinds k)
              (λ both. so.cells k (pos i) o' both is (cell_of_it ws ok k (and_parts (cells.has_kind k) (h.kinds k) both).0 i o' ∙ off))
              (λ none. cell_same k i o' is none))
              (λ x v e plain named. on_test (h.variables (variables.Global x))
              (λ on. so.globals x v e plain on (ap not (sym (name_of_it ws ok x v e plain) ∙ named)))
              (λ none. global_same x v e plain none))

    -- ---- all of them

    pub all_fit : (bs : List Behavior) → AllOf (CalleeBehaviorFits m p s cells texts g es) bs → AllOf (BehaviorFits m sts assumed set_by r1 (since 1)) bs
    all_fit [] fit = tt
    all_fit (b ∷ bs) fit = (one_fits b fit.0 b.assigns (fit.0.assigns 1), all_fit bs fit.1)

    pub all_forth : (u : Memory) (bs : List Behavior) → AllOf (CalleeBehaviorFits m p s cells texts g es) bs → AllAllow p w bs (seen_by_contract p vs mem) (seen_by_contract p vs u)
        → AllOf (BehaviorStays m sts assumed set_by p cells h mem u) bs
    all_forth u [] fit may = tt
    all_forth u (b ∷ bs) fit may = (stay_forth b fit.0 u b.assigns (fit.0.assigns 1) may.0, all_forth u bs fit.1 may.1)

    pub all_back : (u : Memory) (bs : List Behavior) → AllOf (CalleeBehaviorFits m p s cells texts g es) bs
        → ((k : CellKind) (i : ℕ) (o' : ℤ) → is_cell k mem.blocks (pos i) o' ≡ true → cells.has_kind k && h.kinds k ≡ false → u.cells (pos i) o' ≡ mem.cells (pos i) o')
        → ((x : ℕ) (v : Variable) → slice_get p.globals x ≡ Some v → v.is_plain ≡ true → h.variables (variables.Global x) ≡ false
        → u.cells (global_home p x) (pos 0) ≡ mem.cells (global_home p x) (pos 0))
        → AllOf (BehaviorStays m sts assumed set_by p cells h mem u) bs → AllAllow p w bs (seen_by_contract p vs mem) (seen_by_contract p vs u)
    all_back u [] fit cell_same global_same stay = tt
    all_back u (b ∷ bs) fit cell_same global_same stay =
        (stay_back b fit.0 u b.assigns (fit.0.assigns 1) cell_same global_same stay.0, all_back u bs fit.1 cell_same global_same stay.1)
