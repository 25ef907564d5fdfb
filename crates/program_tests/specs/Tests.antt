-- Tests of a core program with checks and of its annotations, by which they are all that the laws on goals ask (C11 6.8.6.2, 6.2.1p4; ACSL 2.2 to 2.5).
-- Each is a Bool, told by the tree that is tested and by where it stands.
use Rattle.std.specs.Prelude.{ℕ, zero, suc, nat_lt, Bool, true, false, not, ◌&&◌, ◌||◌, List, [], ◌∷◌, Option, Some, None}
use Rattle.std.specs.List.{list_all}
use Rattle.typed_prog.specs.declared.types.CoreType.{CoreType}
use Rattle.typed_prog.specs.declared.operators.Variable as code
use Rattle.typed_prog.specs.Tree as t
use Rattle.acsl_trees.specs.Tree as acsl
use Rattle.acsl_trees.specs.declared.heads.Head.TheVariants as head
use Rattle.acsl_names.specs.declared.names.Definition.{Definition}
use Rattle.c_runs.specs.Program.{Variable, Claim, Measure, Behavior, Contract, Loop, Function, Facts}
use Rattle.c_runs.specs.Tree as core
use Rattle.c_runs.specs.Tree.{Goal, Steps}
use Rattle.goal_segments.specs.Told.{with_names}
use Rattle.acsl_well_typed.specs.WellTyped.{What, an_integer, a_region, Known, what_of}
use Rattle.acsl_well_typed.specs.Definitions.{known_with}
use Rattle.annotations_encoded.specs.Sights.{Sights}
use Rattle.annotations_encoded.specs.Serving.{serves}
use Rattle.memory_words.specs.Shapes.{FileCells}
use Rattle.memory_words.specs.Readings.{InScope, Texts}
use Rattle.memory_words.specs.Typed.{is_scalar}
use Rattle.memory_calls.specs.LoopSets.{lets_local}
use Rattle.memory_functions.specs.GoalFunctions.{none_in}
use Rattle.typed_annotations.specs.Sights.{may_name, of_file, params_of, body_sights, entry_sights, return_sights}
use Rattle.program_cells.specs.Programs.{is_plain_root}

-- ---- single annotations

abbrev pub is_integer : Option What → Bool
is_integer (Some an_integer) = true
is_integer _ = false

abbrev pub is_region : Option What → Bool
is_region (Some a_region) = true
is_region _ = false

-- the region of one variable, of those that may be named
abbrev pub names_one : (may : code.Variable → Bool) → acsl.Tree → Bool
names_one may (acsl.node (head.Region c) (acsl.more (acsl.node (head.Variable x) acsl.stop) acsl.stop)) = is_scalar c && may x
names_one may _ = false

module _ (k : Known) (g : Sights) where
  -- a truth or an integer, which is given what it needs
  abbrev pub tree_passes : acsl.Tree → Bool
  tree_passes a = is_integer (what_of k [] a) && serves k g a

  abbrev pub claim_passes : Claim → Bool
  claim_passes c = tree_passes c.what

  abbrev pub measure_passes : Option Measure → Bool
  measure_passes None = true
  measure_passes (Some v) = tree_passes v.what

  -- a region that has cells, in a file with blocks
  abbrev pub has_cells : acsl.Tree → Bool
  has_cells a = is_region (what_of k [] a) && (serves k g a && g.here.has_table)

  module _ (may : code.Variable → Bool) where
    abbrev pub region_passes : acsl.Tree → Bool
    region_passes a = names_one may a || has_cells a

    abbrev pub set_passes : Option (List acsl.Tree) → Bool
    set_passes None = true
    set_passes (Some as_) = list_all region_passes as_

    abbrev pub loop_passes : Loop → Bool
    loop_passes l = list_all claim_passes l.invariants && (measure_passes l.variant && set_passes l.assigns)

-- ---- contracts: nothing is assumed outside of behaviors, and sets name variables of the file alone

abbrev pub is_empty : {X : Type 0} → List X → Bool
is_empty [] = true
is_empty (x ∷ xs) = false

module _ (p : Facts) (k : Known) (entry back : Sights) where
  abbrev pub behavior_passes : Behavior → Bool
  behavior_passes b =
      list_all (tree_passes k entry) b.assumes
      && (list_all (claim_passes k entry) b.requires && (list_all (claim_passes k back) b.ensures && set_passes k entry (of_file p) b.assigns))

  abbrev pub contract_passes : Contract → Bool
  contract_passes c =
      is_empty c.plain.assumes && (behavior_passes c.plain && (list_all behavior_passes c.behaviors && measure_passes k entry c.decreases))

-- ---- statements

-- Where a statement stands: how many blocks are around it, the variables in scope, those in scope where the innermost loop is entered, and whether there
-- is one.
pub record Where : Type 0 where
  pub outs : ℕ
  pub in_scope : InScope
  pub loop_scope : InScope
  pub in_loop : Bool

abbrev pub in_block : Where → Where
in_block h = record { outs = suc h.outs; in_scope = h.in_scope; loop_scope = h.loop_scope; in_loop = h.in_loop }

abbrev pub in_names : List ℕ → Where → Where
in_names ys h = record { outs = h.outs; in_scope = with_names ys h.in_scope; loop_scope = h.loop_scope; in_loop = h.in_loop }

abbrev pub in_pass : Where → Where
in_pass h = record { outs = h.outs; in_scope = h.in_scope; loop_scope = h.in_scope; in_loop = true }

abbrev pub has_none : t.Values → Bool
has_none t.stop = true
has_none (t.more e es) = false

-- a result that goes to a variable which no pointer leads to has no operands on its way
abbrev pub has_no_way : Facts → List Variable → Goal → Bool
has_no_way p xs (core.place cs type l path es) = not (is_plain_root p xs path.root) || has_none es
has_no_way p xs to = true

-- of the first variables, those that a loop's turns may change are in scope
abbrev pub all_scoped : (first : ℕ) → (lets in_scope : InScope) → Bool
all_scoped zero f i = true
all_scoped (suc n) f i = all_scoped n f i && (not (f n) || i n)

-- of a function with these variables and these parameters
module _ (p : Facts) (cells : FileCells) (texts : Texts) (k : Known) (xs : List Variable) (ps : InScope) where
  -- what annotations see there, and a loop that stands there
  abbrev pub sights_at : Where → Sights
  sights_at h = body_sights p cells texts xs h.in_scope ps h.loop_scope h.in_loop

  abbrev mutual
    pub step_passes : Where → core.Step → Bool
    step_passes h (core.set cs n e) = true
    step_passes h (core.store cs type l path es) = true
    step_passes h (core.start cs x e) = true
    step_passes h (core.call cs to n l es) = has_no_way p xs to
    step_passes h (core.branch cs e a b) = steps_pass h a && steps_pass h b
    step_passes h (core.repeat l ss) =
        loop_passes k (sights_at (in_pass h)) (may_name p xs h.in_scope) l && (all_scoped l.declared (lets_local l ss) h.in_scope && steps_pass (in_pass h) ss)
    step_passes h (core.around ss) = steps_pass (in_block h) ss
    step_passes h (core.exit n) = nat_lt n h.outs
    step_passes h (core.give cs e) = true
    step_passes h (core.claim c) = claim_passes k (sights_at h) c
    step_passes h (core.scope ys ss) = steps_pass (in_names ys h) ss

    pub steps_pass : Where → Steps → Bool
    steps_pass h core.end = true
    steps_pass h (core.then_ s ss) = step_passes h s && steps_pass h ss

-- ---- functions

-- where a body begins
abbrev pub at_begin : (ps : InScope) → Where
at_begin ps = record { outs = 0; in_scope = ps; loop_scope = none_in; in_loop = false }

module _ (p : Facts) (cells : FileCells) (texts : Texts) (ds : List Definition) (result : CoreType) (f : Function Steps) where
  abbrev pub own_contract_passes : Bool
  own_contract_passes =
      contract_passes p (known_with true ds result) (entry_sights p cells texts f.variables (params_of f)) (return_sights p cells texts f.variables (params_of f) f.result)
      f.contract

  -- of the definitions of the file, and a function with a result of this type
  abbrev pub function_passes : Bool
  function_passes = own_contract_passes && steps_pass p cells texts (known_with true ds result) f.variables (params_of f) (at_begin (params_of f)) f.body
