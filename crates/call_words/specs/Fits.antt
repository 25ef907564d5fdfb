-- What is asked of a call, so that its word does what it does: typed arguments with their own checks, annotations that have formulas, and a place for its
-- result.
use Rattle.std.specs.Prelude.{◌≡◌, ◌<◌, ℕ, zero, suc, Bool, true, ℤ, pos, negsuc, List, [], Option, Some, None, slice_get, length}
use Rattle.std.specs.List.{list_all}
use Rattle.wp_base.specs.declared.kinds.CellKind.{CellKind}
use Rattle.wp_base.specs.declared.kinds.CellKind.TheVariants as cell
use Rattle.wp_base.specs.declared.kinds.Kind.{Kind}
use Rattle.c_kinds.specs.Models.{holds as holds_value}
use Rattle.typed_prog.specs.Tree as t
use Rattle.typed_prog.specs.declared.types.CoreType.{CoreType}
use Rattle.typed_prog.specs.declared.operators.Path.{Path}
use Rattle.typed_prog.specs.declared.operators.Variable.TheVariants as variables
use Rattle.acsl_trees.specs.Tree as acsl
use Rattle.acsl_trees.specs.declared.heads.Content.TheVariants as content
use Rattle.acsl_trees.specs.declared.heads.Head.TheVariants as head
use Rattle.c_runs.specs.TruthStates.{Value, number}
use Rattle.c_runs.specs.TruthStates as labelled
use Rattle.acsl_encode.specs.Encode as encode
use Rattle.qed_terms.specs.Meaning as sense
use Rattle.qed_terms.specs.Meaning.{truth, value}
use Rattle.qed_terms.specs.Tree.{Tree}
use Rattle.c_runs.specs.Program.{Variable, Claim, Measure, Behavior, Contract, Function, Facts}
use Rattle.c_runs.specs.States.{hidden}
use Rattle.c_runs.specs.Claims.{holds, number_at, struct_cells}
use Rattle.c_runs.specs.Checks.{Check, all_checks}
use Rattle.c_runs.specs.Tree as core
use Rattle.c_runs.specs.Tree.{Goal, nowhere, temporary, place, variable, Steps}
use Rattle.plain_states.specs.Slots.{State, at, value_slot, answer_slot}
use Rattle.plain_states.specs.Scopes.{kind_of}
use Rattle.plain_runs.specs.Fitting.{Shape, sizes, LeadsTo}
use Rattle.value_terms.specs.Words.{words}
use Rattle.value_terms.specs.Typed.{AreTyped, operand_kind}
use Rattle.walk_steps.specs.State.{at_or}
use Rattle.program_steps.specs.Leaves.{is_closed, leaves_of}
use Rattle.program_steps.specs.Temporaries.{Temporaries, live}
use Rattle.program_steps.specs.Terms.{Texts, reading, kind_given}
use Rattle.program_steps.specs.Typed.{is_closed_item, scope_at, ClaimFits, MeasureFits, Takes}
use Rattle.program_steps.specs.Functions.{AllOf, SetFits}
use Rattle.call_words.specs.Callee.{argument, entered_at, returned_from}
use Rattle.acsl_encode.specs.Meaning.{IsOfKind}

-- ---- states that the function sees

-- the slots of the file's variables are those of this state; each of its own variables has a number, which is 0 where it is no parameter
pub record CalleeSees (p : Facts) (g : Function Steps) (q : labelled.State) (file : State) (own : ℕ → ℤ) : Type 0 where
  pub file_homes : (x : ℕ) (v : Variable) → slice_get p.globals x ≡ Some v → q.home (variables.Global x) ≡ negsuc x
  pub globals : (x : ℕ) (v : Variable) → slice_get p.globals x ≡ Some v → q.cells (negsuc x) (pos 0) ≡ number (at file (value_slot x))
  pub file_fits : (x : ℕ) (v : Variable) → slice_get p.globals x ≡ Some v → holds_value p.model (kind_of v) (at file (value_slot x)) ≡ true
  pub homes : (x : ℕ) (v : Variable) → slice_get g.variables x ≡ Some v → q.home (variables.Local x) ≡ hidden p x
  pub locals : (x : ℕ) (v : Variable) → slice_get g.variables x ≡ Some v → q.cells (hidden p x) (pos 0) ≡ number (own x)
  pub fits : (x : ℕ) (v : Variable) → slice_get g.variables x ≡ Some v → holds_value p.model (kind_of v) (own x) ≡ true

module _ (m : sense.World) (p : Facts) (s : Shape) (texts : Texts) (g : Function Steps) (es : t.Values) where
  -- the numbers of the arguments, read in the state of this level
  abbrev pub numbers_at : List State → (level : ℕ) → ℕ → ℤ
  numbers_at sts l x = value m (leaves_of sts) (argument p s texts g es l x)

  -- it is entered in the state of this level
  pub record SeenCall (w : labelled.World) (sts : List State) (level : ℕ) : Type 0 where
    pub here_is : CalleeSees p g w.here (at_or [] sts level) (numbers_at sts level)
    pub pre_is : CalleeSees p g w.pre (at_or [] sts level) (numbers_at sts level)
    pub post_is : CalleeSees p g w.post (at_or [] sts level) (numbers_at sts level)
    pub loop_entry_is : CalleeSees p g w.loop_entry (at_or [] sts level) (numbers_at sts level)
    pub model : p.model ≡ w.model
    pub structs : (n : ℕ) → struct_cells p n ≡ w.structs n

  -- it was entered in the last state that is remembered, and has returned in the present one
  pub record SeenBack (w : labelled.World) (sts : List State) : Type 0 where
    pub here_is : CalleeSees p g w.here (at_or [] sts 0) (numbers_at sts 1)
    pub pre_is : CalleeSees p g w.pre (at_or [] sts 1) (numbers_at sts 1)
    pub post_is : CalleeSees p g w.post (at_or [] sts 0) (numbers_at sts 1)
    pub loop_entry_is : CalleeSees p g w.loop_entry (at_or [] sts 1) (numbers_at sts 1)
    pub result : (k : CellKind) → g.result ≡ Some k → w.result ≡ number (at (at_or [] sts 0) (answer_slot (sizes p s)))
    pub result_fits : IsOfKind p.model (kind_given g.result) (at (at_or [] sts 0) (answer_slot (sizes p s)))
    pub model : p.model ≡ w.model
    pub structs : (n : ℕ) → struct_cells p n ≡ w.structs n

  -- ---- annotations of the function: each has a formula or a term, which is closed and means it

  pub record EntryFits (level : ℕ) (a : acsl.Tree) : Type 0 where
    pub formula : Tree
    pub is : encode.formula_of (entered_at p s texts g es level a) a ≡ Some formula
    pub closed : is_closed [] formula ≡ true
    pub means : (w : labelled.World) (sts : List State) → SeenCall w sts level → truth m (leaves_of sts) formula ≡ holds p w a

  pub record PromiseFits (a : acsl.Tree) : Type 0 where
    pub formula : Tree
    pub is : encode.formula_of (returned_from p s texts g es a) a ≡ Some formula
    pub closed : is_closed [] formula ≡ true
    pub means : (w : labelled.World) (sts : List State) → SeenBack w sts → truth m (leaves_of sts) formula ≡ holds p w a

  pub record EntryMeasureFits (a : acsl.Tree) : Type 0 where
    pub term : Tree
    pub is : encode.term_of (entered_at p s texts g es 0 a) a ≡ Some term
    pub closed : is_closed [] term ≡ true
    pub means : (w : labelled.World) (sts : List State) → SeenCall w sts 0 → value m (leaves_of sts) term ≡ number_at p w a

  -- a region is a variable of the file
  pub record FileRegionFits (a : acsl.Tree) : Type 0 where
    pub number : ℕ
    pub known : number < length p.globals
    pub kind : Kind
    pub is : a ≡ acsl.node (head.Region (content.Integer kind)) (acsl.more (acsl.node (head.Variable (variables.Global number)) acsl.stop) acsl.stop)

  abbrev pub FileSetFits : Option (List acsl.Tree) → Type 0
  FileSetFits None = Unit {0}
  FileSetFits (Some rs) = AllOf FileRegionFits rs

  pub record CalleeBehaviorFits (b : Behavior) : Type 0 where
    pub assumes : AllOf (λ a. (level : ℕ) → EntryFits level a) b.assumes
    pub requires : AllOf (λ (c : Claim). EntryFits 0 c.what) b.requires
    pub ensures : AllOf (λ (c : Claim). PromiseFits c.what) b.ensures
    pub assigns : FileSetFits b.assigns

  abbrev pub IfMeasured : (acsl.Tree → Type 0) → Option Measure → Type 0
  IfMeasured f None = Unit {0}
  IfMeasured f (Some a) = f a.what

  pub record CalleeFits : Type 0 where
    pub assumes : g.contract.plain.assumes ≡ []
    pub plain : CalleeBehaviorFits g.contract.plain
    pub behaviors : AllOf CalleeBehaviorFits g.contract.behaviors
    pub measure : IfMeasured EntryMeasureFits g.contract.decreases

  -- ---- annotations of the caller

  pub record CallerBehaviorFits (b : Behavior) : Type 0 where
    pub assumes : AllOf (λ a. (entry : ℕ) → ClaimFits m p s texts a entry entry entry) b.assumes
    pub assigns : SetFits p s b.assigns

  pub record CallerFits (c : Contract) : Type 0 where
    pub assumes : c.plain.assumes ≡ []
    pub plain : CallerBehaviorFits c.plain
    pub behaviors : AllOf CallerBehaviorFits c.behaviors
    pub measure : IfMeasured (λ a. (entry : ℕ) → MeasureFits m p s texts a entry entry entry) c.decreases

-- ---- the result

module _ (p : Facts) (s : Shape) (in_scope : ℕ → Bool) where
  -- where a result of the kind goes
  pub data Receives (k : Kind) : Goal → Type 0 where
    by_nothing : Receives k nowhere
    by_temporary : {n : ℕ} → n < s.temporaries → s.temp_kind n ≡ k → Receives k (temporary n)
    by_place : {type : CoreType} {l : ℕ} {path : Path} → LeadsTo p s in_scope path k → Receives k (place [] type l path t.stop)
    by_variable : {x : ℕ} → Takes s in_scope x k → Receives k (variable x)

  -- a function without result gives what is of no use
  pub data ResultGoes : Option CellKind → Goal → Type 0 where
    none_nowhere : ResultGoes None nowhere
    none_to : {n : ℕ} → n < s.temporaries → ResultGoes None (temporary n)
    goes_to : {k : Kind} {to : Goal} → Receives k to → ResultGoes (Some (cell.Of k)) to

-- ---- the call

abbrev pub count_of : t.Values → ℕ
count_of t.stop = zero
count_of (t.more e es) = suc (count_of es)

module _ (m : sense.World) (p : Facts) (s : Shape) (texts : Texts) (contract : Contract) (functions : ℕ → Option (Function Steps)) where
  pub record CallFits (in_scope : ℕ → Bool) (outs : List Temporaries) (after : Temporaries) (cs : List Check) (to : Goal) (n l : ℕ) (es : t.Values) : Type 0 where
    pub function : Function Steps
    pub found : functions n ≡ Some function
    pub checks : cs ≡ all_checks s.variables es
    pub typed : AreTyped p s.variables (scope_at s (live (core.call cs to n l es) outs after)) es
    pub items : list_all is_closed_item (words p s.variables (reading p s) es) ≡ true
    pub count : count_of es ≡ function.params
    pub kinds : (x : ℕ) (v : Variable) → slice_get function.variables x ≡ Some v → x < function.params → operand_kind es x ≡ cell.Of (kind_of v)
    pub callee : CalleeFits m p s texts function es
    pub caller : CallerFits m p s texts function es contract
    pub result : ResultGoes p s in_scope function.result to
