-- What annotations see of slots, and what is asked of expressions and annotations of a function.
use Rattle.std.specs.Prelude.{◌≡◌, ◌<◌, ℕ, nat_lt, Bool, true, false, ◌&&◌, if◌then◌else◌, List, [], ◌∷◌, Option, Some, None, slice_get}
use Rattle.std.specs.List.{list_all}
use Rattle.wp_base.specs.declared.kinds.CellKind.{CellKind}
use Rattle.c_kinds.specs.Models.{long_bits}
use Rattle.acsl_trees.specs.Tree as acsl
use Rattle.c_runs.specs.TruthStates as labelled
use Rattle.c_runs.specs.TruthStates.{Value}
use Rattle.qed_terms.specs.Tree.{Tree}
use Rattle.qed_terms.specs.Meaning as sense
use Rattle.qed_terms.specs.Meaning.{truth, value}
use Rattle.typed_prog.specs.Tree as t
use Rattle.c_runs.specs.Program.{Variable, Facts}
use Rattle.c_runs.specs.Claims as claims
use Rattle.c_runs.specs.Claims.{holds, value_of, struct_cells}
use Rattle.c_runs.specs.Scopes.{is_content}
use Rattle.wp_base.specs.Blocks.{count}
use Rattle.value_terms.specs.Readings.{Term, as_number, as_test, as_pointer}
use Rattle.value_terms.specs.Terms.{term_of}
use Rattle.value_terms.specs.Words.{Item, formula_of as item_formula, word_of}
use Rattle.value_terms.specs.Typed.{Scope, IsTyped, kind_given}
use Rattle.acsl_encode.specs.Readings as annotation
use Rattle.acsl_encode.specs.Readings.{Seen, Common, Terms, region}
use Rattle.acsl_encode.specs.Encode as encode
use Rattle.acsl_encode.specs.Meaning.{SeenStands, Stands, IsStretch}
use Rattle.walk_steps.specs.State.{at_or}
use Rattle.memory_steps.specs.State.{State, state}
use Rattle.memory_words.specs.Leaves.{leaves_of, is_closed}
use Rattle.memory_words.specs.Shapes.{FileCells, Shape, sizes, kind_of, is_pointer_cell}
use Rattle.memory_words.specs.Places.{result, result_offset, number_at}
use Rattle.memory_words.specs.Readings.{InScope, Texts, Standpoint, reading, common_of, seen_in_body, seen_by_contract}
use Rattle.memory_words.specs.Standing.{Temporaries, IsHeldAs}

-- ---- settings

-- formulas are read over the kinds of the file's data model; a file without blocks has none, no pointer leads to its variables, and none is in it
pub record InSetting (m : sense.World) (p : Facts) (s : Shape) (cells : FileCells) : Type 0 where
  pub model : m.long_bits ≡ long_bits p.model
  pub plain_globals : cells.has_blocks ≡ false → (x : ℕ) (v : Variable) → slice_get p.globals x ≡ Some v → v.is_plain ≡ true
  pub plain_locals : cells.has_blocks ≡ false → (x : ℕ) (v : Variable) → slice_get s.variables x ≡ Some v → v.is_plain ≡ true
  pub no_kinds : cells.has_blocks ≡ false → (k : CellKind) → cells.has_kind k ≡ false
  pub integer_globals : cells.has_blocks ≡ false → (x : ℕ) (v : Variable) → slice_get p.globals x ≡ Some v → is_pointer_cell (kind_of v) ≡ false
  pub integer_locals : cells.has_blocks ≡ false → (x : ℕ) (v : Variable) → slice_get s.variables x ≡ Some v → is_pointer_cell (kind_of v) ≡ false
  pub integer_temporaries : cells.has_blocks ≡ false → (n : ℕ) → n < s.temporaries → is_pointer_cell (s.temp_kind n) ≡ false
  pub integer_result : cells.has_blocks ≡ false → (k : CellKind) → s.result ≡ Some k → is_pointer_cell k ≡ false

-- ---- expressions

abbrev pub temporary_kind : Shape → Temporaries → ℕ → Option CellKind
temporary_kind s f n = if nat_lt n s.temporaries && f n then Some (s.temp_kind n) else None

-- where these variables are in scope, and these temporaries are used
abbrev pub scope_at : Shape → FileCells → InScope → Temporaries → Scope
scope_at s cells i f = record { has_blocks = cells.has_blocks; has_kind = cells.has_kind; is_declared = i; temporaries = temporary_kind s f }

abbrev pub is_closed_item : Item → Bool
is_closed_item i = is_closed [] (item_formula i)

abbrev pub is_closed_term : Term → Bool
is_closed_term (as_number u) = is_closed [] u
is_closed_term (as_test f) = is_closed [] f
is_closed_term (as_pointer b o) = is_closed [] b && is_closed [] o

-- an expression of the kind, whose terms and formulas are closed
pub record ValueFits (p : Facts) (s : Shape) (cells : FileCells) (i : InScope) (f : Temporaries) (e : t.Value) (k : CellKind) : Type 0 where
  pub typed : IsTyped p s.variables (scope_at s cells i f) e
  pub kind : kind_given (t.type_of e) ≡ k
  pub items : list_all is_closed_item (word_of p s.variables (reading p s cells) e) ≡ true
  pub term : is_closed_term (term_of p s.variables (reading p s cells) e) ≡ true

-- ---- states that annotations see, in the states of a run

-- a level's state by itself
abbrev pub level_of : List State → ℕ → List State
level_of sts l = at_or (state [] []) sts l ∷ []

module _ (m : sense.World) (p : Facts) (s : Shape) (cells : FileCells) (texts : Texts) where
  -- what a body sees where slots hold this, and what a contract sees: variables of the file in the one state, parameters in the other one
  abbrev pub SeenInBody : InScope → State → labelled.State → Type 0
  SeenInBody i st q = (a : acsl.Tree) → SeenStands m (common_of p s cells texts a) (leaves_of (st ∷ [])) (seen_in_body p s cells 0 i) q

  abbrev pub SeenByContract : InScope → (of_file of_params : State) → labelled.State → Type 0
  SeenByContract i st entry q = (a : acsl.Tree) → SeenStands m (common_of p s cells texts a) (leaves_of (st ∷ entry ∷ [])) (seen_by_contract p s cells 0 1 i) q

-- ---- annotations

-- An annotation that is read so has a closed formula, which means it wherever the reading stands.
pub record ClaimFits (m : sense.World) (p : Facts) (r : acsl.Tree → annotation.Reading) (a : acsl.Tree) : Type 0 where
  pub formula : Tree
  pub is : encode.formula_of (r a) a ≡ Some formula
  pub closed : is_closed [] formula ≡ true
  pub means : (w : labelled.World) (sts : List State) → Stands m (r a) (leaves_of sts) w → truth m (leaves_of sts) formula ≡ holds p w a

-- A measure has a closed term, which means it.
pub record MeasureFits (m : sense.World) (p : Facts) (r : acsl.Tree → annotation.Reading) (a : acsl.Tree) : Type 0 where
  pub term : Tree
  pub is : encode.term_of (r a) a ≡ Some term
  pub closed : is_closed [] term ≡ true
  pub means : (w : labelled.World) (sts : List State) → Stands m (r a) (leaves_of sts) w → value m (leaves_of sts) term ≡ claims.number_at p w a

-- A region of cells has closed terms, which are those of its value.
pub record CellsFit (m : sense.World) (p : Facts) (r : acsl.Tree → annotation.Reading) (a : acsl.Tree) : Type 0 where
  pub kinds : List CellKind
  pub block : Tree
  pub low : Tree
  pub high : Tree
  pub is : encode.terms_of (r a) a ≡ region kinds block low high
  pub closed_block : is_closed [] block ≡ true
  pub closed_low : is_closed [] low ≡ true
  pub closed_high : is_closed [] high ≡ true
  pub means : (w : labelled.World) (sts : List State) → Stands m (r a) (leaves_of sts) w
      → IsStretch kinds (value m (leaves_of sts) block) (value m (leaves_of sts) low) (value m (leaves_of sts) high) (value_of p w a)

-- ---- worlds that annotations see

-- what is the same in all states
pub record SameFile (p : Facts) (w : labelled.World) : Type 0 where
  pub model : p.model ≡ w.model
  pub structs : (n : ℕ) → struct_cells p n ≡ w.structs n

abbrev pub state_of : List State → ℕ → State
state_of sts l = at_or (state [] []) sts l

module _ (m : sense.World) (p : Facts) (s : Shape) (cells : FileCells) (texts : Texts) where
  abbrev pub SeenAtLoop : Standpoint → List State → Option ℕ → labelled.State → Type 0
  SeenAtLoop sp sts (Some l) q = SeenInBody m p s cells texts sp.loop_scope (state_of sts l) q
  SeenAtLoop sp sts None q = SeenByContract m p s cells texts sp.is_param (state_of sts sp.entry) (state_of sts sp.entry) q

  -- in a body, from a standpoint
  pub record BodySeen (sp : Standpoint) (sts : List State) (w : labelled.World) : Type 0 where
    pub file : SameFile p w
    pub here_is : SeenInBody m p s cells texts sp.in_scope (state_of sts sp.here) w.here
    pub pre_is : SeenByContract m p s cells texts sp.is_param (state_of sts sp.entry) (state_of sts sp.entry) w.pre
    pub post_is : SeenInBody m p s cells texts sp.in_scope (state_of sts sp.here) w.post
    pub loop_is : SeenAtLoop sp sts sp.loop_entry w.loop_entry

  -- where a function is entered, in the state of this level alone
  pub record EntrySeen (level : ℕ) (i : InScope) (sts : List State) (w : labelled.World) : Type 0 where
    pub file : SameFile p w
    pub here_is : SeenByContract m p s cells texts i (state_of sts level) (state_of sts level) w.here
    pub pre_is : SeenByContract m p s cells texts i (state_of sts level) (state_of sts level) w.pre
    pub post_is : SeenByContract m p s cells texts i (state_of sts level) (state_of sts level) w.post
    pub loop_is : SeenByContract m p s cells texts i (state_of sts level) (state_of sts level) w.loop_entry

  -- what is returned stands in its places
  abbrev pub ResultIs : Option CellKind → State → Value → Type 0
  ResultIs None st v = Unit {0}
  ResultIs (Some k) st v =
      IsHeldAs k v (number_at (sizes p s) st result) (number_at (sizes p s) st result_offset) × (is_content p (count st.table) k v ≡ true)

  -- where a function returns, in the present state
  pub record ReturnSeen (entry : ℕ) (i : InScope) (sts : List State) (w : labelled.World) : Type 0 where
    pub file : SameFile p w
    pub here_is : SeenByContract m p s cells texts i (state_of sts 0) (state_of sts entry) w.here
    pub pre_is : SeenByContract m p s cells texts i (state_of sts entry) (state_of sts entry) w.pre
    pub post_is : SeenByContract m p s cells texts i (state_of sts 0) (state_of sts entry) w.post
    pub loop_is : SeenByContract m p s cells texts i (state_of sts entry) (state_of sts entry) w.loop_entry
    pub result_is : ResultIs s.result (state_of sts 0) w.result
