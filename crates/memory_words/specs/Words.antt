-- Statements of a core program with memory as words made of steps. What a loop and what a call is, is told apart from the other statements.
use Rattle.std.specs.Prelude.{ℕ, zero, suc, ◌+◌, ◌==◌, Bool, true, false, not, ◌&&◌, ◌||◌, if◌then◌else◌, ℤ, pos, List, [], ◌∷◌, ◌++◌, map, length, Option, Some, None, slice_get}
use Rattle.std.specs.List.{list_any}
use Rattle.wp_base.specs.declared.kinds.CellKind.{CellKind}
use Rattle.wp_base.specs.declared.kinds.CellKind.TheVariants as cell
use Rattle.wp_base.specs.Blocks.{same_cell}
use Rattle.wp_base.specs.declared.kinds.Layout.{Layout}
use Rattle.qed_terms.specs.Meaning as sense
use Rattle.qed_terms.specs.Operators.{is_zero}
use Rattle.qed_terms.specs.declared.head.Head.TheVariants as h
use Rattle.qed_terms.specs.declared.head.TermOp.TheVariants as op
use Rattle.qed_terms.specs.Tree.{Tree, node, trees_of, num, var, at_most, not_of}
use Rattle.typed_prog.specs.Tree as t
use Rattle.typed_prog.specs.declared.types.CoreType.{CoreType}
use Rattle.typed_prog.specs.declared.operators.Path.{Path}
use Rattle.typed_prog.specs.declared.operators.Root.{Root}
use Rattle.typed_prog.specs.declared.operators.Variable.{Variable}
use Rattle.typed_prog.specs.declared.operators.Variable.TheVariants as variables
use Rattle.acsl_trees.specs.Tree as acsl
use Rattle.c_runs.specs.Program as program
use Rattle.c_runs.specs.Program.{Contract, Loop, Facts}
use Rattle.c_runs.specs.Objects.{plain_root, cell_of}
use Rattle.c_runs.specs.Claims as broken
use Rattle.c_runs.specs.Checks as rte
use Rattle.c_runs.specs.Tree as core
use Rattle.c_runs.specs.Tree.{Goal}
use Rattle.value_terms.specs.Readings.{Term, as_number, as_pointer, number_term, block_term, offset_term, condition, term_at, plain_global}
use Rattle.value_terms.specs.Terms.{term_of, terms_of, address_term}
use Rattle.value_terms.specs.Words.{Item, asked, known, word_of, words}
use Rattle.value_terms.specs.Places.{way_items}
use Rattle.walk_steps.specs.Forms.{Place as CheckPlace}
use Rattle.memory_steps.specs.Forms.{Check}
use Rattle.memory_steps.specs.Step.{Change, keeps, fresh, Step, skip, halt, seq, ask, know, set, change, choose, block, exit, scope, remember, made, ended}
use Rattle.memory_words.specs.Places.{Place, Sizes, value, offset, flag, result, result_offset, answer, answer_offset, temporary, temporary_offset, numbers, blocks, offsets, slot, changes_by}
use Rattle.memory_words.specs.Leaves as leaves
use Rattle.memory_words.specs.Leaves.{form, leaf_name}
use Rattle.program_steps.specs.Stops.{undefined_place, broken_place}
use Rattle.program_steps.specs.Temporaries.{Temporaries, uses, live, all_live}
use Rattle.goal_segments.specs.Told.{temps, with_names}
use Rattle.memory_words.specs.Shapes.{FileCells, Shape, sizes, kind_of, is_pointer_cell}
use Rattle.memory_words.specs.Readings.{Texts, Standpoint, InScope, reading, reading_at, body_reading, leaf, memory_leaf}
use Rattle.memory_words.specs.Points.{Open, Force, of_function, of_loop, Point, remembered, in_block, with_scope, uses_of, left_by, all_open, at_present, later}
use Rattle.memory_words.specs.Renewal.{of_regions, renewal}
use Rattle.memory_words.specs.Sets.{claim_tree, variable_trees, cell_trees, since}

-- ---- checks and values

abbrev pub is_so : Tree → Bool → Tree
is_so f true = f
is_so f false = not_of f

-- the value of a condition that is a constant, or the null pointer
abbrev pub known_test : t.Value → Option Bool
known_test e = by (t.node_of e) where
  by : t.ValueNode → Option Bool
  by (t.constant z) = Some (not (is_zero z))
  by t.null = Some false
  by _ = None

module _ (m : sense.World) (z : Sizes) where
  abbrev pub check : Tree → CheckPlace → Check
  check f at = record { form = form m f; place = at }

  abbrev pub ask_one : Tree → CheckPlace → Step
  ask_one f at = ask (check f at ∷ [])

  abbrev pub ask_all : List Tree → CheckPlace → Step
  ask_all fs at = ask (map (λ f. check f at) fs)

  -- what an expression asks for, and what is known of it
  abbrev pub items_step : List Item → Step
  items_step [] = skip
  items_step (asked c f ∷ is) = seq (ask_one f (undefined_place c.kind c.line)) (items_step is)
  items_step (known f ∷ is) = seq (know (form m f ∷ [])) (items_step is)

  -- ---- what is set

  abbrev pub set_number : Place → Tree → Step
  set_number a t = set (slot z a) (leaves.number_term m t)

  abbrev pub set_memory : Place → Tree → Step
  set_memory a t = set (slot z a) (leaves.memory_term m t)

  -- two places that the value's terms don't read hold a value of the kind
  abbrev pub set_value : CellKind → (first second : Place) → Term → Step
  set_value (cell.Of k) a b v = set_number a (number_term v)
  set_value cell.Ptr a b v = seq (set_number a (block_term v)) (set_number b (offset_term v))

  -- two places that they may read: the block stands in the place of what a call returns meanwhile, so that the offset is that of the slots as they were
  abbrev pub assign : CellKind → (first second : Place) → Term → Step
  assign (cell.Of k) a b v = set_number a (number_term v)
  assign cell.Ptr a b v =
      scope (slot z answer ∷ []) (seq (set_number answer (block_term v)) (seq (set_number b (offset_term v)) (set_number a (leaves.leaf z 0 answer))))

  -- a variable that no pointer leads to has got a value
  abbrev pub set_variable : CellKind → Variable → Term → Step
  set_variable k x v = seq (assign k (value x) (offset x) v) (set_number (flag x) (num (pos 1)))

  abbrev pub set_temporary : CellKind → (number : ℕ) → Term → Step
  set_temporary k n v = assign k (temporary n) (temporary_offset n) v

  -- ---- cells

  abbrev pub store_of : (memory : Tree) → (address : Term) → (stored : Tree) → Tree
  store_of t a u = node (h.Term op.Store) (trees_of (t ∷ block_term a ∷ offset_term a ∷ u ∷ []))

  abbrev pub put_cell : CellKind → (address : Term) → Step
  put_cell (cell.Of k) a = set_memory (numbers k) (store_of (leaves.memory_leaf z 0 (numbers k)) a (leaves.leaf z 0 answer))
  put_cell cell.Ptr a =
      seq (set_memory blocks (store_of (leaves.memory_leaf z 0 blocks) a (leaves.leaf z 0 answer)))
      (set_memory offsets (store_of (leaves.memory_leaf z 0 offsets) a (leaves.leaf z 0 answer_offset)))

  -- The value stands in the places of what a call returns meanwhile, so that it gets a name first where it is large. The address is told for each level: where
  -- two memories change, the second one does so at the address as it was before.
  abbrev pub store_cell : CellKind → (address : (level : ℕ) → Term) → (stored : Term) → Step
  store_cell (cell.Of k) a v = scope (slot z answer ∷ slot z answer_offset ∷ []) (seq (set_value (cell.Of k) answer answer_offset v) (put_cell (cell.Of k) (a 0)))
  store_cell cell.Ptr a v =
      scope (slot z answer ∷ slot z answer_offset ∷ []) (seq (set_value cell.Ptr answer answer_offset v) (remember (put_cell cell.Ptr (a 1))))

  -- ---- temporaries, where they are no more used

  abbrev pub drop : (count : ℕ) → Temporaries → Step
  drop zero f = skip
  drop (suc n) f =
      seq (drop n f) (if f n then seq (set_number (temporary n) (num (pos 0))) (set_number (temporary_offset n) (num (pos 0))) else skip)

  abbrev pub arms : Option Bool → Tree → Step → Step → Step
  arms None f a b = choose (form m f) a b
  arms (Some true) f a b = seq (know (form m f ∷ [])) a
  arms (Some false) f a b = seq (know (form m (not_of f) ∷ [])) b

  -- ---- scopes

  abbrev pub slots_of : List ℕ → List ℕ
  slots_of [] = []
  slots_of (x ∷ ys) =
      slot z (value (variables.Local x)) ∷ slot z (offset (variables.Local x)) ∷ slot z (flag (variables.Local x)) ∷ slots_of ys

-- the kinds of cells of a layout
abbrev pub has_cell_of : Layout → CellKind → Bool
has_cell_of l k = list_any (same_cell k) l.cells

-- those of the variables of a block that have blocks
abbrev pub home_kinds : List program.Variable → List ℕ → CellKind → Bool
home_kinds xs [] k = false
home_kinds xs (y ∷ ys) k = by (slice_get xs y) || home_kinds xs ys k where
  by : Option program.Variable → Bool
  by (Some v) = not v.is_plain && has_cell_of v.layout k
  by None = false

-- those of all variables of a function that have blocks
abbrev pub own_kind : List program.Variable → CellKind → Bool
own_kind [] k = false
own_kind (v ∷ vs) k = (not v.is_plain && has_cell_of v.layout k) || own_kind vs k

abbrev pub has_home : List program.Variable → List ℕ → Bool
has_home xs ys = list_any (λ y. by (slice_get xs y)) ys where
  by : Option program.Variable → Bool
  by (Some v) = not v.is_plain
  by None = false

-- any value in the places of a variable of the function
abbrev pub is_value_of : (variable : ℕ) → Place → Bool
is_value_of x (value (variables.Local y)) = x == y
is_value_of x a = false

abbrev pub is_offset_of : (variable : ℕ) → Place → Bool
is_offset_of x (offset (variables.Local y)) = x == y
is_offset_of x a = false

-- a pointer that was never set leads to any block, but not to a variable that no pointer leads to
abbrev pub any_facts : CellKind → List Tree
any_facts (cell.Of k) = []
any_facts cell.Ptr = at_most (num (pos 0)) (var (leaf_name 0 0)) ∷ []

module _ (m : sense.World) (p : Facts) (s : Shape) (cells : FileCells) where
  abbrev pub any_change : CellKind → (variable : ℕ) → Place → Change
  any_change k x a =
      if is_value_of x a then fresh (map (leaves.fact m) (any_facts k)) else if is_pointer_cell k && is_offset_of x a then fresh [] else keeps

  -- a term for a kind's value of zeros
  abbrev pub zero_term : CellKind → Term
  zero_term (cell.Of k) = as_number (num (pos 0))
  zero_term cell.Ptr = as_pointer (num (pos 0)) (num (pos 0))

  -- a variable that is declared without a value holds anything; one with a value gets it where that stands
  abbrev pub plain_opened : ℕ → program.Variable → Step
  plain_opened x v =
      if v.has_value then set_variable m (sizes p s) (kind_of v) (variables.Local x) (zero_term (kind_of v))
      else seq (change (changes_by (sizes p s) (any_change (kind_of v) x))) (set_number m (sizes p s) (flag (variables.Local x)) (num (pos 0)))

  -- a block is made, whose cells hold anything
  abbrev pub block_opened : ℕ → program.Variable → Step
  block_opened x v =
      seq (made (slot (sizes p s) (value (variables.Local x))) v.layout)
      (renewal (sizes p s) (λ k. cells.has_kind k && has_cell_of v.layout k) (of_regions (leaves.leaf (sizes p s) 2 (value (variables.Local x)) ∷ []) []) m)

  abbrev pub opened : ℕ → Option program.Variable → Step
  opened x None = skip
  opened x (Some v) = if v.is_plain then plain_opened x v else block_opened x v

  abbrev pub all_opened : List ℕ → Step
  all_opened [] = skip
  all_opened (x ∷ ys) = seq (opened x (slice_get s.variables x)) (all_opened ys)

  -- the blocks of a scope end
  abbrev pub scope_ends : Open → Step
  scope_ends o = seq (ended o.level) (renewal (sizes p s) o.has_kind (of_regions (since (suc (suc (suc o.level))) ∷ []) []) m)

  abbrev pub all_end : List Open → Step
  all_end [] = skip
  all_end (o ∷ os) = seq (scope_ends o) (all_end os)

module _ (s : Shape) (cells : FileCells) where
  -- the blocks of these variables, which are made where the last state is remembered
  abbrev pub open_scope : List ℕ → Open
  open_scope ys = record { level = 0; has_kind = λ k. cells.has_kind k && home_kinds s.variables ys k }

  -- inside of the scope of these variables
  abbrev pub in_scope_of : (has_blocks : Bool) → Point → List ℕ → Point
  in_scope_of true pt ys = with_scope (Some (open_scope ys)) (with_names ys pt.stands.in_scope) (remembered pt)
  in_scope_of false pt ys = with_scope None (with_names ys pt.stands.in_scope) pt

-- ---- statements

abbrev pub rest_of : List Term → List Term
rest_of [] = []
rest_of (t ∷ ts) = ts

-- what a loop is, with its pass, and what a call is, behind which these temporaries are used
pub record Others : Type 0 where
  pub loop_word : Point → Loop → core.Steps → (pass : Step) → Step
  pub call_word : Point → List rte.Check → Goal → (function line : ℕ) → t.Values → (after : Temporaries) → Step

-- in a pass, before which the entry of the loop and the head are remembered
abbrev pub entered_loop : Point → Standpoint
entered_loop pt = record pt.stands { here = 0; loop_entry = Some 0; loop_scope = pt.stands.in_scope }

abbrev pub inside_loop : Loop → (entered : Standpoint) → Force → Force
inside_loop l sp w = by l.assigns where
  by : Option (List acsl.Tree) → Force
  by None = w
  by (Some rs) = of_loop sp rs l.declared

abbrev pub at_loop : Loop → Point → Point
at_loop l pt = record pt { stands = entered_loop pt; force = inside_loop l (entered_loop pt) pt.force }

abbrev pub in_pass : Loop → Point → Point
in_pass l pt = remembered (remembered (at_loop l pt))

module _ (m : sense.World) (p : Facts) (s : Shape) (cells : FileCells) (texts : Texts) (contract : Contract) (others : Others) where
  abbrev pub term_in : t.Value → Term
  term_in e = term_of p s.variables (reading p s cells) e

  abbrev pub terms_in : t.Values → List Term
  terms_in es = terms_of p s.variables (reading p s cells) es

  abbrev pub terms_at : t.Values → (level : ℕ) → List Term
  terms_at es l = terms_of p s.variables (reading_at p s cells l) es

  abbrev pub value_step : t.Value → Step
  value_step e = items_step m (sizes p s) (word_of p s.variables (reading p s cells) e)

  abbrev pub values_step : t.Values → Step
  values_step es = items_step m (sizes p s) (words p s.variables (reading p s cells) es)

  -- a variable that no pointer leads to gets the value
  abbrev pub store_to_variable : Point → (line : ℕ) → CellKind → Variable → Term → Step
  store_to_variable pt l k x v =
      seq (ask_all m (sizes p s) (variable_trees p s cells texts contract pt x) (broken_place broken.assigns l)) (set_variable m (sizes p s) k x v)

  -- the cell that a way leads to, whose operands have these terms, by the level of the state that they are read in
  abbrev pub address_at : Path → (operands : (level : ℕ) → List Term) → (level : ℕ) → Term
  address_at path ts l = address_term p (reading_at p s cells l) path (ts l)

  abbrev pub store_to_cell : Point → (line : ℕ) → CoreType → Path → (operands : (level : ℕ) → List Term) → Term → Step
  store_to_cell pt l type path ts v =
      let a = address_at path ts 0 in
      seq (items_step m (sizes p s) (way_items p (reading p s cells) type path (ts 0)))
      (seq (ask_all m (sizes p s) (cell_trees p s cells texts contract pt (cell_of type) (block_term a) (offset_term a)) (broken_place broken.assigns l))
      (store_cell m (sizes p s) (cell_of type) (address_at path ts) v))

  abbrev pub store_by : Option ℕ → Option ℕ → Point → (line : ℕ) → CoreType → Path → (operands : (level : ℕ) → List Term) → Term → Step
  store_by (Some x) g pt l type path ts v = store_to_variable pt l (cell_of type) (variables.Local x) v
  store_by None (Some x) pt l type path ts v = store_to_variable pt l (cell_of type) (variables.Global x) v
  store_by None None pt l type path ts v = store_to_cell pt l type path ts v

  abbrev pub store_to : Point → (line : ℕ) → CoreType → Path → (operands : (level : ℕ) → List Term) → Term → Step
  store_to pt l type path ts v = store_by (plain_root s.variables path.root) (plain_global p.globals path.root) pt l type path ts v

  -- the value that a variable is declared with
  abbrev pub start_of : ℕ → Option program.Variable → Term → Step
  start_of x None v = skip
  start_of x (Some y) v =
      if y.is_plain then set_variable m (sizes p s) (kind_of y) (variables.Local x) v
      else store_cell m (sizes p s) (kind_of y) (λ l. as_pointer (leaf p s cells l (value (variables.Local x))) (num (pos 0))) v

  abbrev pub result_set : Option CellKind → Term → Step
  result_set None v = skip
  result_set (Some k) v = set_value m (sizes p s) k result result_offset v

  -- those of the first ones that the second ones aren't among
  abbrev pub dropped : (before after : Temporaries) → Step
  dropped f g = drop m (sizes p s) s.temporaries (λ n. f n && not (g n))

  -- behind a value that is returned none is used
  abbrev pub all_dropped : Step
  all_dropped = drop m (sizes p s) s.temporaries (λ n. true)

  abbrev pub leave_all : Point → Step
  leave_all pt = seq (all_end m p s cells (all_open pt.scopes pt.outs)) (exit (length pt.outs))

  -- the scope of these variables around what it is with them
  abbrev pub scope_word : (has_blocks : Bool) → Point → List ℕ → (Point → Step) → Step
  scope_word true pt ys inner =
      remember (scope (slots_of m (sizes p s) ys) (seq (all_opened m p s cells ys)
      (seq (inner (in_scope_of s cells true pt ys)) (scope_ends m p s cells (open_scope s cells ys)))))
  scope_word false pt ys inner = scope (slots_of m (sizes p s) ys) (seq (all_opened m p s cells ys) (inner (in_scope_of s cells false pt ys)))

  abbrev mutual
    pub step : Point → core.Step → (after : Temporaries) → Step
    step pt (core.set cs n e) f = seq (value_step e) (set_temporary m (sizes p s) (s.temp_kind n) n (term_in e))
    step pt (core.store cs type l path es) f =
        seq (values_step es) (store_to pt l type path (λ l. rest_of (terms_at es l)) (term_at (terms_in es) 0))
    step pt (core.start cs x e) f = seq (value_step e) (start_of x (slice_get s.variables x) (term_in e))
    step pt (core.call cs to n l es) f = others.call_word pt cs to n l es f
    step pt (core.branch cs e a b) f =
        seq (value_step e) (arms m (sizes p s) (known_test e) (condition (term_in e))
        (seq (dropped (λ n. uses e n || all_live b (uses_of pt.outs) f n) (all_live a (uses_of pt.outs) f)) (steps pt a f))
        (seq (dropped (λ n. uses e n || all_live a (uses_of pt.outs) f n) (all_live b (uses_of pt.outs) f)) (steps pt b f)))
    step pt (core.repeat l ss) f = others.loop_word pt l ss (steps (in_pass l pt) ss (λ n. false))
    step pt (core.around ss) f = block (steps (in_block f pt) ss f)
    step pt (core.exit k) f = seq (all_end m p s cells (left_by k pt.scopes pt.outs)) (exit k)
    step pt (core.give cs None) f = leave_all pt
    step pt (core.give cs (Some e)) f = seq (value_step e) (seq (result_set s.result (term_in e)) (seq all_dropped (leave_all pt)))
    step pt (core.claim c) f = ask_one m (sizes p s) (claim_tree (body_reading p s cells texts pt.stands) c.what) (broken_place broken.assert c.line)
    step pt (core.scope ys ss) f = scope_word (has_home s.variables ys) pt ys (λ pt'. steps pt' ss f)

    pub steps : Point → core.Steps → (after : Temporaries) → Step
    steps pt core.end f = skip
    steps pt (core.then_ a ss) f =
        seq (step pt a (all_live ss (uses_of pt.outs) f))
        (seq (dropped (λ n. live a (uses_of pt.outs) (all_live ss (uses_of pt.outs) f) n || temps a n) (all_live ss (uses_of pt.outs) f)) (steps pt ss f))
