-- A parameter that has a block: the block is made, and the argument is stored in its one cell.
use Rattle.std.proofs.Common.{◌≡◌, ◌⊎◌, ◌<◌, ℕ, zero, suc, ◌+◌, ℤ, pos, negsuc, Bool, true, false, not, ◌&&◌, ◌||◌, if◌then◌else◌, List, [], ◌∷◌, ◌++◌, length, Option, Some, None, slice_get, refl, sym, ap, ◌∙◌, subst, inl, inr}
use Rattle.std.specs.Prelude.{int_le, ◌==◌}
use Rattle.std.proofs.Common.{int_eq}
use Rattle.std.specs.List.{list_all}
use Rattle.std.proofs.lemmas.Bool.{false≢true, and_parts}
use Rattle.std.proofs.lemmas.Bool.Decides.{Decides-eqb}
use Rattle.std.proofs.lemmas.Option.{same_Some}
use Rattle.wp_base.specs.declared.kinds.CellKind.{CellKind}
use Rattle.wp_base.specs.declared.kinds.CellKind.TheVariants as cell
use Rattle.wp_base.specs.Blocks.{Table, count, alloc, block_of, is_block, is_cell, cells_of, has_layout}
use Rattle.c_kinds.specs.Models.{high, difference_kind}
use Rattle.typed_prog.specs.declared.operators.Variable.TheVariants as variables
use Rattle.qed_terms.specs.Meaning as sense
use Rattle.qed_terms.specs.Tree.{num}
use Rattle.c_runs.specs.TruthStates.{Value}
use Rattle.c_runs.specs.Program.{Variable, Facts}
use Rattle.c_runs.specs.States.{Local, plain, World, Memory, home, unset, with_local, with_memory, stored_in}
use Rattle.c_runs.specs.Scopes.{with_block, param_made, block_made, is_content}
use Rattle.c_runs.specs.CoreRun.{CoreWorld, in_world}
use Rattle.goal_segments.specs.Told.{IsGood}
use Rattle.goal_segments.specs.Segments.{Opened, all_opened, with_cells}
use Rattle.typed_memories.proofs.Tests.{on_test, chosen, unchosen, with_cell_is, with_cell_here, with_cell_apart, here as here_is, same_address, number_same, is_here}
use Rattle.typed_memories.specs.Changes.{Makes, StillThere}
use Rattle.typed_memories.proofs.Tables.{new_block, not_count}
use Rattle.typed_memories.proofs.Making.{hidden_before}
use Rattle.typed_memories.proofs.Filling.{made_blocks_hold_contents}
use Rattle.typed_memories.proofs.Arguments.{parameters_hold_arguments}
use Rattle.run_blocks.specs.Ends.{is_short}
use Rattle.run_blocks.proofs.Standing.{block_still, still_same, still_then}
use Rattle.run_blocks.proofs.Good.{good_shaped, openings_are_good}
use Rattle.value_terms.specs.Readings.{Term, as_pointer}
use Rattle.program_steps.specs.Temporaries.{Temporaries}
use Rattle.memory_steps.specs.State.{State, HasSort, number as number_datum, nothing}
use Rattle.memory_steps.specs.Step as step
use Rattle.memory_steps.specs.Step.{Step, count as checks_in}
use Rattle.memory_steps.specs.Run as seg
use Rattle.memory_steps.specs.Run.{End, goes_on, IsOver, Seg}
use Rattle.memory_steps.proofs.Readings.{seq_ways}
use Rattle.memory_words.specs.Places.{Place, value, offset, flag, answer, temporary, temporary_offset, Sizes, IsIn, slots_in, held, with_held, number_in, number_at}
use Rattle.memory_words.proofs.Holding.{puts_are_held}
use Rattle.memory_words.proofs.Lists.{found_below}
use Rattle.memory_words.proofs.Leaves.{leaf_closed}
use Rattle.memory_words.specs.Shapes.{FileCells, Shape, sizes, kind_of}
use Rattle.memory_words.specs.Readings.{leaf, term_of_kind}
use Rattle.memory_words.specs.Standing.{IsHeldAs, Frame, StandsFor}
use Rattle.memory_words.specs.Seen.{InSetting}
use Rattle.memory_words.proofs.Sorts.{held_number}
use Rattle.memory_words.specs.Words.{has_cell_of, block_opened, store_cell}
use Rattle.memory_statements.specs.Renewed.{ListsRead, is_renewed}
use Rattle.memory_statements.specs.RenewalLaws.{ComesTo, MakesBlock, file_kinds, block_in}
use Rattle.memory_statements.proofs.Places.{not_renewed}
use Rattle.memory_statements.proofs.Made.{made_is_renewed}
use Rattle.memory_words.specs.Puts.{first_value, Gives, Reaches}
use Rattle.memory_statements.specs.Stored.{LeadsAt}
use Rattle.memory_statements.proofs.Storing.{cells_are_stored}
use Rattle.memory_statements.proofs.Telling.{leaf_told}
use Rattle.memory_statements.proofs.Homes.{home_cell}
use Rattle.memory_statements.proofs.Ways.{at_behind}
use Rattle.memory_statements.proofs.Carrying.{carried, content_more}
use Rattle.memory_statements.proofs.Framing.{layout_still, own_layout}
use Rattle.memory_statements.proofs.Ending.{same_own}
use Rattle.memory_functions.specs.FunctionFunctions.{ParamFits}

goes_parts : {a b : State} → goes_on a ≡ goes_on b → a ≡ b
goes_parts e = cc

value_same : {a b : ℕ} → value (variables.Local a) ≡ value (variables.Local b) → a ≡ b
value_same e = cc

-- the word of it
abbrev pub word_of : (m : sense.World) (p : Facts) (s : Shape) (cells : FileCells) (number : ℕ) → Variable → Step
word_of m p s cells x v =
    step.seq (block_opened m p s cells x v)
    (store_cell m (sizes p s) (kind_of v) (λ l. as_pointer (leaf p s cells l (value (variables.Local x))) (num (pos 0)))
    (term_of_kind (kind_of v) (leaf p s cells 1 (value (variables.Local x))) (leaf p s cells 1 (offset (variables.Local x)))))

module _ (m : sense.World) (p : Facts) (s : Shape) (cells : FileCells) (setting : InSetting m p s cells) (f : Temporaries) (entry : State) (x : ℕ) (v : Variable)
    (found : slice_get s.variables x ≡ Some v) (not_plain : v.is_plain ≡ false) (fits : ParamFits s cells v)
    (short : int_le (pos (length (cells_of v.layout))) (high p.model (difference_kind p.model)) ≡ true) (fr : Frame) (scoped : fr.in_scope x ≡ true) (c : CoreWorld) (w : World)
    (st : State) (stands : StandsFor p s cells fr f (in_world c w) st) (arg : Value)
    (is_arg : IsHeldAs (kind_of v) arg (number_at (sizes p s) entry (value (variables.Local x))) (number_at (sizes p s) entry (offset (variables.Local x))))
    (content : is_content p (count w.memory.blocks) (kind_of v) arg ≡ true) where
  abbrev z : Sizes
  z = sizes p s

  abbrev olds : List State
  olds = entry ∷ []

  below : x < length s.variables
  below = found_below s.variables x v found

  abbrev b : ℤ
  b = count w.memory.blocks

  has_blocks : cells.has_blocks ≡ true
  has_blocks = fits.declared.blocks not_plain

  abbrev pub after : World
  after = with_local x (home b) (with_memory (stored_in b (pos 0) arg (with_block v w.memory)) w)

  abbrev pub homes : ℕ → ℤ
  homes y = if x == y then b else fr.homes y

  abbrev frame_of : Table → Frame
  frame_of t = record { in_scope = fr.in_scope; table = t; lives = λ y. (x == y) || fr.lives y; homes = homes }

  abbrev pub behind : Frame
  behind = frame_of after.memory.blocks

  apart_so : (y : ℕ) → (x ≡ y → ⊥) → (x == y) ≡ false
  apart_so y n = on_test (x == y) (λ e. absurd (n ((Decides-eqb x y).0 e))) (λ e. e)

  here_so : (x == x) ≡ true
  here_so = (Decides-eqb x x).1 refl

  this_or : (y : ℕ) → (x ≡ y) ⊎ (x ≡ y → ⊥)
  this_or y = on_test (x == y) (λ e. inl ((Decides-eqb x y).0 e)) (λ e. inr (λ same. false≢true (sym e ∙ (Decides-eqb x y).1 same)))

  -- ---- the block is made

  abbrev mid : Memory → World
  mid n = with_local x (home b) (with_memory n w)

  module _ (n : Memory) (good : IsGood p n) (makes : Makes v.layout w.memory n) (still : StillThere w.memory.blocks n.blocks) (new : State)
      (to : ComesTo p s cells (file_kinds cells v) (block_in p s x v st) n new) where
    same_at : (a : Place) → IsIn z a → is_renewed (file_kinds cells v) a ≡ false → (value (variables.Local x) ≡ a → ⊥) → held z new a ≡ held z st a
    same_at a l none apart =
        to.besides.places a l none ∙ (puts_are_held z (value (variables.Local x)) (number_datum (count st.table)) st below stands.size).elsewhere a l apart

    value_apart : (y : ℕ) → (x ≡ y → ⊥) → value (variables.Local x) ≡ value (variables.Local y) → ⊥
    value_apart y n e = n (value_same e)

    number_here : held z new (value (variables.Local x)) ≡ number_datum b
    number_here =
        to.besides.places (value (variables.Local x)) below refl
        ∙ (puts_are_held z (value (variables.Local x)) (number_datum (count st.table)) st below stands.size).here
        ∙ ap (λ t. number_datum (count t)) (stands.table_is has_blocks)

    local_apart : (y : ℕ) → (x ≡ y → ⊥) → (mid n).locals y ≡ w.locals y
    local_apart y apart = unchosen (x == y) (home b) (w.locals y) (apart_so y apart)

    other_variable : (y : ℕ) (v' : Variable) → slice_get s.variables y ≡ Some v' → v'.is_plain ≡ true → x ≡ y → ⊥
    other_variable y v' e plainly same =
        false≢true (sym not_plain ∙ ap (λ (v : Variable). v.is_plain) (same_Some v v' (sym found ∙ ap (slice_get s.variables) same ∙ e)) ∙ plainly)

    layout_here : has_layout n.blocks b v.layout ≡ true
    layout_here = ap (λ t. has_layout t b v.layout) makes.blocks ∙ ap (λ k. is_block k (block_of v.layout)) (new_block w.memory.blocks v.layout) ∙ own_layout v.layout

    home_is : (y : ℕ) (v' : Variable) → slice_get s.variables y ≡ Some v' → v'.is_plain ≡ false → fr.in_scope y ≡ true
        → ((mid n).locals y ≡ home (homes y)) × (held z new (value (variables.Local y)) ≡ number_datum (homes y))
    home_is y v' e plainly inside = by (this_or y) where
      by : (x ≡ y) ⊎ (x ≡ y → ⊥) → ((mid n).locals y ≡ home (homes y)) × (held z new (value (variables.Local y)) ≡ number_datum (homes y))
      by (inl same) =
          subst (λ y. ((mid n).locals y ≡ home (homes y)) × (held z new (value (variables.Local y)) ≡ number_datum (homes y))) same
          (chosen (x == x) _ _ here_so ∙ ap home (sym (chosen (x == x) _ _ here_so)), number_here ∙ ap number_datum (sym (chosen (x == x) _ _ here_so)))
      by (inr n') =
          let was = stands.homes y v' e plainly inside in (
            local_apart y n' ∙ was.0 ∙ ap home (sym (unchosen (x == y) _ _ (apart_so y n'))),
            same_at (value (variables.Local y)) (found_below s.variables y v' e) refl (value_apart y n') ∙ was.1 ∙ ap number_datum (sym (unchosen (x == y) _ _ (apart_so y n'))),
          )

    living : (y : ℕ) (v' : Variable) → slice_get s.variables y ≡ Some v' → v'.is_plain ≡ false → fr.in_scope y ≡ true → ((x == y) || fr.lives y) ≡ true
        → has_layout n.blocks (homes y) v'.layout ≡ true
    living y v' e plainly inside lives = by (this_or y) where
      by : (x ≡ y) ⊎ (x ≡ y → ⊥) → has_layout n.blocks (homes y) v'.layout ≡ true
      by (inl same) =
          ap (λ k. has_layout n.blocks k v'.layout) (ap homes (sym same) ∙ chosen (x == x) _ _ here_so)
          ∙ ap (λ (v : Variable). has_layout n.blocks b v.layout) (same_Some v' v (sym e ∙ ap (slice_get s.variables) (sym same) ∙ found)) ∙ layout_here
      by (inr n') =
          ap (λ k. has_layout n.blocks k v'.layout) (unchosen (x == y) _ _ (apart_so y n'))
          ∙ layout_still fr.table n.blocks (fr.homes y) v'.layout
          (still_then fr.table w.memory.blocks n.blocks (still_same fr.table w.memory.blocks stands.blocks_are) still)
          (stands.living y v' e plainly inside (ap (λ t. t || fr.lives y) (sym (apart_so y n')) ∙ lives))

    unscoped : (y : ℕ) → y < length s.variables → fr.in_scope y ≡ false
        → ((mid n).locals y ≡ unset) × (held z new (value (variables.Local y)) ≡ nothing) × (held z new (offset (variables.Local y)) ≡ nothing)
        × (held z new (flag (variables.Local y)) ≡ nothing)
    unscoped y l out = by (this_or y) where
      by : (x ≡ y) ⊎ (x ≡ y → ⊥) → ((mid n).locals y ≡ unset) × (held z new (value (variables.Local y)) ≡ nothing) × (held z new (offset (variables.Local y)) ≡ nothing)
          × (held z new (flag (variables.Local y)) ≡ nothing)
      by (inl same) = absurd (false≢true (sym out ∙ ap fr.in_scope (sym same) ∙ scoped))
      by (inr n') =
          let was = stands.unscoped y l out in (
            local_apart y n' ∙ was.0,
            same_at (value (variables.Local y)) l refl (value_apart y n') ∙ was.1,
            same_at (offset (variables.Local y)) l refl (λ e. cc) ∙ was.2,
            same_at (flag (variables.Local y)) l refl (λ e. cc) ∙ was.3,
          )

    made_stands : StandsFor p s cells (frame_of n.blocks) f (in_world c (mid n)) new
    made_stands = carried p s cells fr f (in_world c w) st stands (frame_of n.blocks) (mid n) new (record {
      good = good;
      blocks = same_own n.blocks;
      table = λ has. to.besides.table ∙ ap (λ t. alloc t v.layout) (stands.table_is has) ∙ sym makes.blocks;
      memories = to.memories;
      size = to.besides.size ∙ (puts_are_held z (value (variables.Local x)) (number_datum (count st.table)) st below stands.size).size;
      sorted = λ a l off.
          subst (HasSort false) (sym (to.besides.places a l (not_renewed cells (file_kinds cells v) (λ k on. (and_parts (cells.has_kind k) (has_cell_of v.layout k) on).0) a off)))
          (held_number z (value (variables.Local x)) (count st.table) st a (stands.sorted a l off));
      more = still.more;
      hidden = λ i o. makes.cells (negsuc i) o (not_count (negsuc i) b (hidden_before i (suc (length w.memory.blocks))));
      globals = λ y l. (same_at (value (variables.Global y)) l refl (λ e. cc), same_at (offset (variables.Global y)) l refl (λ e. cc));
      locals = λ y v' e plainly inside.
          let l = found_below s.variables y v' e in
          let n' = other_variable y v' e plainly in (
            inside,
            local_apart y n',
            same_at (value (variables.Local y)) l refl (value_apart y n'),
            same_at (offset (variables.Local y)) l refl (λ e. cc),
            same_at (flag (variables.Local y)) l refl (λ e. cc),
          );
      temporaries = λ n l. (same_at (temporary n) l refl (λ e. cc), same_at (temporary_offset n) l refl (λ e. cc));
      homes = home_is;
      living = living;
      unscoped = unscoped;
    })

    -- ---- the argument is stored

    abbrev a : ℕ → Term
    a = λ l. as_pointer (leaf p s cells l (value (variables.Local x))) (num (pos 0))

    abbrev u : Term
    u = term_of_kind (kind_of v) (leaf p s cells 1 (value (variables.Local x))) (leaf p s cells 1 (offset (variables.Local x)))

    leads : LeadsAt m z olds new a b (pos 0)
    leads = record {
      closed_block = λ l. leaf_closed [] z l (value (variables.Local x));
      closed_offset = λ l. refl;
      block = λ new' spare sts.
          leaf_told m z (sts ++ new' ∷ olds) (length sts) (value (variables.Local x)) ∙ ap (λ st. number_at z st (value (variables.Local x))) (at_behind sts new' olds)
          ∙ ap number_in (spare.same (value (variables.Local x)) below refl (λ h. h) ∙ number_here);
      offset = λ new' spare sts. refl;
    }

    gives : Gives m z olds answer (kind_of v) u arg new
    gives = by (kind_of v) is_arg where
      by : (k : CellKind) → IsHeldAs k arg (number_at z entry (value (variables.Local x))) (number_at z entry (offset (variables.Local x)))
          → Gives m z olds answer k (term_of_kind k (leaf p s cells 1 (value (variables.Local x))) (leaf p s cells 1 (offset (variables.Local x)))) arg new
      by (cell.Of k) h = record { held = subst (λ y. IsHeldAs (cell.Of k) arg y (pos 0)) (sym (leaf_told m z (new ∷ olds) 1 (value (variables.Local x)))) h; stays = refl }
      by cell.Ptr h = record {
        held = subst (λ y. IsHeldAs cell.Ptr arg (first_value m (new ∷ olds) cell.Ptr (term_of_kind cell.Ptr (leaf p s cells 1 (value (variables.Local x)))
            (leaf p s cells 1 (offset (variables.Local x))))) y) (sym (leaf_told m z (new ∷ olds) 1 (offset (variables.Local x))))
            (subst (λ y. IsHeldAs cell.Ptr arg y (number_at z entry (offset (variables.Local x)))) (sym (leaf_told m z (new ∷ olds) 1 (value (variables.Local x)))) h);
        stays = leaf_told m z (with_held z answer (number_datum (first_value m (new ∷ olds) cell.Ptr (term_of_kind cell.Ptr (leaf p s cells 1 (value (variables.Local x)))
            (leaf p s cells 1 (offset (variables.Local x)))))) new ∷ olds) 1 (offset (variables.Local x)) ∙ sym (leaf_told m z (new ∷ olds) 1 (offset (variables.Local x)));
      }

    one_cell : cells_of v.layout ≡ kind_of v ∷ []
    one_cell = (fits.one_cell not_plain).0

    is_there : is_cell (kind_of v) n.blocks b (pos 0) ≡ true
    is_there = home_cell n.blocks b v.layout (kind_of v) layout_here one_cell

    stored : Reaches olds (store_cell m z (kind_of v) a u) new (StandsFor p s cells (frame_of n.blocks) f (in_world c (with_memory (stored_in b (pos 0) arg n) (mid n))))
    stored =
        cells_are_stored m p s cells (frame_of n.blocks) f (in_world c (mid n)) new made_stands (kind_of v) (fits.one_cell not_plain).1 olds a u b (pos 0) arg leads gives is_there
        (content_more p b (count n.blocks) still.more (kind_of v) arg content)

    elsewhere : (b' o' : ℤ) → int_eq b' b ≡ false → (stored_in b (pos 0) arg n).cells b' o' ≡ w.memory.cells b' o'
    elsewhere b' o' apart =
        with_cell_apart b (pos 0) arg n.cells b' o'
        (on_test (is_here b (pos 0) b' o') (λ t. absurd (false≢true (sym apart ∙ number_same b' b (sym (same_address b (pos 0) b' o' t).0)))) (λ e. e))
        ∙ makes.cells b' o' apart

    stored_same : after.memory ≡ stored_in b (pos 0) arg n
    stored_same =
        sym (ap (λ (w : World). w.memory) (unchosen v.is_plain (with_local x (plain arg true) w) after not_plain))
        ∙ (parameters_hold_arguments x v arg (kind_of v) w not_plain one_cell).back (stored_in b (pos 0) arg n) (good_shaped p w.memory stands.good)
        (good_shaped p (stored_in b (pos 0) arg n) stored.is.good) (record { blocks = makes.blocks; cells = elsewhere })
        (with_cell_here b (pos 0) arg n.cells b (pos 0) (here_is b (pos 0)))

    -- which is the world behind
    stored_stands : StandsFor p s cells behind f (in_world c after) stored.state
    stored_stands =
        subst (λ t. StandsFor p s cells (frame_of t) f (in_world c after) stored.state) makes.blocks
        (subst (λ n'. StandsFor p s cells (frame_of n.blocks) f (in_world c (with_local x (home b) (with_memory n' w))) stored.state) (sym stored_same) stored.is)

  -- ---- both

  abbrev pub word : Step
  word =
      step.seq (block_opened m p s cells x v)
      (store_cell m z (kind_of v) (λ l. as_pointer (leaf p s cells l (value (variables.Local x))) (num (pos 0)))
      (term_of_kind (kind_of v) (leaf p s cells 1 (value (variables.Local x))) (leaf p s cells 1 (offset (variables.Local x)))))

  makes_block : (n : ℕ) → MakesBlock m p s cells x v olds n w.memory st
  makes_block n =
      made_is_renewed m p s cells x v olds n w.memory st
      (record { model = setting.model; size = stands.size; stand = record { numbers_are = stands.numbers_are; pointers_are = stands.pointers_are } }) stands.good
      (stands.table_is has_blocks) below (fits.declared.kinds not_plain) short

  abbrev bare : Variable
  bare = record v { has_value = false }

  abbrev some : World
  some = block_made p x bare w

  some_makes : Makes v.layout w.memory some.memory
  some_makes = (made_blocks_hold_contents p x bare w).makes

  still_made : (n : Memory) → Makes v.layout w.memory n → StillThere w.memory.blocks n.blocks
  still_made n makes = subst (StillThere w.memory.blocks) (some_makes.blocks ∙ sym makes.blocks) (block_still p x bare w)

  pub still_after : StillThere w.memory.blocks after.memory.blocks
  still_after = subst (StillThere w.memory.blocks) some_makes.blocks (block_still p x bare w)

  pub forth : list_all (is_short p) s.variables ≡ true → (n : ℕ) → (new : State) × Seg olds n word st (goes_on new) × StandsFor p s cells behind f (in_world c after) new
  forth all_short n =
      let good = openings_are_good p s.variables all_short (x ∷ []) w some stands.good (with_cells found not_plain w.contents all_opened) in
      let r = (makes_block n).forth some.memory good some_makes in
      let q = stored some.memory good some_makes (still_made some.memory some_makes) r.0 r.2 in (
        q.state,
        seg.goes_both r.1 (q.end.runs (n + checks_in (block_opened m p s cells x v))),
        stored_stands some.memory good some_makes (still_made some.memory some_makes) r.0 r.2,
      )

  pub back : (n : ℕ) (e : End) → Seg olds n word st e → (new : State) × (goes_on new ≡ e) × StandsFor p s cells behind f (in_world c after) new
  back n e k = by (seq_ways k) where
    by : (IsOver e × Seg olds n (block_opened m p s cells x v) st e)
        ⊎ ((to : State) × Seg olds n (block_opened m p s cells x v) st (goes_on to) × Seg olds (n + checks_in (block_opened m p s cells x v))
        (store_cell m z (kind_of v) (λ l. as_pointer (leaf p s cells l (value (variables.Local x))) (num (pos 0)))
        (term_of_kind (kind_of v) (leaf p s cells 1 (value (variables.Local x))) (leaf p s cells 1 (offset (variables.Local x))))) to e)
        → (new : State) × (goes_on new ≡ e) × StandsFor p s cells behind f (in_world c after) new
    by (inl (over, k)) = let r = (makes_block n).back e k in absurd (subst IsOver (sym r.1) over)
    by (inr (to, k, l)) =
        let r = (makes_block n).back (goes_on to) k in
        let q = stored r.2 r.3 r.4 (still_made r.2 r.4) r.0 r.6 in (
          q.state,
          q.end.only (n + checks_in (block_opened m p s cells x v)) e
              (subst (λ to. Seg olds (n + checks_in (block_opened m p s cells x v))
              (store_cell m z (kind_of v) (λ l. as_pointer (leaf p s cells l (value (variables.Local x))) (num (pos 0)))
              (term_of_kind (kind_of v) (leaf p s cells 1 (value (variables.Local x))) (leaf p s cells 1 (offset (variables.Local x))))) to e) (sym (goes_parts r.1)) l),
          stored_stands r.2 r.3 r.4 (still_made r.2 r.4) r.0 r.6,
        )
