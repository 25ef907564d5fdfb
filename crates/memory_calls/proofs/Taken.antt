-- The set that a loop's turns may change, by the clause that it is taken from: how its regions, which are read three states later, leave open what the set lets
-- change, and that kinds which no region has stay.
use Rattle.std.proofs.Common.{◌≡◌, ℕ, suc, ℤ, pos, Bool, true, false, ◌||◌, if◌then◌else◌, List, [], ◌∷◌, refl, sym, ap, ◌∙◌}
use Rattle.std.specs.Prelude.{int_le, int_lt}
use Rattle.std.proofs.lemmas.Bool.{false≢true}
use Rattle.wp_base.specs.declared.kinds.CellKind.{CellKind}
use Rattle.wp_base.specs.Blocks.{Table, count, is_cell, has_cell, block_cells}
use Rattle.typed_prog.specs.declared.operators.Variable as code
use Rattle.acsl_trees.specs.Tree as acsl
use Rattle.c_runs.specs.TruthStates as labelled
use Rattle.c_runs.specs.TruthAllowed.{is_named}
use Rattle.acsl_encode.specs.Readings as annotation
use Rattle.acsl_encode.specs.Meaning.{Stands}
use Rattle.qed_terms.specs.Meaning as sense
use Rattle.qed_terms.specs.Tree.{Tree}
use Rattle.c_runs.specs.Program.{Facts}
use Rattle.c_runs.specs.Claims.{regions_of, lets_cell}
use Rattle.goal_segments.specs.Segments.{SameBlocks}
use Rattle.typed_memories.specs.Cells.{lies_inside}
use Rattle.typed_memories.proofs.Tests.{on_test}
use Rattle.typed_memories.specs.Changes.{Sets, LacksSince}
use Rattle.typed_memories.proofs.Tables.{test_lt, not_le_test}
use Rattle.memory_steps.specs.State.{State, state}
use Rattle.memory_words.specs.Leaves.{leaves_of}
use Rattle.memory_words.specs.Shapes.{FileCells, Shape}
use Rattle.memory_words.specs.Readings.{InScope, hidden_block}
use Rattle.memory_words.specs.Seen.{state_of}
use Rattle.memory_words.specs.Regions.{RegionTree, has_kind, of_kind, regions_in}
use Rattle.memory_words.specs.Renewal.{of_regions}
use Rattle.memory_words.specs.Sets.{since, has_variable}
use Rattle.memory_words.specs.Typed.{AllOf, is_plain_variable}
use Rattle.memory_statements.specs.Renewed.{regions_at, LeaveIs}
use Rattle.memory_statements.specs.Regions.{set_of}
use Rattle.memory_calls.specs.LoopSets.{some_has}
use Rattle.memory_calls.specs.LoopFits.{SetRegion}
use Rattle.memory_calls.proofs.Regions.{ReadsPlain, regions_closed, names_so}
use Rattle.memory_calls.proofs.Clauses.{since_is, clause_lies}

-- no region has the kind
none_of_kind : (k : CellKind) (gs : List RegionTree) → some_has k gs ≡ false → of_kind k gs ≡ []
none_of_kind k [] h = refl
none_of_kind k (g ∷ gs) h =
    on_test (has_kind k g) (λ t. absurd (false≢true (sym h ∙ ap (λ b. b || some_has k gs) t)))
    (λ t. ap (λ b. if b then g ∷ of_kind k gs else of_kind k gs) t ∙ none_of_kind k gs (sym (ap (λ b. b || some_has k gs) t) ∙ h))

or_none : (a : Bool) → (a || false) ≡ a
or_none true = refl
or_none false = refl

module _ (m : sense.World) (p : Facts) (s : Shape) (cells : FileCells) (sts : List State) (i : InScope) (r : acsl.Tree → annotation.Reading) (plain : ReadsPlain p s cells i r)
    (w : labelled.World) (stands : (x y z : State) (a : acsl.Tree) → Stands m (r a) (leaves_of (x ∷ y ∷ z ∷ sts)) w) (ws : List acsl.Tree)
    (fits : AllOf (SetRegion m p s cells i r) ws) (level : ℕ) (d : ℕ) where
  abbrev pub later_since : Tree
  later_since = since (suc (suc (suc level)))

  abbrev pub blocks_there : ℤ
  blocks_there = count (state_of sts level).table

  abbrev pub gs : List RegionTree
  gs = regions_in r ws

  since_there : (x y z : State) → sense.value m (leaves_of (x ∷ y ∷ z ∷ sts)) later_since ≡ blocks_there
  since_there x y z = since_is m (x ∷ y ∷ z ∷ sts) (suc (suc (suc level)))

  abbrev some_state : State
  some_state = state_of sts 0

  -- the regions by their values
  abbrev pub taken : Sets
  taken k = regions_at m (leaves_of (some_state ∷ some_state ∷ some_state ∷ sts)) (later_since ∷ []) (of_kind k gs)

  taken_is : (x y z : State) (k : CellKind) (b : ℕ) (o : ℤ) → lies_inside (regions_at m (leaves_of (x ∷ y ∷ z ∷ sts)) (later_since ∷ []) (of_kind k gs)) (pos b) o
      ≡ lets_cell k (pos b) o (set_of (regions_of p w ws) blocks_there d)
  taken_is x y z k b o = clause_lies m p s cells i r plain (x ∷ y ∷ z ∷ sts) w (stands x y z) ws fits later_since blocks_there (since_there x y z) d k b o

  pub taken_lies : (k : CellKind) (b : ℕ) (o : ℤ) → lies_inside (taken k) (pos b) o ≡ lets_cell k (pos b) o (set_of (regions_of p w ws) blocks_there d)
  taken_lies k b o = taken_is some_state some_state some_state k b o

  pub taken_leave : (z : State) → LeaveIs m (of_regions (later_since ∷ []) gs) z sts taken
  taken_leave z = record {
    closed_news = refl;
    closed_regions = regions_closed m p s cells i r plain (some_state ∷ some_state ∷ some_state ∷ sts) w (stands some_state some_state some_state) ws fits;
    inside = λ k x present b o. taken_is (state (x ∷ []) []) present z k b o ∙ sym (taken_lies k b o);
  }

  pub taken_names : (x : code.Variable) → is_plain_variable p s x ≡ true → is_named (regions_of p w ws) (hidden_block p s cells x) ≡ has_variable ws x
  taken_names x h = names_so m p s cells i r plain (some_state ∷ some_state ∷ some_state ∷ sts) w (stands some_state some_state some_state) x h ws fits

  -- of a kind that no region has, cells of blocks that were there stay
  pub taken_stays : (k : CellKind) → some_has k gs ≡ false → (b : ℕ) (o : ℤ) → int_le blocks_there (pos b) ≡ false
      → lets_cell k (pos b) o (set_of (regions_of p w ws) blocks_there d) ≡ false
  taken_stays k none b o older =
      sym (taken_lies k b o)
      ∙ ap (λ gs. lies_inside (regions_at m (leaves_of (some_state ∷ some_state ∷ some_state ∷ sts)) (later_since ∷ []) gs) (pos b) o) (none_of_kind k gs none)
      ∙ or_none (int_le (sense.value m (leaves_of (some_state ∷ some_state ∷ some_state ∷ sts)) later_since) (pos b))
      ∙ ap (λ n. int_le n (pos b)) (since_there some_state some_state some_state) ∙ older

-- a cell that there is isn't newer than a table since which there are none of the kind
pub not_newer : (k : CellKind) (t u v : Table) → LacksSince k t u → SameBlocks u v → (b o : ℤ) → is_cell k v b o ≡ true → int_le (count t) b ≡ false
not_newer k t u v lacks same b o is =
    on_test (int_lt b (count t)) (λ h. not_le_test (count t) b (test_lt b (count t) h))
    (λ h. absurd (false≢true (sym (lacks b o h) ∙ ap (λ x. has_cell k (block_cells x) o) (sym (same.live b)) ∙ is)))
