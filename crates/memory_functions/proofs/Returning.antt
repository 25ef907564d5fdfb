-- What slots hold where a body has ended, and its parameters' blocks with it.
use Rattle.std.proofs.Common.{◌≡◌, ◌<◌, ◌≤◌, ℕ, zero, suc, ◌+◌, ℤ, pos, Bool, true, false, ◌&&◌, List, [], ◌∷◌, length, Option, Some, None, slice_get, refl, sym, ap, ◌∙◌, subst, arith}
use Rattle.std.specs.Prelude.{int_le, int_lt, neg_ℤ}
use Rattle.std.proofs.lemmas.Int.{ints}
use Rattle.std.proofs.lemmas.Bool.{false≢true, and_parts}
use Rattle.wp_base.specs.declared.kinds.CellKind.{CellKind}
use Rattle.wp_base.specs.declared.kinds.CellKind.TheVariants as cell
use Rattle.wp_base.specs.Blocks.{Table, count, grow}
use Rattle.typed_prog.specs.declared.operators.Variable.TheVariants as variables
use Rattle.qed_terms.specs.Meaning as sense
use Rattle.c_runs.specs.TruthStates.{Value, number, pointer, addresses, region}
use Rattle.c_runs.specs.Program.{Variable, Function, Facts}
use Rattle.c_runs.specs.States.{World, Memory, with_memory, plain_globals}
use Rattle.c_runs.specs.Entry.{is_value}
use Rattle.c_runs.specs.Scopes.{arrived, ended_since, is_content}
use Rattle.c_runs.specs.CoreRun.{CoreWorld, in_world}
use Rattle.c_runs.specs.Tree.{Steps}
use Rattle.goal_segments.specs.RunSegments.{behind_call}
use Rattle.goal_segments.specs.Segments.{SameBlocks, IsResult}
use Rattle.run_blocks.proofs.Good.{good_shaped}
use Rattle.typed_memories.proofs.Tests.{on_test, both_so}
use Rattle.typed_memories.proofs.Tables.{below_more, grown_count, count_grows, test_not_le}
use Rattle.c_kinds.proofs.Converting.{test_le, le_test}
use Rattle.program_steps.specs.Temporaries.{Temporaries}
use Rattle.memory_steps.specs.State.{State}
use Rattle.memory_steps.specs.Run.{put_back}
use Rattle.memory_words.specs.Places.{Place, value, offset, result, result_offset, numbers, blocks, offsets, IsIn, held, number_in, number_at}
use Rattle.memory_words.proofs.Lists.{found_below}
use Rattle.memory_words.specs.Shapes.{FileCells, Shape, sizes, kind_of}
use Rattle.memory_words.specs.Standing.{IsHeldAs, NumbersAre, PointersAre, FileStands, Frame, StandsFor}
use Rattle.memory_words.proofs.Contents.{content_is}
use Rattle.memory_words.specs.Words.{has_home, slots_of}
use Rattle.memory_words.specs.Placed.{frame_behind, ended_all}
use Rattle.memory_statements.proofs.Ending.{nothing_ends}
use Rattle.memory_functions.specs.GoalFunctions.{numbers_from}
use Rattle.memory_functions.specs.FunctionFunctions.{ArrivedAs, ReturnsAs, body_frame}
use Rattle.memory_functions.proofs.Homes.{IsElse, AllBelow, back_elsewhere}
use Rattle.memory_functions.proofs.Placing.{opened_of}

-- ---- values where there are more blocks

reflexive : (z : ℤ) → int_le z z ≡ true
reflexive z = le_test z z (omega (arith, ints))

grows_past : (t : Table) (z : ℤ) → int_le z (count (grow t z)) ≡ true
grows_past t z = on_test (int_le (count t) z) (λ e. ap (int_le z) (grown_count t z e) ∙ reflexive z)
    (λ e. let x = test_not_le (count t) z e in let y = test_le (count t) (count (grow t z)) (count_grows t z) in le_test z (count (grow t z)) (omega (arith, ints, x, y)))

value_more : (p : Facts) (t u : Table) → int_le (count t) (count u) ≡ true → (k : CellKind) (v : Value) → is_value p t k v ≡ true → is_value p u k v ≡ true
value_more p t u more (cell.Of k) (number z) h = h
value_more p t u more (cell.Of k) (pointer b o) h = absurd (false≢true h)
value_more p t u more (cell.Of k) (addresses s) h = absurd (false≢true h)
value_more p t u more (cell.Of k) (region cells s) h = absurd (false≢true h)
value_more p t u more cell.Ptr (number z) h = absurd (false≢true h)
value_more p t u more cell.Ptr (pointer b o) h =
    let both = and_parts (int_lt b (count t)) (int_le (neg_ℤ (pos (plain_globals p))) b) h in
    both_so (int_lt b (count u)) (int_le (neg_ℤ (pos (plain_globals p))) b) (below_more b (count t) (count u) both.0 more) both.1
value_more p t u more cell.Ptr (addresses s) h = absurd (false≢true h)
value_more p t u more cell.Ptr (region cells s) h = absurd (false≢true h)

pub result_more : (p : Facts) (t u : Table) → int_le (count t) (count u) ≡ true → (k : Option CellKind) (v : Value) → IsResult p t k v → IsResult p u k v
result_more p t u more (Some k) v h = (value_more p t u more k v h.0, h.1)
result_more p t u more None v h = h

-- what is a value of the kind is one in whatever table, if it is a number
pub kind_content : (p : Facts) (n n' : ℤ) (k : CellKind) (v : Value) → (k ≡ cell.Ptr → n ≡ n') → is_content p n k v ≡ true → is_content p n' k v ≡ true
kind_content p n n' cell.Ptr v same h = ap (λ n. is_content p n cell.Ptr v) (sym (same refl)) ∙ h
kind_content p n n' (cell.Of k) (number z) same h = h
kind_content p n n' (cell.Of k) (pointer b o) same h = absurd (false≢true h)
kind_content p n n' (cell.Of k) (addresses s) same h = absurd (false≢true h)
kind_content p n n' (cell.Of k) (region cells s) same h = absurd (false≢true h)

-- ---- behind the body

module _ (p : Facts) (s : Shape) (cells : FileCells) (f : Function Steps) (vs : List Value) (w : World) (at_body : State) (arrives : ArrivedAs p s cells f vs w at_body) where
  abbrev params : List ℕ
  params = numbers_from 0 f.params

  abbrev fr : Frame
  fr = body_frame f.params (arrived s.variables vs w).memory.blocks arrives.homes

  abbrev Behind : Bool → Temporaries → CoreWorld → State → Type 0
  Behind t g c st' =
      StandsFor p s cells (frame_behind fr (opened_of w t)) g (in_world c (with_memory (ended_all (opened_of w t) c.world.memory) c.world)) st'

  file_behind : (t : Bool) → has_home s.variables params ≡ t → (g : Temporaries) (c : CoreWorld) (st' : State) → Behind t g c st'
      → FileStands p s cells (ended_since w.memory c.world.memory) st'
  file_behind true h g c st' stands = record {
    good = stands.good;
    table_is = stands.table_is;
    numbers_are = stands.numbers_are;
    pointers_are = stands.pointers_are;
    globals = stands.globals;
  }
  file_behind false h g c st' stands =
      subst (λ n. FileStands p s cells n st')
      (sym (nothing_ends w.memory c.world.memory (good_shaped p c.world.memory stands.good) (subst (λ t. SameBlocks t c.world.memory.blocks) (arrives.none h) stands.blocks_are)))
      (record {
        good = stands.good;
        table_is = stands.table_is;
        numbers_are = stands.numbers_are;
        pointers_are = stands.pointers_are;
        globals = stands.globals;
      })

  pub back_as : (t : Bool) → has_home s.variables params ≡ t → (g : Temporaries) (c : CoreWorld) (v : Value) (st' : State) → Behind t g c st'
      → IsResult p c.world.memory.blocks s.result v
      → ((k : CellKind) → s.result ≡ Some k → IsHeldAs k v (number_at (sizes p s) st' result) (number_at (sizes p s) st' result_offset))
      → ReturnsAs p s cells v (behind_call w c.world).memory st'
  back_as t h g c v st' stands given slot = record {
    file = file_behind t h g c st' stands;
    given = result_more p c.world.memory.blocks (grow w.memory.blocks (count c.world.memory.blocks)) (grows_past w.memory.blocks (count c.world.memory.blocks)) s.result v given;
    slot = slot;
  }

-- ---- places of parameters that are put back

module _ (m : sense.World) (p : Facts) (s : Shape) (cells : FileCells) (old : State) (ys : List ℕ) (below : AllBelow (length s.variables) ys) (st' : State) where
  abbrev again : State
  again = put_back (slots_of m (sizes p s) ys) old st'

  same_at : (a : Place) → IsIn (sizes p s) a → IsElse a → held (sizes p s) again a ≡ held (sizes p s) st' a
  same_at a there else_ = back_elsewhere m (sizes p s) old a there else_ ys below st'

  number_same : (a : Place) → IsIn (sizes p s) a → IsElse a → number_at (sizes p s) again a ≡ number_at (sizes p s) st' a
  number_same a there else_ = ap number_in (same_at a there else_)

  two_same : (k : CellKind) (v : Value) (a b : Place) → number_at (sizes p s) again a ≡ number_at (sizes p s) st' a → number_at (sizes p s) again b ≡ number_at (sizes p s) st' b
      → IsHeldAs k v (number_at (sizes p s) st' a) (number_at (sizes p s) st' b) → IsHeldAs k v (number_at (sizes p s) again a) (number_at (sizes p s) again b)
  two_same k v a b e d h =
      subst (λ x. IsHeldAs k v x (number_at (sizes p s) again b)) (sym e) (subst (λ y. IsHeldAs k v (number_at (sizes p s) st' a) y) (sym d) h)

  pub put_back_as : (v : Value) (n : Memory) → ReturnsAs p s cells v n st' → ReturnsAs p s cells v n again
  put_back_as v n h = record {
    file = record {
      good = h.file.good;
      table_is = h.file.table_is;
      numbers_are = λ k has. subst (NumbersAre n k) (sym (same_at (numbers k) tt (λ x. ((λ e. cc), (λ e. cc), (λ e. cc))))) (h.file.numbers_are k has);
      pointers_are = λ has. subst (λ d. PointersAre n d (held (sizes p s) again offsets)) (sym (same_at blocks tt (λ x. ((λ e. cc), (λ e. cc), (λ e. cc)))))
          (subst (λ d. PointersAre n (held (sizes p s) st' blocks) d) (sym (same_at offsets tt (λ x. ((λ e. cc), (λ e. cc), (λ e. cc))))) (h.file.pointers_are has));
      globals = λ x v e plain. let l = found_below p.globals x v e in
          two_same (kind_of v) _ (value (variables.Global x)) (offset (variables.Global x))
          (number_same (value (variables.Global x)) l (λ x. ((λ e. cc), (λ e. cc), (λ e. cc)))) (number_same (offset (variables.Global x)) l (λ x. ((λ e. cc), (λ e. cc), (λ e. cc))))
          (h.file.globals x v e plain);
    };
    given = h.given;
    slot = λ k e. two_same k v result result_offset (number_same result tt (λ x. ((λ e. cc), (λ e. cc), (λ e. cc))))
        (number_same result_offset tt (λ x. ((λ e. cc), (λ e. cc), (λ e. cc)))) (h.slot k e);
  }
