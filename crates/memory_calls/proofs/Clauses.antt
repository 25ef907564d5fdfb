-- A clause that was read somewhere, by the values of its terms: its formulas say what the set lets change, and its regions have the cells of the set.
use Rattle.std.proofs.Common.{◌≡◌, ℕ, ℤ, pos, Bool, true, false, ◌&&◌, ◌||◌, if◌then◌else◌, List, [], ◌∷◌, ◌++◌, map, refl, sym, ap, ap₂, ◌∙◌}
use Rattle.std.specs.Prelude.{int_le, int_lt}
use Rattle.std.specs.List.{list_all, list_any}
use Rattle.std.proofs.lemmas.Bool.{and_parts}
use Rattle.wp_base.specs.declared.kinds.CellKind.{CellKind}
use Rattle.wp_base.specs.Blocks.{count}
use Rattle.acsl_trees.specs.Tree as acsl
use Rattle.c_runs.specs.TruthStates as labelled
use Rattle.c_runs.specs.TruthStates.{Value}
use Rattle.acsl_encode.specs.Readings as annotation
use Rattle.acsl_encode.specs.Meaning.{HasAddress, Stands}
use Rattle.acsl_encode.specs.Told.{those}
use Rattle.qed_terms.specs.Meaning as sense
use Rattle.qed_terms.specs.Meaning.{value, truth, is_so, meanings, some_true}
use Rattle.qed_terms.specs.Tree.{Tree, trees_of, num, at_most}
use Rattle.c_runs.specs.Program.{Facts}
use Rattle.c_runs.specs.Claims.{regions_of, lets_cell}
use Rattle.c_runs.proofs.Numbers.{equal_is}
use Rattle.typed_memories.specs.Cells.{lies_inside}
use Rattle.typed_memories.proofs.Tests.{on_test, both_so}
use Rattle.memory_steps.specs.State.{State}
use Rattle.memory_words.specs.Leaves.{leaves_of, is_closed, are_closed, closed}
use Rattle.memory_words.proofs.Leaves.{leaves_are_held}
use Rattle.memory_words.specs.Shapes.{FileCells, Shape}
use Rattle.memory_words.specs.Readings.{InScope}
use Rattle.memory_words.specs.Seen.{state_of}
use Rattle.memory_words.specs.Regions.{RegionTree, regions_in, of_kind, has_kind, any_of, cell_in, cell_inside}
use Rattle.memory_words.specs.Sets.{since}
use Rattle.memory_words.specs.Typed.{AllOf}
use Rattle.memory_statements.specs.Renewed.{regions_at, is_closed_region}
use Rattle.memory_statements.specs.Regions.{set_of, HasCells, HasEnds, AreRegions, no_more, has_cells, is_variable}
use Rattle.memory_statements.proofs.StoreSets.{cells_inside}
use Rattle.memory_words.proofs.Valued.{closed_told}
use Rattle.memory_calls.specs.LoopFits.{SetRegion}
use Rattle.memory_calls.proofs.Regions.{ReadsPlain, regions_are, regions_closed}

-- ---- formulas that are closed

pub trees_closed : (fs : List Tree) → list_all (is_closed []) fs ≡ true → are_closed [] (trees_of fs) ≡ true
trees_closed [] h = refl
trees_closed (f ∷ fs) h =
    let both = and_parts (is_closed [] f) (list_all (is_closed []) fs) h in ap (λ b. b && are_closed [] (trees_of fs)) both.0 ∙ trees_closed fs both.1

pub any_closed : (fs : List Tree) → list_all (is_closed []) fs ≡ true → is_closed [] (any_of fs) ≡ true
any_closed [] h = refl
any_closed (f ∷ []) h = (and_parts (is_closed [] f) true h).0
any_closed (f ∷ g ∷ fs) h = trees_closed (f ∷ g ∷ fs) h

pub those_all : {X : Type 0} (f q : X → Bool) (xs : List X) → list_all f xs ≡ true → list_all f (those q xs) ≡ true
those_all f q [] h = refl
those_all f q (x ∷ xs) h =
    let both = and_parts (f x) (list_all f xs) h in
    on_test (q x)
    (λ t. ap (λ b. list_all f (if b then x ∷ those q xs else those q xs)) t ∙ both_so (f x) (list_all f (those q xs)) both.0 (those_all f q xs both.1))
    (λ t. ap (λ b. list_all f (if b then x ∷ those q xs else those q xs)) t ∙ those_all f q xs both.1)

module _ (b o : Tree) (closed_b : is_closed [] b ≡ true) (closed_o : is_closed [] o ≡ true) where
  cell_closed : (g : RegionTree) → is_closed_region g ≡ true → is_closed [] (cell_in b o g) ≡ true
  cell_closed g h =
      let x = and_parts (is_closed [] g.block && is_closed [] g.low) (is_closed [] g.high) h in
      let y = and_parts (is_closed [] g.block) (is_closed [] g.low) x.0 in
      λ j. (closed_b j && (y.0 j && true)) && ((y.1 j && (closed_o j && true)) && ((closed_o j && (x.1 j && true)) && true))

  cells_closed : (e : Tree) → is_closed [] e ≡ true → (gs : List RegionTree) → list_all is_closed_region gs ≡ true
      → list_all (is_closed []) (map (cell_in b o) gs ++ at_most e b ∷ []) ≡ true
  cells_closed e closed_e [] h = λ j. (closed_e j && (closed_b j && true)) && true
  cells_closed e closed_e (g ∷ gs) h =
      let both = and_parts (is_closed_region g) (list_all is_closed_region gs) h in
      both_so (is_closed [] (cell_in b o g)) (list_all (is_closed []) (map (cell_in b o) gs ++ at_most e b ∷ [])) (cell_closed g both.0) (cells_closed e closed_e gs both.1)

  pub inside_closed : (e : Tree) → is_closed [] e ≡ true → (gs : List RegionTree) → list_all is_closed_region gs ≡ true → (k : CellKind) → is_closed [] (cell_inside e gs k b o) ≡ true
  inside_closed e closed_e gs h k =
      any_closed (map (cell_in b o) (of_kind k gs) ++ at_most e b ∷ []) (cells_closed e closed_e (of_kind k gs) (those_all is_closed_region (has_kind k) gs h))

-- ---- how many blocks there were

pub since_is : (m : sense.World) (sts : List State) (l : ℕ) → value m (leaves_of sts) (since l) ≡ count (state_of sts l).table
since_is m sts l = ap count (leaves_are_held m sts l).table

-- ---- cells

module _ (m : sense.World) (env : sense.Values) where
  some_told : (fs : List Tree) → some_true (map is_so (meanings m env (trees_of fs))) ≡ list_any (truth m env) fs
  some_told [] = refl
  some_told (f ∷ fs) = ap (λ b. truth m env f || b) (some_told fs)

  or_none_else : (a : Bool) → (a || false) ≡ a
  or_none_else true = refl
  or_none_else false = refl

  any_told : (fs : List Tree) → truth m env (any_of fs) ≡ list_any (truth m env) fs
  any_told [] = refl
  any_told (f ∷ []) = sym (or_none_else (truth m env f))
  any_told (f ∷ g ∷ fs) = some_told (f ∷ g ∷ fs)

  regrouped : (a b c : Bool) → (a && (b && (c && true))) ≡ ((a && b) && c)
  regrouped true true true = refl
  regrouped true true false = refl
  regrouped true false c = refl
  regrouped false b c = refl

  -- a cell lies in the regions where its formula is true
  lies_told : (e : Tree) (gs : List RegionTree) (i : ℕ) (o : ℤ) → list_any (truth m env) (map (cell_in (num (pos i)) (num o)) gs ++ at_most e (num (pos i)) ∷ [])
      ≡ lies_inside (regions_at m env (e ∷ []) gs) (pos i) o
  lies_told e [] i o = refl
  lies_told e (g ∷ gs) i o = ap₂ (λ a b. a || b)
      (ap (λ t. t && (int_le (value m env g.low) o && (int_lt o (value m env g.high) && true))) (equal_is (pos i) (value m env g.block))
      ∙ regrouped _ (int_le (value m env g.low) o) (int_lt o (value m env g.high)))
      (lies_told e gs i o)

  -- so it does where the set lets it
  pub lies_is : (e : Tree) (gs : List RegionTree) (vs : List Value) → AreRegions (HasCells m env) gs vs → (n : ℤ) → value m env e ≡ n → (d : ℕ) (k : CellKind) (i : ℕ) (o : ℤ)
      → lies_inside (regions_at m env (e ∷ []) (of_kind k gs)) (pos i) o ≡ lets_cell k (pos i) o (set_of vs n d)
  lies_is e gs vs are n is_n d k i o =
      sym (any_told (map (cell_in (num (pos i)) (num o)) (of_kind k gs) ++ at_most e (num (pos i)) ∷ []) ∙ lies_told e (of_kind k gs) i o)
      ∙ cells_inside m env e gs vs are k (num (pos i)) (num o) refl d
      ∙ ap (λ n. lets_cell k (pos i) o (set_of vs n d)) is_n

pub cells_of_ends : (m : sense.World) (env : sense.Values) (gs : List RegionTree) (vs : List Value) → AreRegions (HasEnds m env) gs vs → AreRegions (HasCells m env) gs vs
cells_of_ends m env _ _ no_more = no_more
cells_of_ends m env _ _ (has_cells {g} {gs} {v} {vs} h more) = has_cells h.cells (cells_of_ends m env gs vs more)
cells_of_ends m env _ _ (is_variable {gs} {v} {vs} h more) = is_variable h (cells_of_ends m env gs vs more)

-- ---- a clause

module _ (m : sense.World) (p : Facts) (s : Shape) (cells : FileCells) (i : InScope) (r : acsl.Tree → annotation.Reading) (plain : ReadsPlain p s cells i r)
    (sts : List State) (w : labelled.World) (stands : (a : acsl.Tree) → Stands m (r a) (leaves_of sts) w) (rs : List acsl.Tree) (fits : AllOf (SetRegion m p s cells i r) rs) where
  abbrev env : sense.Values
  env = leaves_of sts

  abbrev gs : List RegionTree
  gs = regions_in r rs

  are_cells : AreRegions (HasCells m env) gs (regions_of p w rs)
  are_cells = cells_of_ends m env gs (regions_of p w rs) (regions_are m p s cells i r plain sts w stands rs fits)

  -- its regions have the cells that it lets change
  pub clause_lies : (e : Tree) (n : ℤ) → value m env e ≡ n → (d : ℕ) (k : CellKind) (b : ℕ) (o : ℤ)
      → lies_inside (regions_at m env (e ∷ []) (of_kind k gs)) (pos b) o ≡ lets_cell k (pos b) o (set_of (regions_of p w rs) n d)
  clause_lies e n is_n d k b o = lies_is m env e gs (regions_of p w rs) are_cells n is_n d k b o

  -- and its formula says so of a cell
  pub clause_told : (e : Tree) → is_closed [] e ≡ true → (n : ℤ) → value m env e ≡ n → (d : ℕ) (k : CellKind) (b o : Tree) → is_closed [] b ≡ true → is_closed [] o ≡ true
      → HasAddress (value m env b) → truth m env (closed (cell_inside e gs k b o)) ≡ lets_cell k (value m env b) (value m env o) (set_of (regions_of p w rs) n d)
  clause_told e closed_e n is_n d k b o closed_b closed_o address =
      closed_told m sts (cell_inside e gs k b o) (inside_closed b o closed_b closed_o e closed_e gs (regions_closed m p s cells i r plain sts w stands rs fits) k)
      ∙ cells_inside m env e gs (regions_of p w rs) are_cells k b o address d
      ∙ ap (λ n. lets_cell k (value m env b) (value m env o) (set_of (regions_of p w rs) n d)) is_n
