-- What is asked before a cell is written depends on the values of its address alone.
use Rattle.std.proofs.Common.{◌≡◌, ℕ, Bool, true, false, ◌&&◌, ◌||◌, not, List, [], ◌∷◌, ◌++◌, map, Option, Some, None, refl, ap, ap₂, ◌∙◌}
use Rattle.wp_base.specs.declared.kinds.CellKind.{CellKind}
use Rattle.acsl_trees.specs.Tree as acsl
use Rattle.acsl_encode.specs.Encode.{all_of}
use Rattle.qed_terms.specs.Meaning as sense
use Rattle.qed_terms.specs.Meaning.{Value, Truth, meaning, meanings, truth, value, each_true, some_true, is_so}
use Rattle.qed_terms.specs.Tree.{Tree, num, at_most, and_of, or_of, trees_of}
use Rattle.c_runs.specs.Program.{Behavior, Contract, Facts}
use Rattle.memory_steps.specs.State.{State}
use Rattle.memory_words.specs.Leaves.{is_closed, are_closed, closed, or_false, leaves_of}
use Rattle.memory_words.specs.Shapes.{FileCells, Shape}
use Rattle.memory_words.specs.Readings.{Texts, Standpoint, body_reading}
use Rattle.memory_words.specs.Points.{Force, of_function, of_loop, Open, Out, Point}
use Rattle.memory_words.specs.Regions.{RegionTree, regions_in, of_kind, any_of, cell_in, cell_inside}
use Rattle.memory_words.specs.Sets.{under, as_one, since, assumed_at, entry_at, set_tree, clause_trees, all_clause_trees, cell_trees}
use Rattle.memory_words.specs.Placed.{all_told}

module _ (m : sense.World) (sts : List State) where
  -- the two formulas are closed at once, and mean the same
  pub record Alike (f g : Tree) : Type 0 where
    pub closed : is_closed [] f ≡ is_closed [] g
    pub meaning : meaning m (leaves_of sts) f ≡ meaning m (leaves_of sts) g

  alike_own : (f : Tree) → Alike f f
  alike_own f = record { closed = refl; meaning = refl }

  abbrev AllAlike : List Tree → List Tree → Type 0
  AllAlike [] [] = Unit {0}
  AllAlike [] (g ∷ gs) = ⊥
  AllAlike (f ∷ fs) [] = ⊥
  AllAlike (f ∷ fs) (g ∷ gs) = Alike f g × AllAlike fs gs

  lists_closed : (fs gs : List Tree) → AllAlike fs gs → are_closed [] (trees_of fs) ≡ are_closed [] (trees_of gs)
  lists_closed [] [] h = refl
  lists_closed [] (g ∷ gs) h = absurd h
  lists_closed (f ∷ fs) [] h = absurd h
  lists_closed (f ∷ fs) (g ∷ gs) h = ap₂ (λ a b. a && b) h.0.closed (lists_closed fs gs h.1)

  lists_mean : (fs gs : List Tree) → AllAlike fs gs → meanings m (leaves_of sts) (trees_of fs) ≡ meanings m (leaves_of sts) (trees_of gs)
  lists_mean [] [] h = refl
  lists_mean [] (g ∷ gs) h = absurd h
  lists_mean (f ∷ fs) [] h = absurd h
  lists_mean (f ∷ fs) (g ∷ gs) h = ap₂ (λ v vs. v ∷ vs) h.0.meaning (lists_mean fs gs h.1)

  and_alike : (fs gs : List Tree) → AllAlike fs gs → Alike (and_of fs) (and_of gs)
  and_alike fs gs h = record { closed = lists_closed fs gs h; meaning = ap (λ vs. Truth (each_true (map is_so vs))) (lists_mean fs gs h) }

  or_alike : (fs gs : List Tree) → AllAlike fs gs → Alike (or_of fs) (or_of gs)
  or_alike fs gs h = record { closed = lists_closed fs gs h; meaning = ap (λ vs. Truth (some_true (map is_so vs))) (lists_mean fs gs h) }

  all_alike : (fs gs : List Tree) → AllAlike fs gs → Alike (all_of fs) (all_of gs)
  all_alike [] [] h = record { closed = refl; meaning = refl }
  all_alike [] (g ∷ gs) h = absurd h
  all_alike (f ∷ fs) [] h = absurd h
  all_alike (f ∷ []) (g ∷ []) h = h.0
  all_alike (f ∷ []) (g ∷ g' ∷ gs) h = absurd h.1
  all_alike (f ∷ f' ∷ fs) (g ∷ []) h = absurd h.1
  all_alike (f ∷ f' ∷ fs) (g ∷ g' ∷ gs) h = and_alike (f ∷ f' ∷ fs) (g ∷ g' ∷ gs) h

  any_alike : (fs gs : List Tree) → AllAlike fs gs → Alike (any_of fs) (any_of gs)
  any_alike [] [] h = record { closed = refl; meaning = refl }
  any_alike [] (g ∷ gs) h = absurd h
  any_alike (f ∷ fs) [] h = absurd h
  any_alike (f ∷ []) (g ∷ []) h = h.0
  any_alike (f ∷ []) (g ∷ g' ∷ gs) h = absurd h.1
  any_alike (f ∷ f' ∷ fs) (g ∷ []) h = absurd h.1
  any_alike (f ∷ f' ∷ fs) (g ∷ g' ∷ gs) h = or_alike (f ∷ f' ∷ fs) (g ∷ g' ∷ gs) h

  under_alike : (plain : Bool) (a f g : Tree) → Alike f g → Alike (under plain a f) (under plain a g)
  under_alike true a f g h = h
  under_alike false a f g h = record {
    closed = ap (λ t. is_closed [] a && (t && true)) h.closed;
    meaning = ap (λ v. Truth (not (truth m (leaves_of sts) a) || is_so v)) h.meaning;
  }

  both_alike : (fs gs fs' gs' : List Tree) → AllAlike fs gs → AllAlike fs' gs' → AllAlike (fs ++ fs') (gs ++ gs')
  both_alike [] [] fs' gs' h k = k
  both_alike [] (g ∷ gs) fs' gs' h k = absurd h
  both_alike (f ∷ fs) [] fs' gs' h k = absurd h
  both_alike (f ∷ fs) (g ∷ gs) fs' gs' h k = (h.0, both_alike fs gs fs' gs' h.1 k)

  one_alike : (fs gs : List Tree) → AllAlike fs gs → AllAlike (as_one fs) (as_one gs)
  one_alike [] [] h = tt
  one_alike [] (g ∷ gs) h = absurd h
  one_alike (f ∷ fs) [] h = absurd h
  one_alike (f ∷ fs) (g ∷ gs) h = (all_alike (f ∷ fs) (g ∷ gs) h, tt)

  truth_alike : (f g : Tree) → Alike f g → truth m (leaves_of sts) (closed f) ≡ truth m (leaves_of sts) (closed g)
  truth_alike f g h = by (is_closed [] f) ∙ ap (λ t. truth m (leaves_of sts) (or_false t g)) h.closed where
    by : (b : Bool) → truth m (leaves_of sts) (or_false b f) ≡ truth m (leaves_of sts) (or_false b g)
    by true = ap is_so h.meaning
    by false = refl

  told_alike : (fs gs : List Tree) → AllAlike fs gs → all_told m sts fs ≡ all_told m sts gs
  told_alike [] [] h = refl
  told_alike [] (g ∷ gs) h = absurd h
  told_alike (f ∷ fs) [] h = absurd h
  told_alike (f ∷ fs) (g ∷ gs) h = ap₂ (λ a b. a && b) (truth_alike f g h.0) (told_alike fs gs h.1)

  -- ---- an address, and the numbers of its values

  module _ (b o : Tree) (closed_b : is_closed [] b ≡ true) (closed_o : is_closed [] o ≡ true) where
    abbrev x : Tree
    x = num (value m (leaves_of sts) b)

    abbrev y : Tree
    y = num (value m (leaves_of sts) o)

    cell_alike : (g : RegionTree) → Alike (cell_in b o g) (cell_in x y g)
    cell_alike g = record {
      closed = ap₂ (λ s t. (s && (is_closed [] g.block && true)) && ((is_closed [] g.low && (t && true)) && ((t && (is_closed [] g.high && true)) && true))) closed_b closed_o;
      meaning = refl;
    }

    newer_alike : (e : Tree) → Alike (at_most e b) (at_most e x)
    newer_alike e = record { closed = ap (λ s. is_closed [] e && (s && true)) closed_b; meaning = refl }

    inside_alike : (e : Tree) (gs : List RegionTree) (k : CellKind) → Alike (cell_inside e gs k b o) (cell_inside e gs k x y)
    inside_alike e gs k =
        any_alike (map (cell_in b o) (of_kind k gs) ++ at_most e b ∷ []) (map (cell_in x y) (of_kind k gs) ++ at_most e x ∷ [])
        (both_alike (map (cell_in b o) (of_kind k gs)) (map (cell_in x y) (of_kind k gs)) (at_most e b ∷ []) (at_most e x ∷ []) (each (of_kind k gs)) (newer_alike e, tt))
      where
        each : (gs : List RegionTree) → AllAlike (map (cell_in b o) gs) (map (cell_in x y) gs)
        each [] = tt
        each (g ∷ gs) = (cell_alike g, each gs)

    module _ (p : Facts) (s : Shape) (cells : FileCells) (texts : Texts) where
      clause_alike : (sp : Standpoint) (plain : Bool) (c : Behavior) (as_ : Option (List acsl.Tree)) (k : CellKind)
          → AllAlike (clause_trees p s cells texts sp plain c as_ k b o) (clause_trees p s cells texts sp plain c as_ k x y)
      clause_alike sp plain c None k = tt
      clause_alike sp plain c (Some as_) k = (
        under_alike plain (assumed_at p s cells texts sp c) (set_tree p s cells texts sp (entry_at p s cells texts sp) as_ sp.entry k b o)
            (set_tree p s cells texts sp (entry_at p s cells texts sp) as_ sp.entry k x y) (inside_alike (since sp.entry) (regions_in (entry_at p s cells texts sp) as_) k),
        tt,
      )

      clauses_alike : (sp : Standpoint) (cs : List Behavior) (k : CellKind)
          → AllAlike (all_clause_trees p s cells texts sp cs k b o) (all_clause_trees p s cells texts sp cs k x y)
      clauses_alike sp [] k = tt
      clauses_alike sp (c ∷ cs) k =
          both_alike (clause_trees p s cells texts sp false c c.assigns k b o) (clause_trees p s cells texts sp false c c.assigns k x y)
          (all_clause_trees p s cells texts sp cs k b o) (all_clause_trees p s cells texts sp cs k x y) (clause_alike sp false c c.assigns k) (clauses_alike sp cs k)

      trees_alike : (c : Contract) (self : ℕ) (sp : Standpoint) (os : List Open) (outs : List Out) (force : Force) (k : CellKind)
          → AllAlike (cell_trees p s cells texts c (record { self = self; stands = sp; scopes = os; outs = outs; force = force }) k b o)
          (cell_trees p s cells texts c (record { self = self; stands = sp; scopes = os; outs = outs; force = force }) k x y)
      trees_alike c self sp os outs of_function k =
          one_alike (clause_trees p s cells texts sp true c.plain c.plain.assigns k b o ++ all_clause_trees p s cells texts sp c.behaviors k b o)
          (clause_trees p s cells texts sp true c.plain c.plain.assigns k x y ++ all_clause_trees p s cells texts sp c.behaviors k x y)
          (both_alike (clause_trees p s cells texts sp true c.plain c.plain.assigns k b o) (clause_trees p s cells texts sp true c.plain c.plain.assigns k x y)
          (all_clause_trees p s cells texts sp c.behaviors k b o) (all_clause_trees p s cells texts sp c.behaviors k x y) (clause_alike sp true c.plain c.plain.assigns k)
          (clauses_alike sp c.behaviors k))
      trees_alike c self sp os outs (of_loop q rs d) k = (inside_alike (since q.here) (regions_in (body_reading p s cells texts q) rs) k, tt)

      pub told_by_values : (c : Contract) (pt : Point) (k : CellKind) → all_told m sts (cell_trees p s cells texts c pt k b o) ≡ all_told m sts (cell_trees p s cells texts c pt k x y)
      told_by_values c pt k =
          told_alike (cell_trees p s cells texts c pt k b o) (cell_trees p s cells texts c pt k x y) (trees_alike c pt.self pt.stands pt.scopes pt.outs pt.force k)
