-- Whether a formula is old, by the mark of its place.
use Rattle.std.proofs.Common.{◌≡◌, ℕ, ◌<◌, Bool, true, false, ◌||◌, List, map, length, get_or, refl, sym, ◌∙◌, ap}
use Rattle.std.specs.Prelude.{Option}
use Rattle.qed_terms.specs.declared.head.Head.{Head}
use Rattle.qed_terms.specs.Order.{same}
use Rattle.qed_terms.specs.Tree.{Tree, true_tree}
use Rattle.qed_rules.specs.Rules.{among}
use Rattle.tree_places.specs.Tables.{Node, tree_at, IsTable, Grows}
use Rattle.branch_occurrences.specs.Marked.{AreMarked}
use Rattle.branch_occurrences.proofs.FirstPlaces.{still_marked, mark_tells}
use Rattle.instance_rows.specs.Round.{is_old}

or_true : (a : Bool) → a || true ≡ true
or_true true = refl
or_true false = refl

module _ {Id : Type 0} (tree : Id → Tree) (ns ms : List Node) (number number' : Head → Option ℕ) (find find' : List ℕ → Option ℕ) (t : IsTable ns number find) (t' : IsTable ms number' find') (g : Grows ns ms)
    (p : ℕ) (id : Id) (below : p < length ms) (is : tree_at ms p ≡ tree id) (ids : List Id) (marks : List Bool) (r : AreMarked tree ns ids marks) where
  told : (b : Bool) → b ≡ get_or marks p false → among (tree id) (map tree ids) ≡ b
  told b e = ap (λ u. among u (map tree ids)) (sym is) ∙ mark_tells ms number' find' t' tree ids marks p b (still_marked ns ms number find t g tree ids marks r) below e

  pub old_marked : true ≡ get_or marks p false → is_old (map tree ids) (tree id) ≡ true
  old_marked e = ap (λ b. same true_tree (tree id) || b) (told true e) ∙ or_true (same true_tree (tree id))

  pub new_unmarked : same true_tree (tree id) ≡ false → false ≡ get_or marks p false → (is_old (map tree ids) (tree id) ≡ false) × (p < length ms) × (tree_at ms p ≡ tree id)
  new_unmarked s e = ((λ i. s i || told false e i), below, is)

pub old_true : (there : List Tree) (t : Tree) → same true_tree t ≡ true → is_old there t ≡ true
old_true there t e = ap (λ b. b || among t there) e
