-- Trees and their kids, in the words of the code.
use Rattle.std.proofs.Common.{◌≡◌, ◌<◌, Bool, false, List, [], ◌∷◌, ◌++◌, length, get_or, flat_map, Option, None, refl, sym, ap, subst, ◌∙◌, arith}
use Rattle.typed_prog.specs.declared.operators.Variable.{Variable}
use Rattle.acsl_trees.specs.declared.tree.Tree.{Tree as Code, out-Tree, roll-out-Tree}
use Rattle.acsl_trees.specs.Tree.{Trees, node, trees_of, view_tree, view_trees}
use Rattle.acsl_trees.proofs.Equations.{view_made}
use Rattle.c_runs.specs.Program as program
use Rattle.c_runs.specs.Program.{Facts}
use Rattle.program_cells.specs.declared.cells.Cells.{Cells}
use Rattle.program_cells.specs.Parts.{Part}
use Rattle.program_cells.specs.View.{Adds}
use Rattle.program_cells.proofs.Adding.{then}
use Rattle.program_cells.specs.Trees.{Declared, place, told, told_by, told_first, told_second, variable_of, plain_variable, is_plain_place, own_parts, tree_parts, all_tree_parts}

view_whole : (t : Code) → view_tree t ≡ node (out-Tree t).head (trees_of (view_trees (out-Tree t).kids))
view_whole t = ap view_tree (sym (roll-out-Tree t)) ∙ view_made (out-Tree t).head (out-Tree t).kids

abbrev kids_of : Code → Trees
kids_of t = trees_of (view_trees (out-Tree t).kids)

-- ---- what is told of kids

module _ (d : Declared) where
  pub told_whole : (t : Code) → told d (view_tree t) ≡ told_by d (out-Tree t).head (told_first d (kids_of t)) (told_second d (kids_of t))
  told_whole t = ap (told d) (view_whole t)

  pub first_is : (ks : List Code) (x : Code) → 0 < length ks → told_first d (trees_of (view_trees ks)) ≡ told d (view_tree (get_or ks 0 x))
  first_is [] x h = absurd (omega arith)
  first_is (k ∷ ks) x h = refl

  pub first_none : (ks : List Code) → length ks ≡ 0 → told_first d (trees_of (view_trees ks)) ≡ place None
  first_none [] h = refl
  first_none (k ∷ ks) h = absurd (omega arith)

  pub second_is : (ks : List Code) (x : Code) → 1 < length ks → told_second d (trees_of (view_trees ks)) ≡ told d (view_tree (get_or ks 1 x))
  second_is [] x h = absurd (omega arith)
  second_is (k ∷ []) x h = absurd (omega arith)
  second_is (k ∷ l ∷ ks) x h = refl

  pub second_none : (ks : List Code) → length ks < 2 → told_second d (trees_of (view_trees ks)) ≡ place None
  second_none [] h = refl
  second_none (k ∷ []) h = refl
  second_none (k ∷ l ∷ ks) h = absurd (omega arith)

pub ruleset told_laws = (told_whole, first_is, first_none, second_is, second_none)

-- ---- places

module _ (p : Facts) (xs : List program.Variable) where
  pub place_none : (ks : List Code) → length ks ≡ 0 → is_plain_place p xs (trees_of (view_trees ks)) ≡ false
  place_none [] h = refl
  place_none (k ∷ ks) h = absurd (omega arith)

  pub place_read : (ks : List Code) (x : Code) (r : Option Variable) (b : Bool) → (length ks ≡ 0 → ⊥) → x ≡ get_or ks 0 x → r ≡ variable_of (out-Tree x).head
      → b ≡ plain_variable p xs r → b ≡ is_plain_place p xs (trees_of (view_trees ks))
  place_read [] x r b some is role made = absurd (some refl)
  place_read (k ∷ ks) x r b some is role made =
      made ∙ ap (plain_variable p xs) role ∙ ap (λ t. is_plain_place p xs (trees_of (t ∷ view_trees ks))) (sym (view_whole x) ∙ ap view_tree is)

pub ruleset plain_laws = (place_none, place_read)

-- ---- parts

module _ (p : Facts) (xs : List program.Variable) (d : Declared) where
  pub parts_whole : (t : Code) → tree_parts p xs d (view_tree t) ≡ own_parts p xs d (out-Tree t).head (kids_of t) ++ all_tree_parts p xs d (kids_of t)
  parts_whole t = ap (tree_parts p xs d) (view_whole t)

  abbrev pub code_parts : Code → List Part
  code_parts t = tree_parts p xs d (view_tree t)

  pub parts_of_kids : (ks : List Code) → all_tree_parts p xs d (trees_of (view_trees ks)) ≡ flat_map code_parts ks
  parts_of_kids [] = refl
  parts_of_kids (k ∷ ks) = ap (λ ps. code_parts k ++ ps) (parts_of_kids ks)

  pub parts_of_list : (ks : List Code) → flat_map (tree_parts p xs d) (view_trees ks) ≡ flat_map code_parts ks
  parts_of_list [] = refl
  parts_of_list (k ∷ ks) = ap (λ ps. code_parts k ++ ps) (parts_of_list ks)

  -- a node's own parts were added, and then those of its kids
  pub tree_added : (t : Code) (ks : List Code) (a b c : Cells) → ks ≡ (out-Tree t).kids → Adds a b (own_parts p xs d (out-Tree t).head (trees_of (view_trees ks)))
      → Adds b c (all_tree_parts p xs d (trees_of (view_trees ks))) → Adds a c (tree_parts p xs d (view_tree t))
  tree_added t ks a b c is own kids =
      subst (Adds a c) (ap (λ us. own_parts p xs d (out-Tree t).head (trees_of (view_trees us)) ++ all_tree_parts p xs d (trees_of (view_trees us))) is ∙ sym (parts_whole t))
      (then a b c (own_parts p xs d (out-Tree t).head (trees_of (view_trees ks))) (all_tree_parts p xs d (trees_of (view_trees ks))) own kids)
