-- Each annotation of a table is given names of C.
use Rattle.std.proofs.Common.{◌≡◌, Bool, true, false, if◌then◌else◌, List, [], ◌∷◌, refl}
use Rattle.std.proofs.lemmas.Bool.{and_parts}
use Rattle.acsl_trees.specs.Tree.{Tree}
use Rattle.plain_annotations.specs.Names.{are_c_names}
use Rattle.binder_names.specs.Trees.{same_tree}
use Rattle.binder_names.specs.Tables.{Named, named_in, has_names, is_named_table, NamesFit}

pub names_fit : NamesFit
names_fit [] h a = refl
names_fit (x ∷ xs) h a = let e = and_parts (has_names x) (is_named_table xs) h in by (same_tree x.tree a) e.0 (names_fit xs e.1 a)
  where
    by : (b : Bool) → are_c_names x.binders ≡ true → are_c_names (named_in xs a) ≡ true → are_c_names (if b then x.binders else named_in xs a) ≡ true
    by true first rest = first
    by false first rest = rest
