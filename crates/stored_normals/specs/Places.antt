-- What is wanted of kids, as the places of well formed trees.
use Rattle.std.specs.Prelude.{ℕ, ◌+◌, Bool, List, [], ◌∷◌, map, length}
use Rattle.qed_terms.specs.declared.head.Shape.{Shape}
use Rattle.qed_terms.specs.declared.head.Shape.TheVariants as shape
use Rattle.qed_terms.specs.Tree.{Tree, trees_of}
use Rattle.qed_terms.specs.WellFormed.{Place, int, mem, tab, formula, argument, each, all_fit}
use Rattle.stored_normals.specs.declared.places.Wanted.{Wanted}
use Rattle.stored_normals.specs.declared.places.Wanted.TheVariants as wants

abbrev pub wanted : Wanted → Place
wanted wants.Int = int
wanted wants.Memory = mem
wanted wants.Table = tab
wanted wants.Formula = formula
wanted wants.Argument = argument

-- how many terms a region has
abbrev pub shape_count : Shape → ℕ
shape_count shape.Cells = 3
shape_count shape.New = 1

abbrev pub region_count : List Shape → ℕ
region_count [] = 0
region_count (s ∷ shapes) = shape_count s + region_count shapes

-- what the ids stand for fits places of one kind
abbrev pub each_fit : {Id : Type 0} → (Id → Tree) → Place → List Id → Bool
each_fit tree p ids = all_fit (each p (length ids)) (trees_of (map tree ids))

-- for each place there is an id, and what it stands for fits it
abbrev pub placed_fit : {Id : Type 0} → (Id → Tree) → List Wanted → List Id → Bool
placed_fit tree places ids = all_fit (map wanted places) (trees_of (map tree ids))
