-- Lists of trees as the kids of a node.
use Rattle.std.proofs.Common.{◌≡◌, List, [], ◌∷◌, map, length, refl, ap}
use Rattle.qed_terms.specs.Tree.{Tree, Trees, stop, more, trees_of, list_of}
use Rattle.qed_terms.specs.Meaning.{World, Values, meaning, meanings}

pub list_of-trees_of : (ts : List Tree) → list_of (trees_of ts) ≡ ts
list_of-trees_of [] = refl
list_of-trees_of (t ∷ ts) = ap (λ us. t ∷ us) (list_of-trees_of ts)

pub trees_of-list_of : (ts : Trees) → trees_of (list_of ts) ≡ ts
trees_of-list_of stop = refl
trees_of-list_of (more t ts) = ap (λ us. more t us) (trees_of-list_of ts)

pub meanings-trees_of : (w : World) (env : Values) (ts : List Tree) → meanings w env (trees_of ts) ≡ map (meaning w env) ts
meanings-trees_of w env [] = refl
meanings-trees_of w env (t ∷ ts) = ap (λ vs. meaning w env t ∷ vs) (meanings-trees_of w env ts)

pub length-list_of : (ts : List Tree) → length (list_of (trees_of ts)) ≡ length ts
length-list_of ts = ap length (list_of-trees_of ts)
