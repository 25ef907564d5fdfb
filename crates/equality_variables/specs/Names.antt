-- Names that are free in one of several trees.
use Rattle.std.specs.Prelude.{ℕ, Bool, false, ◌||◌, List, [], ◌∷◌}
use Rattle.qed_terms.specs.declared.head.Sort.{Sort}
use Rattle.qed_terms.specs.Tree.{Tree}
use Rattle.qed_terms.specs.Free.{is_free}

abbrev pub free_in : List ℕ → Sort → List Tree → Bool
free_in x s [] = false
free_in x s (t ∷ ts) = is_free x s t || free_in x s ts
