-- Nodes of several trees in which a name is meant.
use Rattle.std.specs.Prelude.{ℕ, List, [], ◌∷◌, ◌++◌}
use Rattle.qed_terms.specs.Tree.{Tree}
use Rattle.instance_rows.specs.Triggers.{nodes_with}

abbrev pub nodes_each : List ℕ → List Tree → List Tree
nodes_each x [] = []
nodes_each x (t ∷ ts) = nodes_with x t ++ nodes_each x ts
