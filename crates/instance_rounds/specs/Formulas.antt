-- The formulas of a round, part by part.
use Rattle.std.specs.Prelude.{◌≡◌, List, ◌++◌}
use Rattle.qed_terms.specs.Setting.{Setting}
use Rattle.qed_terms.specs.Tree.{Tree}
use Rattle.instance_rows.specs.Round.{formulas}
use Rattle.instance_rounds.specs.Given.{AreGiven}
use Rattle.instance_rounds.specs.Steps.{rows_in_order}

-- those of the rows at nodes, and then those on offsets
unfoldable pub rows_of : Setting → (literals occurring on_offsets : List Tree) → List Tree
rows_of s ls ts on_offsets = rows_in_order s.long_bits ls ts ++ on_offsets

-- all formulas of a round over these literals and what occurs, in order
pub record AreFormulas (s : Setting) (ls ts fs : List Tree) : Type 0 where
  pub on_offsets : List Tree
  pub of_foralls : List Tree
  pub given : AreGiven s.logic ls ts on_offsets of_foralls
  pub in_order : fs ≡ formulas s ls ts on_offsets of_foralls
