use Rattle.std.proofs.Common.{◌≡◌, ◌++◌, map, drop}
use Rattle.goal_words.specs.Kinds.{cell_text}
use Rattle.goal_text.specs.Text.{spaced}
use Rattle.goal_text.proofs.write.put_cells.Given as goal

-- what is written and what is to come are the whole
abbrev pub invariant-loop-cell : goal.invariant-loop-cell
invariant-loop-cell l = l.text.items ++ spaced (map cell_text (drop l.cell-index l.cells)) ≡ l.fn.text.items ++ spaced (map cell_text l.cells)
