-- How logic functions are called, by what their bodies read (ACSL 2.6.3).
use Rattle.std.specs.Prelude.{ℕ, suc, Bool, List, length}
use Rattle.acsl_expand.specs.Expansion.{Definition}
use Rattle.acsl_encode.specs.Readings.{Global, Called}
use Rattle.acsl_encode.specs.Told.{Spelling, number_of, reads_first, those, every_cell}
use Rattle.logic_trees.specs.Asking.{asks}
use Rattle.logic_trees.specs.declared.questions.Asked.{Asked}
use Rattle.logic_trees.specs.declared.questions.Asked.TheVariants as asked

-- of the function with this number, where so many variables are those of the file
abbrev pub reads_at : (globals : ℕ) → List Definition → (number : ℕ) → Asked → Bool
reads_at g ds n a = reads_first (asks g a) ds (suc n) n

abbrev pub told_with : Spelling → List Global → List Definition → (number : ℕ) → Called
told_with s gs ds n = record {
  name = s.name;
  params = s.params;
  memories = those (λ k. reads_at (length gs) ds n (asked.Cell k)) every_cell;
  globals = those (λ g. reads_at (length gs) ds n (asked.Variable (number_of g))) gs;
}
