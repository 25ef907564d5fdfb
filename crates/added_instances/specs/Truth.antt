-- The formula `true`, by its head and its kids.
use Rattle.std.specs.Prelude.{Bool, true, false}
use Rattle.qed_terms.specs.declared.head.Head.{Head}
use Rattle.qed_terms.specs.declared.head.Head.TheVariants as h

abbrev pub is_truth : Head → Bool
is_truth h.True = true
is_truth head = false
