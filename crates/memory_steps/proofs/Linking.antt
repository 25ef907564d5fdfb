-- What equalities of fresh names say.
use Rattle.std.proofs.Common.{◌≡◌, Bool, true, false, ℤ, pos, [], refl, sym, ap, ◌∙◌}
use Rattle.qed_terms.specs.Tree.{Tree}
use Rattle.qed_terms.specs.Memory.{Memory, same_memory}
use Rattle.qed_terms.specs.Operators.{is_equal}
use Rattle.qed_terms.specs.Meaning as sense
use Rattle.qed_terms.specs.Meaning.{Value, Whole, Truth, Cells, Blocks, whole, memory, Values, meaning, truth}
use Rattle.same_memories.proofs.Listing.{same_is_one_list}
use Rattle.walk_steps.proofs.Linking.{equal_same, same_equal}
use Rattle.memory_steps.specs.State.{Datum, number, cells, HasSort}
use Rattle.memory_steps.specs.Forms.{datum_of, datum}
use Rattle.memory_steps.specs.World.{is_same}

abbrev number_in : Datum → ℤ
number_in (number z) = z
number_in (cells m) = pos 0

abbrev cells_in : Datum → Memory
cells_in (number z) = []
cells_in (cells m) = m

pub number_is : (v : Value) → HasSort false (datum_of v) → datum_of v ≡ number (whole v)
number_is (Whole z) h = refl
number_is (Truth b) h = refl
number_is (Cells n) h = absurd h
number_is (Blocks t) h = refl

abbrev are_same : (is_memory : Bool) → Value → Value → Bool
are_same true v w = same_memory (memory v) (memory w)
are_same false v w = is_equal (whole v) (whole w)

told_value : (s : Bool) (v w : Value) → HasSort s (datum_of v) → HasSort s (datum_of w) → are_same s v w ≡ true → datum_of v ≡ datum_of w
told_value false v w h k e = number_is v h ∙ ap number (equal_same (whole v) (whole w) e) ∙ sym (number_is w k)
told_value true (Cells n) (Cells o) h k e = ap cells ((same_is_one_list n o).0 e)
told_value true (Cells n) (Whole z) h k e = absurd k
told_value true (Cells n) (Truth b) h k e = absurd k
told_value true (Cells n) (Blocks t) h k e = absurd k
told_value true (Whole z) w h k e = absurd h
told_value true (Truth b) w h k e = absurd h
told_value true (Blocks t) w h k e = absurd h

value_told : (s : Bool) (v w : Value) → HasSort s (datum_of v) → HasSort s (datum_of w) → datum_of v ≡ datum_of w → are_same s v w ≡ true
value_told false v w h k e = same_equal (whole v) (whole w) (ap number_in (sym (number_is v h) ∙ e ∙ number_is w k))
value_told true (Cells n) (Cells o) h k e = (same_is_one_list n o).1 (ap cells_in e)
value_told true (Cells n) (Whole z) h k e = absurd k
value_told true (Cells n) (Truth b) h k e = absurd k
value_told true (Cells n) (Blocks t) h k e = absurd k
value_told true (Whole z) w h k e = absurd h
value_told true (Truth b) w h k e = absurd h
value_told true (Blocks t) w h k e = absurd h

module _ (m : sense.World) (env : Values) where
  written : (s : Bool) (x t : Tree) → truth m env (is_same s x t) ≡ are_same s (meaning m env x) (meaning m env t)
  written true x t = refl
  written false x t = refl

  pub term_told : (s : Bool) (x t : Tree) → HasSort s (datum m env x) → HasSort s (datum m env t) → truth m env (is_same s x t) ≡ true → datum m env x ≡ datum m env t
  term_told s x t h k e = told_value s (meaning m env x) (meaning m env t) h k (sym (written s x t) ∙ e)

  pub told_term : (s : Bool) (x t : Tree) → HasSort s (datum m env x) → HasSort s (datum m env t) → datum m env x ≡ datum m env t → truth m env (is_same s x t) ≡ true
  told_term s x t h k e = written s x t ∙ value_told s (meaning m env x) (meaning m env t) h k e

  pub number_told : (t : Tree) → HasSort false (datum m env t) → datum m env t ≡ number (whole (meaning m env t))
  number_told t h = number_is (meaning m env t) h
