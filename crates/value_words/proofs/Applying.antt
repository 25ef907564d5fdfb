-- Items of operations on pointers.
use Rattle.std.proofs.Common.{◌≡◌, ℕ, Bool, not, List, [], ◌∷◌, sym, subst}
use Rattle.std.specs.Prelude.{Result}
use Rattle.wp_base.specs.declared.memory.NoMemory.{NoMemory}
use Rattle.typed_prog.specs.declared.types.CoreType.{CoreType}
use Rattle.typed_prog.specs.declared.operators.Comparison.{Comparison}
use Rattle.typed_prog.specs.declared.operators.Op.{Op}
use Rattle.typed_prog.specs.declared.operators.Op.TheVariants as op
use Rattle.typed_prog.specs.Tree as t
use Rattle.c_runs.specs.Program.{Facts, Variable}
use Rattle.c_runs.specs.Operators.{comparing, pointing, is_order}
use Rattle.c_runs.specs.Checks.{here}
use Rattle.value_terms.specs.Readings.{Term, Reading, term_at}
use Rattle.value_terms.specs.Terms.{moved_terms}
use Rattle.value_terms.specs.Words.{asked, asked_if, pointing_term, comparing_term, op_items}
use Rattle.value_words.specs.declared.items.Item.{Item}
use Rattle.value_words.specs.Drafts.{Pushes}

module _ (p : Facts) (xs : List Variable) (r : Reading) (type : CoreType) (line : ℕ) (es : t.Values) (ts : List Term) {A : Type 0} (done : Result A NoMemory) (old new : List Item) where
  pub ordered : (o : Op) (how : Comparison) → o ≡ op.ComparePointers how → Pushes done old new (asked_if (is_order how) comparing line (comparing_term p r (term_at ts 0) (term_at ts 1)))
      → Pushes done old new (op_items p xs r type line o es ts)
  unfolding op_items
  ordered o how e h = subst (λ o. Pushes done old new (op_items p xs r type line o es ts)) (sym e) h

  pub moved : (o : Op) (minus index_first : Bool) (size : ℕ) (accessed : Bool) → o ≡ op.Offset minus index_first size accessed
      → Pushes done old new (asked_if (not accessed) pointing line (pointing_term p r (moved_terms index_first minus size ts))) → Pushes done old new (op_items p xs r type line o es ts)
  unfolding op_items
  moved o minus index_first size accessed e h = subst (λ o. Pushes done old new (op_items p xs r type line o es ts)) (sym e) h

  pub subtracted : (o : Op) (size : ℕ) → o ≡ op.Difference size → Pushes done old new (asked (here comparing line) (comparing_term p r (term_at ts 0) (term_at ts 1)) ∷ [])
      → Pushes done old new (op_items p xs r type line o es ts)
  unfolding op_items
  subtracted o size e h = subst (λ o. Pushes done old new (op_items p xs r type line o es ts)) (sym e) h
