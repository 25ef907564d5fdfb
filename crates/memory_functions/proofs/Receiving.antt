-- All that stands in the word of a call is good.
use Rattle.std.proofs.Common.{◌≡◌, ◌<◌, ℕ, true, false, List, length, Option, Some, None, slice_get, refl, sym, ◌∙◌, subst}
use Rattle.std.proofs.lemmas.Option.{none-some, same_Some}
use Rattle.wp_base.specs.declared.kinds.CellKind.{CellKind}
use Rattle.wp_base.specs.declared.kinds.CellKind.TheVariants as cell
use Rattle.typed_prog.specs.declared.operators.Root.{Root}
use Rattle.typed_prog.specs.declared.operators.Root.TheVariants as root
use Rattle.typed_prog.specs.declared.operators.Variable.TheVariants as variables
use Rattle.typed_prog.specs.declared.operators.Path.{Path}
use Rattle.typed_prog.specs.declared.types.CoreType.{CoreType}
use Rattle.typed_prog.specs.Tree as t
use Rattle.qed_terms.specs.Meaning as sense
use Rattle.same_memories.specs.Alike.{Respects}
use Rattle.c_runs.specs.Program as program
use Rattle.c_runs.specs.Program.{Contract, Function, Facts}
use Rattle.c_runs.specs.Objects.{is_plain_in, plain_root, cell_of}
use Rattle.c_runs.specs.Tree.{Goal, nowhere, temporary, place, variable, Steps}
use Rattle.value_terms.specs.Readings.{Term, plain_global}
use Rattle.typed_memories.proofs.Tests.{on_test, chosen, unchosen}
use Rattle.memory_steps.specs.State.{Base}
use Rattle.memory_steps.specs.Step.{IsGood}
use Rattle.memory_words.specs.Places as places
use Rattle.memory_words.specs.Places.{Place}
use Rattle.memory_words.specs.Shapes.{FileCells, Shape, sizes, kind_of}
use Rattle.memory_words.specs.Readings.{Texts}
use Rattle.memory_words.specs.Bases.{AreSorted}
use Rattle.memory_words.specs.Points.{Point, remembered}
use Rattle.memory_words.specs.Words as word
use Rattle.memory_words.specs.Words.{Others, store_by}
use Rattle.memory_calls.specs.Havoc.{range_facts}
use Rattle.memory_calls.proofs.LoopGood.{havoc_good}
use Rattle.memory_calls.specs.CallSets.{call_havoc}
use Rattle.memory_calls.specs.CallWords as calls
use Rattle.memory_calls.specs.CallWords.{call_promises, answer_change, answer_step, answer_term, received, call_by}
use Rattle.memory_functions.specs.GoodLaws.{MayReceive, CallsAreGood}
use Rattle.memory_functions.proofs.Good.{all_good, known_good, facts_good, IsSafe, safe_all, temporary_good, plain_below, values_good, to_variable_good, to_global_good, to_cell_good, started_good}

root_below : (xs : List program.Variable) (r : Root) (x : ℕ) → plain_root xs r ≡ Some x → x < length xs
root_below xs (root.Variable (variables.Local y)) x e = on_test (is_plain_in (slice_get xs y))
    (λ h. subst (λ n. n < length xs) (same_Some y x (sym (chosen (is_plain_in (slice_get xs y)) (Some y) None h) ∙ e)) (plain_below y xs h))
    (λ h. absurd (none-some x (sym (unchosen (is_plain_in (slice_get xs y)) (Some y) None h) ∙ e)))
root_below xs (root.Variable (variables.Global y)) x e = absurd (none-some x e)
root_below xs (root.Pointed n) x e = absurd (none-some x e)

global_below : (xs : List program.Variable) (r : Root) (x : ℕ) → plain_global xs r ≡ Some x → x < length xs
global_below xs (root.Variable (variables.Global y)) x e = on_test (is_plain_in (slice_get xs y))
    (λ h. subst (λ n. n < length xs) (same_Some y x (sym (chosen (is_plain_in (slice_get xs y)) (Some y) None h) ∙ e)) (plain_below y xs h))
    (λ h. absurd (none-some x (sym (unchosen (is_plain_in (slice_get xs y)) (Some y) None h) ∙ e)))
global_below xs (root.Variable (variables.Local y)) x e = absurd (none-some x e)
global_below xs (root.Pointed n) x e = absurd (none-some x e)

module _ (m : sense.World) (r : Respects m) (p : Facts) (s : Shape) (cells : FileCells) (texts : Texts) (contract : Contract) (functions : ℕ → Option (Function Steps)) (others : Others)
    (bases : List Base) (sorted : AreSorted (sizes p s) cells bases) where
  -- ---- the result

  answer_safe : (k : CellKind) (a : Place) → IsSafe m r (answer_change m p s cells texts contract functions k a)
  answer_safe k places.answer b = facts_good m r (range_facts p k)
  answer_safe (cell.Of k) places.answer_offset b = tt
  answer_safe cell.Ptr places.answer_offset b = tt
  answer_safe k (places.value x) b = tt
  answer_safe k (places.offset x) b = tt
  answer_safe k (places.flag x) b = tt
  answer_safe k places.result b = tt
  answer_safe k places.result_offset b = tt
  answer_safe k (places.temporary n) b = tt
  answer_safe k (places.temporary_offset n) b = tt
  answer_safe k (places.numbers l) b = tt
  answer_safe k places.blocks b = tt
  answer_safe k places.offsets b = tt

  answer_good : (o : Option CellKind) → IsGood m bases (answer_step m p s cells texts contract functions o)
  answer_good None = tt
  answer_good (Some k) = safe_all m r bases (answer_change m p s cells texts contract functions k) (answer_safe k) (places.places (sizes p s))

  stored_good : (pt : Point) (l : ℕ) (type : CoreType) (path : Path) (ts : ℕ → List Term) (v : Term) (o g : Option ℕ) → plain_root s.variables path.root ≡ o
      → plain_global p.globals path.root ≡ g → (o ≡ None → g ≡ None → cells.has_kind (cell_of type) ≡ true)
      → IsGood m bases (store_by m p s cells texts contract others o g pt l type path ts v)
  stored_good pt l type path ts v (Some x) g e d h = to_variable_good m r p s cells texts contract others bases sorted pt l (cell_of type) x v (root_below s.variables path.root x e)
  stored_good pt l type path ts v None (Some x) e d h = to_global_good m r p s cells texts contract others bases sorted pt l (cell_of type) x v (global_below p.globals path.root x d)
  stored_good pt l type path ts v None None e d h = to_cell_good m r p s cells texts contract others bases sorted pt l type path ts v (h refl refl)

  variable_good : (x : ℕ) (o : Option program.Variable) (v : Term) → slice_get s.variables x ≡ o
      → ((y : program.Variable) → slice_get s.variables x ≡ Some y → y.is_plain ≡ false → cells.has_kind (kind_of y) ≡ true)
      → IsGood m bases (word.start_of m p s cells texts contract others x o v)
  variable_good x None v e h = tt
  variable_good x (Some y) v e h = started_good m r p s cells texts contract others bases sorted x y v e (h y e)

  received_good : (pt : Point) (to : Goal) (u : Term) → MayReceive p s cells to → IsGood m bases (received m p s cells texts contract functions others pt to u)
  received_good pt nowhere u h = tt
  received_good pt (temporary n) u h = temporary_good m r (sizes p s) cells bases sorted (s.temp_kind n) n u h
  received_good pt (place cs type l path es) u h = (
    values_good m r p s cells texts contract others bases sorted es,
    stored_good (remembered pt) l type path (word.terms_at m p s cells texts contract others es) u (plain_root s.variables path.root) (plain_global p.globals path.root) refl refl h,
  )
  received_good pt (variable x) u h = variable_good x (slice_get s.variables x) u refl h

  by_good : (pt : Point) (to : Goal) (n l : ℕ) (g : Option (Function Steps)) (es : t.Values) → MayReceive p s cells to
      → IsGood m bases (call_by m p s cells texts contract functions others pt to n l g es)
  by_good pt to n l None es h = tt
  by_good pt to n l (Some g) es h = (
    values_good m r p s cells texts contract others bases sorted es,
    (
      all_good m r (sizes p s) _ _,
      (
        all_good m r (sizes p s) _ _,
        (
          all_good m r (sizes p s) _ _,
          (
            havoc_good m r p s cells bases sorted (call_havoc p s cells texts g es),
            (
              known_good m r (calls.stay_trees p s cells texts g es),
              (
                answer_good g.result,
                (known_good m r (call_promises p s cells texts g es), received_good pt to (answer_term m p s cells texts contract functions g.result) h),
              ),
            ),
          ),
        ),
      ),
    ),
  )

pub calls_are_good : CallsAreGood
calls_are_good m r p s cells texts contract functions others bases sorted pt cs to n l es after h =
    by_good m r p s cells texts contract functions others bases sorted pt to n l (functions n) es h
