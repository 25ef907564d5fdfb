-- Words of loops and of calls end the blocks that they make.
use Rattle.std.proofs.Common.{refl, ◌∷◌, ◌++◌, map, ℕ, Bool, true, false, List, Option, Some, None, slice_get}
use Rattle.wp_base.specs.declared.kinds.CellKind.{CellKind}
use Rattle.typed_prog.specs.Tree as t
use Rattle.qed_terms.specs.Meaning as sense
use Rattle.c_runs.specs.Program.{Contract, Function, Facts}
use Rattle.c_runs.specs.Objects.{plain_root}
use Rattle.c_runs.specs.Tree.{Goal, nowhere, temporary, place, variable, Steps}
use Rattle.value_terms.specs.Readings.{Term, plain_global}
use Rattle.value_terms.specs.Words.{words}
use Rattle.memory_steps.specs.Forms.{Form, Check}
use Rattle.memory_steps.specs.Step as step
use Rattle.memory_steps.specs.Step.{Step}
use Rattle.memory_steps.proofs.Bracketed.{epochs_compose}
use Rattle.memory_words.specs.Places as places
use Rattle.memory_words.specs.Leaves.{form}
use Rattle.memory_words.specs.Shapes.{FileCells, Shape, sizes}
use Rattle.memory_words.specs.Readings.{Texts, reading}
use Rattle.memory_words.specs.Points.{Point, remembered}
use Rattle.memory_words.specs.Words.{Others}
use Rattle.memory_calls.specs.Havoc.{Havoc, grown_if, havoc_word}
use Rattle.memory_calls.specs.LoopSets.{turns}
use Rattle.memory_calls.specs.LoopWords.{stay_trees, head_tree, entry_check, end_checks}
use Rattle.memory_calls.specs.CallSets.{call_havoc}
use Rattle.memory_calls.specs.CallWords as calls
use Rattle.memory_calls.specs.CallWords.{call_promises, answer_step, answer_term, received, call_by}
use Rattle.memory_functions.specs.Epochs.{StaysAt}
use Rattle.memory_functions.specs.GoodLaws.{LoopsStay, CallsStay}
use Rattle.memory_functions.proofs.Staying.{Stays, still, both_stay, items_stay, assign_stays, store_comes, started_stays, both_at, everywhere, deeper_at}

remembers : {a : Step} → Stays a → Stays (step.remember a)
remembers {a} h = record { comes = λ ls bs x. epochs_compose.remembered ls bs x x a (h.comes (x ∷ ls) bs x) }

scopes : {is : List ℕ} {a : Step} → Stays a → Stays (step.scope is a)
scopes {is} {a} h = record { comes = λ ls bs x. epochs_compose.scoped ls bs x x is a (h.comes ls bs x) }

module _ (m : sense.World) (p : Facts) (s : Shape) (cells : FileCells) where
  havoc_stays : (h : Havoc) → Stays (havoc_word m p s cells h)
  havoc_stays h = both_stay (by cells.has_blocks) (still (λ ls bs x n go so. so n)) where
    by : (b : Bool) → Stays (grown_if m p s cells h b)
    by true = still (λ ls bs x n go so. so n)
    by false = still (λ ls bs x n go so. so n)

-- steps in which no block is made and none ends
asks : (cs : List Check) → Stays (step.ask cs)
asks cs = still (λ ls bs x n go so. so n)

knows : (fs : List Form) → Stays (step.know fs)
knows fs = still (λ ls bs x n go so. so n)

halts : Stays step.halt
halts = still (λ ls bs x n go so. refl)

pub loops_stay : LoopsStay
loops_stay m p s cells texts contract pt l ss pass h =
    let inner : StaysAt (remembered (remembered pt)) pass = record { comes = λ ls bs x e. h.comes ls bs x e } in
    both_at (everywhere (asks _))
    (deeper_at
    (both_at (everywhere (asks (map (entry_check p s cells texts m l pt) l.invariants)))
    (both_at (everywhere (havoc_stays m p s cells (turns p s cells texts contract pt l ss)))
    (both_at (everywhere (knows (map (form m) (stay_trees p s cells texts contract pt l ss ++ map (head_tree p s cells texts l pt) l.invariants))))
    (deeper_at (both_at inner (both_at (everywhere (asks (end_checks p s cells texts m l pt))) (everywhere halts))))))))

module _ (m : sense.World) (p : Facts) (s : Shape) (cells : FileCells) (texts : Texts) (contract : Contract) (functions : ℕ → Option (Function Steps)) (others : Others) where
  answer_stays : (o : Option CellKind) → Stays (answer_step m p s cells texts contract functions o)
  answer_stays None = still (λ ls bs x n go so. so n)
  answer_stays (Some k) = still (λ ls bs x n go so. so n)

  received_stays : (pt : Point) (to : Goal) (u : Term) → Stays (received m p s cells texts contract functions others pt to u)
  received_stays pt nowhere u = still (λ ls bs x n go so. so n)
  received_stays pt (temporary n) u = assign_stays m (sizes p s) (s.temp_kind n) (places.temporary n) (places.temporary_offset n) u
  received_stays pt (place cs type l path es) u =
      both_stay (items_stay m (sizes p s) (words p s.variables (reading p s cells) es))
      (store_comes m p s cells texts contract others (plain_root s.variables path.root) (plain_global p.globals path.root) (remembered pt) l type path _ u)
  received_stays pt (variable x) u = started_stays m p s cells texts contract others x (slice_get s.variables x) u

  by_stays : (pt : Point) (to : Goal) (n l : ℕ) (g : Option (Function Steps)) (es : t.Values) → Stays (call_by m p s cells texts contract functions others pt to n l g es)
  by_stays pt to n l None es = halts
  by_stays pt to n l (Some g) es =
      both_stay (items_stay m (sizes p s) (words p s.variables (reading p s cells) es))
      (both_stay (asks _)
      (both_stay (asks _)
      (both_stay (asks _)
      (remembers (scopes
      (both_stay (havoc_stays m p s cells (call_havoc p s cells texts g es))
      (both_stay (knows (map (form m) (calls.stay_trees p s cells texts g es)))
      (both_stay (answer_stays g.result)
      (both_stay (knows (map (form m) (call_promises p s cells texts g es)))
      (received_stays pt to (answer_term m p s cells texts contract functions g.result)))))))))))

pub calls_stay : CallsStay
calls_stay m p s cells texts contract functions others pt cs to n l es f = everywhere (by_stays m p s cells texts contract functions others pt to n l (functions n) es)
