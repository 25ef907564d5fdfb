-- All forms, terms and changes of the word of a call are good.
use Rattle.std.proofs.Common.{◌≡◌, ℕ, zero, suc, ◌<◌, Bool, true, false, if◌then◌else◌, List, [], ◌∷◌, map, Option, Some, None, slice_get, refl, sym, ap, ◌∙◌, subst}
use Rattle.std.proofs.lemmas.Option.{same_Some}
use Rattle.wp_base.specs.declared.kinds.CellKind.{CellKind}
use Rattle.wp_base.specs.declared.kinds.CellKind.TheVariants as cell
use Rattle.typed_prog.specs.Tree as t
use Rattle.typed_prog.specs.declared.types.CoreType.{CoreType}
use Rattle.typed_prog.specs.declared.operators.Path.{Path}
use Rattle.typed_prog.specs.declared.operators.Variable as code
use Rattle.typed_prog.specs.declared.operators.Variable.TheVariants as variables
use Rattle.qed_terms.specs.Meaning as sense
use Rattle.qed_terms.specs.Tree.{Tree, num}
use Rattle.std.specs.Prelude.{pos}
use Rattle.same_memories.specs.Alike.{Respects}
use Rattle.c_runs.specs.Program.{Contract, Function, Facts}
use Rattle.c_runs.specs.Claims as broken
use Rattle.c_runs.specs.Objects.{plain_root, is_plain_in, cell_of}
use Rattle.c_runs.specs.Tree.{Goal, Steps}
use Rattle.value_terms.specs.Readings.{Term, as_pointer, block_term, offset_term, number_term, plain_global}
use Rattle.value_terms.specs.Places.{way_items}
use Rattle.value_terms.specs.Words.{Item, asked, known, words}
use Rattle.walk_steps.specs.Forms.{Place as CheckPlace}
use Rattle.memory_steps.specs.State.{Base}
use Rattle.memory_steps.specs.Forms.{forms, IsForm, IsTerm, AreForms, AreFacts}
use Rattle.memory_steps.specs.Step.{Change, Step, sort_at, IsChange, AreChanges, IsGood}
use Rattle.memory_words.specs.Places.{Place, Sizes, IsIn, value, offset, flag, result, result_offset, answer, answer_offset, temporary, temporary_offset, numbers, blocks, offsets, places}
use Rattle.memory_words.specs.Leaves.{form, fact, number_term as number_of_term, memory_term, leaf, memory_leaf}
use Rattle.memory_words.proofs.Filling.{forms_are_good}
use Rattle.memory_words.proofs.Lists.{found_below}
use Rattle.program_steps.specs.Stops.{broken_place}
use Rattle.program_steps.specs.Temporaries.{Temporaries}
use Rattle.memory_words.specs.Shapes.{FileCells, Shape, sizes, kind_of, is_memory}
use Rattle.memory_words.specs.Readings.{InScope, Texts, reading}
use Rattle.memory_words.specs.Bases.{AreSorted}
use Rattle.memory_words.specs.Points.{Point, remembered}
use Rattle.memory_words.specs.Sets.{variable_trees, cell_trees}
use Rattle.memory_words.specs.Typed.{LeadsTo, to_local, to_global, to_cell, Takes}
use Rattle.memory_words.specs.Words as word
use Rattle.memory_words.specs.Words.{Others, check, items_step, set_number, set_memory, set_value, assign, set_variable, store_cell, store_of}
use Rattle.memory_calls.specs.Havoc.{range_facts}
use Rattle.memory_calls.proofs.LoopGood.{havoc_good}
use Rattle.memory_calls.specs.CallSets.{inclusion_trees, call_havoc}
use Rattle.memory_calls.specs.CallWords.{call_requires, lower_by, stay_trees, call_promises, answer_change, answer_step, answer_term, received, call_by}
use Rattle.memory_calls.specs.CallFits.{Receives, by_nothing, by_temporary, by_local, by_global, by_cell, by_variable, ResultGoes, none_nowhere, none_to, goes_to}
use Rattle.memory_calls.specs.CallLaws.{CallsAreGood}

some_none : {X : Type 0} {x : X} → Some x ≡ None → ⊥
some_none e = cc

module _ (m : sense.World) (respects : Respects m) (p : Facts) (s : Shape) (cells : FileCells) (bases : List Base) (sorted : AreSorted (sizes p s) cells bases) where
  abbrev z : Sizes
  z = sizes p s

  good_form : (f : Tree) → IsForm m (form m f)
  good_form f = (forms_are_good m respects f).form

  facts_good : (fs : List Tree) → AreFacts m (map (fact m) fs)
  facts_good [] = tt
  facts_good (f ∷ fs) = ((forms_are_good m respects f).fact, facts_good fs)

  asked_good : (fs : List Tree) (a : CheckPlace) → AreForms m (forms (map (λ f. check m z f a) fs))
  asked_good [] a = tt
  asked_good (f ∷ fs) a = (good_form f, asked_good fs a)

  known_good : (fs : List Tree) → AreForms m (map (form m) fs)
  known_good [] = tt
  known_good (f ∷ fs) = (good_form f, known_good fs)

  items_good : (is : List Item) → IsGood m bases (items_step m z is)
  items_good [] = tt
  items_good (asked c f ∷ is) = ((good_form f, tt), items_good is)
  items_good (known f ∷ is) = ((good_form f, tt), items_good is)

  -- ---- what is set

  number_good : (a : Place) → IsIn z a → is_memory cells a ≡ false → (u : Tree) → IsGood m bases (set_number m z a u)
  number_good a there is u = subst (λ b. IsTerm m b (number_of_term m u)) (sym (sorted a there ∙ is)) (forms_are_good m respects u).number

  memory_good : (a : Place) → IsIn z a → is_memory cells a ≡ true → (u : Tree) → IsGood m bases (set_memory m z a u)
  memory_good a there is u = subst (λ b. IsTerm m b (memory_term m u)) (sym (sorted a there ∙ is)) (forms_are_good m respects u).memory

  value_good : (k : CellKind) (v : Term) → IsGood m bases (set_value m z k answer answer_offset v)
  value_good (cell.Of k) v = number_good answer tt refl (number_term v)
  value_good cell.Ptr v = (number_good answer tt refl (block_term v), number_good answer_offset tt refl (offset_term v))

  assign_good : (k : CellKind) (a b : Place) → IsIn z a → IsIn z b → is_memory cells a ≡ false → is_memory cells b ≡ false → (v : Term) → IsGood m bases (assign m z k a b v)
  assign_good (cell.Of k) a b in_a in_b is_a is_b v = number_good a in_a is_a (number_term v)
  assign_good cell.Ptr a b in_a in_b is_a is_b v =
      (number_good answer tt refl (block_term v), (number_good b in_b is_b (offset_term v), number_good a in_a is_a (leaf z 0 answer)))

  variable_good : (k : CellKind) (x : code.Variable) → IsIn z (value x) → IsIn z (offset x) → IsIn z (flag x) → (v : Term) → IsGood m bases (set_variable m z k x v)
  variable_good k x in_value in_offset in_flag v =
      (assign_good k (value x) (offset x) in_value in_offset refl refl v, number_good (flag x) in_flag refl (num (pos 1)))

  cell_good : (k : CellKind) → cells.has_kind k ≡ true → (a : (level : ℕ) → Term) (v : Term) → IsGood m bases (store_cell m z k a v)
  cell_good (cell.Of k) has a v = (value_good (cell.Of k) v, memory_good (numbers k) tt has (store_of m z (memory_leaf z 0 (numbers k)) (a 0) (leaf z 0 answer)))
  cell_good cell.Ptr has a v = (
    value_good cell.Ptr v,
    (
      memory_good blocks tt has (store_of m z (memory_leaf z 0 blocks) (a 1) (leaf z 0 answer)),
      memory_good offsets tt has (store_of m z (memory_leaf z 0 offsets) (a 1) (leaf z 0 answer_offset)),
    ),
  )

  -- ---- the places of a result

  item_sort : (bases : List Base) (i : ℕ) (b : Base) → slice_get bases i ≡ Some b → sort_at bases i ≡ b.is_memory
  item_sort [] i b e = absurd (some_none (sym e))
  item_sort (c ∷ bases) zero b e = ap (λ (b : Base). b.is_memory) (same_Some c b e)
  item_sort (c ∷ bases) (suc i) b e = item_sort bases i b e

  listed_good : (bases : List Base) (as_ : List Place) (f : Place → Change) → ((i : ℕ) (a : Place) (b : Base) → slice_get as_ i ≡ Some a → slice_get bases i ≡ Some b → IsChange m b (f a))
      → AreChanges m bases (map f as_)
  listed_good bases [] f h = tt
  listed_good [] (a ∷ as_) f h = tt
  listed_good (b ∷ bases) (a ∷ as_) f h = (h 0 a b refl refl, listed_good bases as_ f (λ i a b e k. h (suc i) a b e k))

  module _ (texts : Texts) (contract : Contract) (functions : ℕ → Option (Function Steps)) where
    change_good : (k : CellKind) (a : Place) (b : Base) → IsChange m b (answer_change m p s cells texts contract functions k a)
    change_good k answer b = facts_good (range_facts p k)
    change_good (cell.Of k) answer_offset b = tt
    change_good cell.Ptr answer_offset b = tt
    change_good k (value x) b = tt
    change_good k (offset x) b = tt
    change_good k (flag x) b = tt
    change_good k result b = tt
    change_good k result_offset b = tt
    change_good k (temporary n) b = tt
    change_good k (temporary_offset n) b = tt
    change_good k (numbers j) b = tt
    change_good k blocks b = tt
    change_good k offsets b = tt

    answer_good : (o : Option CellKind) → IsGood m bases (answer_step m p s cells texts contract functions o)
    answer_good None = tt
    answer_good (Some k) = listed_good bases (places z) (answer_change m p s cells texts contract functions k) (λ i a b e h. change_good k a b)

    -- ---- where it goes

    module _ (others : Others) (i : InScope) (used : Temporaries) (pt : Point) (u : Term) where
      abbrev stored : Option ℕ → Option ℕ → (line : ℕ) → CoreType → Path → t.Values → Step
      stored x g l type path es = word.store_by m p s cells texts contract others x g (remembered pt) l type path (word.terms_at m p s cells texts contract others es) u

      to_variable_good : (x : code.Variable) (l : ℕ) (k : CellKind) → IsIn z (value x) → IsIn z (offset x) → IsIn z (flag x)
          → IsGood m bases (word.store_to_variable m p s cells texts contract others (remembered pt) l k x u)
      to_variable_good x l k in_value in_offset in_flag =
          (asked_good (variable_trees p s cells texts contract (remembered pt) x) (broken_place broken.assigns l), variable_good k x in_value in_offset in_flag u)

      start_good : (x : ℕ) (k : CellKind) → Takes s cells i x k → IsGood m bases (word.start_of m p s cells texts contract others x (slice_get s.variables x) u)
      start_good x k takes = subst (λ o. IsGood m bases (word.start_of m p s cells texts contract others x o u)) (sym takes.found) (by takes.variable.is_plain refl) where
        below : x < z.locals
        below = found_below s.variables x takes.variable takes.found

        by : (b : Bool) → takes.variable.is_plain ≡ b
            → IsGood m bases (if b then set_variable m z (kind_of takes.variable) (variables.Local x) u else store_cell m z (kind_of takes.variable) (λ l. as_pointer (leaf z l (value (variables.Local x))) (num (pos 0))) u)
        by true is = variable_good (kind_of takes.variable) (variables.Local x) below below below u
        by false is = cell_good (kind_of takes.variable) (ap cells.has_kind takes.kind ∙ (takes.one_cell is).2) (λ l. as_pointer (leaf z l (value (variables.Local x))) (num (pos 0))) u

      leads_kind : (type : CoreType) (path : Path) (ts : List Term) → LeadsTo p s cells i used type path ts → plain_root s.variables path.root ≡ None
          → plain_global p.globals path.root ≡ None → cells.has_kind (cell_of type) ≡ true
      leads_kind type path ts (to_local x v r steps found plainly kind scoped) none no_global =
          absurd (some_none (sym (ap (plain_root s.variables) r ∙ ap (λ o. if is_plain_in o then Some x else None) found ∙ ap (λ b. if b then Some x else None) plainly) ∙ none))
      leads_kind type path ts (to_global x v r steps found plainly kind) none no_global =
          absurd (some_none (sym (ap (plain_global p.globals) r ∙ ap (λ o. if is_plain_in o then Some x else None) found ∙ ap (λ b. if b then Some x else None) plainly) ∙ no_global))
      leads_kind type path ts (to_cell none_local none_global has kind object items address) none no_global = kind

      received_good : (k : CellKind) (to : Goal) → Receives p s cells i used k to → IsGood m bases (received m p s cells texts contract functions others pt to u)
      received_good k _ by_nothing = tt
      received_good k _ (by_temporary {n = n} below same) = assign_good (s.temp_kind n) (temporary n) (temporary_offset n) below below refl refl u
      received_good k _ (by_local {type = type} {l = l} {path = path} x v r steps found plainly kind same scoped) = (
        tt,
        subst (λ o. IsGood m bases (stored o (plain_global p.globals path.root) l type path t.stop))
            (sym (ap (plain_root s.variables) r ∙ ap (λ o. if is_plain_in o then Some x else None) found ∙ ap (λ b. if b then Some x else None) plainly))
            (let below = found_below s.variables x v found in to_variable_good (variables.Local x) l (cell_of type) below below below),
      )
      received_good k _ (by_global {type = type} {l = l} {path = path} x v r steps found plainly kind same) = (
        tt,
        subst (λ o. IsGood m bases (stored o (plain_global p.globals path.root) l type path t.stop)) (sym (ap (plain_root s.variables) r))
            (subst (λ o. IsGood m bases (stored None o l type path t.stop))
            (sym (ap (plain_global p.globals) r ∙ ap (λ o. if is_plain_in o then Some x else None) found ∙ ap (λ b. if b then Some x else None) plainly))
            (let below = found_below p.globals x v found in to_variable_good (variables.Global x) l (cell_of type) below below below)),
      )
      received_good k _ (by_cell {cs = cs} {type = type} {l = l} {path = path} {es = es} same way) = (
        items_good (words p s.variables (reading p s cells) es),
        subst (λ o. IsGood m bases (stored o (plain_global p.globals path.root) l type path es)) (sym way.no_local)
            (subst (λ o. IsGood m bases (stored None o l type path es)) (sym way.no_global) (
              items_good (way_items p (reading p s cells) type path (word.terms_at m p s cells texts contract others es 0)),
              (
                asked_good (cell_trees p s cells texts contract (remembered pt) (cell_of type) (block_term (word.address_at m p s cells texts contract others path (word.terms_at m p s cells texts contract others es) 0)) (offset_term (word.address_at m p s cells texts contract others path (word.terms_at m p s cells texts contract others es) 0))) (broken_place broken.assigns l),
                cell_good (cell_of type) (leads_kind type path _ way.way way.no_local way.no_global)
                    (word.address_at m p s cells texts contract others path (word.terms_at m p s cells texts contract others es)) u,
              ),
            )),
      )
      received_good k _ (by_variable {x = x} takes) = start_good x k takes

      nothing_good : (to : Goal) → ResultGoes p s cells i used None to → IsGood m bases (received m p s cells texts contract functions others pt to u)
      nothing_good _ none_nowhere = tt
      nothing_good _ (none_to {n = n} below integer) = assign_good (s.temp_kind n) (temporary n) (temporary_offset n) below below refl refl u

      goes_good : (o : Option CellKind) (to : Goal) → ResultGoes p s cells i used o to → IsGood m bases (received m p s cells texts contract functions others pt to u)
      goes_good None to goal = nothing_good to goal
      goes_good (Some k) to (goes_to r) = received_good k to r

pub calls_are_good : CallsAreGood
calls_are_good m respects p s cells texts bases sorted contract functions others pt after cs to n l es fits =
    let g = fits.function in
    subst (λ o. IsGood m bases (call_by m p s cells texts contract functions others pt to n l o es)) (sym fits.found) (
      items_good m respects p s cells bases sorted (words p s.variables (reading p s cells) es),
      (
        asked_good m respects p s cells bases sorted (call_requires p s cells texts g es) (broken_place broken.requires l),
        (
          asked_good m respects p s cells bases sorted (lower_by p s cells texts g es pt (p.in_cluster pt.self n) contract.decreases g.contract.decreases) (broken_place broken.decreases l),
          (
            asked_good m respects p s cells bases sorted (inclusion_trees p s cells texts g es contract pt) (broken_place broken.assigns l),
            (
              havoc_good m respects p s cells bases sorted (call_havoc p s cells texts g es),
              (
                known_good m respects p s cells bases sorted (stay_trees p s cells texts g es),
                (
                  answer_good m respects p s cells bases sorted texts contract functions g.result,
                  (
                    known_good m respects p s cells bases sorted (call_promises p s cells texts g es),
                    goes_good m respects p s cells bases sorted texts contract functions others pt.stands.in_scope _ pt (answer_term m p s cells texts contract functions g.result)
                        g.result to fits.result,
                  ),
                ),
              ),
            ),
          ),
        ),
      ),
    )
