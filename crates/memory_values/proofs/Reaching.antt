-- The indices of a way, one after the other.
use Rattle.std.proofs.Common.{◌≡◌, ℕ, suc, ◌+◌, ◌<◌, ◌≤◌, List, [], ◌∷◌, ◌++◌, map, Ok, length, drop, get_or, refl, sym, ap, subst, ◌∙◌, append_assoc, append-nil}
use Rattle.std.proofs.lemmas.List.{at_drop_more, at_drop_all}
use Rattle.typed_prog.specs.declared.operators.Step.{Step}
use Rattle.typed_prog.specs.declared.operators.Step.TheVariants as step
use Rattle.c_runs.specs.Program.{Facts}
use Rattle.c_runs.specs.Operators as c
use Rattle.c_runs.specs.Checks.{here}
use Rattle.value_terms.specs.Readings.{Term, Reading, number_term, term_at}
use Rattle.value_terms.specs.Words as words
use Rattle.value_terms.specs.Words.{index_items}
use Rattle.memory_values.specs.declared.items.Item.{Item}
use Rattle.memory_values.specs.View.{view_items, placed}
use Rattle.memory_values.specs.Drafts.{Pushes}

-- without the numbers of steps
abbrev plain_items : (p : Facts) (r : Reading) (ts : List Term) (ss : List Step) → List words.Item
plain_items p r ts ss = map placed (index_items p r ts 0 ss)

abbrev index_item : List Term → (operand count line : ℕ) → words.Item
index_item ts operand count line = words.asked (here c.index line) (words.is_below_term (number_term (term_at ts operand)) count)

numbers_aside : (p : Facts) (r : Reading) (ts : List Term) (n k : ℕ) (ss : List Step) → map placed (index_items p r ts n ss) ≡ map placed (index_items p r ts k ss)
numbers_aside p r ts n k [] = refl
numbers_aside p r ts n k (step.Element operand size count line ∷ ss) = ap (λ is. index_item ts operand count line ∷ is) (numbers_aside p r ts (suc n) (suc k) ss)
numbers_aside p r ts n k (step.Field number offset ∷ ss) = numbers_aside p r ts (suc n) (suc k) ss
numbers_aside p r ts n k (step.Moved operand size ∷ ss) = numbers_aside p r ts (suc n) (suc k) ss

one_step : (p : Facts) (r : Reading) (ts : List Term) (s : Step) (ss : List Step) → plain_items p r ts (s ∷ ss) ≡ plain_items p r ts (s ∷ []) ++ plain_items p r ts ss
one_step p r ts (step.Element operand size count line) ss = ap (λ is. index_item ts operand count line ∷ is) (numbers_aside p r ts 1 0 ss)
one_step p r ts (step.Field number offset) ss = numbers_aside p r ts 1 0 ss
one_step p r ts (step.Moved operand size) ss = numbers_aside p r ts 1 0 ss

-- what is pushed, and what those that are left give, is the whole
unfoldable pub StepsLeft : Facts → Reading → List Term → (old now : List Item) → List Step → (index : ℕ) → Type 0
StepsLeft p r ts old now ss i = view_items now ++ plain_items p r ts (drop i ss) ≡ view_items old ++ plain_items p r ts ss

pub first_step : (p : Facts) (r : Reading) (ts : List Term) (old : List Item) (ss : List Step) → StepsLeft p r ts old old ss 0
unfolding StepsLeft
first_step p r ts old ss = refl

pub step_turn : {A : Type 0} (a : A) (p : Facts) (r : Reading) (ts : List Term) (first old new : List Item) (items ss : List Step) (i : ℕ) (s : Step) → items ≡ ss → i < length items → s ≡ get_or items i s
    → Pushes (Ok a) old new (index_items p r ts 0 (s ∷ [])) → StepsLeft p r ts first old ss i → StepsLeft p r ts first new ss (i + 1)
unfolding StepsLeft
step_turn a p r ts first old new items ss i s same in_items is_item h so_far =
    let in_list : i < length ss = subst (λ zs. i < length zs) same in_items in
    let is : s ≡ get_or ss i s = subst (λ zs. s ≡ get_or zs i s) same is_item in
    let here = plain_items p r ts (s ∷ []) in
    let rest = plain_items p r ts (drop (i + 1) ss) in
    ap (λ zs. zs ++ rest) h.is.are ∙ append_assoc (view_items old) here rest
    ∙ ap (λ zs. view_items old ++ zs) (sym (at_drop_more (plain_items p r ts) ss i s in_list ∙ ap (λ z. plain_items p r ts (z ∷ drop (i + 1) ss)) (sym is) ∙ one_step p r ts s (drop (i + 1) ss)))
    ∙ so_far

pub all_steps : {A : Type 0} (a : A) (p : Facts) (r : Reading) (ts : List Term) (first now : List Item) (items ss : List Step) (i : ℕ) → items ≡ ss → length items ≤ i → StepsLeft p r ts first now ss i
    → Pushes (Ok a) first now (index_items p r ts 0 ss)
unfolding StepsLeft
all_steps a p r ts first now items ss i same past_items so_far = let past_end : length ss ≤ i = subst (λ zs. length zs ≤ i) same past_items in record {
  is = record { are = sym (append-nil (view_items now)) ∙ ap (λ zs. view_items now ++ zs) (sym (at_drop_all (plain_items p r ts) ss i past_end)) ∙ so_far };
}
