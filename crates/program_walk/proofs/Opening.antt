-- Variables of blocks, where these begin.
use Rattle.std.proofs.Common.{◌≡◌, ◌<◌, ◌≤◌, ℕ, zero, suc, ◌+◌, Bool, true, false, if◌then◌else◌, pos, List, [], ◌∷◌, ◌++◌, map, length, drop, take, get_or, slice_get, Some, None, refl, sym, ap, ◌∙◌, subst, append_assoc, arith}
use Rattle.std.proofs.lemmas.List.{at_drop_more, at_drop_all}
use Rattle.qed_terms.specs.Meaning as sense
use Rattle.qed_terms.specs.Tree.{Tree, num}
use Rattle.core_trees.specs.declared.variables.FunctionVariable.{FunctionVariable}
use Rattle.core_trees.specs.View.{view_variable, view_variables}
use Rattle.plain_runs.specs.Fitting.{Shape}
use Rattle.plain_states.specs.Slots.{Sizes, value_slot, flag_slot}
use Rattle.walk_steps.specs.Step as steps
use Rattle.walk_steps.specs.Step.{Change, keeps, fresh, Step}
use Rattle.walk_steps.specs.Walk.{Goal}
use Rattle.program_steps.specs.Leaves.{number}
use Rattle.program_steps.specs.Words as words
use Rattle.walk_live.proofs.Marks.{take_next}
use Rattle.walk_words.specs.declared.renewals.Change as memory
use Rattle.walk_words.specs.declared.renewals.Change.TheVariants as change
use Rattle.walk_words.specs.View.{view_change}
use Rattle.step_walks.specs.Walks.{Held, Walks, now_changed, now_set}
use Rattle.step_walks.proofs.Walking.{change_walks, seq_goes, set_walks, skip_walks}
use Rattle.step_walks.proofs.Along.{Along, along_end, along_same, along_turn}
use Rattle.walk_frames.specs.Words.{unset_word}

-- ---- a slot that changes alone

abbrev pub keep_all : ℕ → List Change
keep_all zero = []
keep_all (suc n) = keeps ∷ keep_all n

keeps_push : (n : ℕ) → keep_all n ++ keeps ∷ [] ≡ keep_all (suc n)
keeps_push zero = refl
keeps_push (suc n) = ap (λ cs. keeps ∷ cs) (keeps_push n)

any_behind : (n : ℕ) → keep_all n ++ fresh [] ∷ [] ≡ words.any_at n
any_behind zero = refl
any_behind (suc n) = ap (λ cs. keeps ∷ cs) (any_behind n)

change_push : (cs : List memory.Change) (c : memory.Change) → map view_change (cs ++ c ∷ []) ≡ map view_change cs ++ view_change c ∷ []
change_push [] c = refl
change_push (d ∷ cs) c = ap (λ es. view_change d ∷ es) (change_push cs c)

pub any_push : (n : ℕ) (made new : List memory.Change) → map view_change made ≡ keep_all n → new ≡ made ++ change.Keeps ∷ [] → map view_change new ≡ keep_all (n + 1)
any_push n made new h push =
    let next : suc n ≡ n + 1 = omega arith in
    ap (map view_change) push ∙ change_push made change.Keeps ∙ ap (λ cs. cs ++ keeps ∷ []) h ∙ keeps_push n ∙ ap keep_all next

pub any_end : (n m : ℕ) (made new : List memory.Change) → n ≡ m → map view_change made ≡ keep_all n → new ≡ made ++ change.Any ∷ [] → map view_change new ≡ words.any_at m
any_end n m made new e h push = ap (map view_change) push ∙ change_push made change.Any ∙ ap (λ cs. cs ++ fresh [] ∷ []) h ∙ any_behind n ∙ ap words.any_at e

-- ---- a variable

found : (vs : List FunctionVariable) (x : ℕ) (v : FunctionVariable) → x < length vs → v ≡ get_or vs x v → slice_get (view_variables vs) x ≡ Some (view_variable v)
found [] x v lt is = absurd (omega (arith, lt))
found (w ∷ vs) zero v lt is = ap (λ u. Some (view_variable u)) (sym is)
found (w ∷ vs) (suc x) v lt is = found vs x v (omega (arith, lt)) is

away : (vs : List FunctionVariable) (x : ℕ) → length vs ≤ x → slice_get (view_variables vs) x ≡ None
away [] x le = refl
away (w ∷ vs) zero le = absurd (omega (arith, le))
away (w ∷ vs) (suc x) le = away vs x (omega (arith, le))

abbrev opened_by : sense.World → (number : ℕ) → Bool → Step
opened_by m n b =
    if b then steps.seq (steps.set (value_slot n) (number m (num (pos 0)))) (steps.set (flag_slot n) (number m (num (pos 1))))
    else steps.seq (steps.change (words.any_at (value_slot n))) (steps.set (flag_slot n) (number m (num (pos 0))))

module _ {bases : List (List ℕ)} where
  pub unset_walks : {p q r : Held} {fit : List Goal → Type 0} (m : sense.World) (x i j : ℕ) (cs : List Change) (zero_tree : Tree) → i ≡ value_slot x → j ≡ flag_slot x → cs ≡ words.any_at i → zero_tree ≡ num (pos 0)
      → q ≡ now_changed bases p cs → r ≡ now_set q j zero_tree → Walks bases (unset_word m x) p r fit fit true
  unset_walks {p = p} {q = q} m x i j cs u is_value is_flag is_any is_zero changed set =
      seq_goes (change_walks (words.any_at (value_slot x)) (changed ∙ ap (now_changed bases p) (is_any ∙ ap words.any_at is_value)))
      (set_walks (flag_slot x) (number m (num (pos 0))) (num (pos 0)) refl (set ∙ (λ k. now_set q (is_flag k) (is_zero k))))

  pub opened_none : {p : Held} {fit : List Goal → Type 0} (m : sense.World) (s : Shape) (z : Sizes) (vs : List FunctionVariable) (x : ℕ) → length vs ≤ x
      → Walks bases (words.opened m s z x (slice_get (view_variables vs) x)) p p fit fit true
  opened_none {p = p} {fit = fit} m s z vs x le = subst (λ o. Walks bases (words.opened m s z x o) p p fit fit true) (sym (away vs x le)) skip_walks

  opened_is : {p q : Held} {fit : List Goal → Type 0} (m : sense.World) (s : Shape) (z : Sizes) (vs : List FunctionVariable) (x : ℕ) (v : FunctionVariable) (b : Bool) → x < length vs → v ≡ get_or vs x v
      → v.has_value ≡ b → Walks bases (opened_by m (z.globals + x) b) p q fit fit true → Walks bases (words.opened m s z x (slice_get (view_variables vs) x)) p q fit fit true
  opened_is {p = p} {q = q} {fit = fit} m s z vs x v b lt is e h =
      subst (λ o. Walks bases (words.opened m s z x o) p q fit fit true) (sym (found vs x v lt is)) (subst (λ o. Walks bases (opened_by m (z.globals + x) o) p q fit fit true) (sym e) h)

  pub opened_set : {p q : Held} {fit : List Goal → Type 0} (m : sense.World) (s : Shape) (z : Sizes) (vs : List FunctionVariable) (x : ℕ) (v : FunctionVariable) (n : ℕ) → x < length vs → v ≡ get_or vs x v
      → n ≡ z.globals + x → v.has_value ≡ true → Walks bases (words.set_variable m n (num (pos 0))) p q fit fit true → Walks bases (words.opened m s z x (slice_get (view_variables vs) x)) p q fit fit true
  opened_set {p = p} {q = q} {fit = fit} m s z vs x v n lt is is_number e h =
      opened_is m s z vs x v true lt is e (subst (λ k. Walks bases (words.set_variable m k (num (pos 0))) p q fit fit true) is_number h)

  pub opened_unset : {p q : Held} {fit : List Goal → Type 0} (m : sense.World) (s : Shape) (z : Sizes) (vs : List FunctionVariable) (x : ℕ) (v : FunctionVariable) (n : ℕ) → x < length vs → v ≡ get_or vs x v
      → n ≡ z.globals + x → v.has_value ≡ false → Walks bases (unset_word m n) p q fit fit true → Walks bases (words.opened m s z x (slice_get (view_variables vs) x)) p q fit fit true
  opened_unset {p = p} {q = q} {fit = fit} m s z vs x v n lt is is_number e h =
      opened_is m s z vs x v false lt is e (subst (λ k. Walks bases (unset_word m k) p q fit fit true) is_number h)

  -- ---- all of them

  pub opened_turn : {start now new : Held} {fit fit' fit'' : List Goal → Type 0} {whole : Step} (m : sense.World) (s : Shape) (z : Sizes) (xs : List ℕ) (i d : ℕ) → i < length xs
      → Along bases start now fit fit' (words.all_opened m s z (drop i xs)) whole → Walks bases (words.opened m s z (get_or xs i d) (slice_get s.variables (get_or xs i d))) now new fit' fit'' true
      → Along bases start new fit fit'' (words.all_opened m s z (drop (i + 1) xs)) whole
  opened_turn m s z xs i d lt h k = along_turn (along_same h (at_drop_more (words.all_opened m s z) xs i d lt)) k

  pub opened_end : {start now : Held} {fit fit' : List Goal → Type 0} {whole : Step} (m : sense.World) (s : Shape) (z : Sizes) (xs : List ℕ) (i : ℕ) → length xs ≤ i
      → Along bases start now fit fit' (words.all_opened m s z (drop i xs)) whole → Walks bases whole start now fit fit' true
  opened_end m s z xs i le h = along_end (along_same h (at_drop_all (words.all_opened m s z) xs i le))

-- ---- the slots of variables

slots_push : (z : Sizes) (ys : List ℕ) (x : ℕ) → words.slots_of z (ys ++ x ∷ []) ≡ words.slots_of z ys ++ value_slot (z.globals + x) ∷ flag_slot (z.globals + x) ∷ []
slots_push z [] x = refl
slots_push z (y ∷ ys) x = ap (λ is. value_slot (z.globals + y) ∷ flag_slot (z.globals + y) ∷ is) (slots_push z ys x)

take_whole : (ys : List ℕ) (i : ℕ) → length ys ≤ i → take i ys ≡ ys
take_whole [] zero le = refl
take_whole [] (suc i) le = refl
take_whole (y ∷ ys) zero le = absurd (omega (arith, le))
take_whole (y ∷ ys) (suc i) le = ap (λ zs. y ∷ zs) (take_whole ys i (omega (arith, le)))

take_one : (ys : List ℕ) (i d : ℕ) → i < length ys → take (i + 1) ys ≡ take i ys ++ get_or ys i d ∷ []
take_one ys i d lt = take_next ys i (get_or ys i d) lt (same ys i lt)
  where
    same : (ys : List ℕ) (i : ℕ) → i < length ys → get_or ys i d ≡ get_or ys i (get_or ys i d)
    same [] i lt = absurd (omega (arith, lt))
    same (y ∷ ys) zero lt = refl
    same (y ∷ ys) (suc i) lt = same ys i (omega (arith, lt))

pub slots_turn : (z w : Sizes) (ys : List ℕ) (i d a b : ℕ) (made next new : List ℕ) → i < length ys → w ≡ z → made ≡ words.slots_of z (take i ys) → a ≡ value_slot (w.globals + get_or ys i d)
    → b ≡ flag_slot (w.globals + get_or ys i d) → next ≡ made ++ a ∷ [] → new ≡ next ++ b ∷ [] → new ≡ words.slots_of z (take (i + 1) ys)
slots_turn z w ys i d a b made next new lt same h ea eb first second =
    let x : ℕ = get_or ys i d in
    second ∙ ap (λ xs. xs ++ b ∷ []) first ∙ append_assoc made (a ∷ []) (b ∷ [])
    ∙ (λ k. h k ++ (ea ∙ ap (λ (v : Sizes). value_slot (v.globals + x)) same) k ∷ (eb ∙ ap (λ (v : Sizes). flag_slot (v.globals + x)) same) k ∷ [])
    ∙ sym (slots_push z (take i ys) x) ∙ ap (words.slots_of z) (sym (take_one ys i d lt))

pub slots_end : (z : Sizes) (ys : List ℕ) (i : ℕ) (made : List ℕ) → length ys ≤ i → made ≡ words.slots_of z (take i ys) → made ≡ words.slots_of z ys
slots_end z ys i made le h = h ∙ ap (words.slots_of z) (take_whole ys i le)
