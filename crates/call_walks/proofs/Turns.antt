-- Lists that are filled item by item: what is done, and what is to come, make the whole.
use Rattle.std.proofs.Common.{◌≡◌, ◌<◌, ◌≤◌, ℕ, zero, suc, ◌+◌, Bool, true, false, not, ◌&&◌, List, [], ◌∷◌, ◌++◌, map, drop, length, get_or, Option, refl, sym, ap, ◌∙◌, append_assoc, append-nil, arith, subst}
use Rattle.std.specs.Prelude.{if◌then◌else◌}
use Rattle.std.specs.List.{list_all}
use Rattle.std.proofs.lemmas.List.{at_drop_more, at_drop_all, length-map, map-append}
use Rattle.typed_prog.specs.declared.operators.Variable.TheVariants as variables
use Rattle.acsl_trees.specs.declared.tree.Tree.{Tree as Code}
use Rattle.acsl_trees.specs.Tree as acsl
use Rattle.acsl_trees.specs.Tree.{view_tree, view_trees}
use Rattle.qed_terms.specs.Tree.{Tree}
use Rattle.walk_steps.specs.Forms.{Slots}
use Rattle.walk_steps.specs.Step.{Change, keeps}
use Rattle.c_runs.specs.Program.{Contract, Facts, Variable}
use Rattle.core_trees.specs.declared.variables.FunctionVariable.{FunctionVariable}
use Rattle.core_trees.specs.View.{view_variable, view_variables}
use Rattle.call_words.specs.Sets.{is_in, file_change, file_changes}
use Rattle.call_words.specs.Words.{change_at}
use Rattle.walk_words.specs.declared.renewals.Change as memory
use Rattle.walk_words.specs.declared.renewals.Change.TheVariants as change
use Rattle.walk_words.specs.View.{view_change}
use Rattle.call_walks.specs.Claimed.{joined, stay_in, stays_in}

module _ {A X Y : Type 0} (view : A → X) (f : X → List Y) where
  pub joined_turn : (items : List A) (i : ℕ) (x : A) (made new whole : List Y) → i < length items → x ≡ get_or items i x
      → made ++ joined f (map view (drop i items)) ≡ whole → new ≡ made ++ f (view x) → new ++ joined f (map view (drop (i + 1) items)) ≡ whole
  joined_turn items i x made new whole lt is h push =
      let rest = joined f (map view (drop (i + 1) items)) in
      ap (λ ys. ys ++ rest) push ∙ append_assoc made (f (view x)) rest ∙ ap (λ y. made ++ (f (view y) ++ rest)) is
      ∙ ap (λ ys. made ++ ys) (sym (at_drop_more (λ ys. joined f (map view ys)) items i x lt)) ∙ h

  pub joined_end : (items : List A) (i : ℕ) (made whole : List Y) → length items ≤ i → made ++ joined f (map view (drop i items)) ≡ whole → made ≡ whole
  joined_end items i made whole le h = sym (append-nil made) ∙ ap (λ ys. made ++ ys) (sym (at_drop_all (λ ys. joined f (map view ys)) items i le)) ∙ h

module _ {A X Y : Type 0} (view : A → X) (f : X → Y) where
  pub map_turn : (items : List A) (i : ℕ) (x : A) (made new whole : List Y) → i < length items → x ≡ get_or items i x
      → made ++ map f (map view (drop i items)) ≡ whole → new ≡ made ++ f (view x) ∷ [] → new ++ map f (map view (drop (i + 1) items)) ≡ whole
  map_turn items i x made new whole lt is h push =
      let rest = map f (map view (drop (i + 1) items)) in
      ap (λ ys. ys ++ rest) push ∙ append_assoc made (f (view x) ∷ []) rest ∙ ap (λ y. made ++ (f (view y) ∷ rest)) is
      ∙ ap (λ ys. made ++ ys) (sym (at_drop_more (λ ys. map f (map view ys)) items i x lt)) ∙ h

  pub map_end : (items : List A) (i : ℕ) (made whole : List Y) → length items ≤ i → made ++ map f (map view (drop i items)) ≡ whole → made ≡ whole
  map_end items i made whole le h = sym (append-nil made) ∙ ap (λ ys. made ++ ys) (sym (at_drop_all (λ ys. map f (map view ys)) items i le)) ∙ h

-- ---- numbered items

-- another item stands in front of what is behind it
record Front {X : Type 0} (xs : List X) (i : ℕ) : Type 0 where
  item : X
  is : drop i xs ≡ item ∷ drop (suc i) xs

front_at : {X : Type 0} (xs : List X) (i : ℕ) → i < length xs → Front xs i
front_at [] i lt = absurd (omega (arith, lt))
front_at (x ∷ xs) zero lt = record { item = x; is = refl }
front_at (x ∷ xs) (suc i) lt = let rest = front_at xs i (omega (arith, lt)) in record { item = rest.item; is = rest.is }

module _ (now before : Slots) (changes : ℕ → Bool) (a : Tree) (set : Option (List acsl.Tree)) where
  pub stays_turn : (xs : List FunctionVariable) (count i : ℕ) (made new whole : List Tree) → i < count → count ≡ length xs → made ++ stays_in now before changes a set i (drop i (view_variables xs)) ≡ whole
      → new ≡ made ++ stay_in now before changes a set i → new ++ stays_in now before changes a set (i + 1) (drop (i + 1) (view_variables xs)) ≡ whole
  stays_turn xs count i made new whole lt counted h push =
      let vs = view_variables xs in
      let next : i + 1 ≡ suc i = omega arith in
      let l = length-map xs view_variable in
      let front = front_at vs i (omega (arith, lt, counted, l)) in
      ap (λ n. new ++ stays_in now before changes a set n (drop n vs)) next
      ∙ ap (λ ys. ys ++ stays_in now before changes a set (suc i) (drop (suc i) vs)) push
      ∙ append_assoc made (stay_in now before changes a set i) (stays_in now before changes a set (suc i) (drop (suc i) vs))
      ∙ ap (λ ys. made ++ stays_in now before changes a set i ys) (sym front.is) ∙ h

  pub stays_end : (xs : List FunctionVariable) (count i : ℕ) (made whole : List Tree) → count ≤ i → count ≡ length xs → made ++ stays_in now before changes a set i (drop i (view_variables xs)) ≡ whole → made ≡ whole
  stays_end xs count i made whole le counted h =
      let l = length-map xs view_variable in
      sym (append-nil made) ∙ ap (λ ys. made ++ ys) (sym (at_drop_all (stays_in now before changes a set i) (view_variables xs) i (omega (arith, le, counted, l)))) ∙ h

module _ (p : Facts) (c : Contract) where
  pub changes_turn : (xs : List FunctionVariable) (i : ℕ) (x : FunctionVariable) (made whole : List Change) (a : Change) → i < length xs → x ≡ get_or xs i x
      → made ++ file_changes p c i (view_variables (drop i xs)) ≡ whole → a ≡ file_change p c i (view_variable x)
      → (made ++ a ∷ []) ++ keeps ∷ [] ++ file_changes p c (i + 1) (view_variables (drop (i + 1) xs)) ≡ whole
  changes_turn xs i x made whole a lt is h e =
      let next : i + 1 ≡ suc i = omega arith in
      let rest = λ (n : ℕ). file_changes p c n (view_variables (drop (i + 1) xs)) in
      append_assoc (made ++ a ∷ []) (keeps ∷ []) (rest (i + 1)) ∙ append_assoc made (a ∷ []) (keeps ∷ rest (i + 1))
      ∙ (λ j. made ++ (e j ∷ keeps ∷ rest (next j))) ∙ ap (λ y. made ++ (file_change p c i (view_variable y) ∷ keeps ∷ rest (suc i))) is
      ∙ ap (λ ys. made ++ ys) (sym (at_drop_more (λ ys. file_changes p c i (view_variables ys)) xs i x lt)) ∙ h

  pub changes_end : (xs : List FunctionVariable) (i : ℕ) (made whole : List Change) → length xs ≤ i → made ++ file_changes p c i (view_variables (drop i xs)) ≡ whole → made ≡ whole
  changes_end xs i made whole le h = sym (append-nil made) ∙ ap (λ ys. made ++ ys) (sym (at_drop_all (λ ys. file_changes p c i (view_variables ys)) xs i le)) ∙ h

-- ---- one slot alone

abbrev pub keep_all : ℕ → List Change
keep_all zero = []
keep_all (suc n) = keeps ∷ keep_all n

pub keeps_push : (n : ℕ) (made : List Change) → made ≡ keep_all n → made ++ keeps ∷ [] ≡ keep_all (n + 1)
keeps_push n made e = ap (λ cs. cs ++ keeps ∷ []) e ∙ by n ∙ ap keep_all (let next : suc n ≡ n + 1 = omega arith in next) where
  by : (n : ℕ) → keep_all n ++ keeps ∷ [] ≡ keeps ∷ keep_all n
  by zero = refl
  by (suc n) = ap (λ cs. keeps ∷ cs) (by n)

pub change_behind : (n : ℕ) (c : Change) (made : List Change) → made ≡ keep_all n → made ++ c ∷ [] ≡ change_at n c
change_behind n c made e = ap (λ cs. cs ++ c ∷ []) e ∙ by n where
  by : (n : ℕ) → keep_all n ++ c ∷ [] ≡ change_at n c
  by zero = refl
  by (suc n) = ap (λ cs. keeps ∷ cs) (by n)

pub kept_next : (made new : List memory.Change) (n : ℕ) → map view_change made ≡ keep_all n → new ≡ made ++ change.Keeps ∷ [] → map view_change new ≡ keep_all (n + 1)
kept_next made new n e push = ap (map view_change) push ∙ map-append view_change made (change.Keeps ∷ []) ∙ keeps_push n (map view_change made) e

pub kept_end : (made new : List memory.Change) (n slot : ℕ) (c : memory.Change) → n ≤ slot → slot ≤ n → map view_change made ≡ keep_all n → new ≡ made ++ c ∷ [] → map view_change new ≡ change_at slot (view_change c)
kept_end made new n slot c le ge e push =
    let same : n ≡ slot = omega (arith, le, ge) in
    ap (map view_change) push ∙ map-append view_change made (c ∷ []) ∙ change_behind n (view_change c) (map view_change made) e ∙ ap (λ k. change_at k (view_change c)) same

-- ---- tests of all

pub all_next : (ws : List acsl.Tree) (rs : List Code) (i : ℕ) (r : Code) → i < length rs → r ≡ get_or rs i r → true ≡ is_in ws (view_tree r)
    → list_all (is_in ws) (view_trees (drop (i + 1) rs)) ≡ list_all (is_in ws) (view_trees (drop i rs))
all_next ws rs i r lt is e =
    ap (λ b. b && list_all (is_in ws) (view_trees (drop (i + 1) rs))) (e ∙ ap (λ y. is_in ws (view_tree y)) is)
    ∙ sym (at_drop_more (λ ys. list_all (is_in ws) (view_trees ys)) rs i r lt)

pub all_fails : (ws : List acsl.Tree) (rs : List Code) (i : ℕ) (r : Code) → i < length rs → r ≡ get_or rs i r → false ≡ is_in ws (view_tree r)
    → false ≡ list_all (is_in ws) (view_trees (drop i rs))
all_fails ws rs i r lt is e =
    ap (λ b. b && list_all (is_in ws) (view_trees (drop (i + 1) rs))) (e ∙ ap (λ y. is_in ws (view_tree y)) is)
    ∙ sym (at_drop_more (λ ys. list_all (is_in ws) (view_trees ys)) rs i r lt)

pub all_over : (ws : List acsl.Tree) (rs : List Code) (i : ℕ) → length rs ≤ i → list_all (is_in ws) (view_trees (drop i rs)) ≡ true
all_over ws rs i le = at_drop_all (λ ys. list_all (is_in ws) (view_trees ys)) rs i le
