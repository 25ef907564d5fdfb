-- Which variables change at the head, and how their slots do.
use Rattle.std.proofs.Common.{slice_index_or, ◌≡◌, ◌<◌, ◌≤◌, ℕ, zero, suc, ◌+◌, Bool, true, false, not, List, [], ◌∷◌, ◌++◌, map, drop, length, get_or, refl, sym, ap, ap₂, ◌∙◌, arith}
use Rattle.std.proofs.lemmas.List.{at_drop_more, at_drop_all}
use Rattle.core_trees.specs.View.{view_variable, view_variables}
use Rattle.core_trees.specs.declared.variables.FunctionVariable.{FunctionVariable}
use Rattle.c_runs.specs.Program.{Variable, Contract, Loop, Facts}
use Rattle.c_runs.specs.Tree.{Steps}
use Rattle.plain_runs.specs.Fitting.{Shape}
use Rattle.plain_states.specs.Scopes.{kind_of}
use Rattle.walk_steps.specs.Step.{Change, keeps}
use Rattle.program_steps.specs.Words.{Point}
use Rattle.walk_words.specs.View.{view_change}
use Rattle.walk_words.specs.declared.renewals.Change as memory
use Rattle.walk_words.proofs.Pushing.{two_pushed}
use Rattle.walk_live.specs.Bits.{bits}
use Rattle.walk_live.proofs.Bitwise.{bits_push, bits_length}
use Rattle.loop_words.specs.Words.{value_change, flag_change, file_list, local_list, head_changes}
use Rattle.loop_words.specs.Sets.{file_changes, local_changes}
use Rattle.loop_walks.specs.Parts.{flag_change_if, changes_from}
use Rattle.loop_walks.proofs.Lists.{one_more, all_done}

pub not_not : (b : Bool) → not (not b) ≡ b
not_not true = refl
not_not false = refl

-- a bit more
pub next_bit : (f : ℕ → Bool) (n : ℕ) (made new : List Bool) (b : Bool) → made ≡ bits n f → b ≡ f n → new ≡ made ++ b ∷ [] → new ≡ bits (n + 1) f
next_bit f n made new b h is k = k ∙ ap₂ (λ bs x. bs ++ x ∷ []) h is ∙ sym (bits_push n f)

pub bit_in : (c : ℕ) (f : ℕ → Bool) (xs : List Bool) (n : ℕ) → xs ≡ bits c f → n < c → slice_index_or xs n false ≡ f n
bit_in c f xs n e l = ap (λ ys. slice_index_or ys n false) e ∙ by c f n l
  where
    by : (c : ℕ) (f : ℕ → Bool) (n : ℕ) → n < c → slice_index_or (bits c f) n false ≡ f n
    by zero f n l = absurd (omega (arith, l))
    by (suc c) f zero l = refl
    by (suc c) f (suc n) l = by c (λ i. f (suc i)) n (omega (arith, l))

pub bit_out : (c : ℕ) (f : ℕ → Bool) (xs : List Bool) (n : ℕ) → xs ≡ bits c f → n < c → length xs ≤ n → false ≡ f n
bit_out c f xs n e l le = let k = ap length e in let j = bits_length c f in absurd (omega (arith, l, le, k, j))

-- two more changes
pub two_more : (done mid new : List memory.Change) (x y : memory.Change) (a b : Change) → mid ≡ done ++ x ∷ [] → new ≡ mid ++ y ∷ [] → view_change x ≡ a → view_change y ≡ b
    → map view_change new ≡ map view_change done ++ a ∷ b ∷ []
two_more done mid new x y a b h k is so = ap (map view_change) (k ∙ ap (λ xs. xs ++ y ∷ []) h) ∙ two_pushed view_change done x y a b is so

-- ---- changes of slots

module _ (p : Facts) where
  file_is : (f : ℕ → Bool) (x : ℕ) (vs : List Variable) → changes_from p false f x vs ≡ file_list p f x vs
  file_is f x [] = refl
  file_is f x (v ∷ vs) = ap (λ cs. value_change p (f x) (kind_of v) ∷ keeps ∷ cs) (file_is f (suc x) vs)

  local_is : (f : ℕ → Bool) (x : ℕ) (vs : List Variable) → changes_from p true f x vs ≡ local_list p f x vs
  local_is f x [] = refl
  local_is f x (v ∷ vs) = ap (λ cs. value_change p (f x) (kind_of v) ∷ flag_change p (f x) ∷ cs) (local_is f (suc x) vs)

  pub head_is : (s : Shape) (c : Contract) (pt : Point) (l : Loop) (ss : Steps) (file all : List Change) → file ≡ changes_from p false (file_changes c pt l) 0 p.globals
      → all ≡ file ++ changes_from p true (local_changes l ss) 0 s.variables → all ≡ head_changes p s c pt l ss
  head_is s c pt l ss file all h k =
      k ∙ ap₂ (λ xs ys. xs ++ ys) (h ∙ file_is (file_changes c pt l) 0 p.globals) (local_is (local_changes l ss) 0 s.variables)

  -- the next variable
  pub changes_next : (flags : Bool) (f : ℕ → Bool) (vs : List FunctionVariable) (i : ℕ) (v : FunctionVariable) (changes : Bool) (done new whole : List Change) → i < length vs → v ≡ get_or vs i v
      → changes ≡ f i → done ++ changes_from p flags f i (view_variables (drop i vs)) ≡ whole
      → new ≡ done ++ value_change p changes (kind_of (view_variable v)) ∷ flag_change_if p flags changes ∷ []
      → new ++ changes_from p flags f (i + 1) (view_variables (drop (i + 1) vs)) ≡ whole
  changes_next flags f vs i v changes done new whole lt is at h k =
      let item : Bool → List Change = λ b. value_change p b (kind_of (view_variable v)) ∷ flag_change_if p flags b ∷ [] in
      let next : suc i ≡ i + 1 = omega arith in
      one_more done new (item (f i)) (changes_from p flags f i (view_variables (drop i vs))) (changes_from p flags f (i + 1) (view_variables (drop (i + 1) vs))) whole h
      (at_drop_more (λ xs. changes_from p flags f i (view_variables xs)) vs i v lt
      ∙ ap (λ (x : FunctionVariable). changes_from p flags f i (view_variables (x ∷ drop (i + 1) vs))) (sym is)
      ∙ ap (λ j. item (f i) ++ changes_from p flags f j (view_variables (drop (i + 1) vs))) next)
      (k ∙ ap (λ b. done ++ item b) at)

  pub changes_end : (flags : Bool) (f : ℕ → Bool) (vs : List FunctionVariable) (i : ℕ) (done whole : List Change) → length vs ≤ i
      → done ++ changes_from p flags f i (view_variables (drop i vs)) ≡ whole → done ≡ whole
  changes_end flags f vs i done whole le h =
      all_done done (changes_from p flags f i (view_variables (drop i vs))) whole h (at_drop_all (λ xs. changes_from p flags f i (view_variables xs)) vs i le)
