-- What operands are taken for, and what is there where each of them is.
use Rattle.std.proofs.Common.{◌≡◌, ℕ, zero, suc, not, List, [], ◌∷◌, length, refl, sym, ap, ◌∙◌, subst}
use Rattle.std.specs.Prelude.{Option, Some, None, ◌-◌}
use Rattle.c_runs.specs.TruthStates as state
use Rattle.c_runs.specs.TruthStates.{Value, number_of, is_true}
use Rattle.c_runs.specs.Truth.{value_at, last_of}
use Rattle.qed_terms.specs.Tree.{Tree as Term}
use Rattle.qed_terms.specs.Meaning.{Values, World as Logic}
use Rattle.acsl_encode.specs.Readings.{Pointer, Terms, integer, truth, address, variable, elements, region, nothing, Common}
use Rattle.acsl_encode.specs.Encode as encode
use Rattle.acsl_encode.specs.Encode.{as_integer, as_formula, as_pointer, with_one, with_two, terms_at}
use Rattle.acsl_encode.specs.Meaning.{Holds, number_in, is_so_in, Means, HasAddress}
use Rattle.acsl_encode.proofs.Numbers.{minus_zero, truth_is, is_true_truth}

module _ (q : Logic) (r : Common) (env : Values) where
  abbrev pub IsNumber : Value → Term → Type 0
  IsNumber v t = v ≡ state.number (number_in q env t)

  abbrev pub IsTruth : Value → Term → Type 0
  IsTruth v f = is_true v ≡ is_so_in q env f

  abbrev pub IsPointer : Value → Pointer → Type 0
  IsPointer v p = (v ≡ state.pointer (number_in q env p.block) (number_in q env p.offset)) × HasAddress (number_in q env p.block)

  pub as_number : (x : Terms) (v : Value) → Means q r env x v → Holds (IsNumber v) (as_integer x)
  as_number (integer k t) v h = h.0
  as_number (truth f) v h = h ∙ truth_is (is_so_in q env f)
  as_number (address b o) v h = tt
  as_number (variable x) v h = tt
  as_number (elements b o n low high) v h = tt
  as_number (region cells b i j) v h = tt
  as_number nothing v h = tt

  pub as_truth : (x : Terms) (v : Value) → Means q r env x v → Holds (IsTruth v) (as_formula x)
  as_truth (integer k t) v h = ap is_true h.0 ∙ ap not (sym (minus_zero (number_in q env t)))
  as_truth (truth f) v h = ap is_true h ∙ is_true_truth (is_so_in q env f)
  as_truth (address b o) v h = tt
  as_truth (variable x) v h = tt
  as_truth (elements b o n low high) v h = tt
  as_truth (region cells b i j) v h = tt
  as_truth nothing v h = tt

  pub as_address : (x : Terms) (v : Value) → Means q r env x v → Holds (IsPointer v) (as_pointer x)
  as_address (integer k t) v h = tt
  as_address (truth f) v h = tt
  as_address (address b o) v h = h
  as_address (variable x) v h = tt
  as_address (elements b o n low high) v h = tt
  as_address (region cells b i j) v h = tt
  as_address nothing v h = tt

  -- ---- operands that are all there

  pub on_one : {X : Type 0} (p : X → Type 0) (f : X → Terms) (v : Value) (o : Option X) → Holds p o → ((x : X) → p x → Means q r env (f x) v)
      → Means q r env (with_one f o) v
  on_one p f v (Some x) h made = made x h
  on_one p f v None h made = tt

  pub on_two : {X Y : Type 0} (p : X → Type 0) (p' : Y → Type 0) (f : X → Y → Terms) (v : Value) (o : Option X) (o' : Option Y) → Holds p o → Holds p' o'
      → ((x : X) (y : Y) → p x → p' y → Means q r env (f x y) v) → Means q r env (with_two f o o') v
  on_two p p' f v (Some x) (Some y) h k made = made x y h k
  on_two p p' f v (Some x) None h k made = tt
  on_two p p' f v None o' h k made = tt

  -- ---- kids

  abbrev pub AllMean : List Terms → List Value → Type 0
  AllMean [] [] = Unit {0}
  AllMean [] (v ∷ vs) = ⊥
  AllMean (x ∷ xs) [] = ⊥
  AllMean (x ∷ xs) (v ∷ vs) = Means q r env x v × AllMean xs vs

  pub kid_means : (xs : List Terms) (vs : List Value) (i : ℕ) → AllMean xs vs → Means q r env (terms_at xs i) (value_at vs i)
  kid_means [] [] i h = tt
  kid_means [] (v ∷ vs) i h = absurd h
  kid_means (x ∷ xs) [] i h = absurd h
  kid_means (x ∷ xs) (v ∷ vs) zero h = h.0
  kid_means (x ∷ xs) (v ∷ vs) (suc i) h = kid_means xs vs i h.1

  same_count : (xs : List Terms) (vs : List Value) → AllMean xs vs → length xs ≡ length vs
  same_count [] [] h = refl
  same_count [] (v ∷ vs) h = absurd h
  same_count (x ∷ xs) [] h = absurd h
  same_count (x ∷ xs) (v ∷ vs) h = ap suc (same_count xs vs h.1)

  pub last_means : (xs : List Terms) (vs : List Value) → AllMean xs vs → Means q r env (encode.last_of xs) (last_of vs)
  last_means xs vs h =
      subst (λ n. Means q r env (encode.last_of xs) (value_at vs (n - 1))) (same_count xs vs h) (kid_means xs vs (length xs - 1) h)
