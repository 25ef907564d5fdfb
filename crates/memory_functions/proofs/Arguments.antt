-- Arguments of the kinds of parameters, by their numbers.
use Rattle.std.proofs.Common.{◌≡◌, ◌≤◌, ◌<◌, ℕ, zero, suc, ◌+◌, true, List, [], ◌∷◌, length, Some, slice_get, refl, ap, ◌∙◌, subst, arith}
use Rattle.std.proofs.lemmas.Bool.{false≢true, and_parts}
use Rattle.std.proofs.lemmas.Option.{none-some, same_Some}
use Rattle.wp_base.specs.Blocks.{Table, count}
use Rattle.c_runs.specs.Told.{Value}
use Rattle.c_runs.specs.Program.{Variable, Facts}
use Rattle.c_runs.specs.Scopes.{is_content}
use Rattle.c_runs.specs.Entry.{is_value, leads_well, are_arguments, all_lead_well}
use Rattle.typed_memories.proofs.Tests.{both_so}
use Rattle.memory_words.specs.Shapes.{kind_of}
use Rattle.memory_words.proofs.Contents.{content_is}
use Rattle.memory_calls.proofs.Values.{content_value}

-- what a parameter gets
pub record Gets (p : Facts) (t : Table) (v : Variable) (vs : List Value) (i : ℕ) : Type 0 where
  pub argument : Value
  pub is : slice_get vs i ≡ Some argument
  pub fits : is_content p (count t) (kind_of v) argument ≡ true

module _ (p : Facts) (t : Table) where
  pub arguments_count : (n : ℕ) (xs : List Variable) (vs : List Value) → are_arguments p t n xs vs ≡ true → length vs ≡ n
  arguments_count zero xs [] h = refl
  arguments_count zero xs (v ∷ vs) h = absurd (false≢true h)
  arguments_count (suc n) [] vs h = absurd (false≢true h)
  arguments_count (suc n) (x ∷ xs) [] h = absurd (false≢true h)
  arguments_count (suc n) (x ∷ xs) (v ∷ vs) h = ap suc (arguments_count n xs vs (and_parts (is_value p t (kind_of x) v) (are_arguments p t n xs vs) h).1)

  pub gets_one : (n : ℕ) (xs : List Variable) (vs : List Value) → are_arguments p t n xs vs ≡ true → all_lead_well vs ≡ true → (i : ℕ) (x : Variable) → i < n
      → slice_get xs i ≡ Some x → Gets p t x vs i
  gets_one zero xs vs h k i x l e = absurd (omega (arith, l))
  gets_one (suc n) [] vs h k i x l e = absurd (none-some x e)
  gets_one (suc n) (y ∷ xs) [] h k i x l e = absurd (false≢true h)
  gets_one (suc n) (y ∷ xs) (v ∷ vs) h k zero x l e =
      let value = (and_parts (is_value p t (kind_of y) v) (are_arguments p t n xs vs) h).0 in
      let leads = (and_parts (leads_well v) (all_lead_well vs) k).0 in
      subst (λ (x : Variable). Gets p t x (v ∷ vs) zero) (same_Some y x e) (record { argument = v; is = refl; fits = content_is p t (kind_of y) v value leads })
  gets_one (suc n) (y ∷ xs) (v ∷ vs) h k (suc i) x l e =
      let r = gets_one n xs vs (and_parts (is_value p t (kind_of y) v) (are_arguments p t n xs vs) h).1 (and_parts (leads_well v) (all_lead_well vs) k).1 i x (omega (arith, l)) e in
      record { argument = r.argument; is = r.is; fits = r.fits }

  -- values that are taken one by one
  abbrev pub taken : (ℕ → Value) → (n x : ℕ) → List Value
  taken f zero x = []
  taken f (suc n) x = f x ∷ taken f n (suc x)

  pub taken_length : (f : ℕ → Value) (n x : ℕ) → length (taken f n x) ≡ n
  taken_length f zero x = refl
  taken_length f (suc n) x = ap suc (taken_length f n (suc x))

  pub taken_at : (f : ℕ → Value) (n x i : ℕ) → i < n → slice_get (taken f n x) i ≡ Some (f (x + i))
  taken_at f zero x i l = absurd (omega (arith, l))
  taken_at f (suc n) x zero l = ap (λ j. Some (f j)) (let q : x ≡ x + 0 = omega arith in q)
  taken_at f (suc n) x (suc i) l = taken_at f n (suc x) i (omega (arith, l)) ∙ ap (λ j. Some (f j)) (let q : suc x + i ≡ x + suc i = omega arith in q)

  pub taken_fit : (f : ℕ → Value) (n x : ℕ) (xs : List Variable) → n ≤ length xs
      → ((i : ℕ) (v : Variable) → i < n → slice_get xs i ≡ Some v → is_content p (count t) (kind_of v) (f (x + i)) ≡ true)
      → (are_arguments p t n xs (taken f n x) ≡ true) × (all_lead_well (taken f n x) ≡ true)
  taken_fit f zero x xs l h = (refl, refl)
  taken_fit f (suc n) x [] l h = absurd (omega (arith, l))
  taken_fit f (suc n) x (v ∷ xs) l h =
      let first = content_value p t (kind_of v) (f x)
      (subst (λ j. is_content p (count t) (kind_of v) (f j) ≡ true) (let q : x + 0 ≡ x = omega arith in q) (h 0 v (omega arith) refl)) in
      let rest = taken_fit f n (suc x) xs (omega (arith, l))
      (λ i u k e. subst (λ j. is_content p (count t) (kind_of u) (f j) ≡ true) (let q : x + suc i ≡ suc x + i = omega arith in q) (h (suc i) u (omega (arith, k)) e)) in
      (both_so (is_value p t (kind_of v) (f x)) _ first.0 rest.0, both_so (leads_well (f x)) _ first.1 rest.1)
