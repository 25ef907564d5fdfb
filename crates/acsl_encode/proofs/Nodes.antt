-- Nodes by their heads, and chains.
use Rattle.std.proofs.Common.{◌≡◌, ℕ, Bool, true, false, not, ◌&&◌, ◌||◌, List, [], ◌∷◌, map, refl, sym, ap, ◌∙◌, subst}
use Rattle.std.specs.Prelude.{pos, ◌-ℤ◌, neg_ℤ, Option, Some, None}
use Rattle.c_kinds.specs.Models.{convert}
use Rattle.acsl_trees.specs.declared.heads.Label.{Label}
use Rattle.acsl_trees.specs.declared.heads.Head.{Head}
use Rattle.acsl_trees.specs.declared.heads.Head.TheVariants as hd
use Rattle.c_runs.specs.TruthStates as state
use Rattle.c_runs.specs.TruthStates.{Value, World, number_of, is_true}
use Rattle.c_runs.specs.Truth as truth
use Rattle.c_runs.specs.Truth.{computed, compare, compare_pointers, value_at, implied, same}
use Rattle.qed_terms.specs.Tree.{Tree as Term, trees_of, not_of, and_of, or_of, imp_of}
use Rattle.qed_terms.specs.Operators.{turned_bits, quotient}
use Rattle.qed_terms.specs.Meaning.{Values, World as Logic, is_so, each_true, meanings}
use Rattle.wp_base.specs.Blocks.{same_truth}
use Rattle.acsl_encode.specs.Readings as reading
use Rattle.acsl_encode.specs.Readings.{Pointer, Terms, Reading, seen_in}
use Rattle.acsl_encode.specs.Encode as encode
use Rattle.acsl_encode.specs.Encode.{comparison, pointer_comparison, as_integer, as_pointer, as_formula, unbounded, terms_at, iff_of, linked, all_linked}
use Rattle.acsl_encode.specs.Encode.{in_chain, all_of}
use Rattle.acsl_encode.specs.Meaning.{Holds, number_in, is_so_in, Means, Stands}
use Rattle.acsl_encode.proofs.Numbers.{neg_is}
use Rattle.acsl_encode.proofs.Operands.{IsNumber, IsTruth, IsPointer, as_number, as_truth, as_address, on_one, on_two, AllMean, kid_means}
use Rattle.acsl_encode.proofs.Operations.{and_true, or_false, comparison_is, pointers_is, computed_is, difference_is, moved_means, field_means}
use Rattle.acsl_encode.proofs.Heads.{variable_means, read_means, converted_means, either_means, at_label}

same_truths : (a b : Bool) → same a b ≡ same_truth a b
same_truths true b = refl
same_truths false b = refl

module _ (q : Logic) (r : Reading) (env : Values) where
  abbrev M : Terms → Value → Type 0
  M = Means q r.common env

  abbrev F : Term → Bool
  F = is_so_in q env

  -- a truth that has been found
  abbrev Found : Terms → Bool → Type 0
  Found x b = M x (state.truth b)

  module _ (xs : List Terms) (vs : List Value) (h : AllMean q r.common env xs vs) where
    integer_at : (i : ℕ) → Holds (IsNumber q r.common env (value_at vs i)) (as_integer (terms_at xs i))
    integer_at i = as_number q r.common env (terms_at xs i) (value_at vs i) (kid_means q r.common env xs vs i h)

    truth_at : (i : ℕ) → Holds (IsTruth q r.common env (value_at vs i)) (as_formula (terms_at xs i))
    truth_at i = as_truth q r.common env (terms_at xs i) (value_at vs i) (kid_means q r.common env xs vs i h)

    pointer_at : (i : ℕ) → Holds (IsPointer q r.common env (value_at vs i)) (as_pointer (terms_at xs i))
    pointer_at i = as_address q r.common env (terms_at xs i) (value_at vs i) (kid_means q r.common env xs vs i h)

    on_integer : (f : Term → Terms) (v : Value) → ((t : Term) → IsNumber q r.common env (value_at vs 0) t → M (f t) v) → M
        (encode.with_one f (as_integer (terms_at xs 0))) v
    on_integer f v made = on_one q r.common env (IsNumber q r.common env (value_at vs 0)) f v (as_integer (terms_at xs 0)) (integer_at 0) made

    on_integers : (f : Term → Term → Terms) (v : Value)
        → ((t u : Term) → IsNumber q r.common env (value_at vs 0) t → IsNumber q r.common env (value_at vs 1) u → M (f t u) v)
        → M (encode.with_two f (as_integer (terms_at xs 0)) (as_integer (terms_at xs 1))) v
    on_integers f v made =
        on_two q r.common env (IsNumber q r.common env (value_at vs 0)) (IsNumber q r.common env (value_at vs 1)) f v (as_integer (terms_at xs 0))
        (as_integer (terms_at xs 1))
        (integer_at 0) (integer_at 1) made

    on_pointers : (f : Pointer → Pointer → Terms) (v : Value)
        → ((p p' : Pointer) → IsPointer q r.common env (value_at vs 0) p → IsPointer q r.common env (value_at vs 1) p' → M (f p p') v)
        → M (encode.with_two f (as_pointer (terms_at xs 0)) (as_pointer (terms_at xs 1))) v
    on_pointers f v made =
        on_two q r.common env (IsPointer q r.common env (value_at vs 0)) (IsPointer q r.common env (value_at vs 1)) f v (as_pointer (terms_at xs 0))
        (as_pointer (terms_at xs 1))
        (pointer_at 0) (pointer_at 1) made

    moved_at : (minus : Bool) (n : ℕ)
        → M (encode.with_two (encode.moved minus n) (as_pointer (terms_at xs 0)) (as_integer (terms_at xs 1)))
        (truth.moved_by minus n (value_at vs 0) (value_at vs 1))
    moved_at minus n =
        on_two q r.common env (IsPointer q r.common env (value_at vs 0)) (IsNumber q r.common env (value_at vs 1)) (encode.moved minus n) _
        (as_pointer (terms_at xs 0))
        (as_integer (terms_at xs 1)) (pointer_at 0) (integer_at 1) (λ p t. moved_means q r.common env minus n (value_at vs 0) (value_at vs 1) p t)

    reached_means : (n : ℕ) (u v w : Value) (o : Option Pointer) (i j : Option Term) → Holds (IsPointer q r.common env u) o → Holds
        (IsNumber q r.common env v) i
        → Holds (IsNumber q r.common env w) j → M (encode.reached n o i j) (truth.reached n u v w)
    reached_means n u v w (Some p) (Some t) (Some t') a b c = λ i. truth.reached n (a.0 i) (b i) (c i)
    reached_means n u v w (Some p) (Some t) None a b c = tt
    reached_means n u v w (Some p) None j a b c = tt
    reached_means n u v w None i j a b c = tt

    reached_at : (n : ℕ) → M (encode.reached n (as_pointer (terms_at xs 0)) (as_integer (terms_at xs 1)) (as_integer (terms_at xs 2)))
        (truth.reached n (value_at vs 0) (value_at vs 1) (value_at vs 2))
    reached_at n =
        reached_means n (value_at vs 0) (value_at vs 1) (value_at vs 2) (as_pointer (terms_at xs 0)) (as_integer (terms_at xs 1)) (as_integer (terms_at xs 2))
        (pointer_at 0)
        (integer_at 1) (integer_at 2)

    on_formulas : (f : Term → Term → Term) (g : Bool → Bool → Bool) → ((a b : Term) → g (F a) (F b) ≡ F (f a b))
        → Found (encode.with_two (λ a b. reading.truth (f a b)) (as_formula (terms_at xs 0)) (as_formula (terms_at xs 1)))
        (g (is_true (value_at vs 0)) (is_true (value_at vs 1)))
    on_formulas f g is =
        on_two q r.common env (IsTruth q r.common env (value_at vs 0)) (IsTruth q r.common env (value_at vs 1)) (λ a b. reading.truth (f a b)) _
        (as_formula (terms_at xs 0))
        (as_formula (terms_at xs 1)) (truth_at 0) (truth_at 1) (λ a b h k. ap state.truth ((λ i. g (h i) (k i)) ∙ is a b))

    module _ (w : World) (stands : Stands q r env w) where
      abbrev pub Applied : Head → Type 0
      Applied head = M (encode.applied r head xs) (truth.applied w head vs)

      read_at : (c : _) (l : Option Label) → Applied (hd.Read c l)
      read_at c None = read_means q r env c r.here w.here (terms_at xs 0) (value_at vs 0) stands.hidden stands.here (kid_means q r.common env xs vs 0 h)
      read_at c (Some l) =
          read_means q r env c (reading.seen_at l r) (state.state_at l w) (terms_at xs 0) (value_at vs 0) stands.hidden (at_label q r env l w stands)
          (kid_means q r.common env xs vs 0 h)

      pub applied_means : (head : Head) → Applied head
      applied_means (hd.Number z) = (refl, tt)
      applied_means hd.Null = (refl, refl)
      applied_means (hd.Name x) = tt
      applied_means (hd.Call f) = tt
      applied_means hd.Result = stands.result
      applied_means (hd.At l) = tt
      applied_means (hd.Variable x) = variable_means q r env x (r.here.variable x) w.here (stands.here.variables x)
      applied_means hd.Pointed = kid_means q r.common env xs vs 0 h
      applied_means (hd.Field k n) =
          on_one q r.common env (IsPointer q r.common env (value_at vs 0)) _ _ (as_pointer (terms_at xs 0)) (pointer_at 0)
          (λ p. field_means q r.common env n (value_at vs 0) p)
      applied_means (hd.Element n count) = moved_at false n
      applied_means (hd.Elements n count) = reached_at n
      applied_means (hd.Behind n) = reached_at n
      applied_means (hd.Read c l) = read_at c l
      applied_means hd.Address = kid_means q r.common env xs vs 0 h
      applied_means (hd.Moved minus n) = moved_at minus n
      applied_means (hd.Difference n) =
          on_pointers _ _ (λ p p' h k. (
            (λ i. state.number (quotient (state.offset_of (h.0 i) -ℤ state.offset_of (k.0 i)) (pos n))) ∙ ap state.number
                (difference_is q r.common env n p p'),
            tt,
          ))
      applied_means hd.Negate = on_integer _ _ (λ t h. (ap (λ v. state.number (neg_ℤ (number_of v))) h ∙ ap state.number (neg_is (number_in q env t)), tt))
      applied_means hd.Complement = on_integer _ _ (λ t h. (ap (λ v. state.number (turned_bits (number_of v))) h, tt))
      applied_means (hd.Arithmetic o) =
          on_integers _ _ (λ t u h k. (
            (λ i. state.number (computed o (number_of (h i)) (number_of (k i)))) ∙ ap state.number
                (computed_is q r.common env o t u),
            tt,
          ))
      applied_means (hd.Convert k) =
          subst (λ m. M (encode.converted r.common.model k (terms_at xs 0)) (state.number (convert m k (number_of (value_at vs 0))))) stands.model
          (converted_means q r env stands.long_bits k (terms_at xs 0) (value_at vs 0) (kid_means q r.common env xs vs 0 h))
      applied_means (hd.Compare c) =
          on_integers _ _ (λ t u h k. (λ i. state.truth (compare c (number_of (h i)) (number_of (k i)))) ∙ ap state.truth (comparison_is q r.common env c t u))
      applied_means (hd.ComparePointers c) =
          on_pointers _ _ (λ p p' h k. (λ i. state.truth (compare_pointers c (h.0 i) (k.0 i))) ∙ ap state.truth (pointers_is q r.common env c p p'))
      applied_means hd.Not =
          on_one q r.common env (IsTruth q r.common env (value_at vs 0)) _ _ (as_formula (terms_at xs 0)) (truth_at 0) (λ f h. ap (λ b. state.truth (not b)) h)
      applied_means hd.And = on_formulas (λ f g. and_of (f ∷ g ∷ [])) (λ a b. a && b) (λ f g. ap (λ b. F f && b) (and_true (F g)))
      applied_means hd.Or = on_formulas (λ f g. or_of (f ∷ g ∷ [])) (λ a b. a || b) (λ f g. ap (λ b. F f || b) (or_false (F g)))
      applied_means hd.Xor = on_formulas (λ f g. not_of (iff_of f g)) (λ a b. not (same a b)) (λ f g. ap not (same_truths (F f) (F g)))
      applied_means hd.Implies = on_formulas imp_of implied (λ f g. refl)
      applied_means hd.Iff = on_formulas iff_of same (λ f g. same_truths (F f) (F g))
      applied_means hd.Choose =
          on_one q r.common env (IsTruth q r.common env (value_at vs 0)) (encode.either (terms_at xs 1) (terms_at xs 2)) (truth.chosen vs)
          (as_formula (terms_at xs 0)) (truth_at 0)
          (λ c e. either_means q r env (terms_at xs 1) (terms_at xs 2) c (value_at vs 0) (value_at vs 1) (value_at vs 2) e
          (kid_means q r.common env xs vs 1 h) (kid_means q r.common env xs vs 2 h))
      applied_means hd.Chain = tt
      applied_means (hd.Link c) = kid_means q r.common env xs vs 0 h
      applied_means (hd.LinkPointers c) = kid_means q r.common env xs vs 0 h
      applied_means hd.Let = tt
      applied_means (hd.Every g) = tt
      applied_means (hd.Some g) = tt
      applied_means (hd.Valid c writable) = tt
      applied_means hd.Separated = tt
      applied_means (hd.Region c) = tt

  -- ---- chains

  each_is : (fs : List Term) → each_true (map is_so (meanings q env (trees_of fs))) ≡ each_true (map F fs)
  each_is [] = refl
  each_is (f ∷ fs) = ap (λ b. F f && b) (each_is fs)

  pub all_is : (fs : List Term) → F (all_of fs) ≡ each_true (map F fs)
  all_is [] = refl
  all_is (f ∷ []) = and_true (F f)
  all_is (f ∷ g ∷ fs) = each_is (f ∷ g ∷ fs)

  -- this is what the formulas come to
  abbrev pub AllAre : Bool → List Term → Type 0
  AllAre b fs = b ≡ each_true (map F fs)

  pub both_hold : (b c : Bool) (o : Option Term) (os : Option (List Term)) → Holds (λ f. b ≡ F f) o → Holds (AllAre c) os → Holds (AllAre (b && c))
      (encode.both o os)
  both_hold b c (Some f) (Some fs) h k = λ i. h i && k i
  both_hold b c (Some f) None h k = tt
  both_hold b c None os h k = tt

  compared : {X : Type 0} (p p' : X → Type 0) (f : X → X → Term) (b : Bool) (o o' : Option X) → Holds p o → Holds p' o'
      → ((x y : X) → p x → p' y → b ≡ F (f x y)) → Holds (λ g. b ≡ F g) (encode.on_two f o o')
  compared p p' f b (Some x) (Some y) h k is = is x y h k
  compared p p' f b (Some x) None h k is = tt
  compared p p' f b None o' h k is = tt

  link_means : (l : Head) (x y : Terms) (v w : Value) → M x v → M y w → Holds (λ f. truth.linked l v w ≡ F f) (linked l x y)
  link_means (hd.Link c) x y v w h k =
      compared (IsNumber q r.common env v) (IsNumber q r.common env w) (comparison c) _ (as_integer x) (as_integer y) (as_number q r.common env x v h)
      (as_number q r.common env y w k)
      (λ t u h k. (λ i. compare c (number_of (h i)) (number_of (k i))) ∙ comparison_is q r.common env c t u)
  link_means (hd.LinkPointers c) x y v w h k =
      compared (IsPointer q r.common env v) (IsPointer q r.common env w) (pointer_comparison c) _ (as_pointer x) (as_pointer y)
      (as_address q r.common env x v h) (as_address q r.common env y w k)
      (λ p p' h k. (λ i. compare_pointers c (h.0 i) (k.0 i)) ∙ pointers_is q r.common env c p p')
  link_means _ x y v w h k = tt

  links_mean : (ls : List Head) (x : Terms) (v : Value) (ys : List Terms) (ws : List Value) → M x v → AllMean q r.common env ys ws
      → Holds (AllAre (truth.all_linked v ls ws)) (all_linked x ls ys)
  links_mean [] x v ys ws h k = refl
  links_mean (l ∷ ls) x v [] [] h k = refl
  links_mean (l ∷ ls) x v [] (w ∷ ws) h k = absurd k
  links_mean (l ∷ ls) x v (y ∷ ys) [] h k = absurd k
  links_mean (l ∷ ls) x v (y ∷ ys) (w ∷ ws) h k =
      both_hold (truth.linked l v w) (truth.all_linked w ls ws) (linked l x y) (all_linked y ls ys) (link_means l x y v w h k.0)
      (links_mean ls y w ys ws k.0 k.1)

  chain_holds : (ls : List Head) (xs : List Terms) (vs : List Value) → AllMean q r.common env xs vs → Holds (AllAre (truth.in_chain ls vs)) (in_chain ls xs)
  chain_holds [] xs vs h = refl
  chain_holds (l ∷ ls) [] [] h = refl
  chain_holds (l ∷ ls) [] (v ∷ vs) h = absurd h
  chain_holds (l ∷ ls) (x ∷ xs) [] h = absurd h
  chain_holds (l ∷ ls) (x ∷ xs) (v ∷ vs) h = links_mean ls x v xs vs h.0 h.1

  pub chain_means : (ls : List Head) (xs : List Terms) (vs : List Value) → AllMean q r.common env xs vs
      → M (encode.with_one (λ fs. reading.truth (all_of fs)) (in_chain ls xs)) (state.truth (truth.in_chain ls vs))
  chain_means ls xs vs h =
      on_one q r.common env (AllAre (truth.in_chain ls vs)) (λ fs. reading.truth (all_of fs)) (state.truth (truth.in_chain ls vs)) (in_chain ls xs)
      (chain_holds ls xs vs h)
      (λ fs e. ap state.truth (e ∙ sym (all_is fs)))
