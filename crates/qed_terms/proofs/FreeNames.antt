-- A meaning depends on the values of the free names alone.
use Rattle.std.proofs.Common.{◌≡◌, ◌⊎◌, inl, inr, ℕ, ℤ, ◌-ℤ◌, Bool, true, false, not, ◌&&◌, ◌||◌, cond, List, [], ◌∷◌, refl, ◌∙◌, ap}
use Rattle.std.specs.Str.{bytes_eq}
use Rattle.qed_terms.specs.declared.head.Sort.{Sort}
use Rattle.qed_terms.specs.declared.head.Sort.TheVariants as sort
use Rattle.qed_terms.specs.declared.head.Head.TheVariants as h
use Rattle.wp_base.specs.Blocks.{to_nat}
use Rattle.qed_terms.specs.Meaning.{World, Values, Whole, Truth, value_of, with_int, whole, is_so, term_value, form_truth, head_value, all_from, some_from, meaning, meanings}
use Rattle.qed_terms.specs.WellFormed.{same_sort}
use Rattle.qed_terms.specs.Free.{is_free, free_among, AgreeOn, MeaningOfFreeNames}
use Rattle.qed_terms.specs.Tree.{Tree, node, Trees, stop, more}
use Rattle.qed_terms.proofs.Counting.{bytes_itself}

one_of_two : (a b : Bool) → (a ≡ true) ⊎ (b ≡ true) → a || b ≡ true
one_of_two true b e = refl
one_of_two false true e = refl
one_of_two false false (inl e) = absurd cc
one_of_two false false (inr e) = absurd cc

first_of_four : (a b c d : Bool) → a ≡ true → a || b || c || d ≡ true
first_of_four true b c d e = refl
first_of_four false b c d e = absurd cc

second_of_four : (a b c d : Bool) → b ≡ true → a || b || c || d ≡ true
second_of_four true b c d e = refl
second_of_four false true c d e = refl
second_of_four false false c d e = absurd cc

third_of_four : (a b c d : Bool) → c ≡ true → a || b || c || d ≡ true
third_of_four true b c d e = refl
third_of_four false true c d e = refl
third_of_four false false true d e = refl
third_of_four false false false d e = absurd cc

fourth_of_four : (a b c d : Bool) → d ≡ true → a || b || c || d ≡ true
fourth_of_four true b c d e = refl
fourth_of_four false true c d e = refl
fourth_of_four false false true d e = refl
fourth_of_four false false false d e = e

sort_itself : (s : Sort) → same_sort s s ≡ true
sort_itself sort.Int = refl
sort_itself sort.Memory = refl
sort_itself sort.Table = refl

-- the name that stands at the head
this_name : (x : List ℕ) (s : Sort) (rest : Bool) → (bytes_eq x x && same_sort s s) || rest ≡ true
this_name x s rest = ap (λ b. (b && same_sort s s) || rest) (bytes_itself x) ∙ ap (λ b. b || rest) (sort_itself s)

not_both : (b : Bool) → (b && false) ≡ false
not_both true = refl
not_both false = refl

-- ---- below a quantifier

-- a quantifier over x doesn't bind this name
abbrev unbound : List ℕ → Sort → List ℕ → Bool
unbound y s x = not (bytes_eq y x && same_sort s sort.Int)

-- the assignments agree on what is free in the body, but for the bound name
abbrev AgreeBelow : List ℕ → Tree → Values → Values → Type 0
AgreeBelow x f env env' = (y : List ℕ) (s : Sort) → unbound y s x && is_free y s f ≡ true → value_of env y s ≡ value_of env' y s

below : (x : List ℕ) (f : Tree) (env env' : Values) (z : ℤ) → AgreeBelow x f env env' → AgreeOn f (with_int env x z) (with_int env' x z)
below x f env env' z agree y sort.Int k = go (bytes_eq y x) refl
  where
    go : (b : Bool) → bytes_eq y x ≡ b → Whole (cond b z (env.ints y)) ≡ Whole (cond b z (env'.ints y))
    go true e = refl
    go false e = agree y sort.Int (ap (λ b. not (b && true) && is_free y sort.Int f) e ∙ k)
below x f env env' z agree y sort.Memory k = agree y sort.Memory (ap (λ b. not b && is_free y sort.Memory f) (not_both (bytes_eq y x)) ∙ k)
below x f env env' z agree y sort.Table k = agree y sort.Table (ap (λ b. not b && is_free y sort.Table f) (not_both (bytes_eq y x)) ∙ k)

-- ---- trees

-- the assignments agree on what is free in the trees
abbrev AgreeOnAll : Trees → Values → Values → Type 0
AgreeOnAll ts env env' = (x : List ℕ) (s : Sort) → free_among false x s ts ≡ true → value_of env x s ≡ value_of env' x s

mutual
  agrees : (w : World) (t : Tree) (env env' : Values) → AgreeOn t env env' → meaning w env t ≡ meaning w env' t
  agrees w (node (h.Num z) ts) env env' k = refl
  agrees w (node (h.Var x s) ts) env env' k = k x s (this_name x s (free_among false x s ts))
  agrees w (node (h.Term o) ts) env env' k = ap (term_value w o) (all_agree w ts env env' k)
  agrees w (node h.Ite ts) env env' k = ap (head_value w env h.Ite) (all_agree w ts env env' k)
  agrees w (node (h.App f) ts) env env' k = ap (λ vs. Whole (w.apps f vs)) (all_agree w ts env env' k)
  agrees w (node (h.Form o) ts) env env' k = ap (λ vs. Truth (form_truth w o vs)) (all_agree w ts env env' k)
  agrees w (node h.True ts) env env' k = refl
  agrees w (node h.False ts) env env' k = refl
  agrees w (node h.Not ts) env env' k = ap (head_value w env h.Not) (all_agree w ts env env' k)
  agrees w (node h.And ts) env env' k = ap (head_value w env h.And) (all_agree w ts env env' k)
  agrees w (node h.Or ts) env env' k = ap (head_value w env h.Or) (all_agree w ts env env' k)
  agrees w (node h.Imp ts) env env' k = ap (head_value w env h.Imp) (all_agree w ts env env' k)
  agrees w (node h.Iff ts) env env' k = ap (head_value w env h.Iff) (all_agree w ts env env' k)
  agrees w (node (h.Forall x) stop) env env' k = refl
  agrees w (node (h.Forall x) (more t stop)) env env' k = refl
  agrees w (node (h.Forall x) (more t (more u stop))) env env' k = refl
  agrees w (node (h.Forall x) (more t (more u (more f stop)))) env env' k =
      let low = agrees w t env env' (λ y s e. k y s (first_of_four (is_free y s t) (is_free y s u) (unbound y s x && is_free y s f) false e)) in
      let high = agrees w u env env' (λ y s e. k y s (second_of_four (is_free y s t) (is_free y s u) (unbound y s x && is_free y s f) false e)) in
      let body : (z : ℤ) → meaning w (with_int env x z) f ≡ meaning w (with_int env' x z) f = λ z. agrees w f (with_int env x z) (with_int env' x z) (below x f env env' z (λ y s e. k y s (third_of_four (is_free y s t) (is_free y s u) (unbound y s x && is_free y s f) false e))) in
      λ i. Truth (all_from (whole (low i)) (to_nat (whole (high i) -ℤ whole (low i))) (λ z. is_so (body z i)))
  agrees w (node (h.Forall x) (more t (more u (more f (more v ts))))) env env' k = refl
  agrees w (node (h.Exists x) stop) env env' k = refl
  agrees w (node (h.Exists x) (more t stop)) env env' k = refl
  agrees w (node (h.Exists x) (more t (more u stop))) env env' k = refl
  agrees w (node (h.Exists x) (more t (more u (more f stop)))) env env' k =
      let low = agrees w t env env' (λ y s e. k y s (first_of_four (is_free y s t) (is_free y s u) (unbound y s x && is_free y s f) false e)) in
      let high = agrees w u env env' (λ y s e. k y s (second_of_four (is_free y s t) (is_free y s u) (unbound y s x && is_free y s f) false e)) in
      let body : (z : ℤ) → meaning w (with_int env x z) f ≡ meaning w (with_int env' x z) f = λ z. agrees w f (with_int env x z) (with_int env' x z) (below x f env env' z (λ y s e. k y s (third_of_four (is_free y s t) (is_free y s u) (unbound y s x && is_free y s f) false e))) in
      λ i. Truth (some_from (whole (low i)) (to_nat (whole (high i) -ℤ whole (low i))) (λ z. is_so (body z i)))
  agrees w (node (h.Exists x) (more t (more u (more f (more v ts))))) env env' k = refl

  all_agree : (w : World) (ts : Trees) (env env' : Values) → AgreeOnAll ts env env' → meanings w env ts ≡ meanings w env' ts
  all_agree w stop env env' k = refl
  all_agree w (more t stop) env env' k =
      let a = agrees w t env env' k in
      λ i. a i ∷ []
  all_agree w (more t (more u stop)) env env' k =
      let a = agrees w t env env' (λ y s e. k y s (one_of_two (is_free y s t) (is_free y s u) (inl e))) in
      let b = agrees w u env env' (λ y s e. k y s (one_of_two (is_free y s t) (is_free y s u) (inr e))) in
      λ i. a i ∷ b i ∷ []
  all_agree w (more t (more u (more v ts))) env env' k =
      let a = agrees w t env env' (λ y s e. k y s (first_of_four (is_free y s t) (is_free y s u) (is_free y s v) (free_among false y s ts) e)) in
      let b = agrees w u env env' (λ y s e. k y s (second_of_four (is_free y s t) (is_free y s u) (is_free y s v) (free_among false y s ts) e)) in
      let c = agrees w v env env' (λ y s e. k y s (third_of_four (is_free y s t) (is_free y s u) (is_free y s v) (free_among false y s ts) e)) in
      let d = all_agree w ts env env' (λ y s e. k y s (fourth_of_four (is_free y s t) (is_free y s u) (is_free y s v) (free_among false y s ts) e)) in
      λ i. a i ∷ b i ∷ c i ∷ d i

pub meaning_of_free_names : MeaningOfFreeNames
meaning_of_free_names = agrees
