-- The values of terms and the truth of formulas, by their variants.
use Rattle.std.proofs.Common.{◌≡◌, ℕ, zero, suc, ◌+◌, ◌<◌, ◌≤◌, ◌⊎◌, inl, inr, ⊎_elim, ℤ, pos, ◌+ℤ◌, ◌-ℤ◌, Bool, true, false, not, ◌&&◌, ◌||◌, if◌then◌else◌, List, [], ◌∷◌, ◌++◌, map, length, take, get_or, refl, sym, ap, ap₂, ◌∙◌, subst, arith}
use Rattle.std.proofs.lemmas.Int.{ints}
use Rattle.std.proofs.lemmas.List.{take_all, take_more}
use Rattle.std.proofs.lemmas.Bool.{false≢true}
use Rattle.qed_terms.specs.declared.head.Sort.TheVariants as sort
use Rattle.qed_terms.specs.declared.head.FormOp.{FormOp}
use Rattle.qed_terms.specs.declared.head.TermOp.{TermOp}
use Rattle.qed_terms.specs.declared.head.TermOp.TheVariants as op
use Rattle.qed_terms.specs.declared.term.Term.{Term}
use Rattle.qed_terms.specs.declared.term.Term.TheVariants as term
use Rattle.qed_terms.specs.declared.term.Formula.{Formula}
use Rattle.qed_terms.specs.declared.term.Formula.TheVariants as formula
use Rattle.qed_terms.specs.Operators.{total}
use Rattle.qed_terms.specs.Meaning.{World, Values, meanings, whole, is_so, each_true, value, truth}
use Rattle.qed_terms.specs.Tree.{Tree, trees_of}
use Rattle.qed_terms.specs.View.{term_tree, formula_tree}
use Rattle.qed_terms.proofs.Equations.{term_tree-Num, term_tree-Var, term_tree-Op, term_tree-Ite, formula_tree-True, formula_tree-Rel, formula_tree-Not, formula_tree-And, formula_tree-Or}
use Rattle.known_bounds.specs.declared.ranges.Range.{Range}
use Rattle.known_bounds.specs.Ranges.{IsIn}
use Rattle.known_bounds.specs.Bounds.{term_value, relation_truth, formula_truth, AllHold}

module _ (w : World) (env : Values) where
  -- ---- terms

  pub number_value : (z : ℤ) → term_value w env (term.Num z) ≡ z
  number_value z = ap (value w env) (term_tree-Num z)

  pub name_value : (x : List ℕ) → term_value w env (term.Var x sort.Int) ≡ env.ints x
  name_value x = ap (value w env) (term_tree-Var x sort.Int)

  kids_values : (ts : List Term) → map whole (meanings w env (trees_of (map term_tree ts))) ≡ map (term_value w env) ts
  kids_values [] = refl
  kids_values (t ∷ ts) = ap (λ zs. term_value w env t ∷ zs) (kids_values ts)

  pub sum_value : (ts : List Term) → term_value w env (term.Op op.Add ts) ≡ total (map (term_value w env) ts)
  sum_value ts = ap (value w env) (term_tree-Op op.Add ts) ∙ ap total (kids_values ts)

  total_more : (zs : List ℤ) (z : ℤ) → total (zs ++ z ∷ []) ≡ total zs +ℤ z
  total_more [] z = omega (arith, ints)
  total_more (y ∷ zs) z = let r = total_more zs z in omega (arith, ints, r)

  pushed : (ts : List Term) (t : Term) → map (term_value w env) (ts ++ t ∷ []) ≡ map (term_value w env) ts ++ term_value w env t ∷ []
  pushed [] t = refl
  pushed (u ∷ ts) t = ap (λ zs. term_value w env u ∷ zs) (pushed ts t)

  next_taken : (ts : List Term) (i : ℕ) (t : Term) → i < length ts → t ≡ get_or ts i t → map (term_value w env) (take (i + 1) ts) ≡ map (term_value w env) (take i ts) ++ term_value w env t ∷ []
  next_taken ts i t lt e =
      ap (map (term_value w env)) (take_more ts i t lt) ∙ pushed (take i ts) (get_or ts i t) ∙ ap (λ x. map (term_value w env) (take i ts) ++ term_value w env x ∷ []) (sym e)

  pub sum_next : (ts : List Term) (i : ℕ) (t : Term) (r : Range) → i < length ts → t ≡ get_or ts i t → IsIn r (total (map (term_value w env) (take i ts)) +ℤ term_value w env t)
      → IsIn r (total (map (term_value w env) (take (i + 1) ts)))
  sum_next ts i t r lt e h =
      subst (IsIn r) (sym (ap total (next_taken ts i t lt e) ∙ total_more (map (term_value w env) (take i ts)) (term_value w env t))) h

  pub difference_value : (ts : List Term) (t u : Term) → length ts ≡ 2 → t ≡ get_or ts 0 t → u ≡ get_or ts 1 u → term_value w env (term.Op op.Sub ts) ≡ term_value w env t -ℤ term_value w env u
  difference_value [] t u n e f = absurd (omega (arith, n))
  difference_value (a ∷ []) t u n e f = absurd (omega (arith, n))
  difference_value (a ∷ b ∷ []) t u n e f = ap (value w env) (term_tree-Op op.Sub (a ∷ b ∷ [])) ∙ ap₂ (λ x y. term_value w env x -ℤ term_value w env y) (sym e) (sym f)
  difference_value (a ∷ b ∷ c ∷ ts) t u n e f = absurd (omega (arith, n))

  pub opposite_value : (ts : List Term) (t : Term) → length ts ≡ 1 → t ≡ get_or ts 0 t → term_value w env (term.Op op.Neg ts) ≡ pos 0 -ℤ term_value w env t
  opposite_value [] t n e = absurd (omega (arith, n))
  opposite_value (a ∷ []) t n e = ap (value w env) (term_tree-Op op.Neg (a ∷ [])) ∙ ap (λ x. pos 0 -ℤ term_value w env x) (sym e)
  opposite_value (a ∷ b ∷ ts) t n e = absurd (omega (arith, n))

  pub choice_value : (f : Formula) (t u : Term) (r : Range) → IsIn r (term_value w env t) → IsIn r (term_value w env u) → IsIn r (term_value w env (term.Ite f t u))
  choice_value f t u r h k =
      subst (IsIn r) (sym (ap (value w env) (term_tree-Ite f t u))) (by (formula_truth w env f))
    where
      by : (b : Bool) → IsIn r (if b then term_value w env t else term_value w env u)
      by true = h
      by false = k

  -- ---- formulas

  pub always_true : formula_truth w env formula.True ≡ true
  always_true = ap (truth w env) formula_tree-True

  pub relation_is : (o : FormOp) (ts : List Term) → formula_truth w env (formula.Rel o ts) ≡ relation_truth w env o ts
  relation_is o ts = ap (truth w env) (formula_tree-Rel o ts)

  pub opposite_is : (f : Formula) → formula_truth w env (formula.Not f) ≡ not (formula_truth w env f)
  opposite_is f = ap (truth w env) (formula_tree-Not f)

  not_true : (b : Bool) → not b ≡ true → b ≡ false
  not_true false e = refl
  not_true true e = absurd (false≢true e)

  pub opposite_false : (f : Formula) → formula_truth w env (formula.Not f) ≡ true → formula_truth w env f ≡ false
  opposite_false f e = not_true (formula_truth w env f) (sym (opposite_is f) ∙ e)

  pub opposite_true : (f : Formula) → formula_truth w env f ≡ false → formula_truth w env (formula.Not f) ≡ true
  opposite_true f e = opposite_is f ∙ ap not e

  both_true : (a b : Bool) → (a && b) ≡ true → (a ≡ true) × (b ≡ true)
  both_true true b e = (refl, e)
  both_true false b e = absurd (false≢true e)

  each_of : (fs : List Formula) → each_true (map is_so (meanings w env (trees_of (map formula_tree fs)))) ≡ true → AllHold w env fs
  each_of [] e = tt
  each_of (f ∷ fs) e =
      let parts = both_true (formula_truth w env f) (each_true (map is_so (meanings w env (trees_of (map formula_tree fs))))) e in
      (parts.0, each_of fs parts.1)

  of_each : (fs : List Formula) → AllHold w env fs → each_true (map is_so (meanings w env (trees_of (map formula_tree fs)))) ≡ true
  of_each [] h = refl
  of_each (f ∷ fs) h = ap (λ b. b && each_true (map is_so (meanings w env (trees_of (map formula_tree fs))))) h.0 ∙ of_each fs h.1

  pub all_hold : (fs : List Formula) → formula_truth w env (formula.And fs) ≡ true → AllHold w env fs
  all_hold fs e = each_of fs (sym (ap (truth w env) (formula_tree-And fs)) ∙ e)

  pub all_true : (fs : List Formula) → AllHold w env fs → formula_truth w env (formula.And fs) ≡ true
  all_true fs h = ap (truth w env) (formula_tree-And fs) ∙ of_each fs h

  pub one_holds : (fs : List Formula) (f g : Formula) → length fs ≡ 2 → f ≡ get_or fs 0 f → g ≡ get_or fs 1 g → formula_truth w env (formula.Or fs) ≡ true
      → (formula_truth w env f ≡ true) ⊎ (formula_truth w env g ≡ true)
  one_holds [] f g n e k h = absurd (omega (arith, n))
  one_holds (a ∷ []) f g n e k h = absurd (omega (arith, n))
  one_holds (a ∷ b ∷ []) f g n e k h = by (formula_truth w env a) (formula_truth w env b) refl refl (sym (ap (truth w env) (formula_tree-Or (a ∷ b ∷ []))) ∙ h)
    where
      by : (x y : Bool) → formula_truth w env a ≡ x → formula_truth w env b ≡ y → (x || (y || false)) ≡ true → (formula_truth w env f ≡ true) ⊎ (formula_truth w env g ≡ true)
      by true y p q o = inl (ap (formula_truth w env) e ∙ p)
      by false true p q o = inr (ap (formula_truth w env) k ∙ q)
      by false false p q o = absurd (false≢true o)
  one_holds (a ∷ b ∷ c ∷ fs) f g n e k h = absurd (omega (arith, n))

  -- ---- all up to a place

  pub hold_at : (fs : List Formula) (i : ℕ) (f : Formula) → i < length fs → f ≡ get_or fs i f → AllHold w env fs → formula_truth w env f ≡ true
  hold_at [] i f lt e h = absurd (omega (arith, lt))
  hold_at (g ∷ fs) zero f lt e h = ap (formula_truth w env) e ∙ h.0
  hold_at (g ∷ fs) (suc i) f lt e h = hold_at fs i f (omega (arith, lt)) e h.1

  hold_push : (fs : List Formula) (f : Formula) → AllHold w env fs → formula_truth w env f ≡ true → AllHold w env (fs ++ f ∷ [])
  hold_push [] f h k = (k, tt)
  hold_push (g ∷ fs) f h k = (h.0, hold_push fs f h.1 k)

  pub hold_more : (fs : List Formula) (i : ℕ) (f : Formula) → i < length fs → f ≡ get_or fs i f → AllHold w env (take i fs) → formula_truth w env f ≡ true → AllHold w env (take (i + 1) fs)
  hold_more fs i f lt e h k = subst (AllHold w env) (sym (take_more fs i f lt)) (hold_push (take i fs) (get_or fs i f) h (ap (formula_truth w env) (sym e) ∙ k))

  pub hold_whole : (fs : List Formula) (i : ℕ) → length fs ≤ i → AllHold w env (take i fs) → AllHold w env fs
  hold_whole fs i le h = subst (AllHold w env) (take_all i fs le) h

  -- ---- sums to their end

  pub sum_whole : (ts : List Term) (i : ℕ) (r : Range) → length ts ≤ i → IsIn r (total (map (term_value w env) (take i ts))) → IsIn r (term_value w env (term.Op op.Add ts))
  sum_whole ts i r le h = subst (IsIn r) (ap (λ us. total (map (term_value w env) us)) (take_all i ts le) ∙ sym (sum_value ts)) h

  -- ---- parts of a formula that is matched

  pub relation_of : (f : Formula) (o : FormOp) (ts us : List Term) (b : Bool) → f ≡ formula.Rel o ts → us ≡ ts → formula_truth w env f ≡ b → relation_truth w env o us ≡ b
  relation_of f o ts us b is same e = ap (relation_truth w env o) same ∙ sym (relation_is o ts) ∙ ap (formula_truth w env) (sym is) ∙ e

  pub of_relation : (f : Formula) (o : FormOp) (ts us : List Term) (b : Bool) → f ≡ formula.Rel o ts → us ≡ ts → relation_truth w env o us ≡ b → formula_truth w env f ≡ b
  of_relation f o ts us b is same e = ap (formula_truth w env) is ∙ relation_is o ts ∙ ap (relation_truth w env o) (sym same) ∙ e

  pub opposite_of : (f p g : Formula) → f ≡ formula.Not p → g ≡ p → formula_truth w env f ≡ true → formula_truth w env g ≡ false
  opposite_of f p g is same e = ap (formula_truth w env) same ∙ opposite_false p (ap (formula_truth w env) (sym is) ∙ e)

  pub of_opposite : (f p g : Formula) → f ≡ formula.Not p → g ≡ p → formula_truth w env g ≡ false → formula_truth w env f ≡ true
  of_opposite f p g is same e = ap (formula_truth w env) is ∙ opposite_true p (ap (formula_truth w env) (sym same) ∙ e)

  pub parts_of : (f : Formula) (fs gs : List Formula) → f ≡ formula.And fs → gs ≡ fs → formula_truth w env f ≡ true → AllHold w env gs
  parts_of f fs gs is same e = subst (AllHold w env) (sym same) (all_hold fs (ap (formula_truth w env) (sym is) ∙ e))

  pub of_parts : (f : Formula) (fs gs : List Formula) → f ≡ formula.And fs → gs ≡ fs → AllHold w env gs → formula_truth w env f ≡ true
  of_parts f fs gs is same h = ap (formula_truth w env) is ∙ all_true fs (subst (AllHold w env) same h)
