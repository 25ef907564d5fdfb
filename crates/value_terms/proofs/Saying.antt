-- What is said of words, put together.
use Rattle.std.proofs.Common.{◌≡◌, ℕ, Bool, true, false, List, [], ◌∷◌, ◌++◌, refl, ◌∙◌}
use Rattle.std.specs.Prelude.{map, ◌&&◌}
use Rattle.qed_terms.specs.Tree.{Tree}
use Rattle.c_runs.specs.Operators.{Undefined}
use Rattle.c_runs.specs.Checks.{Check, here}
use Rattle.value_terms.specs.Words.{Item, asked, known, checks_in, asked_if, with_check}
use Rattle.value_terms.specs.Laws.{Says}
use Rattle.value_terms.proofs.Listing.{all, Each}

module _ (so : Tree → Bool) where
  pub says_asked : (met : Check → Bool) (b : Bool) (u : Undefined) (l : ℕ) (f : Tree) → (b ≡ true → so f ≡ met (here u l)) → Says so met (asked_if b u l f)
  says_asked met true u l f h = (h refl, λ e. tt)
  says_asked met false u l f h = tt

  pub says_append : (met : Check → Bool) (us vs : List Item) → Says so met us → (all met (checks_in us) ≡ true → Says so met vs) → Says so met (us ++ vs)
  says_append met [] vs h k = k refl
  says_append met (asked c f ∷ us) vs h k = (h.0, λ e. says_append met us vs (h.1 e) (λ rest. k (λ i. e i && rest i)))
  says_append met (known f ∷ us) vs h k = (h.0, says_append met us vs h.1 k)

  pub says_map : (met : Check → Bool) (g : Check → Check) (is : List Item) → Says so (λ c. met (g c)) is → Says so met (map (with_check g) is)
  says_map met g [] h = tt
  says_map met g (asked c f ∷ is) h = (h.0, λ e. says_map met g is (h.1 e))
  says_map met g (known f ∷ is) h = (h.0, says_map met g is h.1)

  pub says_same : (met met' : Check → Bool) (is : List Item) → Each (λ c. met c ≡ met' c) (checks_in is) → Says so met is → Says so met' is
  says_same met met' [] e h = tt
  says_same met met' (asked c f ∷ is) e h = (h.0 ∙ e.0, λ is_met. says_same met met' is e.1 (h.1 (e.0 ∙ is_met)))
  says_same met met' (known f ∷ is) e h = (h.0, says_same met met' is e h.1)
