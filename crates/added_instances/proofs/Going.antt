-- What is added from here makes, with what was added, what is added from the beginning.
use Rattle.std.proofs.Common.{◌≡◌, true, false, List, [], ◌∷◌, ◌++◌, append_assoc, refl, sym, ap, subst}
use Rattle.qed_terms.specs.Tree.{Tree}
use Rattle.instance_rows.specs.Round.{is_old, Adds, no_more, adds, is_there}

abbrev pub GoesOn : (Tree → Tree → Type 0) → (there fs now rest done : List Tree) → Type 0
GoesOn normal there fs now rest done = (gs : List Tree) → Adds normal now rest gs → Adds normal there fs (done ++ gs)

pub goes : (normal : Tree → Tree → Type 0) (there fs : List Tree) → GoesOn normal there fs there fs []
goes normal there fs gs a = a

module _ (normal : Tree → Tree → Type 0) (there fs now rest done : List Tree) (f g : Tree) where
  pub goes_new : GoesOn normal there fs now (f ∷ rest) done → normal f g → is_old now g ≡ false → GoesOn normal there fs (now ++ g ∷ []) rest (done ++ g ∷ [])
  goes_new go n new gs a = subst (Adds normal there fs) (sym (append_assoc done (g ∷ []) gs)) (go (g ∷ gs) (adds n new a))

  pub goes_old : GoesOn normal there fs now (f ∷ rest) done → normal f g → is_old now g ≡ true → GoesOn normal there fs now rest done
  goes_old go n old gs a = go gs (is_there n old a)

pub went : (normal : Tree → Tree → Type 0) (there fs now done : List Tree) → GoesOn normal there fs now [] done → Adds normal there fs done
went normal there fs now done go = subst (Adds normal there fs) (none done) (go [] no_more)
  where
    none : (xs : List Tree) → xs ++ [] ≡ xs
    none [] = refl
    none (x ∷ xs) = ap (λ ys. x ∷ ys) (none xs)
