-- Formulas of several ones: that one of them is true, and that no two of them are.
use Rattle.std.proofs.Common.{◌≡◌, ◌<◌, ◌≤◌, true, ◌&&◌, List, [], ◌∷◌, ◌++◌, map, length, get_or, refl, sym, ap, ap₂, ◌∙◌, append_assoc, arith}
use Rattle.std.specs.List.{list_all}
use Rattle.std.proofs.lemmas.List.{map-append}
use Rattle.qed_terms.specs.declared.term.Formula.{Formula}
use Rattle.qed_terms.specs.declared.term.Formula.TheVariants as formula
use Rattle.qed_terms.specs.declared.head.Head.TheVariants as head
use Rattle.qed_terms.proofs.Equations.{formula_tree-False}
use Rattle.qed_terms.specs.Tree.{Tree, node, trees_of, more, or_of, not_of, and_of}
use Rattle.qed_terms.specs.View.{formula_tree}
use Rattle.walk_steps.specs.Forms.{Slots}
use Rattle.program_steps.specs.Leaves.{fill, fill_all, is_closed}
use Rattle.program_steps.specs.Functions.{any_of, not_both, no_two}
use Rattle.walk_frames.specs.Asked.{AreClosed}
use Rattle.walk_frames.proofs.Asking.{all_parts}
use Rattle.walk_frames.proofs.Closedness.{all_so, both_closed, parts_closed}

-- ---- one of them, as it is made

none_of : (fs : List Formula) → length fs ≡ 0 → formula_tree formula.False ≡ any_of (map formula_tree fs)
none_of [] e = formula_tree-False
none_of (f ∷ fs) e = absurd (omega (arith, e))

pub no_choice : (fs gs : List Formula) → gs ≡ fs → length gs ≡ 0 → formula_tree formula.False ≡ any_of (map formula_tree fs)
no_choice fs gs same e = none_of gs e ∙ ap (λ hs. any_of (map formula_tree hs)) same

one_of : (f : Formula) (fs : List Formula) → length fs ≤ 1 → (length fs ≡ 0 → ⊥) → f ≡ get_or fs 0 f → formula_tree f ≡ any_of (map formula_tree fs)
one_of f [] few some is = absurd (some refl)
one_of f (g ∷ []) few some is = ap formula_tree is
one_of f (g ∷ h ∷ fs) few some is = absurd (omega (arith, few))

pub only_choice : (f : Formula) (fs gs : List Formula) → length fs ≤ 1 → gs ≡ fs → (length gs ≡ 0 → ⊥) → f ≡ get_or gs 0 f
    → formula_tree f ≡ any_of (map formula_tree fs)
only_choice f fs gs few same some is = one_of f fs few (λ none. some (ap length same ∙ none)) (is ∙ ap (λ hs. get_or hs 0 f) same)

pub many_choices : (fs : List Formula) → 1 < length fs → or_of (map formula_tree fs) ≡ any_of (map formula_tree fs)
many_choices [] h = absurd (omega (arith, h))
many_choices (f ∷ []) h = absurd (omega (arith, h))
many_choices (f ∷ g ∷ fs) h = refl

-- ---- no two of them, as it is made

abbrev pub not_with : Formula → Formula → Tree
not_with f g = not_of (and_of (formula_tree f ∷ formula_tree g ∷ []))

pub not_both_are : (f : Formula) (gs : List Formula) → map (not_with f) gs ≡ not_both (formula_tree f) (map formula_tree gs)
not_both_are f [] = refl
not_both_are f (g ∷ gs) = ap (λ ts. not_with f g ∷ ts) (not_both_are f gs)

pub no_two_step : (old new all : List Tree) (f : Formula) (fs rest : List Formula) → rest ≡ f ∷ fs → old ++ no_two (map formula_tree rest) ≡ all
    → new ≡ old ++ not_both (formula_tree f) (map formula_tree fs) → new ++ no_two (map formula_tree fs) ≡ all
no_two_step old new all f fs rest is h e =
    ap (λ ts. ts ++ no_two (map formula_tree fs)) e
    ∙ append_assoc old (not_both (formula_tree f) (map formula_tree fs)) (no_two (map formula_tree fs))
    ∙ ap (λ gs. old ++ no_two (map formula_tree gs)) (sym is)
    ∙ h

-- ---- over slots

module _ (ss : List Slots) where
  parts_filled : (fs : List Tree) → fill_all ss (trees_of fs) ≡ trees_of (map (fill ss) fs)
  parts_filled [] = refl
  parts_filled (f ∷ fs) = ap (more (fill ss f)) (parts_filled fs)

  pub any_of_filled : (fs : List Tree) → fill ss (any_of fs) ≡ any_of (map (fill ss) fs)
  any_of_filled [] = refl
  any_of_filled (f ∷ []) = refl
  any_of_filled (f ∷ g ∷ fs) = ap (node head.Or) (parts_filled (f ∷ g ∷ fs))

  not_both_filled : (f : Tree) (gs : List Tree) → map (fill ss) (not_both f gs) ≡ not_both (fill ss f) (map (fill ss) gs)
  not_both_filled f [] = refl
  not_both_filled f (g ∷ gs) = ap (λ ts. not_of (and_of (fill ss f ∷ fill ss g ∷ [])) ∷ ts) (not_both_filled f gs)

  pub no_two_filled : (fs : List Tree) → map (fill ss) (no_two fs) ≡ no_two (map (fill ss) fs)
  no_two_filled [] = refl
  no_two_filled (f ∷ fs) = map-append (fill ss) (not_both f fs) (no_two fs) ∙ ap₂ (λ xs ys. xs ++ ys) (not_both_filled f fs) (no_two_filled fs)

-- ---- closed

pub any_of_closed : (fs : List Tree) → AreClosed fs → is_closed [] (any_of fs) ≡ true
any_of_closed [] h = refl
any_of_closed (f ∷ []) h = (all_parts (is_closed [] f) true h).0
any_of_closed (f ∷ g ∷ fs) h = parts_closed (f ∷ g ∷ fs) h

not_both_closed : (f : Tree) (gs : List Tree) → is_closed [] f ≡ true → AreClosed gs → AreClosed (not_both f gs)
not_both_closed f [] h k = refl
not_both_closed f (g ∷ gs) h k =
    let parts = all_parts (is_closed [] g) (list_all (is_closed []) gs) k in
    let both = all_so (is_closed [] f) (is_closed [] g && true) h (all_so (is_closed [] g) true parts.0 refl) in
    all_so (is_closed [] (not_of (and_of (f ∷ g ∷ [])))) (list_all (is_closed []) (not_both f gs)) (all_so (is_closed [] (and_of (f ∷ g ∷ []))) true both refl)
    (not_both_closed f gs h parts.1)

pub no_two_closed : (fs : List Tree) → AreClosed fs → AreClosed (no_two fs)
no_two_closed [] h = refl
no_two_closed (f ∷ fs) h =
    let parts = all_parts (is_closed [] f) (list_all (is_closed []) fs) h in
    both_closed (not_both f fs) (no_two fs) (not_both_closed f fs parts.0 parts.1) (no_two_closed fs parts.1)
