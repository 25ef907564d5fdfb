-- What code has made of parts, in its own words.
use Rattle.std.proofs.Common.{◌≡◌, ◌<◌, ◌≤◌, ℕ, zero, suc, ◌+◌, Bool, true, false, List, [], ◌∷◌, ◌++◌, map, length, get_or, Option, Some, None, refl, sym, ap, ◌∙◌, arith}
use Rattle.std.specs.Prelude.{if◌then◌else◌}
use Rattle.std.specs.Option.{option_map}
use Rattle.acsl_trees.specs.Tree as acsl
use Rattle.acsl_trees.specs.Tree.{view_tree}
use Rattle.qed_terms.specs.declared.term.Formula.{Formula}
use Rattle.qed_terms.specs.declared.term.Formula.TheVariants as formula
use Rattle.qed_terms.proofs.Equations.{formula_tree-True, formula_tree-False}
use Rattle.qed_terms.specs.Tree.{Tree, or_of}
use Rattle.qed_terms.specs.View.{formula_tree}
use Rattle.core_trees.specs.declared.claims.Measure.{Measure}
use Rattle.core_trees.specs.View.{view_measure}
use Rattle.program_steps.specs.Functions.{any_of}
use Rattle.call_words.specs.Sets.{truth_tree}
use Rattle.call_walks.specs.Claimed.{lower_tree, lower_in}
use Rattle.call_walks.specs.Sets.{unless_empty}

pub truth_true : (b : Bool) → b ≡ true → formula_tree formula.True ≡ truth_tree b
truth_true b e = formula_tree-True ∙ sym (ap truth_tree e)

pub truth_false : (b : Bool) → b ≡ false → formula_tree formula.False ≡ truth_tree b
truth_false b e = formula_tree-False ∙ sym (ap truth_tree e)

-- ---- one of several

none_of : (fs : List Formula) → length fs ≡ 0 → formula_tree formula.False ≡ any_of (map formula_tree fs)
none_of [] e = formula_tree-False
none_of (f ∷ fs) e = absurd (omega (arith, e))

pub no_part : (fs gs : List Formula) → gs ≡ fs → length gs ≡ 0 → formula_tree formula.False ≡ any_of (map formula_tree fs)
no_part fs gs same e = none_of gs e ∙ ap (λ hs. any_of (map formula_tree hs)) same

one_of : (f : Formula) (fs : List Formula) → length fs ≤ 1 → (length fs ≡ 0 → ⊥) → f ≡ get_or fs 0 f → formula_tree f ≡ any_of (map formula_tree fs)
one_of f [] few some is = absurd (some refl)
one_of f (g ∷ []) few some is = ap formula_tree is
one_of f (g ∷ h ∷ fs) few some is = absurd (omega (arith, few))

pub only_part : (f : Formula) (fs gs : List Formula) → length fs ≤ 1 → gs ≡ fs → (length gs ≡ 0 → ⊥) → f ≡ get_or gs 0 f
    → formula_tree f ≡ any_of (map formula_tree fs)
only_part f fs gs few same some is =
    one_of f gs (let e = ap length same in omega (arith, few, e)) some is ∙ ap (λ hs. any_of (map formula_tree hs)) same

pub many_parts : (fs : List Formula) → 1 < length fs → or_of (map formula_tree fs) ≡ any_of (map formula_tree fs)
many_parts [] h = absurd (omega (arith, h))
many_parts (f ∷ []) h = absurd (omega (arith, h))
many_parts (f ∷ g ∷ fs) h = refl

-- ---- pushed

pub seen_push : (fs : List Formula) (f : Formula) → map formula_tree (fs ++ f ∷ []) ≡ map formula_tree fs ++ formula_tree f ∷ []
seen_push [] f = refl
seen_push (g ∷ fs) f = ap (λ ts. formula_tree g ∷ ts) (seen_push fs f)

pub pushed : (old new : List Formula) (f : Formula) (t : Tree) → new ≡ old ++ f ∷ [] → formula_tree f ≡ t → map formula_tree new ≡ map formula_tree old ++ t ∷ []
pushed old new f t e is = ap (map formula_tree) e ∙ seen_push old f ∙ ap (λ u. map formula_tree old ++ u ∷ []) is

-- ---- measures

pub lower_made : (old now : acsl.Tree → Option Tree) (b : Bool) (x y : Option Measure) (own other : Measure) (f : Formula) (made new : List Formula) → b ≡ true → x ≡ Some own → y ≡ Some other → made ≡ []
    → new ≡ made ++ f ∷ [] → formula_tree f ≡ lower_tree (old (view_tree own.what)) (now (view_tree other.what))
    → map formula_tree new ≡ lower_in old now b (option_map view_measure x) (option_map view_measure y)
lower_made old now b x y own other f made new eb ex ey none e is =
    pushed made new f _ e is ∙ ap (λ fs. map formula_tree fs ++ lower_tree (old (view_tree own.what)) (now (view_tree other.what)) ∷ []) none
    ∙ sym (λ i. lower_in old now (eb i) (option_map view_measure (ex i)) (option_map view_measure (ey i)))

-- ---- sets that name nothing

pub unless_not : (o : Option (List acsl.Tree)) (fs : List Tree) (b : Bool) → ((gs : List Tree) → unless_empty o gs ≡ (if b then [] else gs)) → b ≡ false → fs ≡ unless_empty o fs
unless_not o fs b h e = sym (h fs ∙ ap (λ t. if t then [] else fs) e)
