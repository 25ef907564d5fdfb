-- Drafts: what was made of them, where there was memory.
use Rattle.std.proofs.Common.{◌≡◌, List, [], ◌∷◌, map, Ok, Err, refl, sym, subst, ap, ◌∙◌}
use Rattle.std.specs.Prelude.{Result}
use Rattle.wp_base.specs.declared.memory.NoMemory.{NoMemory}
use Rattle.qed_terms.specs.declared.term.Term.{Term}
use Rattle.qed_terms.specs.declared.term.Formula.{Formula}
use Rattle.qed_terms.specs.Tree.{Trees, stop, more, trees_of}
use Rattle.qed_terms.specs.View.{term_tree, formula_tree}
use Rattle.value_terms.specs.Readings as plain
use Rattle.memory_values.specs.declared.terms.ValueTerm.{ValueTerm}
use Rattle.memory_values.specs.View.{view_term}
use Rattle.term_drafts.proofs.Drafted.{term_made, no_term, term_is, formula_made, no_formula, formula_is}
use Rattle.memory_values.specs.Drafts.{ValueIs, TermsAre, FormulasAre}

pub value_made : (made : ValueTerm) (a : plain.Term) → view_term made ≡ a → ValueIs (Ok made) a
value_made made a e = record { is = e }

pub no_value : (e : NoMemory) (a : plain.Term) → ValueIs (Err e) a
no_value e a = record { is = tt }

pub value_is : (draft : Result ValueTerm NoMemory) (made : ValueTerm) (a : plain.Term) → ValueIs draft a → draft ≡ Ok made → view_term made ≡ a
value_is (Ok x) made a h e = ap view_term (sym cc) ∙ h.is
value_is (Err x) made a h e = absurd cc

pub ruleset draft_laws = (term_made, no_term, term_is, formula_made, no_formula, formula_is, value_made, no_value, value_is)

-- ---- any number of them

pub terms_made : (made : List Term) (ds : List (Result Term NoMemory)) (ts : Trees) → ds ≡ map Ok made → TermsAre ds ts → trees_of (map term_tree made) ≡ ts
terms_made made ds ts e d = go made ts (let P : List (Result Term NoMemory) → Type 0 = λ es. TermsAre es ts in subst P e d)
  where
    go : (made : List Term) (ts : Trees) → TermsAre (map Ok made) ts → trees_of (map term_tree made) ≡ ts
    go [] stop d = refl
    go [] (more t ts) d = absurd d
    go (x ∷ xs) stop d = absurd d
    go (x ∷ xs) (more t ts) d = let r = go xs ts d.1 in λ i. more (d.0.is i) (r i)

pub formulas_made : (made : List Formula) (ds : List (Result Formula NoMemory)) (fs : Trees) → ds ≡ map Ok made → FormulasAre ds fs → trees_of (map formula_tree made) ≡ fs
formulas_made made ds fs e d = go made fs (let P : List (Result Formula NoMemory) → Type 0 = λ es. FormulasAre es fs in subst P e d)
  where
    go : (made : List Formula) (fs : Trees) → FormulasAre (map Ok made) fs → trees_of (map formula_tree made) ≡ fs
    go [] stop d = refl
    go [] (more f fs) d = absurd d
    go (x ∷ xs) stop d = absurd d
    go (x ∷ xs) (more f fs) d = let r = go xs fs d.1 in λ i. more (d.0.is i) (r i)
