-- Operands from the last one on.
use Rattle.std.proofs.Common.{◌≡◌, ℕ, ◌+◌, ◌<◌, ◌≤◌, List, ◌∷◌, map, length, drop, get_or, sym, ap, ◌∙◌}
use Rattle.std.proofs.lemmas.List.{at_drop_more, at_drop_all}
use Rattle.typed_prog.specs.declared.tree.Value.{Value}
use Rattle.typed_prog.specs.Tree as t
use Rattle.typed_prog.specs.View.{view_value, view_value_node}
use Rattle.c_sequence.specs.declared.found.Embedded.{Embedded}
use Rattle.c_sequence.specs.declared.found.Found.{Found}
use Rattle.c_sequence.specs.declared.found.Found.TheVariants as seen
use Rattle.c_sequence.specs.declared.summaries.Summary.{Summary}
use Rattle.c_sequence.specs.Sequence.{Plain, and_also, node_effects, all_effects, quiet, beside, node_summed, all_summed}

-- none is left to be passed
pub no_effects : (vs : List Value) (n : ℕ) → length vs ≤ n → seen.Nothing ≡ all_effects (t.values_of (map view_value (drop n vs)))
no_effects vs n all = sym (at_drop_all (λ ws. all_effects (t.values_of (map view_value ws))) vs n all)

pub one_effect_more : (vs : List Value) (i j : ℕ) (v : Value) (f g : Found) → i ≡ j + 1 → j < length vs → v ≡ get_or vs j v → f ≡ all_effects (t.values_of (map view_value (drop i vs)))
    → g ≡ and_also (node_effects (view_value_node v.node)) f → g ≡ all_effects (t.values_of (map view_value (drop j vs)))
one_effect_more vs i j v f g next in_list is so_far made =
    made ∙ ap (and_also (node_effects (view_value_node v.node))) (so_far ∙ ap (λ n. all_effects (t.values_of (map view_value (drop n vs)))) next)
    ∙ sym (at_drop_more (λ ws. all_effects (t.values_of (map view_value ws))) vs j v in_list ∙ ap (λ w. all_effects (t.values_of (map view_value (w ∷ drop (j + 1) vs)))) (sym is))

pub ruleset effect_laws = (no_effects, one_effect_more)

pub no_summary : (p : Plain) (e : Embedded) (vs : List Value) (n : ℕ) → length vs ≤ n → quiet ≡ all_summed p e (t.values_of (map view_value (drop n vs)))
no_summary p e vs n all = sym (at_drop_all (λ ws. all_summed p e (t.values_of (map view_value ws))) vs n all)

pub one_summary_more : (p : Plain) (e : Embedded) (vs : List Value) (i j : ℕ) (v : Value) (x y : Summary) → i ≡ j + 1 → j < length vs → v ≡ get_or vs j v → x ≡ all_summed p e (t.values_of (map view_value (drop i vs)))
    → y ≡ beside (node_summed p e (view_value_node v.node)) x → y ≡ all_summed p e (t.values_of (map view_value (drop j vs)))
one_summary_more p e vs i j v x y next in_list is so_far made =
    made ∙ ap (beside (node_summed p e (view_value_node v.node))) (so_far ∙ ap (λ n. all_summed p e (t.values_of (map view_value (drop n vs)))) next)
    ∙ sym (at_drop_more (λ ws. all_summed p e (t.values_of (map view_value ws))) vs j v in_list ∙ ap (λ w. all_summed p e (t.values_of (map view_value (w ∷ drop (j + 1) vs)))) (sym is))

pub ruleset summary_laws = (no_summary, one_summary_more)
