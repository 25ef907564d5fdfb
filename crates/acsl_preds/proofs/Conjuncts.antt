-- Conjuncts, one after another.
use Rattle.std.proofs.Common.{◌≡◌, ℕ, ◌+◌, ◌<◌, ◌≤◌, true, false, List, [], ◌∷◌, ◌++◌, length, drop, get_or, sym, ap, ◌∙◌, append_assoc, append-nil, if◌then◌else◌}
use Rattle.std.proofs.lemmas.List.{at_drop_more, at_drop_all, map_push}
use Rattle.acsl_trees.specs.declared.tree.Tree.{Tree as Code, out-Tree}
use Rattle.acsl_trees.specs.Tree.{Tree, view_tree}
use Rattle.acsl_rules.proofs.Whole.{view_whole}
use Rattle.acsl_preds.specs.Ranges.{is_and, conjuncts, conjuncts_of}

-- a node is none, or its kids' conjuncts are its own
whole_is : (t : Code) → conjuncts (view_tree t) ≡ (if is_and (out-Tree t).head then conjuncts_of (out-Tree t).kids else view_tree t ∷ [])
whole_is t = ap conjuncts (view_whole t) ∙ ap (λ u. if is_and (out-Tree t).head then conjuncts_of (out-Tree t).kids else u ∷ []) (sym (view_whole t))

pub joins : (t : Code) (before found : List Tree) → is_and (out-Tree t).head ≡ true → found ≡ before ++ conjuncts_of (out-Tree t).kids → found ≡ before ++ conjuncts (view_tree t)
joins t before found is made = made ∙ ap (λ cs. before ++ cs) (ap (λ b. if b then conjuncts_of (out-Tree t).kids else view_tree t ∷ []) (sym is) ∙ sym (whole_is t))

pub alone : (t : Code) (before found : List Tree) → is_and (out-Tree t).head ≡ false → found ≡ before ++ view_tree t ∷ [] → found ≡ before ++ conjuncts (view_tree t)
alone t before found is made = made ∙ ap (λ cs. before ++ cs) (ap (λ b. if b then conjuncts_of (out-Tree t).kids else view_tree t ∷ []) (sym is) ∙ sym (whole_is t))

pub ruleset conjunct_laws = (joins, alone, map_push)

pub all_turn : (ts : List Code) (i : ℕ) (t : Code) (before more whole : List Tree) → i < length ts → t ≡ get_or ts i t → more ≡ before ++ conjuncts (view_tree t)
    → before ++ conjuncts_of (drop i ts) ≡ whole → more ++ conjuncts_of (drop (i + 1) ts) ≡ whole
all_turn ts i t before more whole inside is made so_far =
    ap (λ m. m ++ conjuncts_of (drop (i + 1) ts)) made ∙ append_assoc before (conjuncts (view_tree t)) (conjuncts_of (drop (i + 1) ts))
    ∙ ap (λ cs. before ++ cs) (sym (at_drop_more conjuncts_of ts i t inside ∙ ap (λ u. conjuncts_of (u ∷ drop (i + 1) ts)) (sym is))) ∙ so_far

pub all_done : (ts : List Code) (i : ℕ) (before whole : List Tree) → length ts ≤ i → before ++ conjuncts_of (drop i ts) ≡ whole → before ≡ whole
all_done ts i before whole all so_far = sym (append-nil before) ∙ sym (at_drop_all (λ us. before ++ conjuncts_of us) ts i all) ∙ so_far

pub ruleset all_laws = (all_turn, all_done)
