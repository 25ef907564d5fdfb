-- Bodies and their kids, in the words of the code.
use Rattle.std.proofs.Common.{◌≡◌, ◌<◌, ◌≤◌, ℕ, ◌+◌, List, [], ◌∷◌, ◌++◌, map, length, drop, get_or, sym, ap, ◌∙◌, append_assoc, append-nil}
use Rattle.std.proofs.lemmas.List.{at_drop_more, at_drop_all, map-append}
use Rattle.acsl_trees.specs.declared.tree.Tree.{Tree as Code, out-Tree}
use Rattle.acsl_trees.specs.Tree.{node, trees_of, view_tree, view_trees}
use Rattle.c_runs.specs.Truth.{heads_of}
use Rattle.acsl_encode.specs.Readings.{Reading, Terms}
use Rattle.acsl_encode.specs.Encode.{Names}
use Rattle.annotation_heads.specs.declared.terms.Terms as code
use Rattle.annotation_heads.specs.View.{view_terms}
use Rattle.logic_trees.proofs.Kids.{view_whole}
use Rattle.logic_bodies.specs.Bodies.{body_node, body_terms, all_terms}

module _ (r : Reading) (ns : Names) where
  pub node_made : (u : Code) (ks : List Code) (xs : List Terms) (t : Terms) → ks ≡ (out-Tree u).kids → xs ≡ all_terms r ns (trees_of (view_trees ks))
      → t ≡ body_node r ns (out-Tree u).head (heads_of (trees_of (view_trees ks))) xs → t ≡ body_terms r ns (view_tree u)
  node_made u ks xs t is kids made =
      made ∙ ap (body_node r ns (out-Tree u).head (heads_of (trees_of (view_trees ks)))) kids
      ∙ ap (λ vs. body_terms r ns (node (out-Tree u).head (trees_of (view_trees vs)))) is ∙ ap (body_terms r ns) (sym (view_whole u))

  abbrev pub from : List Code → ℕ → List Terms
  from items i = all_terms r ns (trees_of (view_trees (drop i items)))

  pub kid_turn : (items : List Code) (i : ℕ) (x : Code) (done more : List code.Terms) (y : code.Terms) (whole : List Terms) → map view_terms done ++ from items i ≡ whole
      → i < length items → x ≡ get_or items i x → view_terms y ≡ body_terms r ns (view_tree x) → more ≡ done ++ y ∷ []
      → map view_terms more ++ from items (i + 1) ≡ whole
  kid_turn items i x done more y whole so lt is made pushed =
      ap (λ zs. map view_terms zs ++ from items (i + 1)) pushed ∙ ap (λ zs. zs ++ from items (i + 1)) (map-append view_terms done (y ∷ []))
      ∙ append_assoc (map view_terms done) (view_terms y ∷ []) (from items (i + 1))
      ∙ ap (λ z. map view_terms done ++ z ∷ from items (i + 1)) (made ∙ ap (λ u. body_terms r ns (view_tree u)) is)
      ∙ ap (λ zs. map view_terms done ++ zs) (sym (at_drop_more (λ us. all_terms r ns (trees_of (view_trees us))) items i x lt)) ∙ so

  pub kid_end : (items : List Code) (i : ℕ) (done : List code.Terms) (whole : List Terms) → map view_terms done ++ from items i ≡ whole → length items ≤ i
      → map view_terms done ≡ whole
  kid_end items i done whole so past =
      sym (append-nil (map view_terms done))
      ∙ ap (λ zs. map view_terms done ++ zs) (sym (at_drop_all (λ us. all_terms r ns (trees_of (view_trees us))) items i past)) ∙ so

pub ruleset kid_laws = (kid_turn, kid_end)
