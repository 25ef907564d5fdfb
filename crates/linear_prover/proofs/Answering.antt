-- The links of a literal of a table, by what it was found to say.
use Rattle.std.proofs.Common.{◌≡◌, ℕ, ◌<◌, ◌≤◌, Bool, true, false, List, [], ◌∷◌, length, refl, ◌∙◌, ap}
use Rattle.std.specs.Prelude.{ℤ, Option, Some, None}
use Rattle.qed_terms.specs.Tree.{Tree}
use Rattle.linear_chains.specs.Links.{Link}
use Rattle.same_places.specs.Same.{PartsWithin, at}
use Rattle.same_terms.specs.Written.{written}
use Rattle.same_terms.specs.SameTerms.{Among}
use Rattle.tree_places.specs.declared.table.TreeTable.{TreeTable}
use Rattle.tree_places.specs.View.{numbers_of, find_in, nodes_of, IsKept}
use Rattle.tree_places.proofs.Nodes.{once}
use Rattle.term_forms.specs.declared.forms.Form.{Form}
use Rattle.term_forms.specs.Forms.{tree_of, count_of, lin_of}
use Rattle.branch_links.specs.Numbered.{TellApart}
use Rattle.class_links.specs.ClassForms.{AreLeast, AreWithin, IsClassLink, opposite_link}
use Rattle.linear_prover.specs.declared.literals.Said.{Said}
use Rattle.linear_prover.specs.LiteralLinks.{LinksOf}
use Rattle.linear_prover.specs.Relations.{related, IsRelation}
use Rattle.linear_prover.proofs.OfLiterals.{links_none, at_most_beyond, at_most_link, equal_beyond, equal_links}

module _ (t : TreeTable) (kept : IsKept t) (literal : ℕ) (classes : List ℕ) (look : ℕ → Option ℤ) (within : length classes ≤ count_of t) where
  abbrev pub Gives : List Link → Type 0
  Gives links =
      (ls : List Tree) → TellApart ls (length classes) (tree_of t) (at classes) → AreLeast (length classes) (tree_of t) (at classes) look → Among (tree_of t literal) ls → LinksOf ls (length classes) (tree_of t) (at classes) (tree_of t literal) links

  pub no_relation : IsRelation (count_of t) (tree_of t) (tree_of t literal) None → Gives []
  no_relation none ls tells least among = links_none ls (length classes) (tree_of t) (at classes) look tells least (tree_of t literal) among none

  one_place : (i j : ℕ) → i < count_of t → j < count_of t → tree_of t i ≡ tree_of t j → i ≡ j
  one_place i j a b e = once (nodes_of t) (numbers_of (t.heads)) (find_in (t.places.entries)) (kept.table) i j a b e

  module _ (r : Said) (is : IsRelation (count_of t) (tree_of t) (tree_of t literal) (Some r)) (f : Form) (form : lin_of (tree_of t) f ≡ written (tree_of t (r.sum))) (below : PartsWithin (count_of t) (f.parts.items)) where
    says : (b : Bool) → r.is_equality ≡ b → tree_of t literal ≡ related b (tree_of t (r.sum))
    says b e = is.1 ∙ ap (λ c. related c (tree_of t (r.sum))) e

    pub beyond : (AreWithin (at classes) look (f.parts.items) (f.constant) → ⊥) → Gives []
    beyond over ls tells least among = go (r.is_equality) refl
      where
        go : (b : Bool) → r.is_equality ≡ b → LinksOf ls (length classes) (tree_of t) (at classes) (tree_of t literal) []
        go true e = equal_beyond ls (length classes) (tree_of t) (at classes) look tells least (tree_of t literal) among (count_of t) within one_place (tree_of t (r.sum)) (f.parts.items) (f.constant) form below (says true e) over
        go false e = at_most_beyond ls (length classes) (tree_of t) (at classes) look tells least (tree_of t literal) among (count_of t) within one_place (tree_of t (r.sum)) (f.parts.items) (f.constant) form below (says false e) over

    module _ (l : Link) (link : IsClassLink (at classes) look (f.parts.items) (f.constant) l) where
      pub one_link : r.is_equality ≡ false → Gives (l ∷ [])
      one_link e ls tells least among = at_most_link ls (length classes) (tree_of t) (at classes) look tells least (tree_of t literal) among (count_of t) within one_place (tree_of t (r.sum)) (f.parts.items) (f.constant) form below (says false e) l link

      pub two_links : r.is_equality ≡ true → Gives (opposite_link l ∷ l ∷ [])
      two_links e ls tells least among = equal_links ls (length classes) (tree_of t) (at classes) look tells least (tree_of t literal) among (count_of t) within one_place (tree_of t (r.sum)) (f.parts.items) (f.constant) form below (says true e) l link
