-- The terms that a term holds, by its shape.
use Rattle.std.proofs.Common.{◌≡◌, ℕ, List, [], ◌∷◌, ◌++◌, map, refl, sym, ap, ◌∙◌, append-nil}
use Rattle.std.specs.Borrow.{Bor}
use Rattle.std.proofs.lemmas.List.{map-append}
use Rattle.c_syntax.specs.declared.annot.Term.{Term}
use Rattle.c_syntax.specs.declared.annot.TermNode.{TermNode}
use Rattle.c_syntax.specs.declared.annot.TermNode.TheVariants as term
use Rattle.c_syntax.specs.declared.shapes.terms.TermLeaf.{TermLeaf}
use Rattle.c_syntax.specs.declared.shapes.terms.TermLeaf.TheVariants as leaf
use Rattle.c_syntax.specs.declared.shapes.terms.TermOne.{TermOne}
use Rattle.c_syntax.specs.declared.shapes.terms.TermOne.TheVariants as one
use Rattle.c_syntax.specs.declared.shapes.terms.TermTwo.{TermTwo}
use Rattle.c_syntax.specs.declared.shapes.terms.TermTwo.TheVariants as two
use Rattle.c_syntax.specs.TermShapes.{term_leaf, term_one, term_two}
use Rattle.c_syntax.specs.Term as t
use Rattle.c_syntax.specs.View.{view_term, view_term_node}
use Rattle.c_syntax.proofs.Equations.{view_term_node-Number, view_term_node-Char, view_term_node-Name, view_term_node-Unary, view_term_node-Binary, view_term_node-Cond, view_term_node-Call, view_term_node-Index, view_term_node-Field, view_term_node-Cast, view_term_node-Result, view_term_node-Old, view_term_node-At, view_term_node-Null, view_term_node-Range}
use Rattle.acsl_guards.specs.Parts.{pointed, terms_in, term_parts}

listed : (xs : List t.Term) → t.list_of (t.terms_of xs) ≡ xs
listed [] = refl
listed (x ∷ xs) = ap (λ ys. x ∷ ys) (listed xs)

leaf_parts : (head : TermLeaf) (line : ℕ) → term_parts (view_term_node (term_leaf head) line) ≡ []
unfolding term_parts
leaf_parts (leaf.Number token) line = ap term_parts (view_term_node-Number token.now line)
leaf_parts (leaf.Char z) line = ap term_parts (view_term_node-Char z line)
leaf_parts (leaf.Name x) line = ap term_parts (view_term_node-Name x.now line)
leaf_parts leaf.Result line = ap term_parts (view_term_node-Result line)
leaf_parts leaf.Null line = ap term_parts (view_term_node-Null line)

one_parts : (head : TermOne) (a : Term) (line : ℕ) → term_parts (view_term_node (term_one head a) line) ≡ view_term a ∷ []
unfolding term_parts
one_parts (one.Unary o) a line = ap term_parts (view_term_node-Unary o a line)
one_parts (one.Field f arrow) a line = ap term_parts (view_term_node-Field a f.now arrow line)
one_parts (one.Cast type) a line = ap term_parts (view_term_node-Cast type.now a line)
one_parts one.Old a line = ap term_parts (view_term_node-Old a line)
one_parts (one.At label) a line = ap term_parts (view_term_node-At a label.now line)

two_parts : (head : TermTwo) (a b : Term) (line : ℕ) → term_parts (view_term_node (term_two head a b) line) ≡ view_term a ∷ view_term b ∷ []
unfolding term_parts
two_parts (two.Binary o) a b line = ap term_parts (view_term_node-Binary o a b line)
two_parts two.Index a b line = ap term_parts (view_term_node-Index a b line)
two_parts two.Range a b line = ap term_parts (view_term_node-Range a b line)

cond_parts : (test a b : Term) (line : ℕ) → term_parts (view_term_node (term.Cond test a b) line) ≡ view_term test ∷ view_term a ∷ view_term b ∷ []
unfolding term_parts
cond_parts test a b line = ap term_parts (view_term_node-Cond test a b line)

call_parts : (f : List ℕ) (args : List Term) (line : ℕ) → term_parts (view_term_node (term.Call f args) line) ≡ map view_term args
unfolding term_parts
call_parts f args line = ap term_parts (view_term_node-Call f args line) ∙ listed (map view_term args)

-- items behind others, as plain trees
pub terms_behind : (l l' : List (Bor Term)) (xs : List Term) → pointed l' ≡ pointed l ++ xs → terms_in l' ≡ terms_in l ++ map view_term xs
terms_behind l l' xs put = ap (map view_term) put ∙ map-append view_term (pointed l) xs

-- by the node x, as the code finds it
module _ (l l' : List (Bor Term)) (x : TermNode) (line : ℕ) where
  abbrev Put : List (Bor Term) → Type 0
  Put after = terms_in after ≡ terms_in l ++ term_parts (view_term_node x line)

  put : (xs : List Term) (n : TermNode) → x ≡ n → term_parts (view_term_node n line) ≡ map view_term xs → pointed l' ≡ pointed l ++ xs → Put l'
  put xs n is parts there = terms_behind l l' xs there ∙ ap (λ ys. terms_in l ++ ys) (sym (ap (λ n. term_parts (view_term_node n line)) is ∙ parts))

  pub leaf_put : (head : TermLeaf) → x ≡ term_leaf head → Put l
  leaf_put head is = sym (ap (λ ys. terms_in l ++ ys) (ap (λ n. term_parts (view_term_node n line)) is ∙ leaf_parts head line) ∙ append-nil (terms_in l))

  pub one_put : (head : TermOne) (a b : Term) → x ≡ term_one head a → b ≡ a → pointed l' ≡ pointed l ++ b ∷ [] → Put l'
  one_put head a b is same there = put (b ∷ []) (term_one head a) is (one_parts head a line ∙ ap (λ c. view_term c ∷ []) (sym same)) there

  pub two_put : (head : TermTwo) (a b a' b' : Term) → x ≡ term_two head a b → a' ≡ a → b' ≡ b → pointed l' ≡ pointed l ++ (a' ∷ b' ∷ []) → Put l'
  two_put head a b a' b' is first second there =
      put (a' ∷ b' ∷ []) (term_two head a b) is (two_parts head a b line ∙ (λ i. view_term (sym first i) ∷ view_term (sym second i) ∷ [])) there

  pub cond_put : (test a b test' a' b' : Term) → x ≡ term.Cond test a b → test' ≡ test → a' ≡ a → b' ≡ b → pointed l' ≡ pointed l ++ (test' ∷ a' ∷ b' ∷ []) → Put l'
  cond_put test a b test' a' b' is zeroth first second there =
      put (test' ∷ a' ∷ b' ∷ []) (term.Cond test a b) is (cond_parts test a b line ∙ (λ i. view_term (sym zeroth i) ∷ view_term (sym first i) ∷ view_term (sym second i) ∷ [])) there

  pub call_put : (f : List ℕ) (args : List Term) → x ≡ term.Call f args → pointed l' ≡ pointed l ++ args → Put l'
  call_put f args is there = put args (term.Call f args) is (call_parts f args line) there

pub ruleset part_laws = (leaf_put, one_put, two_put, cond_put, call_put)
