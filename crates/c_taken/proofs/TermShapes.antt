-- The names that a term has beside those of the terms in it, and these terms, by shapes.
use Rattle.std.proofs.Common.{◌≡◌, ℕ, Bool, List, [], ◌∷◌, ◌++◌, map, refl, sym, ap, ◌∙◌, append-nil}
use Rattle.std.specs.Option.{option_to_list}
use Rattle.std.specs.Borrow.{Bor}
use Rattle.std.proofs.lemmas.List.{map-append}
use Rattle.c_syntax.specs.declared.expr.UnOp.{UnOp}
use Rattle.c_syntax.specs.declared.expr.CType.{CType}
use Rattle.c_syntax.specs.declared.annot.Term.{Term}
use Rattle.c_syntax.specs.declared.annot.TermNode.{TermNode}
use Rattle.c_syntax.specs.declared.annot.TermNode.TheVariants as term
use Rattle.c_syntax.specs.declared.shapes.terms.TermLeaf.{TermLeaf}
use Rattle.c_syntax.specs.declared.shapes.terms.TermLeaf.TheVariants as leaf
use Rattle.c_syntax.specs.declared.shapes.terms.TermOne.{TermOne}
use Rattle.c_syntax.specs.declared.shapes.terms.TermOne.TheVariants as one
use Rattle.c_syntax.specs.declared.shapes.terms.TermTwo.{TermTwo}
use Rattle.c_syntax.specs.declared.shapes.terms.TermTwo.TheVariants as two
use Rattle.c_syntax.specs.TermShapes.{term_leaf, term_one, term_two}
use Rattle.c_syntax.specs.Term as t
use Rattle.c_syntax.specs.View.{view_ctype, view_term, view_term_node}
use Rattle.c_syntax.proofs.Equations.{view_term_node-Number, view_term_node-Char, view_term_node-Name, view_term_node-Unary, view_term_node-Binary, view_term_node-Cond, view_term_node-Call, view_term_node-Index, view_term_node-Field, view_term_node-Cast, view_term_node-Result, view_term_node-Old, view_term_node-At, view_term_node-Null, view_term_node-Range}
use Rattle.c_taken.specs.Addressed.{behind, term_name_of, type_addressed}
use Rattle.c_taken.specs.Pieces.{pointed, terms_in, term_own, term_parts}

-- ---- its own names

pub own_unary : (o : UnOp) (a : Term) (line : ℕ) → term_own (view_term_node (term.Unary o a) line) ≡ option_to_list (behind o (term_name_of (view_term a)))
unfolding term_own
own_unary o a line = ap term_own (view_term_node-Unary o a line)

pub own_cast : (type : CType) (a : Term) (line : ℕ) → term_own (view_term_node (term.Cast type a) line) ≡ type_addressed (view_ctype type)
unfolding term_own
own_cast type a line = ap term_own (view_term_node-Cast type a line)

pub own_field : (a : Term) (f : List ℕ) (arrow : Bool) (line : ℕ) → term_own (view_term_node (term.Field a f arrow) line) ≡ []
unfolding term_own
own_field a f arrow line = ap term_own (view_term_node-Field a f arrow line)

pub own_old : (a : Term) (line : ℕ) → term_own (view_term_node (term.Old a) line) ≡ []
unfolding term_own
own_old a line = ap term_own (view_term_node-Old a line)

pub own_at : (a : Term) (label : List ℕ) (line : ℕ) → term_own (view_term_node (term.At a label) line) ≡ []
unfolding term_own
own_at a label line = ap term_own (view_term_node-At a label line)

pub own_leaf : (head : TermLeaf) (line : ℕ) → term_own (view_term_node (term_leaf head) line) ≡ []
unfolding term_own
own_leaf (leaf.Number token) line = ap term_own (view_term_node-Number token.now line)
own_leaf (leaf.Char z) line = ap term_own (view_term_node-Char z line)
own_leaf (leaf.Name x) line = ap term_own (view_term_node-Name x.now line)
own_leaf leaf.Result line = ap term_own (view_term_node-Result line)
own_leaf leaf.Null line = ap term_own (view_term_node-Null line)

pub own_two : (head : TermTwo) (a b : Term) (line : ℕ) → term_own (view_term_node (term_two head a b) line) ≡ []
unfolding term_own
own_two (two.Binary o) a b line = ap term_own (view_term_node-Binary o a b line)
own_two two.Index a b line = ap term_own (view_term_node-Index a b line)
own_two two.Range a b line = ap term_own (view_term_node-Range a b line)

pub own_cond : (test a b : Term) (line : ℕ) → term_own (view_term_node (term.Cond test a b) line) ≡ []
unfolding term_own
own_cond test a b line = ap term_own (view_term_node-Cond test a b line)

pub own_call : (f : List ℕ) (args : List Term) (line : ℕ) → term_own (view_term_node (term.Call f args) line) ≡ []
unfolding term_own
own_call f args line = ap term_own (view_term_node-Call f args line)

pub ruleset own_laws = (own_unary, own_cast, own_field, own_old, own_at, own_leaf, own_two, own_cond, own_call)

-- ---- what is put behind what is still to be looked at

pub more_terms : (l l' : List (Bor Term)) (xs : List Term) → pointed l' ≡ pointed l ++ xs → terms_in l' ≡ terms_in l ++ map view_term xs
more_terms l l' xs is = ap (map view_term) is ∙ map-append view_term (pointed l) xs

none_put : (l : List (Bor Term)) (xs : List t.Term) → xs ≡ [] → terms_in l ≡ terms_in l ++ xs
none_put l xs none = sym (ap (λ ys. terms_in l ++ ys) none ∙ append-nil (terms_in l))

listed : (xs : List t.Term) → t.list_of (t.terms_of xs) ≡ xs
listed [] = refl
listed (x ∷ xs) = ap (λ ys. x ∷ ys) (listed xs)

leaf_parts : (head : TermLeaf) (line : ℕ) → term_parts (view_term_node (term_leaf head) line) ≡ []
unfolding term_parts
leaf_parts (leaf.Number token) line = ap term_parts (view_term_node-Number token.now line)
leaf_parts (leaf.Char z) line = ap term_parts (view_term_node-Char z line)
leaf_parts (leaf.Name x) line = ap term_parts (view_term_node-Name x.now line)
leaf_parts leaf.Result line = ap term_parts (view_term_node-Result line)
leaf_parts leaf.Null line = ap term_parts (view_term_node-Null line)

one_parts : (head : TermOne) (a : Term) (line : ℕ) → term_parts (view_term_node (term_one head a) line) ≡ view_term a ∷ []
unfolding term_parts
one_parts (one.Unary o) a line = ap term_parts (view_term_node-Unary o a line)
one_parts (one.Field f arrow) a line = ap term_parts (view_term_node-Field a f.now arrow line)
one_parts (one.Cast type) a line = ap term_parts (view_term_node-Cast type.now a line)
one_parts one.Old a line = ap term_parts (view_term_node-Old a line)
one_parts (one.At label) a line = ap term_parts (view_term_node-At a label.now line)

two_parts : (head : TermTwo) (a b : Term) (line : ℕ) → term_parts (view_term_node (term_two head a b) line) ≡ view_term a ∷ view_term b ∷ []
unfolding term_parts
two_parts (two.Binary o) a b line = ap term_parts (view_term_node-Binary o a b line)
two_parts two.Index a b line = ap term_parts (view_term_node-Index a b line)
two_parts two.Range a b line = ap term_parts (view_term_node-Range a b line)

cond_parts : (test a b : Term) (line : ℕ) → term_parts (view_term_node (term.Cond test a b) line) ≡ view_term test ∷ view_term a ∷ view_term b ∷ []
unfolding term_parts
cond_parts test a b line = ap term_parts (view_term_node-Cond test a b line)

call_parts : (f : List ℕ) (args : List Term) (line : ℕ) → term_parts (view_term_node (term.Call f args) line) ≡ map view_term args
unfolding term_parts
call_parts f args line = ap term_parts (view_term_node-Call f args line) ∙ listed (map view_term args)

-- by the node x, as the code finds it
module _ (l l' : List (Bor Term)) (x : TermNode) (line : ℕ) where
  pub leaf_put : (head : TermLeaf) → x ≡ term_leaf head → terms_in l ≡ terms_in l ++ term_parts (view_term_node x line)
  leaf_put head is = none_put l (term_parts (view_term_node x line)) (ap (λ n. term_parts (view_term_node n line)) is ∙ leaf_parts head line)

  pub one_put : (head : TermOne) (a b : Term) → x ≡ term_one head a → b ≡ a → pointed l' ≡ pointed l ++ b ∷ [] → terms_in l' ≡ terms_in l ++ term_parts (view_term_node x line)
  one_put head a b is same put =
      more_terms l l' (b ∷ []) put ∙ ap (λ c. terms_in l ++ view_term c ∷ []) same
      ∙ ap (λ xs. terms_in l ++ xs) (sym (ap (λ n. term_parts (view_term_node n line)) is ∙ one_parts head a line))

  pub two_put : (head : TermTwo) (a b a' b' : Term) → x ≡ term_two head a b → a' ≡ a → b' ≡ b → pointed l' ≡ pointed l ++ (a' ∷ b' ∷ []) → terms_in l' ≡ terms_in l ++ term_parts (view_term_node x line)
  two_put head a b a' b' is first second put =
      more_terms l l' (a' ∷ b' ∷ []) put ∙ (λ i. terms_in l ++ (view_term (first i) ∷ view_term (second i) ∷ []))
      ∙ ap (λ xs. terms_in l ++ xs) (sym (ap (λ n. term_parts (view_term_node n line)) is ∙ two_parts head a b line))

  pub cond_put : (test a b test' a' b' : Term) → x ≡ term.Cond test a b → test' ≡ test → a' ≡ a → b' ≡ b → pointed l' ≡ pointed l ++ (test' ∷ a' ∷ b' ∷ [])
      → terms_in l' ≡ terms_in l ++ term_parts (view_term_node x line)
  cond_put test a b test' a' b' is zeroth first second put =
      more_terms l l' (test' ∷ a' ∷ b' ∷ []) put ∙ (λ i. terms_in l ++ (view_term (zeroth i) ∷ view_term (first i) ∷ view_term (second i) ∷ []))
      ∙ ap (λ xs. terms_in l ++ xs) (sym (ap (λ n. term_parts (view_term_node n line)) is ∙ cond_parts test a b line))

  pub call_put : (f : List ℕ) (args : List Term) → x ≡ term.Call f args → pointed l' ≡ pointed l ++ args → terms_in l' ≡ terms_in l ++ term_parts (view_term_node x line)
  call_put f args is put =
      more_terms l l' args put ∙ ap (λ xs. terms_in l ++ xs) (sym (ap (λ n. term_parts (view_term_node n line)) is ∙ call_parts f args line))

pub ruleset part_laws = (leaf_put, one_put, two_put, cond_put, call_put)
