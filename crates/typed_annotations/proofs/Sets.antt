-- Elements are behind an address: their block is one that pointers may lead to.
use Rattle.std.proofs.Common.{◌≡◌, ℕ, ℤ, true, List, [], Option, Some, None, refl, sym, ap, ◌∙◌, subst}
use Rattle.acsl_trees.specs.declared.heads.Head.TheVariants as head
use Rattle.acsl_trees.specs.Tree.{Tree, node, stop, more}
use Rattle.acsl_expand.specs.Expansion.{Definition}
use Rattle.c_runs.specs.TruthStates as state
use Rattle.c_runs.specs.TruthStates.{Value, World}
use Rattle.c_runs.specs.Truth.{calls_of, named, value}
use Rattle.typed_prog.specs.declared.operators.Variable.{Variable}
use Rattle.qed_terms.specs.Tree.{Tree as Term}
use Rattle.qed_terms.specs.Meaning.{Values, World as Logic}
use Rattle.acsl_encode.specs.Readings.{Terms, address, elements, Reading, moved_to}
use Rattle.acsl_encode.specs.Encode as encode
use Rattle.acsl_encode.specs.Encode.{terms_of, as_pointer, as_integer}
use Rattle.acsl_encode.specs.Meaning.{number_in, HasAddress, Means, Stands}
use Rattle.acsl_encode.specs.Calls.{CallsStand}
use Rattle.acsl_encode.specs.Binders.{Spelled}
use Rattle.annotations_encoded.specs.Sights.{Site, holds_integer, holds_pointer, has_block, unknown, sights_of}
use Rattle.annotations_encoded.specs.Shapes.{Shape, an_address, a_variable, a_set, no_shape, shape_at, part_of, either_of, shape, HasShape}
use Rattle.annotations_encoded.specs.Serving.{is_region}
use Rattle.annotations_encoded.proofs.Nodes.{moved_sights}
use Rattle.leaf_annotations.specs.Laws.{IsOverLeaves}
use Rattle.leaf_annotations.proofs.Sorting.{moved_reading}
use Rattle.leaf_annotations.proofs.ClosedHeads as closed
use Rattle.leaf_annotations.proofs.Around.{moved_stands}
use Rattle.leaf_annotations.proofs.Formulas.{terms_mean}

-- ---- shapes that aren't sets

no_part : (z : Shape) (n : ℕ) → part_of z ≡ a_set n → ⊥
no_part an_address n e = absurd cc
no_part (a_variable x) n e = absurd cc
no_part (a_set k) n e = absurd cc
no_part no_shape n e = absurd cc

no_variable : (x : Variable) (z : Site) (n : ℕ) → shape_at x z ≡ a_set n → ⊥
no_variable x (holds_integer k) n e = absurd cc
no_variable x holds_pointer n e = absurd cc
no_variable x has_block n e = absurd cc
no_variable x unknown n e = absurd cc

no_either : (z s : Shape) (n : ℕ) → either_of z s ≡ a_set n → ⊥
no_either an_address s n e = no_part s n e
no_either (a_variable x) s n e = absurd cc
no_either (a_set k) s n e = absurd cc
no_either no_shape s n e = absurd cc

-- ---- elements

module _ (q : Logic) (env : Values) where
  abbrev N : Term → ℤ
  N = number_in q env

  abbrev first_of : Terms → Term → Term
  first_of (elements b o n i j) d = b
  first_of _ d = d

  reached_home : (size : ℕ) (x : Terms) (i j : Option Term) → ((b o : Term) → x ≡ address b o → HasAddress (N b))
      → (c o : Term) (n : ℕ) (k l : Term) → encode.reached size (as_pointer x) i j ≡ elements c o n k l → HasAddress (N c)
  reached_home size (address b u) (Some i) (Some j) home c o n k l e = subst HasAddress (ap (λ x. N (first_of x b)) e) (home b u refl)
  reached_home size (address b u) (Some i) None home c o n k l e = absurd cc
  reached_home size (address b u) None j home c o n k l e = absurd cc
  reached_home size x i j home c o n k l e = absurd cc

  module _ (names : Spelled) (ds : List Definition) where
    -- what stands for an address has a block of its own
    address_home : (r : Reading) (w : World) → IsOverLeaves names r → CallsStand q.apps (calls_of ds) r.common r.called → Stands q r env w → (t : Tree)
        → (b o : Term) → terms_of r t ≡ address b o → HasAddress (N b)
    address_home r w over calls stands t b o e =
        (subst (λ x. Means q r.common env x (value (calls_of ds) (named []) 0 w t)) e (terms_mean q names r ds env w t over calls stands)).1

    pub set_home : (t : Tree) (r : Reading) (w : World) → IsOverLeaves names r → CallsStand q.apps (calls_of ds) r.common r.called → Stands q r env w
        → (m : ℕ) → shape (sights_of r) t ≡ a_set m → (c o : Term) (n : ℕ) (k l : Term) → terms_of r t ≡ elements c o n k l → HasAddress (N c)
    set_home (node (head.Elements size count) stop) r w over calls stands m z c o n k l e = absurd cc
    set_home (node (head.Elements size count) (more u ts)) r w over calls stands m z c o n k l e =
        reached_home size (terms_of r u) _ _ (address_home r w over calls stands u) c o n k l e
    set_home (node (head.Behind size) stop) r w over calls stands m z c o n k l e = absurd cc
    set_home (node (head.Behind size) (more u ts)) r w over calls stands m z c o n k l e =
        reached_home size (terms_of r u) _ _ (address_home r w over calls stands u) c o n k l e
    set_home (node (head.At x) (more u ts)) r w over calls stands m z c o n k l e =
        set_home u (moved_to x r) (state.moved_to x w)
        (record { closed = closed.moved_reading x r over.closed; sorted = moved_reading x r over.sorted; spelled = over.spelled; binders = over.binders })
        calls (moved_stands q (calls_of ds) x r env w stands) m (ap (λ g. shape g u) (sym (moved_sights x r)) ∙ z) c o n k l e
    set_home (node (head.Variable x) ks) r w over calls stands m z c o n k l e = absurd (no_variable x ((sights_of r).here.site x) m z)
    set_home (node (head.Field f x) (more u ts)) r w over calls stands m z c o n k l e = absurd (no_part (shape (sights_of r) u) m z)
    set_home (node (head.Element f x) (more u ts)) r w over calls stands m z c o n k l e = absurd (no_part (shape (sights_of r) u) m z)
    set_home (node head.Choose (more a (more u (more v ts)))) r w over calls stands m z c o n k l e =
        absurd (no_either (shape (sights_of r) u) (shape (sights_of r) v) m z)
    set_home t r w over calls stands m z c o n k l e = absurd cc

-- what stands for a set's shape is no address, and the other way round
pub set_of : (ks : List _) (z : Shape) (c o : Term) (n : ℕ) (i j : Term) → HasShape z (elements c o n i j) → is_region ks z ≡ true → (m : ℕ) × (z ≡ a_set m)
set_of ks an_address c o n i j h e = absurd h
set_of ks (a_variable x) c o n i j h e = absurd cc
set_of ks (a_set m) c o n i j h e = (m, refl)
set_of ks no_shape c o n i j h e = absurd cc
