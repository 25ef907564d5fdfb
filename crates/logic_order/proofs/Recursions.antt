-- What passes the test of recursions is one, by its last parameter.
use Rattle.std.proofs.Common.{◌≡◌, ℕ, suc, true, ◌&&◌, ℤ, List, [], ◌∷◌, ◌++◌, length, refl, ap, ◌∙◌}
use Rattle.std.specs.List.{list_all}
use Rattle.std.proofs.lemmas.Bool.{and_parts, false≢true, eqb-true}
use Rattle.typed_prog.specs.declared.operators.Comparison.TheVariants as cmp
use Rattle.acsl_trees.specs.declared.heads.Head.TheVariants as h
use Rattle.acsl_trees.specs.Tree.{Tree, node, stop, more, leaf, two as two_kids, three}
use Rattle.c_runs.specs.Recursion.{never_calls, goes_down, IsRecursion}
use Rattle.acsl_encode.specs.Readings.{Named, one, two, Called}
use Rattle.acsl_encode.specs.Regular.{Descends}
use Rattle.plain_annotations.specs.Places.{is_one}
use Rattle.logic_order.specs.Recursive.{is_name_of, is_number, is_bound, is_recursion, descends}

name_is : (x : ℕ) (t : Tree) → is_name_of x t ≡ true → t ≡ leaf (h.Name x)
name_is x (node (h.Name y) stop) e = ap (λ z. leaf (h.Name z)) (eqb-true y x e)
name_is x (node head ks) e = absurd (false≢true e)

number_is : (t : Tree) → is_number t ≡ true → (z : ℤ) × (t ≡ leaf (h.Number z))
number_is (node (h.Number z) stop) e = (z, refl)
number_is (node head ks) e = absurd (false≢true e)

pub record Bound (x : ℕ) (t : Tree) : Type 0 where
  pub number : ℤ
  pub is : t ≡ two_kids (h.Compare cmp.AtMost) (leaf (h.Name x)) (leaf (h.Number number))

bound_is : (x : ℕ) (t : Tree) → is_bound x t ≡ true → Bound x t
bound_is x (node (h.Compare cmp.AtMost) (more t (more u stop))) e =
    let parts = and_parts (is_name_of x t) (is_number u) e in
    let n = number_is u parts.1 in
    let a = name_is x t parts.0 in
    record { number = n.0; is = λ i. two_kids (h.Compare cmp.AtMost) (a i) (n.1 i) }
bound_is x (node head ks) e = absurd (false≢true e)

pub recursion_is : (n x : ℕ) (t : Tree) → is_recursion n x t ≡ true → IsRecursion n x t
recursion_is n x (node h.Choose (more test (more base (more step stop)))) e =
    let parts = and_parts (is_bound x test) (never_calls n base && goes_down n x step) e in
    let inner = and_parts (never_calls n base) (goes_down n x step) parts.1 in
    let b = bound_is x test parts.0 in
    record {
      bound = b.number;
      base = base;
      step = step;
      is = ap (λ u. three h.Choose u base step) b.is;
      base_calls = inner.0;
      step_goes = inner.1;
    }
recursion_is n x (node head ks) e = absurd (false≢true e)

-- ---- the last parameter

record Split (ps : List Named) (count : ℕ) : Type 0 where
  front : List Named
  last : List ℕ
  is : ps ≡ front ++ one last ∷ []
  many : length front ≡ count

split : (p : Named) (ps : List Named) → list_all is_one (p ∷ ps) ≡ true → Split (p ∷ ps) (length ps)
split (one x) [] e = record { front = []; last = x; is = refl; many = refl }
split (two b o) ps e = absurd (false≢true e)
split (one x) (q ∷ ps) e =
    let s = split q ps e in
    record { front = one x ∷ s.front; last = s.last; is = ap (λ qs. one x ∷ qs) s.is; many = ap suc s.many }

pub descends_is : (n : ℕ) (c : Called) (t : Tree) → list_all is_one c.params ≡ true → descends n c.params t ≡ true → Descends n c t
descends_is n c t ones e = by c.params refl ones e
  where
    by : (ps : List Named) → c.params ≡ ps → list_all is_one ps ≡ true → descends n ps t ≡ true → Descends n c t
    by [] is ones e = absurd (false≢true e)
    by (p ∷ ps) is ones e =
        let s = split p ps ones in
        record {
          front = s.front;
          last = s.last;
          params = is ∙ s.is;
          recursion = recursion_is n (length s.front) t (ap (λ k. is_recursion n k t) s.many ∙ e);
        }
