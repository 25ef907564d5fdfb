-- Clashes of a branch, by the classes of its places.
use Rattle.std.proofs.Common.{◌≡◌, ◌⊎◌, ℕ, ◌<◌, ◌==◌, Bool, true, false, List, [], ◌∷◌, ◌++◌, map, length, get_or, refl, sym, ◌∙◌, ap, subst, inl, inr, arith}
use Rattle.std.specs.Prelude.{◌↔◌, ℤ, IsTrue, Option, Some, None, All}
use Rattle.std.specs.Ordering.{int_eq}
use Rattle.std.specs.Cmp.{signed_Decides}
use Rattle.std.specs.Bool.{MatchBool}
use Rattle.qed_terms.specs.declared.head.Head.{Head}
use Rattle.qed_terms.specs.Nodes.{kids_of}
use Rattle.qed_terms.specs.Tree.{Tree, head_of, false_tree, not_of, equal}
use Rattle.qed_linear.specs.Linear.{Lin}
use Rattle.same_places.specs.Same.{at, PartsWithin}
use Rattle.same_places.specs.Same as places
use Rattle.same_terms.specs.SameTerms.{Among, is_binder, as_whole, InBranch, SameTerm}
use Rattle.same_terms.specs.Stands.{tree_part, tree_parts}
use Rattle.same_terms.specs.Written.{number_in, written, turned}
use Rattle.same_terms.specs.Clashes.{Vanish, difference, Clash, false_literal, literal_and_not, two_numbers, no_difference}
use Rattle.same_terms.proofs.Terms.{EachAtom, kid_in_branch, atoms_in_branch, left_in, right_in}
use Rattle.tree_places.specs.Tables.{Node, tree_at, IsTable}
use Rattle.tree_places.proofs.Nodes.{once}
use Rattle.term_forms.specs.declared.forms.Form.{Form}
use Rattle.term_forms.specs.Forms.{lin_of}
use Rattle.branch_rows.specs.Marks.{mark_at}
use Rattle.branch_rows.proofs.Marking.{number_self}
use Rattle.congruence.specs.Closed.{IsClosed}
use Rattle.clashes.specs.Kinds.{OneSo, IsOpposite, HasTwoNumbers, IsNoDifference}
use Rattle.clashes.specs.Seen.{AreSeen, AreNumbers, DiffersThere, IsOppositeThere}
use Rattle.clashes.specs.Sums.{signed_place, parts_between, EachSumVanishes, Cancel}
use Rattle.clashes.proofs.Listed.{among_at, place_among}
use Rattle.clashes.proofs.OfBranch.{and_make, is_marked, class_told}
use Rattle.clashes.proofs.Vanishing.{AreFine, fine_of, fine_both, vanish_told}

-- what a test told of one thing, of another that is so where that is
pub told_also : (b : Bool) (P Q : Type 0) → (P → Q) → (Q → P) → MatchBool b P (P → ⊥) → MatchBool b Q (Q → ⊥)
told_also true P Q f g m = f m
told_also false P Q f g m = λ q. m (g q)

-- where a place is that of the formula, and nothing was seen of its class
pub not_opposite : (ns : List Node) (number : Head → Option ℕ) (find : List ℕ → Option ℕ) → IsTable ns number find → (classes : List ℕ) (k f : ℕ) (seen : ℕ → Option ℕ) → f < length ns → tree_at ns k ≡ not_of (tree_at ns f) → seen (at classes f) ≡ None → IsOppositeThere (tree_at ns) (length ns) (at classes) seen k → ⊥
not_opposite ns number find t classes k f seen l e none o =
    let d : not_of (tree_at ns f) ≡ not_of (tree_at ns (o.formula)) = sym e ∙ o.is in
    let s : tree_at ns f ≡ tree_at ns (o.formula) = cc in
    let same = once ns number find t f (o.formula) l (o.below) s in
    let n : Some (o.seen) ≡ None = sym (o.found) ∙ ap (λ z. seen (at classes z)) (sym same) ∙ none in
    absurd cc

module _ (ls : List Tree) (ns : List Node) (marks : List Bool) (classes : List ℕ) (number : Head → Option ℕ) (find : List ℕ → Option ℕ) (t : IsTable ns number find) (is : IsClosed ls ns marks classes) where
  literal_in : (u : Tree) → Among u ls → InBranch ls u
  literal_in u m = inl (u, m, as_whole)

  formula_in : (l u : Tree) → Among l ls → l ≡ not_of u → InBranch ls u
  formula_in l u m e = kid_in_branch ls l u (ap (λ z. is_binder (head_of z)) e) (subst (λ z. Among u (kids_of z)) (sym e) (inl refl)) (literal_in l m)

  below_all : (k : ℕ) → k < length classes → k < length ns
  below_all k l = let w = is.within in omega arith

  -- ---- a literal and its `not`

  module _ (literals : List ℕ) (below : All (λ k. k < length ns) literals) (are : map (tree_at ns) literals ≡ ls) (seen : ℕ → Option ℕ) (all : AreSeen (at classes) literals (length literals) seen) where
    pub opposite_to : (k : ℕ) → Among (tree_at ns k) ls → IsOppositeThere (tree_at ns) (length ns) (at classes) seen k → IsOpposite ls (tree_at ns k)
    opposite_to k m o =
        let r = all.each (at classes (o.formula)) (o.seen) (o.found) in
        let among : Among (tree_at ns (o.seen)) ls = subst (Among (tree_at ns (o.seen))) are (subst (λ z. Among (tree_at ns z) (map (tree_at ns) literals)) r.2 (among_at (tree_at ns) literals r.0 r.1)) in
        let l : o.seen < length ns = subst (λ z. z < length ns) r.2 (below r.0 0 r.1) in
        record {
          literal = tree_at ns (o.seen);
          formula = tree_at ns (o.formula);
          is = o.is;
          there = among;
          same = (class_told ls ns marks classes number find t is (o.seen) (o.formula) l (o.below) (literal_in (tree_at ns (o.seen)) among) (formula_in (tree_at ns k) (tree_at ns (o.formula)) m (o.is))).0 r.3;
        }

    pub opposite_from : (k : ℕ) → IsOpposite ls (tree_at ns k) → IsOppositeThere (tree_at ns) (length ns) (at classes) seen k
    opposite_from k o =
        let f = is.place (o.formula) (right_in (o.same)) in
        let i = place_among (tree_at ns) literals (o.literal) (subst (Among (o.literal)) (sym are) (o.there)) in
        let p = get_or literals i.0 0 in
        let l : p < length ns = below i.0 0 i.1 in
        let s : SameTerm ls (tree_at ns p) (tree_at ns f.0) = subst (λ z. SameTerm ls z (tree_at ns f.0)) (sym i.2) (subst (SameTerm ls (o.literal)) (sym f.2) (o.same)) in
        let c = (class_told ls ns marks classes number find t is p f.0 l (below_all f.0 f.1) (left_in s) (right_in s)).1 s in
        let e = all.every i.0 i.1 in
        record { formula = f.0; below = below_all f.0 f.1; is = o.is ∙ ap not_of (sym f.2); seen = e.0; found = ap seen (sym c) ∙ e.1 }

  -- ---- two numbers

  module _ (numbers : List ℕ) (are : AreNumbers (tree_at ns) marks (length marks) numbers) (seen : ℕ → Option ℕ) (all : AreSeen (at classes) numbers (length numbers) seen) where
    number_below : (i : ℕ) → i < length numbers → get_or numbers i 0 < length classes
    number_below i l = subst (λ z. get_or numbers i 0 < z) (is.all) (are.each i l).1

    pub two_numbers_to : (i : ℕ) → i < length numbers → DiffersThere (tree_at ns) (at classes) seen (get_or numbers i 0) → HasTwoNumbers ls
    two_numbers_to i l d =
        let r = all.each (at classes (get_or numbers i 0)) (d.seen) (d.found) in
        let below : d.seen < length classes = subst (λ z. z < length classes) r.2 (number_below r.0 r.1) in
        let mark = subst (λ z. mark_at marks z ≡ true) r.2 (are.each r.0 r.1).0 in
        record {
          one = tree_at ns (d.seen);
          other = tree_at ns (get_or numbers i 0);
          same = (is.same (d.seen) (get_or numbers i 0) below (number_below i l)).0 (and_make (mark_at marks (d.seen)) (at classes (d.seen) == at classes (get_or numbers i 0)) mark (ap (λ z. z == at classes (get_or numbers i 0)) r.3 ∙ number_self (at classes (get_or numbers i 0))));
          apart = d.apart;
        }

    -- a number of the branch is one of the list
    number_there : (u : Tree) (z : ℤ) → InBranch ls u → number_in u ≡ Some z → (i : ℕ) × (i < length numbers) × (tree_at ns (get_or numbers i 0) ≡ u)
    number_there u z b e =
        let p = is.place u b in
        let l = below_all p.0 p.1 in
        let mark = is_marked ls ns marks classes number find t is p.0 l (subst (InBranch ls) (sym p.2) b) in
        let r = are.every p.0 z (subst (λ y. p.0 < y) (sym (is.all)) p.1) mark (ap number_in p.2 ∙ e) in
        (r.0, r.1, ap (tree_at ns) r.2 ∙ p.2)

    pub two_numbers_from : ((i : ℕ) → i < length numbers → DiffersThere (tree_at ns) (at classes) seen (get_or numbers i 0) → ⊥) → HasTwoNumbers ls → ⊥
    two_numbers_from none two =
        let a = two.apart in
        let i = number_there (two.one) (a.first) (left_in (two.same)) (a.first_is) in
        let j = number_there (two.other) (a.second) (right_in (two.same)) (a.second_is) in
        let p = get_or numbers i.0 0 in
        let q = get_or numbers j.0 0 in
        let s : SameTerm ls (tree_at ns p) (tree_at ns q) = subst (λ z. SameTerm ls z (tree_at ns q)) (sym i.2) (subst (SameTerm ls (two.one)) (sym j.2) (two.same)) in
        let c = (class_told ls ns marks classes number find t is p q (below_all p (number_below i.0 i.1)) (below_all q (number_below j.0 j.1)) (left_in s) (right_in s)).1 s in
        let e = all.every i.0 i.1 in
        let r = all.each (at classes p) e.0 e.1 in
        let w = (are.each r.0 r.1).2 in
        let first : number_in (tree_at ns e.0) ≡ Some w.0 = ap (λ z. number_in (tree_at ns z)) (sym r.2) ∙ w.1 in
        none i.0 i.1 (record {
          seen = e.0;
          found = e.1;
          apart = record {
            first = w.0;
            second = a.first;
            first_is = first;
            second_is = ap number_in i.2 ∙ a.first_is;
            apart = λ x. none j.0 j.1 (record {
              seen = e.0;
              found = ap seen (sym c) ∙ e.1;
              apart = record { first = w.0; second = a.second; first_is = first; second_is = ap number_in j.2 ∙ a.second_is; apart = λ y. a.apart (sym x ∙ y) };
            });
          };
        })

  -- ---- an equality whose sides don't differ

  module _ (k a b : ℕ) (m : Among (tree_at ns k) ls) (l : a < length ns) (r : b < length ns) (e : tree_at ns k ≡ not_of (equal (tree_at ns a) (tree_at ns b))) (f g : Form) (left : lin_of (tree_at ns) f ≡ written (tree_at ns a)) (right : lin_of (tree_at ns) g ≡ written (tree_at ns b)) (within : PartsWithin (length ns) (f.parts.items)) (within' : PartsWithin (length ns) (g.parts.items)) where
    sides_in : InBranch ls (tree_at ns a) × InBranch ls (tree_at ns b)
    sides_in =
        let both = formula_in (tree_at ns k) (equal (tree_at ns a) (tree_at ns b)) m e in
        (kid_in_branch ls (equal (tree_at ns a) (tree_at ns b)) (tree_at ns a) refl (inl refl) both, kid_in_branch ls (equal (tree_at ns a) (tree_at ns b)) (tree_at ns b) refl (inr (inl refl)) both)

    turned_parts : (ps : List places.Part) → map turned (tree_parts (tree_at ns) ps) ≡ tree_parts (tree_at ns) (map (signed_place true) ps)
    turned_parts [] = refl
    turned_parts (p ∷ ps) = ap (λ qs. turned (tree_part (tree_at ns) p) ∷ qs) (turned_parts ps)

    parts_both : (ps qs : List places.Part) → tree_parts (tree_at ns) (ps ++ qs) ≡ tree_parts (tree_at ns) ps ++ tree_parts (tree_at ns) qs
    parts_both [] qs = refl
    parts_both (p ∷ ps) qs = ap (λ rs. tree_part (tree_at ns) p ∷ rs) (parts_both ps qs)

    fine_turned : (ps : List places.Part) → AreFine ls (length ns) (tree_at ns) ps → AreFine ls (length ns) (tree_at ns) (map (signed_place true) ps)
    fine_turned [] all = tt
    fine_turned (p ∷ ps) all = (all.0, fine_turned ps all.1)

    are_fine : AreFine ls (length ns) (tree_at ns) (parts_between (f.parts.items) (g.parts.items))
    are_fine =
        let x = fine_of ls (length ns) (tree_at ns) (f.parts.items) within (subst (λ (z : Lin). EachAtom (InBranch ls) (z.parts)) (sym left) (atoms_in_branch ls (tree_at ns a) sides_in.0)) in
        let y = fine_of ls (length ns) (tree_at ns) (g.parts.items) within' (subst (λ (z : Lin). EachAtom (InBranch ls) (z.parts)) (sym right) (atoms_in_branch ls (tree_at ns b) sides_in.1)) in
        fine_both ls (length ns) (tree_at ns) (f.parts.items) (map (signed_place true) (g.parts.items)) x (fine_turned (g.parts.items) y)

    difference_is : tree_parts (tree_at ns) (parts_between (f.parts.items) (g.parts.items)) ≡ difference (tree_at ns a) (tree_at ns b)
    difference_is =
        parts_both (f.parts.items) (map (signed_place true) (g.parts.items))
        ∙ (λ i. (left i).parts ++ (sym (turned_parts (g.parts.items)) ∙ ap (λ (z : Lin). map turned (z.parts)) right) i)

    told_here : EachSumVanishes (at classes) (parts_between (f.parts.items) (g.parts.items)) (parts_between (f.parts.items) (g.parts.items)) ↔ Vanish (SameTerm ls) (tree_parts (tree_at ns) (parts_between (f.parts.items) (g.parts.items)))
    told_here = vanish_told ls (length ns) (tree_at ns) (at classes) (SameTerm ls) (λ i j x y. class_told ls ns marks classes number find t is i j x.0 y.0 x.1 y.1) (parts_between (f.parts.items) (g.parts.items)) are_fine

    pub no_difference_to : Cancel (at classes) f g → IsNoDifference ls (tree_at ns k)
    no_difference_to so = record {
      left = tree_at ns a;
      right = tree_at ns b;
      is = e;
      vanish = subst (Vanish (SameTerm ls)) difference_is (told_here.0 (so.vanish));
      constants = ap (λ (z : Lin). z.constant) (sym left) ∙ so.constants ∙ ap (λ (z : Lin). z.constant) right;
    }

    pub no_difference_from : IsNoDifference ls (tree_at ns k) → Cancel (at classes) f g
    no_difference_from so =
        let d : not_of (equal (so.left) (so.right)) ≡ not_of (equal (tree_at ns a) (tree_at ns b)) = sym (so.is) ∙ e in
        let x : so.left ≡ tree_at ns a = cc in
        let y : so.right ≡ tree_at ns b = cc in
        record {
          constants = ap (λ (z : Lin). z.constant) left ∙ ap (λ z. (written z).constant) (sym x) ∙ so.constants ∙ ap (λ z. (written z).constant) y ∙ ap (λ (z : Lin). z.constant) (sym right);
          vanish = told_here.1 (subst (Vanish (SameTerm ls)) ((λ i. difference (x i) (y i)) ∙ sym difference_is) (so.vanish));
        }

-- ---- all of them

pub clash_told : (ls : List Tree) → Clash ls ↔ ((Among false_tree ls ⊎ OneSo (IsOpposite ls) ls) ⊎ (HasTwoNumbers ls ⊎ OneSo (IsNoDifference ls) ls))
clash_told ls = (to, from)
  where
    to : Clash ls → ((Among false_tree ls ⊎ OneSo (IsOpposite ls) ls) ⊎ (HasTwoNumbers ls ⊎ OneSo (IsNoDifference ls) ls))
    to (false_literal m) = inl (inl m)
    to (literal_and_not u v m n s) = inl (inr (not_of v, n, record { literal = u; formula = v; is = refl; there = m; same = s }))
    to (two_numbers u v y z s e d n) = inr (inl (record { one = u; other = v; same = s; apart = record { first = y; second = z; first_is = e; second_is = d; apart = n } }))
    to (no_difference u v m w c) = inr (inr (not_of (equal u v), m, record { left = u; right = v; is = refl; vanish = w; constants = c }))

    from : ((Among false_tree ls ⊎ OneSo (IsOpposite ls) ls) ⊎ (HasTwoNumbers ls ⊎ OneSo (IsNoDifference ls) ls)) → Clash ls
    from (inl (inl m)) = false_literal m
    from (inl (inr o)) = let p = o.2 in literal_and_not (p.literal) (p.formula) (p.there) (subst (λ z. Among z ls) (p.is) o.1) (p.same)
    from (inr (inl p)) = let a = p.apart in two_numbers (p.one) (p.other) (a.first) (a.second) (p.same) (a.first_is) (a.second_is) (a.apart)
    from (inr (inr o)) = let p = o.2 in no_difference (p.left) (p.right) (subst (λ z. Among z ls) (p.is) o.1) (p.vanish) (p.constants)

-- what was told is so
pub so_told : (b : Bool) (P : Type 0) → MatchBool b P (P → ⊥) → b ≡ true → P
so_told true P m e = m
so_told false P m e = absurd cc

not_told : (b : Bool) (P : Type 0) → MatchBool b P (P → ⊥) → b ≡ false → P → ⊥
not_told true P m e = absurd cc
not_told false P m e = m

not_true : false ≡ true → ⊥
not_true e = cc

is_told : (b : Bool) (P Q : Type 0) → MatchBool b P (P → ⊥) → (P → Q) → (Q → (P → ⊥) → ⊥) → IsTrue b ↔ Q
is_told true P Q m f g = (λ x. f m, λ q. refl)
is_told false P Q m f g = (λ x. absurd (not_true x), λ q. absurd (g q m))

-- none of the first three
pub all_told : (ls : List Tree) → (Among false_tree ls → ⊥)
    → (b : Bool) → MatchBool b (OneSo (IsOpposite ls) ls) (OneSo (IsOpposite ls) ls → ⊥) → b ≡ false
    → (c : Bool) → MatchBool c (HasTwoNumbers ls) (HasTwoNumbers ls → ⊥) → c ≡ false
    → (d : Bool) → MatchBool d (OneSo (IsNoDifference ls) ls) (OneSo (IsNoDifference ls) ls → ⊥) → IsTrue d ↔ Clash ls
all_told ls none b opposites eb c numbers ec d m =
    is_told d (OneSo (IsNoDifference ls) ls) (Clash ls) m (λ o. (clash_told ls).1 (inr (inr o))) (λ k n. elim ((clash_told ls).0 k) [
      | inl x ↦ elim x [ inl a ↦ none a | inr o ↦ not_told b (OneSo (IsOpposite ls) ls) opposites eb o ]
      | inr x ↦ elim x [ inl o ↦ not_told c (HasTwoNumbers ls) numbers ec o | inr o ↦ n o ]
    ])

-- ---- numbers of 128 bits

pub numbers_equal : (y z : ℤ) (b : Bool) → b ≡ int_eq y z → b ≡ true → y ≡ z
numbers_equal y z b e d = (signed_Decides y z).0 (sym e ∙ d)

pub numbers_apart : (y z : ℤ) (b : Bool) → b ≡ int_eq y z → b ≡ false → y ≡ z → ⊥
numbers_apart y z b e d h = let k = (signed_Decides y z).1 h in let f : true ≡ false = sym k ∙ sym e ∙ d in absurd cc
