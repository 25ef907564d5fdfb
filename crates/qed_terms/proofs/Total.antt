-- The order of trees is total, and answers `Equal` for one tree alone.
use Rattle.std.proofs.Common.{◌≡◌, ℕ, true, false, Bool, ◌&&◌, ◌==◌, ℤ, List, [], ◌∷◌, map, get_or, Ordering, Less, Equal, Greater, nat_cmp, int_cmp, is_eq, refl, sym, ◌∙◌, ap}
use Rattle.std.specs.Ordering.{ordering_then, ordering_reverse}
use Rattle.std.specs.Prelude.{nat_eq}
use Rattle.std.specs.Ordering.{int_eq}
use Rattle.std.specs.Str.{bytes_eq}
use Rattle.std.specs.Cmp.{IsTotalOrder, first_so, second_so, unsigned_Decides, signed_Decides}
use Rattle.std.specs.Cmp.Lexicographic.{slice_cmp}
use Rattle.std.proofs.lemmas.Slice.Eq.{bytes_eq-Decides}
use Rattle.std.proofs.lemmas.Cmp.{then_total, on_total, nat_cmp_total, int_cmp_total, nat_list_cmp_total, tied_itself}
use Rattle.std.proofs.lemmas.Map.Lookups.{exact_unsigned, exact_signed, exact_bytes}
use Rattle.wp_base.specs.declared.kinds.Kind.{Kind}
use Rattle.wp_base.specs.declared.kinds.Kind.TheVariants as kind
use Rattle.wp_base.specs.declared.kinds.CellKind.{CellKind}
use Rattle.wp_base.specs.declared.kinds.CellKind.TheVariants as cell
use Rattle.wp_base.specs.declared.kinds.Layout.{Layout}
use Rattle.wp_base.specs.Kinds.{kind_place, cell_place}
use Rattle.qed_terms.specs.declared.head.Sort.{Sort}
use Rattle.qed_terms.specs.declared.head.Sort.TheVariants as sort
use Rattle.qed_terms.specs.declared.head.Shape.{Shape}
use Rattle.qed_terms.specs.declared.head.Shape.TheVariants as shape
use Rattle.qed_terms.specs.declared.head.Head.{Head}
use Rattle.qed_terms.specs.declared.head.Head.TheVariants as h
use Rattle.qed_terms.specs.declared.head.TermOp.TheVariants as op
use Rattle.qed_terms.specs.declared.head.FormOp.TheVariants as form
use Rattle.wp_base.specs.Blocks.{to_nat}
use Rattle.qed_terms.specs.Tree.{Tree, node, Trees, stop, more}
use Rattle.qed_terms.specs.Order.{rank, number_in, name_in, back_in, layout_back, shape_place, first_of, rest_of, front_cmp, back_cmp, same_head, HeadsAreExact, tree_cmp, kids_cmp, same, OrderIsTotal}

-- ---- a head is known by its rank and by what stands before and after the kids

kinds : List Kind
kinds = kind.Bool ∷ kind.Char ∷ kind.SChar ∷ kind.UChar ∷ kind.Short ∷ kind.UShort ∷ kind.Int ∷ kind.UInt ∷ kind.Long ∷ kind.ULong ∷ kind.LLong ∷ kind.ULLong ∷ []

kind_from : ℕ → Kind
kind_from n = get_or kinds n kind.Bool

kind_back : (k : Kind) → kind_from (kind_place k) ≡ k
unfolding kind_from kinds
kind_back kind.Bool = refl
kind_back kind.Char = refl
kind_back kind.SChar = refl
kind_back kind.UChar = refl
kind_back kind.Short = refl
kind_back kind.UShort = refl
kind_back kind.Int = refl
kind_back kind.UInt = refl
kind_back kind.Long = refl
kind_back kind.ULong = refl
kind_back kind.LLong = refl
kind_back kind.ULLong = refl

cell_from : ℕ → CellKind
cell_from n = get_or (map cell.Of kinds) n cell.Ptr

cell_back : (k : CellKind) → cell_from (cell_place k) ≡ k
unfolding cell_from kinds
cell_back (cell.Of kind.Bool) = refl
cell_back (cell.Of kind.Char) = refl
cell_back (cell.Of kind.SChar) = refl
cell_back (cell.Of kind.UChar) = refl
cell_back (cell.Of kind.Short) = refl
cell_back (cell.Of kind.UShort) = refl
cell_back (cell.Of kind.Int) = refl
cell_back (cell.Of kind.UInt) = refl
cell_back (cell.Of kind.Long) = refl
cell_back (cell.Of kind.ULong) = refl
cell_back (cell.Of kind.LLong) = refl
cell_back (cell.Of kind.ULLong) = refl
cell_back cell.Ptr = refl

cells_back : (ks : List CellKind) → map cell_from (map cell_place ks) ≡ ks
cells_back [] = refl
cells_back (k ∷ ks) = let a = cell_back k in let b = cells_back ks in λ i. a i ∷ b i

shape_from : ℕ → Shape
shape_from n = get_or (shape.Cells ∷ shape.New ∷ []) n shape.New

shapes_back : (ss : List Shape) → map shape_from (map shape_place ss) ≡ ss
unfolding shape_from
shapes_back [] = refl
shapes_back (shape.Cells ∷ ss) = ap (λ rs. shape.Cells ∷ rs) (shapes_back ss)
shapes_back (shape.New ∷ ss) = ap (λ rs. shape.New ∷ rs) (shapes_back ss)

sort_from : List ℕ → Sort
sort_from ns = get_or (sort.Int ∷ sort.Memory ∷ sort.Table ∷ []) (first_of ns) sort.Int

layout_from : List ℕ → Layout
layout_from ns = record { count = first_of (rest_of ns); cells = map cell_from (rest_of (rest_of ns)); writable = first_of ns == 1 }

flag_back : (b : Bool) (n : ℕ) (ks ls : List CellKind) → ks ≡ ls
    → layout_from (layout_back (record { count = n; cells = ks; writable = b })) ≡ record { count = n; cells = map cell_from (map cell_place ks); writable = b }
unfolding layout_from
flag_back true n ks ls e = refl
flag_back false n ks ls e = refl

layout_is : (l : Layout) → layout_from (layout_back l) ≡ l
layout_is l = let b = cells_back l.cells in flag_back l.writable l.count l.cells l.cells refl ∙ (λ i. record { count = l.count; cells = b i; writable = l.writable })

-- all heads in their order, with this number, name and back
heads : ℤ → List ℕ → List ℕ → List Head
heads z x b =
    h.Num z ∷ h.Var x (sort_from b) ∷ h.Term op.Add ∷ h.Term op.Sub ∷ h.Term op.Mul ∷ h.Term op.Neg ∷ h.Term op.Div ∷ h.Term op.Mod
    ∷ h.Term (op.Wrap (kind_from (to_nat z))) ∷ h.Term op.ShiftLeft ∷ h.Term op.ShiftRight ∷ h.Term op.BitAnd ∷ h.Term op.BitOr ∷ h.Term op.BitXor ∷ h.Term op.BitNot
    ∷ h.Ite ∷ h.Term op.Load ∷ h.Term op.Count ∷ h.Term op.Len ∷ h.App x ∷ h.Term op.Store ∷ h.Term (op.Alloc (layout_from b)) ∷ h.Term op.Grow
    ∷ h.Form form.Equal ∷ h.Form form.AtMost ∷ h.Form form.Less ∷ h.Form form.Same ∷ h.True ∷ h.False ∷ h.Not ∷ h.And ∷ h.Or ∷ h.Imp ∷ h.Iff ∷ h.Forall x ∷ h.Exists x
    ∷ h.Form (form.Read (cell_from (to_nat z))) ∷ h.Form (form.Write (cell_from (to_nat z))) ∷ h.Form form.Live ∷ h.Form (form.Has (layout_from b))
    ∷ h.Form (form.WellFormed (cell_from (to_nat z))) ∷ h.Form (form.Frame (map shape_from b)) ∷ []

head_from : ℕ → ℤ → List ℕ → List ℕ → Head
head_from n z x b = get_or (heads z x b) n h.True

head_back : (g : Head) → head_from (rank g) (number_in g) (name_in g) (back_in g) ≡ g
unfolding head_from heads sort_from
head_back (h.Num z) = refl
head_back (h.Var x sort.Int) = refl
head_back (h.Var x sort.Memory) = refl
head_back (h.Var x sort.Table) = refl
head_back (h.Term op.Add) = refl
head_back (h.Term op.Sub) = refl
head_back (h.Term op.Mul) = refl
head_back (h.Term op.Neg) = refl
head_back (h.Term op.Div) = refl
head_back (h.Term op.Mod) = refl
head_back (h.Term (op.Wrap k)) = ap (λ k. h.Term (op.Wrap k)) (kind_back k)
head_back (h.Term op.ShiftLeft) = refl
head_back (h.Term op.ShiftRight) = refl
head_back (h.Term op.BitAnd) = refl
head_back (h.Term op.BitOr) = refl
head_back (h.Term op.BitXor) = refl
head_back (h.Term op.BitNot) = refl
head_back (h.Term op.Load) = refl
head_back (h.Term op.Count) = refl
head_back (h.Term op.Len) = refl
head_back (h.Term op.Store) = refl
head_back (h.Term (op.Alloc l)) = ap (λ l. h.Term (op.Alloc l)) (layout_is l)
head_back (h.Term op.Grow) = refl
head_back h.Ite = refl
head_back (h.App f) = refl
head_back (h.Form form.Equal) = refl
head_back (h.Form form.AtMost) = refl
head_back (h.Form form.Less) = refl
head_back (h.Form form.Same) = refl
head_back (h.Form (form.Read k)) = ap (λ k. h.Form (form.Read k)) (cell_back k)
head_back (h.Form (form.Write k)) = ap (λ k. h.Form (form.Write k)) (cell_back k)
head_back (h.Form form.Live) = refl
head_back (h.Form (form.Has l)) = ap (λ l. h.Form (form.Has l)) (layout_is l)
head_back (h.Form (form.WellFormed k)) = ap (λ k. h.Form (form.WellFormed k)) (cell_back k)
head_back (h.Form (form.Frame ss)) = ap (λ ss. h.Form (form.Frame ss)) (shapes_back ss)
head_back h.True = refl
head_back h.False = refl
head_back h.Not = refl
head_back h.And = refl
head_back h.Or = refl
head_back h.Imp = refl
head_back h.Iff = refl
head_back (h.Forall x) = refl
head_back (h.Exists x) = refl

both_equal : (a b : Ordering) → ordering_then a b ≡ Equal → (a ≡ Equal) × (b ≡ Equal)
both_equal Less b e = absurd cc
both_equal Equal b e = (refl, e)
both_equal Greater b e = absurd cc

heads_exact : (g k : Head) → front_cmp g k ≡ Equal → back_cmp g k ≡ Equal → g ≡ k
heads_exact g k e f =
    let a = both_equal (nat_cmp (rank g) (rank k)) _ e in
    let b = both_equal (int_cmp (number_in g) (number_in k)) _ a.1 in
    let r = exact_unsigned (rank g) (rank k) a.0 in
    let z = exact_signed (number_in g) (number_in k) b.0 in
    let x = exact_bytes (name_in g) (name_in k) b.1 in
    let o = exact_bytes (back_in g) (back_in k) f in
    sym (head_back g) ∙ (λ i. head_from (r i) (z i) (x i) (o i)) ∙ head_back k

front_total : IsTotalOrder front_cmp
front_total = then_total (on_total rank nat_cmp_total) (then_total (on_total number_in int_cmp_total) (on_total name_in nat_list_cmp_total))

back_total : IsTotalOrder back_cmp
back_total = on_total back_in nat_list_cmp_total

-- ---- heads that are the same

same_back : (xs ys : List ℕ) → is_eq (slice_cmp nat_cmp xs ys) ≡ true → xs ≡ ys
same_back xs ys k = go (slice_cmp nat_cmp xs ys) refl k
  where
    go : (o : Ordering) → slice_cmp nat_cmp xs ys ≡ o → is_eq o ≡ true → xs ≡ ys
    go Less e q = absurd cc
    go Equal e q = exact_bytes xs ys e
    go Greater e q = absurd cc

same_one : (g k : Head) → same_head g k ≡ true → g ≡ k
same_one g k e =
    let ranks = nat_eq (rank g) (rank k) in
    let numbers = int_eq (number_in g) (number_in k) in
    let names = bytes_eq (name_in g) (name_in k) in
    let backs = is_eq (back_cmp g k) in
    let a = first_so ((ranks && numbers) && names) backs e in
    let o = same_back (back_in g) (back_in k) (second_so ((ranks && numbers) && names) backs e) in
    let b = first_so (ranks && numbers) names a in
    let x = (bytes_eq-Decides (name_in g) (name_in k)).0 (second_so (ranks && numbers) names a) in
    let r = (unsigned_Decides (rank g) (rank k)).0 (first_so ranks numbers b) in
    let z = (signed_Decides (number_in g) (number_in k)).0 (second_so ranks numbers b) in
    sym (head_back g) ∙ (λ i. head_from (r i) (z i) (x i) (o i)) ∙ head_back k

same_as_itself : (g : Head) → same_head g g ≡ true
same_as_itself g =
    let r = (unsigned_Decides (rank g) (rank g)).1 refl in
    let z = (signed_Decides (number_in g) (number_in g)).1 refl in
    let x = (bytes_eq-Decides (name_in g) (name_in g)).1 refl in
    let o = ap is_eq (tied_itself back_total g) in
    λ i. ((r i && z i) && x i) && o i

pub heads_are_exact : HeadsAreExact
heads_are_exact g k = (same_one g k, λ e. ap (same_head g) (sym e) ∙ same_as_itself g)

-- ---- exact

mutual
  unfolding tree_cmp

  pub tree_exact : (t u : Tree) → tree_cmp t u ≡ Equal → t ≡ u
  tree_exact (node g ts) (node k us) e =
      let a = both_equal (front_cmp g k) _ e in
      let b = both_equal (kids_cmp _ _ ts us) _ a.1 in
      let p = heads_exact g k a.0 b.1 in
      let q = kids_exact _ _ ts us b.0 in
      λ i. node (p i) (q i)

  kids_exact : (ns ms : List ℕ) (ts us : Trees) → kids_cmp ns ms ts us ≡ Equal → ts ≡ us
  kids_exact ns ms stop stop e = refl
  kids_exact ns ms stop (more u us) e = absurd cc
  kids_exact ns ms (more t ts) stop e = absurd cc
  kids_exact ns ms (more t ts) (more u us) e =
      let a = both_equal (nat_cmp (first_of ns) (first_of ms)) _ e in
      let b = both_equal (tree_cmp t u) _ a.1 in
      let p = tree_exact t u b.0 in
      let q = kids_exact (rest_of ns) (rest_of ms) ts us b.1 in
      λ i. more (p i) (q i)

-- ---- the other way round

reversed : (a b : Ordering) → ordering_reverse (ordering_then a b) ≡ ordering_then (ordering_reverse a) (ordering_reverse b)
reversed Less b = refl
reversed Equal b = refl
reversed Greater b = refl

-- one order and then another, each turned
turned : (a b c d : Ordering) → a ≡ ordering_reverse c → b ≡ ordering_reverse d → ordering_then a b ≡ ordering_reverse (ordering_then c d)
turned a b c d e f = (λ i. ordering_then (e i) (f i)) ∙ sym (reversed c d)

mutual
  unfolding tree_cmp

  tree_reversed : (t u : Tree) → tree_cmp t u ≡ ordering_reverse (tree_cmp u t)
  tree_reversed (node g ts) (node k us) = turned _ _ _ _ (front_total.antisymm g k) (turned _ _ _ _ (kids_reversed _ _ ts us) (back_total.antisymm g k))

  kids_reversed : (ns ms : List ℕ) (ts us : Trees) → kids_cmp ns ms ts us ≡ ordering_reverse (kids_cmp ms ns us ts)
  kids_reversed ns ms stop stop = refl
  kids_reversed ns ms stop (more u us) = refl
  kids_reversed ns ms (more t ts) stop = refl
  kids_reversed ns ms (more t ts) (more u us) = turned _ _ _ _ (nat_cmp_total.antisymm (first_of ns) (first_of ms)) (turned _ _ _ _ (tree_reversed t u) (kids_reversed (rest_of ns) (rest_of ms) ts us))

-- ---- chains: where neither is `Greater`, the first that isn't `Equal` decides

abbrev Chain : (a b c : Ordering) → Type 0
Chain a b c = (a ≡ Greater → ⊥) → (b ≡ Greater → ⊥) → c ≡ ordering_then a b

then_chain : (p r v q s w : Ordering) → Chain p r v → Chain q s w → Chain (ordering_then p q) (ordering_then r s) (ordering_then v w)
then_chain Less Less v q s w k l m n = ap (λ o. ordering_then o w) (k (λ e. absurd cc) (λ e. absurd cc))
then_chain Less Equal v q s w k l m n = ap (λ o. ordering_then o w) (k (λ e. absurd cc) (λ e. absurd cc))
then_chain Less Greater v q s w k l m n = absurd (n refl)
then_chain Equal Less v Less s w k l m n = ap (λ o. ordering_then o w) (k (λ e. absurd cc) (λ e. absurd cc))
then_chain Equal Less v Equal s w k l m n = ap (λ o. ordering_then o w) (k (λ e. absurd cc) (λ e. absurd cc))
then_chain Equal Less v Greater s w k l m n = absurd (m refl)
then_chain Equal Equal v q s w k l m n = ap (λ o. ordering_then o w) (k (λ e. absurd cc) (λ e. absurd cc)) ∙ l m n
then_chain Equal Greater v q s w k l m n = absurd (n refl)
then_chain Greater r v q s w k l m n = absurd (m refl)

total_chain : {K : Type 0} (R : K → K → Ordering) → IsTotalOrder R → (x y z : K) → Chain (R x y) (R y z) (R x z)
total_chain R o x y z m n = go (R x y) (R y z) refl refl m n
  where
    go : (a b : Ordering) → R x y ≡ a → R y z ≡ b → (a ≡ Greater → ⊥) → (b ≡ Greater → ⊥) → R x z ≡ ordering_then a b
    go Less Less e f m n = o.trans x y z e f
    go Less Equal e f m n = o.antisymm x z ∙ ap ordering_reverse (o.congr z y x (o.antisymm z y ∙ ap ordering_reverse f)) ∙ sym (o.antisymm x y) ∙ e
    go Less Greater e f m n = absurd (n refl)
    go Equal b e f m n = o.congr x y z e ∙ f
    go Greater b e f m n = absurd (m refl)

mutual
  unfolding tree_cmp

  tree_steps : (t u v : Tree) → Chain (tree_cmp t u) (tree_cmp u v) (tree_cmp t v)
  tree_steps (node g ts) (node k us) (node l vs) =
      then_chain _ _ _ _ _ _ (total_chain front_cmp front_total g k l) (then_chain _ _ _ _ _ _ (kids_steps _ _ _ ts us vs) (total_chain back_cmp back_total g k l))

  kids_steps : (ns ms os : List ℕ) (ts us vs : Trees) → Chain (kids_cmp ns ms ts us) (kids_cmp ms os us vs) (kids_cmp ns os ts vs)
  kids_steps ns ms os stop stop stop m n = refl
  kids_steps ns ms os stop stop (more v vs) m n = refl
  kids_steps ns ms os stop (more u us) stop m n = absurd (n refl)
  kids_steps ns ms os stop (more u us) (more v vs) m n = refl
  kids_steps ns ms os (more t ts) stop vs m n = absurd (m refl)
  kids_steps ns ms os (more t ts) (more u us) stop m n = absurd (n refl)
  kids_steps ns ms os (more t ts) (more u us) (more v vs) m n =
      then_chain _ _ _ _ _ _ (total_chain nat_cmp nat_cmp_total (first_of ns) (first_of ms) (first_of os))
      (then_chain _ _ _ _ _ _ (tree_steps t u v) (kids_steps (rest_of ns) (rest_of ms) (rest_of os) ts us vs)) m n

-- ---- the laws

pub tree_total : IsTotalOrder tree_cmp
tree_total = record {
  antisymm = tree_reversed;
  trans = λ t u v e f. tree_steps t u v (λ g. absurd cc) (λ g. absurd cc) ∙ (λ i. ordering_then (e i) (f i));
  congr = λ t u v e. ap (λ s. tree_cmp s v) (tree_exact t u e);
}

pub order_is_total : OrderIsTotal
order_is_total = record { total = tree_total; exact = tree_exact }

pub tree_itself : (t : Tree) → tree_cmp t t ≡ Equal
tree_itself t = tied_itself tree_total t

pub tree_turned : (t u : Tree) → tree_cmp t u ≡ Greater → tree_cmp u t ≡ Less
tree_turned t u e = tree_reversed u t ∙ ap ordering_reverse e

pub tree_chain : (t u v : Tree) → tree_cmp t u ≡ Less → tree_cmp u v ≡ Less → tree_cmp t v ≡ Less
tree_chain t u v e f = tree_total.trans t u v e f

pub same_itself : (t : Tree) → same t t ≡ true
same_itself t = ap is_eq (tree_itself t)

pub same_exact : (t u : Tree) → same t u ≡ true → t ≡ u
same_exact t u k = go (tree_cmp t u) refl k
  where
    go : (o : Ordering) → tree_cmp t u ≡ o → is_eq o ≡ true → t ≡ u
    go Less e k = absurd cc
    go Equal e k = tree_exact t u e
    go Greater e k = absurd cc
