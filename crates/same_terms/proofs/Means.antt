-- Where the literals of a branch are true, same terms mean the same.
use Rattle.std.proofs.Common.{◌≡◌, Bool, true, false, cond, List, [], ◌∷◌, ◌++◌, ◌&&◌, map, refl, sym, ◌∙◌, ap, arith}
use Rattle.std.specs.Prelude.{ℤ, pos, negsuc, ◌+ℤ◌, ◌*ℤ◌, neg_ℤ, Option, Some, None}
use Rattle.std.proofs.lemmas.Int.{ints}
use Rattle.qed_terms.specs.declared.head.Head.{Head}
use Rattle.qed_terms.specs.declared.head.Head.TheVariants as h
use Rattle.qed_terms.specs.declared.head.TermOp.{TermOp}
use Rattle.qed_terms.specs.declared.head.TermOp.TheVariants as op
use Rattle.qed_terms.specs.declared.head.Sort.TheVariants as sort
use Rattle.qed_terms.specs.Meaning.{World, Values, Value, Whole, whole, value, meaning, meanings, head_value, head_meaning, at_two}
use Rattle.qed_terms.specs.Nodes.{kids_of}
use Rattle.qed_terms.specs.Operators.{total, product, is_zero, is_equal}
use Rattle.qed_terms.specs.Tree.{Tree, node, Trees, stop, more, list_of, head_of, two, num, equal}
use Rattle.qed_linear.specs.Linear.{Part, Lin, part, part_tree, constant_trees, sum_tree, of_lin, checked, parts_fit, fits, is_integer}
use Rattle.qed_linear.proofs.Facts.{and_left, and_right, equal_is}
use Rattle.std.proofs.Math.IntN.{zero-*ℤ}
use Rattle.qed_linear.proofs.Ring.{sum_times, times_one, one_times}
use Rattle.qed_linear.proofs.Values as values
use Rattle.same_places.specs.Pairing.{Takes, here, there}
use Rattle.same_terms.specs.Written.{is_sum, is_sum_op, is_product, is_product_op, number_in, number_in_head, multiple, written_part, last_part, last_number, parts_in, constant_in, written, turned, rest_form}
use Rattle.same_terms.specs.SameTerms.{AreTrue, is_binder, unit_times, IsRest, SameTerm, itself, turned as same_turned, through, given, alike, paired, SameKids, no_kids, one_kid, SameAtoms, no_atoms, one_atom}

-- ---- heads that bind no name

head_plain : (w : World) (env : Values) (head : Head) (kids : Values → List Value) → is_binder head ≡ false → head_meaning w head kids env ≡ head_value w env head (kids env)
head_plain w env (h.Forall x) kids e = absurd cc
head_plain w env (h.Exists x) kids e = absurd cc
head_plain w env (h.Num z) kids e = refl
head_plain w env (h.Var x s) kids e = refl
head_plain w env (h.Term o) kids e = refl
head_plain w env h.Ite kids e = refl
head_plain w env (h.App f) kids e = refl
head_plain w env (h.Form o) kids e = refl
head_plain w env h.True kids e = refl
head_plain w env h.False kids e = refl
head_plain w env h.Not kids e = refl
head_plain w env h.And kids e = refl
head_plain w env h.Or kids e = refl
head_plain w env h.Imp kids e = refl
head_plain w env h.Iff kids e = refl

module _ (w : World) (env : Values) where
  abbrev M : Tree → Value
  M = meaning w env

  abbrev V : Tree → ℤ
  V = value w env

  listed : (ts : Trees) → meanings w env ts ≡ map M (list_of ts)
  listed stop = refl
  listed (more t ts) = ap (λ vs. M t ∷ vs) (listed ts)

  pub plain : (t : Tree) → is_binder (head_of t) ≡ false → M t ≡ head_value w env (head_of t) (map M (kids_of t))
  plain (node head ts) e = head_plain w env head (λ env'. meanings w env' ts) e ∙ ap (head_value w env head) (listed ts)

  -- ---- integers

  op_integer : (o : TermOp) (ts : Trees) → is_integer (h.Term o) ≡ true → M (node (h.Term o) ts) ≡ Whole (V (node (h.Term o) ts))
  op_integer op.Store ts e = absurd cc
  op_integer (op.Alloc layout) ts e = absurd cc
  op_integer op.Grow ts e = absurd cc
  op_integer op.Add ts e = refl
  op_integer op.Sub ts e = refl
  op_integer op.Mul ts e = refl
  op_integer op.Neg ts e = refl
  op_integer op.Div ts e = refl
  op_integer op.Mod ts e = refl
  op_integer (op.Wrap k) ts e = refl
  op_integer op.ShiftLeft ts e = refl
  op_integer op.ShiftRight ts e = refl
  op_integer op.BitAnd ts e = refl
  op_integer op.BitOr ts e = refl
  op_integer op.BitXor ts e = refl
  op_integer op.BitNot ts e = refl
  op_integer op.Load ts e = refl
  op_integer op.Count ts e = refl
  op_integer op.Len ts e = refl

  pub integer : (t : Tree) → is_integer (head_of t) ≡ true → M t ≡ Whole (V t)
  integer (node (h.Num z) ts) e = refl
  integer (node (h.Var x sort.Int) ts) e = refl
  integer (node (h.Var x sort.Memory) ts) e = absurd cc
  integer (node (h.Var x sort.Table) ts) e = absurd cc
  integer (node (h.Term o) ts) e = op_integer o ts e
  integer (node h.Ite ts) e = refl
  integer (node (h.App f) ts) e = refl
  integer (node (h.Form o) ts) e = absurd cc
  integer (node h.True ts) e = absurd cc
  integer (node h.False ts) e = absurd cc
  integer (node h.Not ts) e = absurd cc
  integer (node h.And ts) e = absurd cc
  integer (node h.Or ts) e = absurd cc
  integer (node h.Imp ts) e = absurd cc
  integer (node h.Iff ts) e = absurd cc
  integer (node (h.Forall x) ts) e = absurd cc
  integer (node (h.Exists x) ts) e = absurd cc

  abbrev AllIntegers : List Tree → Type 0
  AllIntegers [] = Unit {0}
  AllIntegers (t ∷ ts) = (is_integer (head_of t) ≡ true) × AllIntegers ts

  sum_integer : (ts : List Tree) → AllIntegers ts → M (sum_tree ts) ≡ Whole (V (sum_tree ts))
  sum_integer [] all = refl
  sum_integer (t ∷ []) all = integer t all.0
  sum_integer (t ∷ u ∷ ts) all = refl

  part_integer : (p : Part) → is_integer (head_of (p.atom)) ≡ true → is_integer (head_of (part_tree p)) ≡ true
  part_integer p e = go (is_equal (p.times) (pos 1))
    where
      go : (b : Bool) → is_integer (head_of (cond b (p.atom) (node (h.Term op.Mul) (two (num (p.times)) (p.atom))))) ≡ true
      go true = e
      go false = refl

  parts_integer : (ps : List Part) (c : ℤ) → parts_fit ps ≡ true → AllIntegers (map part_tree ps ++ constant_trees c)
  parts_integer [] c e = go (is_zero c)
    where
      go : (b : Bool) → AllIntegers (cond b [] (num c ∷ []))
      go true = tt
      go false = (refl, tt)
  parts_integer (p ∷ ps) c e =
      let x = and_left (fits (p.times) && is_integer (head_of (p.atom))) (parts_fit ps) e in
      (part_integer p (and_right (fits (p.times)) (is_integer (head_of (p.atom))) x), parts_integer ps c (and_right (fits (p.times) && is_integer (head_of (p.atom))) (parts_fit ps) e))

  pub form_integer : (f g : Lin) → checked f ≡ Some g → M (of_lin g) ≡ Whole (values.value_of w env f)
  form_integer f g e = go (parts_fit (f.parts) && fits (f.constant)) refl
    where
      whole_form : parts_fit (f.parts) ≡ true → M (of_lin f) ≡ Whole (values.value_of w env f)
      whole_form k = sum_integer (map part_tree (f.parts) ++ constant_trees (f.constant)) (parts_integer (f.parts) (f.constant) k) ∙ ap Whole (values.of_lin_value w env f)

      go : (b : Bool) → (parts_fit (f.parts) && fits (f.constant)) ≡ b → M (of_lin g) ≡ Whole (values.value_of w env f)
      go true k =
          let d : Some f ≡ Some g = sym (rw k refl) ∙ e in
          let one : f ≡ g = cc in
          ap (λ x. M (of_lin x)) (sym one) ∙ whole_form (and_left (parts_fit (f.parts)) (fits (f.constant)) k)
      go false k = let d : None ≡ Some g = sym (rw k refl) ∙ e in absurd cc

  -- ---- the value of a form as it is written

  abbrev P : List Part → ℤ
  P = values.parts_value w env

  number_is : (head : Head) (ts : Trees) (z : ℤ) → number_in_head head ≡ Some z → V (node head ts) ≡ z
  number_is (h.Num y) ts z e = cc
  number_is (h.Var x s) ts z e = absurd cc
  number_is (h.Term o) ts z e = absurd cc
  number_is h.Ite ts z e = absurd cc
  number_is (h.App f) ts z e = absurd cc
  number_is (h.Form o) ts z e = absurd cc
  number_is h.True ts z e = absurd cc
  number_is h.False ts z e = absurd cc
  number_is h.Not ts z e = absurd cc
  number_is h.And ts z e = absurd cc
  number_is h.Or ts z e = absurd cc
  number_is h.Imp ts z e = absurd cc
  number_is h.Iff ts z e = absurd cc
  number_is (h.Forall x) ts z e = absurd cc
  number_is (h.Exists x) ts z e = absurd cc

  pub number_value : (t : Tree) (z : ℤ) → number_in t ≡ Some z → V t ≡ z
  number_value (node head ts) z e = number_is head ts z e

  multiple_value : (o : Option ℤ) (n a t : Tree) → number_in n ≡ o → V t ≡ V n *ℤ V a → (multiple o a t).times *ℤ V ((multiple o a t).atom) ≡ V t
  multiple_value (Some z) n a t e k = ap (λ x. x *ℤ V a) (sym (number_value n z e)) ∙ sym k
  multiple_value None n a t e k = one_times (V t)

  product_value : (t : Tree) (ks : List Tree) → V t ≡ product (map V ks) → (at_two (part t (pos 1)) (λ n a. multiple (number_in n) a t) ks).times *ℤ V ((at_two (part t (pos 1)) (λ n a. multiple (number_in n) a t) ks).atom) ≡ V t
  product_value t [] e = one_times (V t)
  product_value t (a ∷ []) e = one_times (V t)
  product_value t (a ∷ b ∷ []) e = multiple_value (number_in a) a b t refl (e ∙ ap (λ x. V a *ℤ x) (times_one (V b)))
  product_value t (a ∷ b ∷ c ∷ ks) e = one_times (V t)

  mapped : (ts : List Tree) → map whole (map M ts) ≡ map V ts
  mapped [] = refl
  mapped (t ∷ ts) = ap (λ zs. V t ∷ zs) (mapped ts)

  product_is_op : (o : TermOp) → is_product_op o ≡ true → h.Term o ≡ h.Term op.Mul
  product_is_op op.Add e = absurd cc
  product_is_op op.Sub e = absurd cc
  product_is_op op.Mul e = refl
  product_is_op op.Neg e = absurd cc
  product_is_op op.Div e = absurd cc
  product_is_op op.Mod e = absurd cc
  product_is_op (op.Wrap k) e = absurd cc
  product_is_op op.ShiftLeft e = absurd cc
  product_is_op op.ShiftRight e = absurd cc
  product_is_op op.BitAnd e = absurd cc
  product_is_op op.BitOr e = absurd cc
  product_is_op op.BitXor e = absurd cc
  product_is_op op.BitNot e = absurd cc
  product_is_op op.Load e = absurd cc
  product_is_op op.Count e = absurd cc
  product_is_op op.Len e = absurd cc
  product_is_op op.Store e = absurd cc
  product_is_op (op.Alloc k) e = absurd cc
  product_is_op op.Grow e = absurd cc

  product_is : (head : Head) → is_product head ≡ true → head ≡ h.Term op.Mul
  product_is (h.Num z) e = absurd cc
  product_is (h.Var x s) e = absurd cc
  product_is h.Ite e = absurd cc
  product_is (h.App f) e = absurd cc
  product_is (h.Form o) e = absurd cc
  product_is h.True e = absurd cc
  product_is h.False e = absurd cc
  product_is h.Not e = absurd cc
  product_is h.And e = absurd cc
  product_is h.Or e = absurd cc
  product_is h.Imp e = absurd cc
  product_is h.Iff e = absurd cc
  product_is (h.Forall x) e = absurd cc
  product_is (h.Exists x) e = absurd cc
  product_is (h.Term o) e = product_is_op o e

  sum_is_op : (o : TermOp) → is_sum_op o ≡ true → h.Term o ≡ h.Term op.Add
  sum_is_op op.Add e = refl
  sum_is_op op.Sub e = absurd cc
  sum_is_op op.Mul e = absurd cc
  sum_is_op op.Neg e = absurd cc
  sum_is_op op.Div e = absurd cc
  sum_is_op op.Mod e = absurd cc
  sum_is_op (op.Wrap k) e = absurd cc
  sum_is_op op.ShiftLeft e = absurd cc
  sum_is_op op.ShiftRight e = absurd cc
  sum_is_op op.BitAnd e = absurd cc
  sum_is_op op.BitOr e = absurd cc
  sum_is_op op.BitXor e = absurd cc
  sum_is_op op.BitNot e = absurd cc
  sum_is_op op.Load e = absurd cc
  sum_is_op op.Count e = absurd cc
  sum_is_op op.Len e = absurd cc
  sum_is_op op.Store e = absurd cc
  sum_is_op (op.Alloc k) e = absurd cc
  sum_is_op op.Grow e = absurd cc

  sum_is : (head : Head) → is_sum head ≡ true → head ≡ h.Term op.Add
  sum_is (h.Num z) e = absurd cc
  sum_is (h.Var x s) e = absurd cc
  sum_is h.Ite e = absurd cc
  sum_is (h.App f) e = absurd cc
  sum_is (h.Form o) e = absurd cc
  sum_is h.True e = absurd cc
  sum_is h.False e = absurd cc
  sum_is h.Not e = absurd cc
  sum_is h.And e = absurd cc
  sum_is h.Or e = absurd cc
  sum_is h.Imp e = absurd cc
  sum_is h.Iff e = absurd cc
  sum_is (h.Forall x) e = absurd cc
  sum_is (h.Exists x) e = absurd cc
  sum_is (h.Term o) e = sum_is_op o e

  of_product : (t : Tree) → head_of t ≡ h.Term op.Mul → V t ≡ product (map V (kids_of t))
  of_product t e =
      let m = plain t (ap is_binder e) ∙ ap (λ x. head_value w env x (map M (kids_of t))) e in
      ap whole m ∙ ap product (mapped (kids_of t))

  of_sum : (t : Tree) → head_of t ≡ h.Term op.Add → V t ≡ total (map V (kids_of t))
  of_sum t e =
      let m = plain t (ap is_binder e) ∙ ap (λ x. head_value w env x (map M (kids_of t))) e in
      ap whole m ∙ ap total (mapped (kids_of t))

  part_is_value : (t : Tree) → (written_part t).times *ℤ V ((written_part t).atom) ≡ V t
  part_is_value t = go (is_product (head_of t)) refl
    where
      go : (b : Bool) → is_product (head_of t) ≡ b → (written_part t).times *ℤ V ((written_part t).atom) ≡ V t
      go true e = rw e (product_value t (kids_of t) (of_product t (product_is (head_of t) e)))
      go false e = rw e (one_times (V t))

  last_total : (o : Option ℤ) (t : Tree) → number_in t ≡ o → V t +ℤ pos 0 ≡ P (last_part o t) +ℤ last_number o
  last_total (Some z) t e = let n = number_value t z e in omega (arith, ints)
  last_total None t e = let p = part_is_value t in omega (arith, ints)

  pub parts_total : (ts : List Tree) → total (map V ts) ≡ P (parts_in ts) +ℤ constant_in ts
  parts_total [] = refl
  parts_total (t ∷ []) = last_total (number_in t) t refl
  parts_total (t ∷ u ∷ ts) = let p = part_is_value t in let r = parts_total (u ∷ ts) in omega (arith, ints, p, r)

  pub written_value : (t : Tree) → V t ≡ values.value_of w env (written t)
  written_value t = go (is_sum (head_of t)) refl
    where
      go : (b : Bool) → is_sum (head_of t) ≡ b → V t ≡ values.value_of w env (written t)
      go true e = rw e (of_sum t (sum_is (head_of t) e) ∙ parts_total (kids_of t))
      go false e = rw e (let r = parts_total (t ∷ []) in omega (arith, ints, r))

  -- ---- lists of parts

  pub taken_value : {p : Part} {qs rest : List Part} → Takes p qs rest → P qs ≡ p.times *ℤ V (p.atom) +ℤ P rest
  taken_value here = refl
  taken_value (there t) = let r = taken_value t in omega (arith, ints, r)

  pub middle_value : (before : List Part) (p : Part) (behind : List Part) → P (before ++ p ∷ behind) ≡ p.times *ℤ V (p.atom) +ℤ P (before ++ behind)
  middle_value [] p behind = refl
  middle_value (q ∷ before) p behind = let r = middle_value before p behind in omega (arith, ints, r)

  negated_times : (z v : ℤ) → neg_ℤ z *ℤ v ≡ neg_ℤ (z *ℤ v)
  negated_times z v =
      let e = sum_times z (neg_ℤ z) v in
      let n : z +ℤ neg_ℤ z ≡ pos 0 = omega (arith, ints) in
      let m = ap (λ x. x *ℤ v) n ∙ zero-*ℤ v in
      omega (arith, ints, e, m)

  minus_one : (v : ℤ) → negsuc 0 *ℤ v ≡ neg_ℤ v
  minus_one v = negated_times (pos 1) v ∙ ap neg_ℤ (one_times v)

  pub turned_value : (ps : List Part) → P (map turned ps) ≡ neg_ℤ (P ps)
  turned_value [] = refl
  turned_value (p ∷ ps) = let r = turned_value ps in let n = negated_times (p.times) (V (p.atom)) in omega (arith, ints, r, n)

  -- an atom has the value of the rest where the form is 0
  rest_of_zero : (plus : Bool) (a : Tree) (before behind : List Part) (c : ℤ) → P (before ++ part a (unit_times plus) ∷ behind) +ℤ c ≡ pos 0 → V a ≡ values.value_of w env (rest_form plus (before ++ behind) c)
  rest_of_zero true a before behind c e =
      let m = middle_value before (part a (pos 1)) behind in
      let o = one_times (V a) in
      let t = turned_value (before ++ behind) in
      omega (arith, ints, m, o, t)
  rest_of_zero false a before behind c e =
      let m = middle_value before (part a (negsuc 0)) behind in
      let o = minus_one (V a) in
      omega (arith, ints, m, o)

  module _ (ls : List Tree) (are : AreTrue w env ls) where
    rest_means : (a r : Tree) → IsRest ls a r → M a ≡ M r
    rest_means a r e =
        let zero : V (e.sum) ≡ pos 0 = equal_is (V (e.sum)) (pos 0) (are (equal (e.sum) (num (pos 0))) (e.literal)) in
        let c = (written (e.sum)).constant in
        let f : P ((e.before) ++ part a (unit_times (e.plus)) ∷ (e.behind)) +ℤ c ≡ pos 0 = ap (λ ps. P ps +ℤ c) (sym (e.there)) ∙ sym (written_value (e.sum)) ∙ zero in
        let v = rest_of_zero (e.plus) a (e.before) (e.behind) c f in
        integer a (e.integer) ∙ ap Whole v ∙ sym (form_integer (rest_form (e.plus) ((e.before) ++ (e.behind)) c) (e.form) (e.fits)) ∙ ap M (sym (e.is))

    kids_mean : (t u : Tree) → is_binder (head_of t) ≡ false → head_of t ≡ head_of u → map M (kids_of t) ≡ map M (kids_of u) → M t ≡ M u
    kids_mean t u n e k = plain t n ∙ (λ i. head_value w env (e i) (k i)) ∙ sym (plain u (ap is_binder (sym e) ∙ n))

    sums_mean : (t u : Tree) → is_sum (head_of t) ≡ true → is_sum (head_of u) ≡ true → (written t).constant ≡ (written u).constant → P ((written t).parts) ≡ P ((written u).parts) → M t ≡ M u
    sums_mean t u x y c p =
        let v : V t ≡ V u = written_value t ∙ (λ i. p i +ℤ c i) ∙ sym (written_value u) in
        integer t (ap is_integer (sum_is (head_of t) x)) ∙ ap Whole v ∙ sym (integer u (ap is_integer (sum_is (head_of u) y)))

    mutual
      pub same_means : {t u : Tree} → SameTerm ls t u → M t ≡ M u
      same_means (itself b) = refl
      same_means (same_turned s) = sym (same_means s)
      same_means (through s r) = same_means s ∙ same_means r
      same_means (given {t} {u} e) = rest_means t u e
      same_means (alike {t} {u} b c n e ks) = kids_mean t u n e (all_mean ks)
      same_means (paired {t} {u} b c x y e as') = sums_mean t u x y e (atoms_mean as')

      all_mean : {ts us : List Tree} → SameKids ls ts us → map M ts ≡ map M us
      all_mean no_kids = refl
      all_mean (one_kid s r) = λ i. same_means s i ∷ all_mean r i

      atoms_mean : {ps qs : List Part} → SameAtoms ls ps qs → P ps ≡ P qs
      atoms_mean no_atoms = refl
      atoms_mean (one_atom {t} {u} {z} {ps} {qs} {rest} s take r) =
          let m = ap (λ v. z *ℤ whole v) (same_means s) in
          let p = taken_value take in
          let q = atoms_mean r in
          omega (arith, ints, m, p, q)
