-- What an equality gives: where it is true, the variable has the value of the term.
use Rattle.std.proofs.Common.{◌≡◌, ◌⊎◌, ℕ, zero, suc, ◌+◌, Bool, true, false, not, ◌&&◌, cond, List, [], ◌∷◌, ◌++◌, take, drop, length, refl, sym, ◌∙◌, ap, subst, inl, inr, arith}
use Rattle.std.specs.declared.cmp.Ordering.{Ordering}
use Rattle.std.specs.declared.cmp.Ordering.TheVariants.{Less, Equal, Greater}
use Rattle.std.specs.Option.{option_and_then}
use Rattle.std.specs.Prelude.{ℤ, pos, negsuc, slice_get, option_map, Option, Some, None}
use Rattle.qed_terms.specs.declared.head.Sort.{Sort}
use Rattle.qed_terms.specs.declared.head.Sort.TheVariants as sort
use Rattle.qed_terms.specs.declared.head.Head.{Head}
use Rattle.qed_terms.specs.declared.head.Head.TheVariants as h
use Rattle.qed_terms.specs.declared.head.FormOp.TheVariants as form
use Rattle.qed_terms.specs.Free.{is_free}
use Rattle.qed_terms.specs.Meaning.{World, Values, Whole, Cells, memory, meaning, truth, value_of}
use Rattle.qed_terms.specs.Operators.{is_zero, is_equal}
use Rattle.qed_terms.specs.Memory.{same_memory}
use Rattle.qed_terms.specs.Order.{tree_cmp}
use Rattle.qed_terms.specs.Tree.{Tree, node, Trees, stop, more, head_of, num, equal}
use Rattle.qed_terms.specs.WellFormed.{same_sort, fits, term, argument}
use Rattle.qed_linear.specs.Linear.{Part, Lin, part, of_lin, checked, is_integer, at_order}
use Rattle.qed_linear.specs.Linear as linear
use Rattle.qed_linear.proofs.Facts.{equal_is, zero_is}
use Rattle.qed_memories.specs.Alike.{SameMap}
use Rattle.same_terms.specs.SameTerms.{AreTrue, unit_times, IsRest, SameTerm}
use Rattle.same_terms.specs.SameTerms as same
use Rattle.same_terms.specs.Laws.{SameMeans}
use Rattle.same_terms.specs.Written.{written, rest_form}
use Rattle.branch_changes.specs.Givens.{Given, given, variable, is_apart, given_where, with_given, unit_sign, rest_by, given_by, given_at, givens_below, form_givens, is_nothing, memory_given, side_givens, same_givens, givens}
use Rattle.branch_changes.proofs.Truths.{and_left, and_right}
use Rattle.branch_changes.proofs.SameMaps.{same_map}
use Rattle.branch_changes.proofs.Sorts.{MeansInteger, MeansMemory, means_integer, means_memory}

-- ---- what a call that may give a variable gave

pub record IsGiven (s : Sort) (name : Option (List ℕ)) (by : Option Tree) (g : Given) : Type 0 where
  pub variable : name ≡ Some (g.name)
  pub term : by ≡ Some (g.term)
  pub sort : g.sort ≡ s
  pub apart : is_apart s (g.name) (g.term) ≡ true

pub is_given : (s : Sort) (name : Option (List ℕ)) (by : Option Tree) (g : Given) → given_where s name by ≡ Some g → IsGiven s name by g
is_given s None by g e = absurd cc
is_given s (Some x) None g e = absurd cc
is_given s (Some x) (Some u) g e = go (is_apart s x u) refl e
  where
    found : is_apart s x u ≡ true → given x s u ≡ g → IsGiven s (Some x) (Some u) g
    found k f = record {
      variable = ap (λ z. Some (z.name)) f;
      term = ap (λ z. Some (z.term)) f;
      sort = ap (λ z. z.sort) (sym f);
      apart = ap (λ z. is_apart s (z.name) (z.term)) (sym f) ∙ k;
    }

    go : (b : Bool) → is_apart s x u ≡ b → cond b (Some (given x s u)) None ≡ Some g → IsGiven s (Some x) (Some u) g
    go true k f = found k (some_is f)
      where
        some_is : {a b : Given} → Some a ≡ Some b → a ≡ b
        some_is f = cc
    go false k f = absurd cc

of_sort : (s r : Sort) → same_sort s r ≡ true → s ≡ r
of_sort sort.Int sort.Int e = refl
of_sort sort.Memory sort.Memory e = refl
of_sort sort.Table sort.Table e = refl
of_sort s r e = absurd cc

pub variable_is : (s : Sort) (head : Head) (x : List ℕ) → variable s head ≡ Some x → head ≡ h.Var x s
variable_is s (h.Var y r) x e = go (same_sort s r) refl e
  where
    go : (b : Bool) → same_sort s r ≡ b → cond b (Some y) None ≡ Some x → h.Var y r ≡ h.Var x s
    go true k f = let n : y ≡ x = cc in let o = of_sort s r k in λ i. h.Var (n i) (sym o i)
    go false k f = absurd cc
variable_is s (h.Num z) x e = absurd cc
variable_is s (h.Term o) x e = absurd cc
variable_is s h.Ite x e = absurd cc
variable_is s (h.App f) x e = absurd cc
variable_is s (h.Form o) x e = absurd cc
variable_is s h.True x e = absurd cc
variable_is s h.False x e = absurd cc
variable_is s h.Not x e = absurd cc
variable_is s h.And x e = absurd cc
variable_is s h.Or x e = absurd cc
variable_is s h.Imp x e = absurd cc
variable_is s h.Iff x e = absurd cc
variable_is s (h.Forall y) x e = absurd cc
variable_is s (h.Exists y) x e = absurd cc

variable_means : (w : World) (env : Values) (s : Sort) (t : Tree) (x : List ℕ) → variable s (head_of t) ≡ Some x → meaning w env t ≡ value_of env x s
variable_means w env s (node head ts) x e = ap (λ k. meaning w env (node k ts)) (variable_is s head x e)

-- ---- the rest of a part

record IsRestBy (sign : Option Bool) (others : List Part) (c : ℤ) (u : Tree) : Type 0 where
  plus : Bool
  signed : sign ≡ Some plus
  form : Lin
  fits : checked (rest_form plus others c) ≡ Some form
  is : u ≡ of_lin form

rest_is : (sign : Option Bool) (others : List Part) (c : ℤ) (u : Tree) → rest_by sign others c ≡ Some u → IsRestBy sign others c u
rest_is None others c u e = absurd cc
rest_is (Some plus) others c u e = go (checked (rest_form plus others c)) refl e
  where
    go : (o : Option Lin) → checked (rest_form plus others c) ≡ o → option_map of_lin o ≡ Some u → IsRestBy (Some plus) others c u
    go None k f = absurd cc
    go (Some l) k f = record { plus = plus; signed = refl; form = l; fits = k; is = some_is f }
      where
        some_is : {a b : Tree} → Some a ≡ Some b → b ≡ a
        some_is f = cc

unit_is : (z : ℤ) (plus : Bool) → unit_sign z ≡ Some plus → z ≡ unit_times plus
unit_is z plus e = go (is_equal z (pos 1)) refl e
  where
    turned : (b : Bool) → is_equal z (negsuc 0) ≡ b → cond b (Some false) None ≡ Some plus → z ≡ unit_times plus
    turned true k f = let p : false ≡ plus = cc in equal_is z (negsuc 0) k ∙ ap unit_times p
    turned false k f = absurd cc

    go : (b : Bool) → is_equal z (pos 1) ≡ b → cond b (Some true) (cond (is_equal z (negsuc 0)) (Some false) None) ≡ Some plus → z ≡ unit_times plus
    go true k f = let p : true ≡ plus = cc in equal_is z (pos 1) k ∙ ap unit_times p
    go false k f = turned (is_equal z (negsuc 0)) refl f

cut_at : (ps : List Part) (n : ℕ) (p : Part) → slice_get ps n ≡ Some p → ps ≡ take n ps ++ p ∷ drop (n + 1) ps
cut_at ps n p e = let s : suc n ≡ n + 1 = omega arith in subst (λ z. ps ≡ take n ps ++ p ∷ drop z ps) s (go ps n e)
  where
    go : (ps : List Part) (n : ℕ) → slice_get ps n ≡ Some p → ps ≡ take n ps ++ p ∷ drop (suc n) ps
    go [] n e = absurd cc
    go (q ∷ ps) zero e = let k : q ≡ p = cc in ap (λ z. z ∷ ps) k
    go (q ∷ ps) (suc n) e = ap (λ z. q ∷ z) (go ps n e)

variable_integer : (t : Tree) (x : List ℕ) → head_of t ≡ h.Var x sort.Int → is_integer (head_of t) ≡ true
variable_integer t x e = ap is_integer e

-- ---- a variable that has the value of its term

abbrev pub HasAt : World → Values → Sort → List ℕ → Tree → Type 0
HasAt w env sort.Int x u = meaning w env u ≡ Whole (env.ints x)
HasAt w env sort.Memory x u = SameMap (env.memories x) (memory (meaning w env u))
HasAt w env sort.Table x u = Unit {0}

abbrev pub SortMeans : World → Sort → Tree → Type 0
SortMeans w sort.Int u = MeansInteger w u
SortMeans w sort.Memory u = MeansMemory w u
SortMeans w sort.Table u = Unit {0}

-- the term means a value of its sort, and the variable has it
abbrev pub Has : World → Values → Given → Type 0
Has w env g = SortMeans w (g.sort) (g.term) × HasAt w env (g.sort) (g.name) (g.term)

abbrev pub AllHave : World → Values → List Given → Type 0
AllHave w env [] = Unit {0}
AllHave w env (g ∷ gs) = Has w env g × AllHave w env gs

has_by : (w : World) (env : Values) (s : Sort) (g : Given) → g.sort ≡ s → SortMeans w s (g.term) → HasAt w env s (g.name) (g.term) → Has w env g
has_by w env s g e a b = (subst (λ r. SortMeans w r (g.term)) (sym e) a, subst (λ r. HasAt w env r (g.name) (g.term)) (sym e) b)

fits_apart : (s : Sort) (x : List ℕ) (u : Tree) → is_apart s x u ≡ true → fits (term s) u ≡ true
fits_apart s x u e = and_left (fits (term s) u) (fits argument u) (and_right (not (is_free x s u)) (fits (term s) u && fits argument u) e)

have_one_more : (w : World) (env : Values) (o : Option Given) (gs : List Given) → ((g : Given) → o ≡ Some g → Has w env g) → AllHave w env gs → AllHave w env (with_given o gs)
have_one_more w env None gs one rest = rest
have_one_more w env (Some g) gs one rest = (one g refl, rest)

-- ---- an equality of integers

module _ (same_means : SameMeans) (w : World) (env : Values) where
  abbrev IsTrue : Tree → Type 0
  IsTrue l = truth w env l ≡ true

  alone_true : (l : Tree) → IsTrue l → AreTrue w env (l ∷ [])
  alone_true l e k (inl i) = ap (truth w env) i ∙ e
  alone_true l e k (inr i) = absurd i

  given_at_has : (t : Tree) (n : ℕ) (g : Given) → IsTrue (equal t (num (pos 0))) → given_at (written t) n ≡ Some g → Has w env g
  given_at_has t n g e k = go (slice_get ((written t).parts) n) refl k
    where
      from_part : (p : Part) → slice_get ((written t).parts) n ≡ Some p → given_by p (take n ((written t).parts) ++ drop (n + 1) ((written t).parts)) ((written t).constant) ≡ Some g → Has w env g
      from_part p at by =
          let ps = (written t).parts in
          let l = equal t (num (pos 0)) in
          let i = is_given sort.Int (variable sort.Int (head_of (p.atom))) (rest_by (unit_sign (p.times)) (take n ps ++ drop (n + 1) ps) ((written t).constant)) g by in
          let r = rest_is (unit_sign (p.times)) (take n ps ++ drop (n + 1) ps) ((written t).constant) (g.term) i.term in
          let unit = unit_is (p.times) r.plus r.signed in
          let head = variable_is sort.Int (head_of (p.atom)) (g.name) i.variable in
          let there : ps ≡ take n ps ++ part (p.atom) (unit_times r.plus) ∷ drop (n + 1) ps = cut_at ps n p at ∙ ap (λ z. take n ps ++ part (p.atom) z ∷ drop (n + 1) ps) unit in
          let rest : IsRest (l ∷ []) (p.atom) (g.term) = record {
            sum = t;
            literal = inl refl;
            plus = r.plus;
            before = take n ps;
            behind = drop (n + 1) ps;
            there = there;
            integer = variable_integer (p.atom) (g.name) head;
            form = r.form;
            fits = r.fits;
            is = r.is;
          } in
          let m = same_means w env (l ∷ []) (p.atom) (g.term) (alone_true l e) (same.given rest) in
          has_by w env sort.Int g i.sort (means_integer w (g.term) (fits_apart sort.Int (g.name) (g.term) i.apart)) (sym m ∙ variable_means w env sort.Int (p.atom) (g.name) i.variable)

      go : (o : Option Part) → slice_get ((written t).parts) n ≡ o
          → option_and_then (λ p. given_by p (take n ((written t).parts) ++ drop (n + 1) ((written t).parts)) ((written t).constant)) o ≡ Some g → Has w env g
      go None at f = absurd cc
      go (Some p) at f = from_part p at f

  givens_below_have : (t : Tree) (n : ℕ) → IsTrue (equal t (num (pos 0))) → AllHave w env (givens_below (written t) n)
  givens_below_have t zero e = tt
  givens_below_have t (suc n) e = have_one_more w env (given_at (written t) n) (givens_below (written t) n) (λ g k. given_at_has t n g e k) (givens_below_have t n e)

  -- ---- an equality of memories

  side_has : (m n : Tree) (g : Given) → SameMap (memory (meaning w env m)) (memory (meaning w env n)) → memory_given m n ≡ Some g → Has w env g
  side_has m n g same e =
      let i = is_given sort.Memory (variable sort.Memory (head_of m)) (Some n) g e in
      let term : n ≡ g.term = some_is i.term in
      let v = variable_means w env sort.Memory m (g.name) i.variable in
      has_by w env sort.Memory g i.sort (means_memory w (g.term) (fits_apart sort.Memory (g.name) (g.term) i.apart))
      (subst (λ z. SameMap (env.memories (g.name)) (memory (meaning w env z))) term (subst (λ z. SameMap (memory z) (memory (meaning w env n))) v same))
    where
      some_is : {a b : Tree} → Some a ≡ Some b → a ≡ b
      some_is f = cc

  turned_map : (m n : Tree) → SameMap (memory (meaning w env m)) (memory (meaning w env n)) → SameMap (memory (meaning w env n)) (memory (meaning w env m))
  turned_map m n same b o = sym (same b o)

  sides_have : (m n : Tree) → SameMap (memory (meaning w env m)) (memory (meaning w env n)) → AllHave w env (side_givens m n)
  sides_have m n same =
      have_one_more w env (memory_given m n) (with_given (memory_given n m) []) (λ g k. side_has m n g same k)
      (have_one_more w env (memory_given n m) [] (λ g k. side_has n m g (turned_map m n same) k) tt)

  sames_have : (m n : Tree) → SameMap (memory (meaning w env m)) (memory (meaning w env n)) → AllHave w env (same_givens m n)
  sames_have m n same = go (tree_cmp m n)
    where
      go : (o : Ordering) → AllHave w env (at_order o (side_givens n m) (side_givens m n) (side_givens m n))
      go Less = sides_have n m (turned_map m n same)
      go Equal = sides_have m n same
      go Greater = sides_have m n same

  -- ---- any literal

  nothing_is : (u : Tree) → is_nothing u ≡ true → u ≡ num (pos 0)
  nothing_is (node (h.Num z) stop) e = ap num (zero_is z e)
  nothing_is (node (h.Num z) (more t ts)) e = absurd cc
  nothing_is (node (h.Var x s) ts) e = absurd cc
  nothing_is (node (h.Term o) ts) e = absurd cc
  nothing_is (node h.Ite ts) e = absurd cc
  nothing_is (node (h.App f) ts) e = absurd cc
  nothing_is (node (h.Form o) ts) e = absurd cc
  nothing_is (node h.True ts) e = absurd cc
  nothing_is (node h.False ts) e = absurd cc
  nothing_is (node h.Not ts) e = absurd cc
  nothing_is (node h.And ts) e = absurd cc
  nothing_is (node h.Or ts) e = absurd cc
  nothing_is (node h.Imp ts) e = absurd cc
  nothing_is (node h.Iff ts) e = absurd cc
  nothing_is (node (h.Forall x) ts) e = absurd cc
  nothing_is (node (h.Exists x) ts) e = absurd cc

  equals_have : (t u : Tree) → IsTrue (equal t u) → AllHave w env (cond (is_nothing u) (form_givens (written t)) [])
  equals_have t u e = go (is_nothing u) refl
    where
      go : (b : Bool) → is_nothing u ≡ b → AllHave w env (cond b (form_givens (written t)) [])
      go true k = givens_below_have t (length ((written t).parts)) (ap (λ z. truth w env (equal t z)) (sym (nothing_is u k)) ∙ e)
      go false k = tt

  pub givens_have : (l : Tree) → IsTrue l → AllHave w env (givens l)
  givens_have (node (h.Form form.Equal) (more t (more u stop))) e = equals_have t u e
  givens_have (node (h.Form form.Same) (more m (more n stop))) e = sames_have m n (same_map (memory (meaning w env m)) (memory (meaning w env n)) e)
  givens_have l e = tt
