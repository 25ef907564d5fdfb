-- Bodies of functions: under which functions they mean the same, and what they mean with arguments for the parameters.
use Rattle.std.proofs.Common.{◌≡◌, ℕ, zero, suc, Bool, true, false, ◌&&◌, ◌||◌, cond, List, [], ◌∷◌, bytes_eq, refl, sym, ◌∙◌, ap}
use Rattle.std.specs.Prelude.{Some}
use Rattle.std.specs.List.{list_any}
use Rattle.wp_base.specs.declared.kinds.CellKind.TheVariants as cell
use Rattle.qed_terms.specs.declared.head.Sort.{Sort}
use Rattle.qed_terms.specs.declared.head.Sort.TheVariants as sort
use Rattle.qed_terms.specs.declared.head.Head.{Head}
use Rattle.qed_terms.specs.declared.head.Head.TheVariants as h
use Rattle.qed_terms.specs.declared.head.TermOp.{TermOp}
use Rattle.qed_terms.specs.declared.head.TermOp.TheVariants as op
use Rattle.qed_terms.specs.declared.head.FormOp.{FormOp}
use Rattle.qed_terms.specs.declared.head.FormOp.TheVariants as form
use Rattle.qed_terms.specs.Meaning.{World, Values, Value, Whole, Truth, Cells, Blocks, value_of, term_value, form_truth, head_value, meaning, meanings}
use Rattle.qed_terms.specs.Setting.{Param, Apps, has_sort, are_arguments, with_value, bound, same_param, sort_of, kids_match, is_plain, are_plain}
use Rattle.qed_terms.specs.Tree.{Tree, node, Trees, stop, more, head_of}
use Rattle.qed_terms.specs.Names.{is_name}
use Rattle.qed_terms.specs.WellFormed.{Place, argument, each, may_stand, kid_places, kid_count, fits, all_fit, same_sort}
use Rattle.qed_linear.specs.Linear.{unwrap_or}
use Rattle.qed_linear.proofs.Facts.{and_left, and_right}
use Rattle.qed_calls.specs.Calls.{is_term, are_terms, argument_for, with_arguments, all_with_arguments}

-- ---- arguments of calls are terms

no_formula : (b c : Bool) → (b && false) && c ≡ true → ⊥
no_formula true c q = absurd cc
no_formula false c q = absurd cc

argument_term : (t : Tree) → fits argument t ≡ true → is_term (head_of t) ≡ true
argument_term (node (h.Num z) ts) f = refl
argument_term (node (h.Var x s) ts) f = refl
argument_term (node (h.Term o) ts) f = refl
argument_term (node h.Ite ts) f = refl
argument_term (node (h.App y) ts) f = refl
argument_term (node (h.Forall x) ts) f = absurd (no_formula (is_name x) (all_fit (kid_places (h.Forall x) (kid_count ts)) ts) f)
argument_term (node (h.Exists x) ts) f = absurd (no_formula (is_name x) (all_fit (kid_places (h.Exists x) (kid_count ts)) ts) f)
argument_term (node head ts) f = absurd cc

arguments_terms : (ts : Trees) (n : ℕ) → all_fit (each argument n) ts ≡ true → are_terms ts ≡ true
arguments_terms stop n f = refl
arguments_terms (more t ts) zero f = absurd cc
arguments_terms (more t ts) (suc n) f =
    let first = argument_term t (and_left (fits argument t) (all_fit (each argument n) ts) f) in
    let rest = arguments_terms ts n (and_right (fits argument t) (all_fit (each argument n) ts) f) in
    λ i. first i && rest i

kids_fit : (place : Place) (head : Head) (ts : Trees) → fits place (node head ts) ≡ true → all_fit (kid_places head (kid_count ts)) ts ≡ true
kids_fit place head ts f = and_right (may_stand place head) (all_fit (kid_places head (kid_count ts)) ts) f

-- ---- the functions that a body uses

module _ (bits : ℕ) (params : List Param) (allowed : List ℕ → Trees → Bool) (a b : Apps) where
  abbrev in_a : World
  in_a = record { long_bits = bits; apps = a }

  abbrev in_b : World
  in_b = record { long_bits = bits; apps = b }

  term_alike : (o : TermOp) (vs : List Value) → term_value in_a o vs ≡ term_value in_b o vs
  term_alike op.Add vs = refl
  term_alike op.Sub vs = refl
  term_alike op.Mul vs = refl
  term_alike op.Neg vs = refl
  term_alike o vs = refl

  form_alike : (o : FormOp) (vs : List Value) → form_truth in_a o vs ≡ form_truth in_b o vs
  form_alike (form.WellFormed (cell.Of k)) vs = refl
  form_alike (form.WellFormed cell.Ptr) vs = refl
  form_alike o vs = refl

  -- a call in a body that is used takes terms, and has one value in both
  module _ (env : Values) (alike : (y : List ℕ) (us : Trees) → allowed y us ≡ true → are_terms us ≡ true → a y (meanings in_b env us) ≡ b y (meanings in_b env us)) where
    mutual
      pub plain_alike : (place : Place) (t : Tree) → fits place t ≡ true → is_plain params allowed t ≡ true → meaning in_a env t ≡ meaning in_b env t
      plain_alike place (node (h.Num z) ts) f k = refl
      plain_alike place (node (h.Var x s) ts) f k = refl
      plain_alike place (node (h.Term o) ts) f k = ap (term_value in_a o) (all_alike (kid_places (h.Term o) (kid_count ts)) ts (kids_fit place (h.Term o) ts f) k) ∙ term_alike o (meanings in_b env ts)
      plain_alike place (node h.Ite ts) f k = ap (head_value in_a env h.Ite) (all_alike (kid_places h.Ite (kid_count ts)) ts (kids_fit place h.Ite ts f) k)
      plain_alike place (node (h.App y) ts) f k =
          let terms = arguments_terms ts (kid_count ts) (kids_fit place (h.App y) ts f) in
          ap (λ vs. Whole (a y vs)) (all_alike (kid_places (h.App y) (kid_count ts)) ts (kids_fit place (h.App y) ts f) (and_right (allowed y ts) (are_plain params allowed ts) k))
          ∙ ap Whole (alike y ts (and_left (allowed y ts) (are_plain params allowed ts) k) terms)
      plain_alike place (node (h.Form o) ts) f k = ap (λ vs. Truth (form_truth in_a o vs)) (all_alike (kid_places (h.Form o) (kid_count ts)) ts (kids_fit place (h.Form o) ts f) k) ∙ ap Truth (form_alike o (meanings in_b env ts))
      plain_alike place (node h.True ts) f k = refl
      plain_alike place (node h.False ts) f k = refl
      plain_alike place (node h.Not ts) f k = ap (head_value in_a env h.Not) (all_alike (kid_places h.Not (kid_count ts)) ts (kids_fit place h.Not ts f) k)
      plain_alike place (node h.And ts) f k = ap (head_value in_a env h.And) (all_alike (kid_places h.And (kid_count ts)) ts (kids_fit place h.And ts f) k)
      plain_alike place (node h.Or ts) f k = ap (head_value in_a env h.Or) (all_alike (kid_places h.Or (kid_count ts)) ts (kids_fit place h.Or ts f) k)
      plain_alike place (node h.Imp ts) f k = ap (head_value in_a env h.Imp) (all_alike (kid_places h.Imp (kid_count ts)) ts (kids_fit place h.Imp ts f) k)
      plain_alike place (node h.Iff ts) f k = ap (head_value in_a env h.Iff) (all_alike (kid_places h.Iff (kid_count ts)) ts (kids_fit place h.Iff ts f) k)
      plain_alike place (node (h.Forall x) ts) f k = absurd cc
      plain_alike place (node (h.Exists x) ts) f k = absurd cc

      all_alike : (places : List Place) (ts : Trees) → all_fit places ts ≡ true → are_plain params allowed ts ≡ true → meanings in_a env ts ≡ meanings in_b env ts
      all_alike places stop f k = refl
      all_alike [] (more t ts) f k = absurd cc
      all_alike (place ∷ places) (more t ts) f k =
          let first = plain_alike place t (and_left (fits place t) (all_fit places ts) f) (and_left (is_plain params allowed t) (are_plain params allowed ts) k) in
          let rest = all_alike places ts (and_right (fits place t) (all_fit places ts) f) (and_right (is_plain params allowed t) (are_plain params allowed ts) k) in
          λ i. first i ∷ rest i

-- ---- arguments

module _ (world : World) (env : Values) where
  -- a term is of its sort
  of_sort : (t : Tree) → is_term (head_of t) ≡ true → has_sort (sort_of t) (meaning world env t) ≡ true
  of_sort (node (h.Num z) ts) k = refl
  of_sort (node (h.Var x sort.Int) ts) k = refl
  of_sort (node (h.Var x sort.Memory) ts) k = refl
  of_sort (node (h.Var x sort.Table) ts) k = refl
  of_sort (node (h.Term op.Store) ts) k = refl
  of_sort (node (h.Term (op.Alloc layout)) ts) k = refl
  of_sort (node (h.Term op.Grow) ts) k = refl
  of_sort (node (h.Term o) ts) k = refl
  of_sort (node h.Ite ts) k = refl
  of_sort (node (h.App f) ts) k = refl
  of_sort (node head ts) k = absurd cc

  same_sorts : (s r : Sort) → same_sort s r ≡ true → s ≡ r
  same_sorts sort.Int sort.Int k = refl
  same_sorts sort.Memory sort.Memory k = refl
  same_sorts sort.Table sort.Table k = refl
  same_sorts s r k = absurd cc

  argument_sort : (p : Param) (t : Tree) → same_sort p.sort (sort_of t) ≡ true → is_term (head_of t) ≡ true → has_sort p.sort (meaning world env t) ≡ true
  argument_sort p t k l = ap (λ s. has_sort s (meaning world env t)) (same_sorts p.sort (sort_of t) k) ∙ of_sort t l

  pub arguments : (ps : List Param) (ts : Trees) → kids_match ps ts ≡ true → are_terms ts ≡ true → are_arguments ps (meanings world env ts) ≡ true
  arguments [] stop k l = refl
  arguments [] (more t ts) k l = absurd cc
  arguments (p ∷ ps) stop k l = absurd cc
  arguments (p ∷ ps) (more t ts) k l =
      let a = argument_sort p t (and_left (same_sort p.sort (sort_of t)) (kids_match ps ts) k) (and_left (is_term (head_of t)) (are_terms ts) l) in
      let b = arguments ps ts (and_right (same_sort p.sort (sort_of t)) (kids_match ps ts) k) (and_right (is_term (head_of t)) (are_terms ts) l) in
      λ i. a i && b i

  -- a parameter of this name and sort has the value, another one leaves it
  bound_here : (e : Values) (p : Param) (x : List ℕ) (s : Sort) (v : Value) → bytes_eq x p.name && same_sort s p.sort ≡ true → has_sort p.sort v ≡ true → value_of (with_value e p v) x s ≡ v
  bound_here e p x s v k l =
      go s p.sort v (and_right (bytes_eq x p.name) (same_sort s p.sort) k) l
    where
      name : bytes_eq x p.name ≡ true
      name = and_left (bytes_eq x p.name) (same_sort s p.sort) k

      go : (s r : Sort) (v : Value) → same_sort s r ≡ true → has_sort r v ≡ true → value_of (with_value e p v) x s ≡ v
      go sort.Int sort.Int (Whole z) q m = ap (λ b. Whole (cond b z (e.ints x))) name
      go sort.Memory sort.Memory (Cells c) q m = ap (λ b. Cells (cond b c (e.memories x))) name
      go sort.Table sort.Table (Blocks t) q m = ap (λ b. Blocks (cond b t (e.tables x))) name
      go s r v q m = absurd cc

  bound_later : (e : Values) (p : Param) (x : List ℕ) (s : Sort) (v : Value) → bytes_eq x p.name && same_sort s p.sort ≡ false → has_sort p.sort v ≡ true → value_of (with_value e p v) x s ≡ value_of e x s
  bound_later e p x s v k l = go s p.sort v k l
    where
      unnamed : (b : Bool) → b && true ≡ false → b ≡ false
      unnamed true q = absurd cc
      unnamed false q = refl

      go : (s r : Sort) (v : Value) → bytes_eq x p.name && same_sort s r ≡ false → has_sort r v ≡ true → value_of (with_value e p v) x s ≡ value_of e x s
      go sort.Int sort.Int (Whole z) q m = ap (λ b. Whole (cond b z (e.ints x))) (unnamed (bytes_eq x p.name) q)
      go sort.Memory sort.Memory (Cells c) q m = ap (λ b. Cells (cond b c (e.memories x))) (unnamed (bytes_eq x p.name) q)
      go sort.Table sort.Table (Blocks t) q m = ap (λ b. Blocks (cond b t (e.tables x))) (unnamed (bytes_eq x p.name) q)
      go sort.Memory sort.Int (Whole z) q m = refl
      go sort.Table sort.Int (Whole z) q m = refl
      go sort.Int sort.Memory (Cells c) q m = refl
      go sort.Table sort.Memory (Cells c) q m = refl
      go sort.Int sort.Table (Blocks t) q m = refl
      go sort.Memory sort.Table (Blocks t) q m = refl
      go s r v q m = absurd cc

  -- a name that is a parameter
  named : (ps : List Param) (us : Trees) (x : List ℕ) (s : Sort) (rest : Tree) → kids_match ps us ≡ true → are_terms us ≡ true → list_any (same_param (record { name = x; sort = s })) ps ≡ true
      → meaning world env (unwrap_or (argument_for ps us x s) rest) ≡ value_of (bound ps (meanings world env us)) x s
  named [] us x s rest k l q = absurd cc
  named (p ∷ ps) stop x s rest k l q = absurd cc
  named (p ∷ ps) (more u us) x s rest k l q = go (bytes_eq x p.name && same_sort s p.sort) refl q (named ps us x s rest (and_right (same_sort p.sort (sort_of u)) (kids_match ps us) k) (and_right (is_term (head_of u)) (are_terms us) l))
    where
      here : has_sort p.sort (meaning world env u) ≡ true
      here = argument_sort p u (and_left (same_sort p.sort (sort_of u)) (kids_match ps us) k) (and_left (is_term (head_of u)) (are_terms us) l)

      go : (c : Bool) → bytes_eq x p.name && same_sort s p.sort ≡ c → c || list_any (same_param (record { name = x; sort = s })) ps ≡ true
          → (list_any (same_param (record { name = x; sort = s })) ps ≡ true → meaning world env (unwrap_or (argument_for ps us x s) rest) ≡ value_of (bound ps (meanings world env us)) x s)
          → meaning world env (unwrap_or (cond c (Some u) (argument_for ps us x s)) rest) ≡ value_of (with_value (bound ps (meanings world env us)) p (meaning world env u)) x s
      go true e m r = sym (bound_here (bound ps (meanings world env us)) p x s (meaning world env u) e here)
      go false e m r = r m ∙ sym (bound_later (bound ps (meanings world env us)) p x s (meaning world env u) e here)

  module _ (ps : List Param) (us : Trees) (match : kids_match ps us ≡ true) (terms : are_terms us ≡ true) (allowed : List ℕ → Trees → Bool) where
    abbrev inner : Values
    inner = bound ps (meanings world env us)

    mutual
      -- a body with the arguments means what it means under their values
      pub placed : (t : Tree) → is_plain ps allowed t ≡ true → meaning world env (with_arguments ps us t) ≡ meaning world inner t
      placed (node (h.Num z) ts) k = refl
      placed (node (h.Var x s) ts) k = named ps us x s (node (h.Var x s) ts) match terms (and_left (list_any (same_param (record { name = x; sort = s })) ps) (are_plain ps allowed ts) k)
      placed (node (h.Term o) ts) k = ap (term_value world o) (all_placed ts k)
      placed (node h.Ite ts) k = ap (head_value world env h.Ite) (all_placed ts k)
      placed (node (h.App y) ts) k = ap (λ vs. Whole (world.apps y vs)) (all_placed ts (and_right (allowed y ts) (are_plain ps allowed ts) k))
      placed (node (h.Form o) ts) k = ap (λ vs. Truth (form_truth world o vs)) (all_placed ts k)
      placed (node h.True ts) k = refl
      placed (node h.False ts) k = refl
      placed (node h.Not ts) k = ap (head_value world env h.Not) (all_placed ts k)
      placed (node h.And ts) k = ap (head_value world env h.And) (all_placed ts k)
      placed (node h.Or ts) k = ap (head_value world env h.Or) (all_placed ts k)
      placed (node h.Imp ts) k = ap (head_value world env h.Imp) (all_placed ts k)
      placed (node h.Iff ts) k = ap (head_value world env h.Iff) (all_placed ts k)
      placed (node (h.Forall x) ts) k = absurd cc
      placed (node (h.Exists x) ts) k = absurd cc

      all_placed : (ts : Trees) → are_plain ps allowed ts ≡ true → meanings world env (all_with_arguments ps us ts) ≡ meanings world inner ts
      all_placed stop k = refl
      all_placed (more t ts) k =
          let first = placed t (and_left (is_plain ps allowed t) (are_plain ps allowed ts) k) in
          let rest = all_placed ts (and_right (is_plain ps allowed t) (are_plain ps allowed ts) k) in
          λ i. first i ∷ rest i
