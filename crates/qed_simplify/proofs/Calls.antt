-- What the rule on calls makes of a call: no heavier, the base case of a function over functions before it, and what it means.
use Rattle.std.proofs.Common.{◌≡◌, ◌⊎◌, inl, inr, ℕ, max, ◌≤◌, Bool, true, false, ◌&&◌, ◌||◌, cond, List, [], ◌∷◌, ◌++◌, bytes_eq, refl, sym, ◌∙◌, ap, arith}
use Rattle.std.specs.Prelude.{Option, Some, None}
use Rattle.std.specs.List.{list_any}
use Rattle.qed_terms.specs.declared.head.Sort.{Sort}
use Rattle.qed_terms.specs.declared.head.Head.{Head}
use Rattle.qed_terms.specs.declared.head.Head.TheVariants as h
use Rattle.qed_terms.specs.Meaning.{World, Values, meaning}
use Rattle.qed_terms.specs.Setting.{Param, Logic, Setting, same_param, kids_match, takes, keeps, is_plain, are_plain, some_takes, is_body, is_regular_after, are_regular_after, is_regular, world_of}
use Rattle.qed_terms.specs.Tree.{Tree, node, Trees, stop, more, head_of}
use Rattle.qed_terms.specs.WellFormed.{int, fits, same_sort}
use Rattle.qed_linear.specs.Linear.{unwrap_or}
use Rattle.qed_linear.proofs.Facts.{and_left, and_right}
use Rattle.qed_numbers.proofs.Tests.{then_some_is}
use Rattle.qed_memories.proofs.Congruence.{settings_respect}
use Rattle.qed_calls.specs.Calls.{are_terms, argument_for, with_arguments, all_with_arguments, is_at_most, kid_number, fits_call, base_at, base_of}
use Rattle.qed_calls.proofs.Keeps.{same_name, name_itself, has_name, has_more, has_last, new_name, base_plain, calls_keep}
use Rattle.qed_simplify.specs.Normal.{Suits}
use Rattle.qed_simplify.proofs.Weights.{Numbers, weight, weights}
use Rattle.qed_simplify.proofs.Tests.{or_left, or_right}

-- ---- arguments for parameters

-- an argument stands for each name that is a parameter
pub argument_there : (P : Tree → Type 0) (All : Trees → Type 0) → ((u : Tree) (us : Trees) → All (more u us) → P u × All us)
    → (ps : List Param) (us : Trees) (x : List ℕ) (s : Sort) (rest : Tree) → kids_match ps us ≡ true → list_any (same_param (record { name = x; sort = s })) ps ≡ true → All us
    → P (unwrap_or (argument_for ps us x s) rest)
argument_there P All split [] us x s rest k q a = absurd cc
argument_there P All split (p ∷ ps) stop x s rest k q a = absurd cc
argument_there P All split (p ∷ ps) (more u us) x s rest k q a =
    go (bytes_eq x p.name && same_sort s p.sort) q (λ r. argument_there P All split ps us x s rest (and_right _ (kids_match ps us) k) r (split u us a).1)
  where
    go : (b : Bool) → b || list_any (same_param (record { name = x; sort = s })) ps ≡ true → (list_any (same_param (record { name = x; sort = s })) ps ≡ true → P (unwrap_or (argument_for ps us x s) rest))
        → P (unwrap_or (cond b (Some u) (argument_for ps us x s)) rest)
    go true r later = (split u us a).0
    go false r later = later r

-- ---- a body over arguments weighs no more than these

module _ (e : Numbers) (ps : List Param) (us : Trees) (match : kids_match ps us ≡ true) (allowed : List ℕ → Trees → Bool) where
  abbrev Light : Tree → Type 0
  Light u = weight u e ≤ weights us e

  abbrev AllLight : Trees → Type 0
  AllLight ts = weights ts e ≤ weights us e

  split_light : (u : Tree) (ts : Trees) → AllLight (more u ts) → Light u × AllLight ts
  split_light u ts k = (omega (arith, k), omega (arith, k))

  mutual
    body_light : (t : Tree) → is_plain ps allowed t ≡ true → weight (with_arguments ps us t) e ≤ weights us e
    body_light (node (h.Var x s) ts) k =
        argument_there Light AllLight split_light ps us x s (node (h.Var x s) ts) match (and_left (list_any (same_param (record { name = x; sort = s })) ps) (are_plain ps allowed ts) k) (omega arith)
    body_light (node (h.App y) ts) k = bodies_light ts (and_right (allowed y ts) (are_plain ps allowed ts) k)
    body_light (node (h.Forall x) ts) k = absurd cc
    body_light (node (h.Exists x) ts) k = absurd cc
    body_light (node head ts) k = bodies_light ts k

    pub bodies_light : (ts : Trees) → are_plain ps allowed ts ≡ true → weights (all_with_arguments ps us ts) e ≤ weights us e
    bodies_light stop k = omega arith
    bodies_light (more t ts) k =
        let a = body_light t (and_left (is_plain ps allowed t) (are_plain ps allowed ts) k) in
        let b = bodies_light ts (and_right (is_plain ps allowed t) (are_plain ps allowed ts) k) in
        omega (arith, a, b)

-- the base case of a function that takes the call
pub based : (f : Logic) (x : List ℕ) (ts : Trees) (w : Tree) → fits_call x ts f ≡ true → base_at f ts ≡ Some w → (kids_match f.params ts ≡ true) × (with_arguments f.params ts f.base ≡ w)
based f x ts w k e = (
  and_right (bytes_eq x f.name) (kids_match f.params ts) (and_left (takes x ts f) (are_terms ts) k),
  (then_some_is (is_at_most f.cut (kid_number ts f.number)) (with_arguments f.params ts f.base) w e).1,
)

pub plain_base : (before : List Logic) (f : Logic) → is_regular_after before f ≡ true → is_plain f.params (some_takes before) f.base ≡ true
plain_base before f k = and_right (fits int f.base) (is_plain f.params (some_takes before) f.base) (base_plain before f k)

pub base_light : (fs before : List Logic) (e : Numbers) (x : List ℕ) (ts : Trees) (w : Tree) → are_regular_after before fs ≡ true → base_of fs x ts ≡ Some w → weight w e ≤ weights ts e
base_light [] before e x ts w k q = absurd cc
base_light (f ∷ fs) before e x ts w k q =
    go (fits_call x ts f) refl q (λ s. base_light fs (before ++ f ∷ []) e x ts w (and_right (is_regular_after before f) (are_regular_after (before ++ f ∷ []) fs) k) s)
  where
    go : (b : Bool) → fits_call x ts f ≡ b → cond b (base_at f ts) (base_of fs x ts) ≡ Some w → (base_of fs x ts ≡ Some w → weight w e ≤ weights ts e) → weight w e ≤ weights ts e
    go true r s later =
        let p = based f x ts w r s in
        let l = body_light e f.params ts p.0 (some_takes before) f.base (plain_base before f (and_left (is_regular_after before f) (are_regular_after (before ++ f ∷ []) fs) k)) in
        let same = ap (λ t. weight t e) p.1 in
        omega (arith, l, same)
    go false r s later = later s

-- ---- which function takes a call

pub has_split : (y : List ℕ) (fs gs : List Logic) → has_name y (fs ++ gs) ≡ has_name y fs || has_name y gs
has_split y [] gs = refl
has_split y (f ∷ fs) gs = ap (λ b. bytes_eq f.name y || b) (has_split y fs gs) ∙ go (bytes_eq f.name y) (has_name y fs) (has_name y gs)
  where
    go : (a b c : Bool) → a || (b || c) ≡ (a || b) || c
    go true b c = refl
    go false b c = refl

other_way : (x y : List ℕ) → bytes_eq x y ≡ false → bytes_eq y x ≡ false
other_way x y k = go (bytes_eq y x) refl
  where
    go : (b : Bool) → bytes_eq y x ≡ b → b ≡ false
    go true e =
        let p : bytes_eq x y ≡ true = ap (λ z. bytes_eq x z) (same_name y x e) ∙ name_itself x in
        absurd cc
    go false e = refl

-- a function of another name doesn't take it
pub passed_by : (y : List ℕ) (vs : Trees) (f : Logic) (fs : List Logic) → bytes_eq y f.name ≡ false → base_of (f ∷ fs) y vs ≡ base_of fs y vs
passed_by y vs f fs k = ap (λ b. cond ((b && kids_match f.params vs) && are_terms vs) (base_at f vs) (base_of fs y vs)) k

-- functions of other names before
pub base_skip : (before fs : List Logic) (y : List ℕ) (vs : Trees) → has_name y before ≡ false → base_of (before ++ fs) y vs ≡ base_of fs y vs
base_skip [] fs y vs k = refl
base_skip (f ∷ before) fs y vs k = passed_by y vs f (before ++ fs) (other_way f.name y (or_left (bytes_eq f.name y) (has_name y before) k)) ∙ base_skip before fs y vs (or_right (bytes_eq f.name y) (has_name y before) k)

-- functions behind one of its name
pub later_none : (fs before : List Logic) (y : List ℕ) (vs : Trees) → are_regular_after before fs ≡ true → has_name y before ≡ true → base_of fs y vs ≡ None
later_none [] before y vs k l = refl
later_none (f ∷ fs) before y vs k l =
    passed_by y vs f fs (other (bytes_eq y f.name) refl) ∙ later_none fs (before ++ f ∷ []) y vs (and_right (is_regular_after before f) (are_regular_after (before ++ f ∷ []) fs) k) (has_more y before (f ∷ []) l)
  where
    other : (b : Bool) → bytes_eq y f.name ≡ b → b ≡ false
    other true e =
        let none : has_name y before ≡ false = ap (λ x. has_name x before) (same_name y f.name e) ∙ new_name before f (and_left (is_regular_after before f) (are_regular_after (before ++ f ∷ []) fs) k) in
        absurd cc
    other false e = refl

-- ---- meaning

pub setting_suits : (set : Setting) → is_regular set ≡ true → Suits set (world_of set)
unfolding world_of
setting_suits set regular = record { width = refl; alike = settings_respect set; calls = λ head ts u k env. calls_keep set head ts u regular k env }
