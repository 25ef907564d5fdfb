-- Slots' terms in the places of leaves: a term means what it means where leaves have the slots' values.
use Rattle.std.proofs.Common.{◌≡◌, ◌⊎◌, ℕ, zero, suc, ◌==◌, ℤ, pos, Bool, true, false, not, ◌&&◌, ◌||◌, if◌then◌else◌, List, [], ◌∷◌, map, refl, sym, ap, ◌∙◌, subst, inl, inr}
use Rattle.std.specs.List.{list_any}
use Rattle.std.specs.Str.{bytes_eq}
use Rattle.std.proofs.lemmas.Bool.{false≢true, and_parts, or_cases}
use Rattle.std.proofs.lemmas.Bool.Decides.{Decides-eqb}
use Rattle.std.proofs.lemmas.Slice.Eq.{bytes_eq-Decides}
use Rattle.wp_base.specs.Blocks.{to_nat}
use Rattle.std.specs.Prelude.{◌-ℤ◌}
use Rattle.qed_terms.specs.declared.head.Sort.{Sort}
use Rattle.qed_terms.specs.declared.head.Sort.TheVariants as sort
use Rattle.qed_terms.specs.declared.head.Head.{Head}
use Rattle.qed_terms.specs.declared.head.Head.TheVariants as h
use Rattle.qed_terms.specs.declared.head.TermOp.TheVariants as op
use Rattle.qed_terms.specs.Tree.{Tree, node, Trees, stop, more, num, true_tree, false_tree}
use Rattle.qed_terms.specs.Fresh.{Lacks}
use Rattle.qed_terms.specs.Meaning as sense
use Rattle.qed_terms.specs.Meaning.{Value, Whole, Truth, Values, with_int, head_value, head_meaning, third_is_so, over_range, all_from, some_from, meaning, meanings, value, truth}
use Rattle.walk_steps.specs.State.{State}
use Rattle.walk_steps.specs.Forms.{Slots, bang, SameBesidesBound, IsClean, AreClean, state_of, states_of, IsForm, IsNumber, IsFact}
use Rattle.program_steps.specs.Leaves.{item_named, slot_named, is_integer_head, as_integer, is_marked, filled_name, fill, fill_all, is_closed, are_closed, is_closed_range, or_false, closed, leaves_of, form, number, fact}
use Rattle.program_steps.specs.Laws.{AreGood, FormsAreGood}

pub on_bool : {P : Type 0} (b : Bool) → (b ≡ true → P) → (b ≡ false → P) → P
on_bool true hit miss = hit refl
on_bool false hit miss = miss refl

-- ---- names

-- two names are the same as text where the test says so
bytes_same : (x y : List ℕ) → bytes_eq x y ≡ true → x ≡ y
bytes_same x y h = (bytes_eq-Decides x y).0 h

not_marked : (x y : List ℕ) → bytes_eq x y ≡ true → is_marked y ≡ true → is_marked x ≡ false → ⊥
not_marked x y e m n = false≢true (sym n ∙ (ap is_marked (bytes_same x y e) ∙ m))

lacks_unmarked : (y : List ℕ) → Lacks bang y → is_marked y ≡ true → ⊥
lacks_unmarked [] l e = false≢true e
lacks_unmarked (b ∷ y) l e = by (or_cases (b == bang) (is_marked y) e) (lacks_unmarked y l.1) where
  by : ((b == bang) ≡ true) ⊎ (is_marked y ≡ true) → (is_marked y ≡ true → ⊥) → ⊥
  by (inl e) rest = l.0 ((Decides-eqb b bang).0 e)
  by (inr e) rest = rest e

marked_lacks : (x y : List ℕ) → is_marked x ≡ true → Lacks bang y → bytes_eq y x ≡ true → ⊥
marked_lacks x y marked l e = lacks_unmarked y l (ap is_marked (bytes_same y x e) ∙ marked)

-- ---- slots

item_values : {X Y : Type 0} (f : X → Y) (d : X) (xs : List X) (name : List ℕ) → item_named (f d) (map f xs) name ≡ f (item_named d xs name)
item_values f d [] name = refl
item_values f d (x ∷ xs) [] = refl
item_values f d (x ∷ xs) (b ∷ name) = item_values f d xs name

slot_values : {X Y : Type 0} (f : X → Y) (d : X) (xss : List (List X)) (name : List ℕ) → slot_named (f d) (map (map f) xss) name ≡ f (slot_named d xss name)
slot_values f d [] name = refl
slot_values f d (xs ∷ xss) [] = refl
slot_values f d (xs ∷ xss) (b ∷ name) = by (b == 98) (slot_values f d xss name) where
  by : (t : Bool) → slot_named (f d) (map (map f) xss) name ≡ f (slot_named d xss name)
      → (if t then item_named (f d) (map f xs) name else slot_named (f d) (map (map f) xss) name) ≡ f (if t then item_named d xs name else slot_named d xss name)
  by true rest = item_values f d xs name
  by false rest = rest

module _ (m : sense.World) where
  integer_means : (env : Values) (t : Tree) → meaning m env (as_integer t) ≡ Whole (value m env t)
  integer_means env (node (h.Num z) ts) = refl
  integer_means env (node (h.Var x sort.Int) ts) = refl
  integer_means env (node (h.Var x sort.Memory) ts) = refl
  integer_means env (node (h.Var x sort.Table) ts) = refl
  integer_means env (node (h.Term op.Add) ts) = refl
  integer_means env (node (h.Term op.Sub) ts) = refl
  integer_means env (node (h.Term op.Mul) ts) = refl
  integer_means env (node (h.Term op.Neg) ts) = refl
  integer_means env (node (h.Term op.Div) ts) = refl
  integer_means env (node (h.Term op.Mod) ts) = refl
  integer_means env (node (h.Term (op.Wrap k)) ts) = refl
  integer_means env (node (h.Term op.ShiftLeft) ts) = refl
  integer_means env (node (h.Term op.ShiftRight) ts) = refl
  integer_means env (node (h.Term op.BitAnd) ts) = refl
  integer_means env (node (h.Term op.BitOr) ts) = refl
  integer_means env (node (h.Term op.BitXor) ts) = refl
  integer_means env (node (h.Term op.BitNot) ts) = refl
  integer_means env (node (h.Term op.Load) ts) = refl
  integer_means env (node (h.Term op.Count) ts) = refl
  integer_means env (node (h.Term op.Len) ts) = refl
  integer_means env (node (h.Term op.Store) ts) = refl
  integer_means env (node (h.Term (op.Alloc layout)) ts) = refl
  integer_means env (node (h.Term op.Grow) ts) = refl
  integer_means env (node h.Ite ts) = refl
  integer_means env (node (h.App f) ts) = refl
  integer_means env (node (h.Form o) ts) = refl
  integer_means env (node h.True ts) = refl
  integer_means env (node h.False ts) = refl
  integer_means env (node h.Not ts) = refl
  integer_means env (node h.And ts) = refl
  integer_means env (node h.Or ts) = refl
  integer_means env (node h.Imp ts) = refl
  integer_means env (node h.Iff ts) = refl
  integer_means env (node (h.Forall x) ts) = refl
  integer_means env (node (h.Exists x) ts) = refl

  module _ (ss : List Slots) (clean : AreClean m ss) where
    -- the second values are those of the slots, and of the names that are bound the first ones
    record Tells (env env' : Values) (xs : List (List ℕ)) : Type 0 where
      slots : (x : List ℕ) → is_marked x ≡ false → env'.ints x ≡ slot_named (pos 0) (states_of m env ss) x
      bound : (x : List ℕ) → list_any (bytes_eq x) xs ≡ true → env.ints x ≡ env'.ints x

    in_int : (env : Values) (x : List ℕ) (z : ℤ) → is_marked x ≡ true → SameBesidesBound env (with_int env x z)
    in_int env x z marked = record { ints = ints; memories = refl; tables = refl } where
      ints : (y : List ℕ) → Lacks bang y → env.ints y ≡ (if bytes_eq y x then z else env.ints y)
      ints y lacks = on_bool (bytes_eq y x) (λ e. absurd (marked_lacks x y marked lacks e)) (λ e. sym (ap (λ t. if t then z else env.ints y) e))

    under : (env env' : Values) (xs : List (List ℕ)) (x : List ℕ) (z : ℤ) → is_marked x ≡ true → Tells env env' xs → Tells (with_int env x z) (with_int env' x z) (x ∷ xs)
    under env env' xs x z marked tells = record { slots = slots; bound = bound } where
      slots : (y : List ℕ) → is_marked y ≡ false → (if bytes_eq y x then z else env'.ints y) ≡ slot_named (pos 0) (states_of m (with_int env x z) ss) y
      slots y unmarked = on_bool (bytes_eq y x) (λ e. absurd (not_marked y x e marked unmarked))
          (λ e. ap (λ t. if t then z else env'.ints y) e ∙ tells.slots y unmarked
          ∙ ap (λ sts. slot_named (pos 0) sts y) (clean env (with_int env x z) (in_int env x z marked)))

      bound : (y : List ℕ) → list_any (bytes_eq y) (x ∷ xs) ≡ true → (if bytes_eq y x then z else env.ints y) ≡ (if bytes_eq y x then z else env'.ints y)
      bound y k = by (bytes_eq y x) k where
        by : (t : Bool) → (t || list_any (bytes_eq y) xs) ≡ true → (if t then z else env.ints y) ≡ (if t then z else env'.ints y)
        by true k = refl
        by false k = tells.bound y k

    leaf_means : (env env' : Values) (xs : List (List ℕ)) (x : List ℕ) (ts : Trees) → (not (is_marked x) || list_any (bytes_eq x) xs) ≡ true → Tells env env' xs
        → meaning m env (filled_name ss x ts) ≡ Whole (env'.ints x)
    leaf_means env env' xs x ts so tells = on_bool (is_marked x)
        (λ e. ap (λ t. meaning m env (if t then node (h.Var x sort.Int) ts else as_integer (slot_named (num (pos 0)) ss x))) e
        ∙ ap Whole (tells.bound x (sym (ap (λ t. not t || list_any (bytes_eq x) xs) e) ∙ so)))
        (λ e. ap (λ t. meaning m env (if t then node (h.Var x sort.Int) ts else as_integer (slot_named (num (pos 0)) ss x))) e
        ∙ integer_means env (slot_named (num (pos 0)) ss x)
        ∙ ap Whole (sym (tells.slots x e ∙ slot_values (value m env) (num (pos 0)) ss x)))

    mutual
      means : (t : Tree) (env env' : Values) (xs : List (List ℕ)) → is_closed xs t ≡ true → Tells env env' xs → meaning m env (fill ss t) ≡ meaning m env' t
      means (node (h.Num z) ts) env env' xs c tells = refl
      means (node (h.Var x sort.Int) ts) env env' xs c tells = leaf_means env env' xs x ts c tells
      means (node (h.Var x sort.Memory) ts) env env' xs c tells = absurd (false≢true c)
      means (node (h.Var x sort.Table) ts) env env' xs c tells = absurd (false≢true c)
      means (node (h.Term o) ts) env env' xs c tells = ap (λ vs. head_value m env' (h.Term o) vs) (all_mean ts env env' xs c tells)
      means (node h.Ite ts) env env' xs c tells = ap (λ vs. head_value m env' h.Ite vs) (all_mean ts env env' xs c tells)
      means (node (h.App f) ts) env env' xs c tells = ap (λ vs. head_value m env' (h.App f) vs) (all_mean ts env env' xs c tells)
      means (node (h.Form o) ts) env env' xs c tells = ap (λ vs. head_value m env' (h.Form o) vs) (all_mean ts env env' xs c tells)
      means (node h.True ts) env env' xs c tells = refl
      means (node h.False ts) env env' xs c tells = refl
      means (node h.Not ts) env env' xs c tells = ap (λ vs. head_value m env' h.Not vs) (all_mean ts env env' xs c tells)
      means (node h.And ts) env env' xs c tells = ap (λ vs. head_value m env' h.And vs) (all_mean ts env env' xs c tells)
      means (node h.Or ts) env env' xs c tells = ap (λ vs. head_value m env' h.Or vs) (all_mean ts env env' xs c tells)
      means (node h.Imp ts) env env' xs c tells = ap (λ vs. head_value m env' h.Imp vs) (all_mean ts env env' xs c tells)
      means (node h.Iff ts) env env' xs c tells = ap (λ vs. head_value m env' h.Iff vs) (all_mean ts env env' xs c tells)
      means (node (h.Forall x) stop) env env' xs c tells = refl
      means (node (h.Forall x) (more low stop)) env env' xs c tells = refl
      means (node (h.Forall x) (more low (more high stop))) env env' xs c tells = refl
      means (node (h.Forall x) (more low (more high (more body stop)))) env env' xs c tells =
          let both = and_parts (is_marked x) (is_closed_range xs x (more low (more high (more body stop)))) c in
          let all = and_parts (is_closed xs low && is_closed xs high) (is_closed (x ∷ xs) body) both.1 in
          let ends = and_parts (is_closed xs low) (is_closed xs high) all.0 in
          let from = means low env env' xs ends.0 tells in
          let to = means high env env' xs ends.1 tells in
          λ i. Truth (all_from (sense.whole (from i)) (to_nat (sense.whole (to i) -ℤ sense.whole (from i)))
          (λ z. sense.is_so ((means body (with_int env x z) (with_int env' x z) (x ∷ xs) all.1 (under env env' xs x z both.0 tells)) i)))
      means (node (h.Forall x) (more low (more high (more body (more t ts))))) env env' xs c tells = refl
      means (node (h.Exists x) stop) env env' xs c tells = refl
      means (node (h.Exists x) (more low stop)) env env' xs c tells = refl
      means (node (h.Exists x) (more low (more high stop))) env env' xs c tells = refl
      means (node (h.Exists x) (more low (more high (more body stop)))) env env' xs c tells =
          let both = and_parts (is_marked x) (is_closed_range xs x (more low (more high (more body stop)))) c in
          let all = and_parts (is_closed xs low && is_closed xs high) (is_closed (x ∷ xs) body) both.1 in
          let ends = and_parts (is_closed xs low) (is_closed xs high) all.0 in
          let from = means low env env' xs ends.0 tells in
          let to = means high env env' xs ends.1 tells in
          λ i. Truth (some_from (sense.whole (from i)) (to_nat (sense.whole (to i) -ℤ sense.whole (from i)))
          (λ z. sense.is_so ((means body (with_int env x z) (with_int env' x z) (x ∷ xs) all.1 (under env env' xs x z both.0 tells)) i)))
      means (node (h.Exists x) (more low (more high (more body (more t ts))))) env env' xs c tells = refl

      all_mean : (ts : Trees) (env env' : Values) (xs : List (List ℕ)) → are_closed xs ts ≡ true → Tells env env' xs → meanings m env (fill_all ss ts) ≡ meanings m env' ts
      all_mean stop env env' xs c tells = refl
      all_mean (more t ts) env env' xs c tells =
          let both = and_parts (is_closed xs t) (are_closed xs ts) c in
          let first = means t env env' xs both.0 tells in
          let rest = all_mean ts env env' xs both.1 tells in
          λ i. first i ∷ rest i

    tells_leaves : (env : Values) → Tells env (leaves_of (states_of m env ss)) []
    tells_leaves env = record { slots = λ x e. refl; bound = λ x e. absurd (false≢true e) }

    -- what is closed, in the slots and over their values
    pub closed_means : (env : Values) (t : Tree) → meaning m env (fill ss (closed t)) ≡ meaning m (leaves_of (states_of m env ss)) (closed t)
    closed_means env t = on_bool (is_closed [] t)
        (λ e. ap (λ b. meaning m env (fill ss (or_false b t))) e ∙ means t env (leaves_of (states_of m env ss)) [] e (tells_leaves env)
        ∙ sym (ap (λ b. meaning m (leaves_of (states_of m env ss)) (or_false b t)) e))
        (λ e. ap (λ b. meaning m env (fill ss (or_false b t))) e ∙ sym (ap (λ b. meaning m (leaves_of (states_of m env ss)) (or_false b t)) e))

  -- with one more value in front
  more_clean : (ss : List Slots) (t : Tree) → AreClean m ss → IsClean m t → AreClean m ((t ∷ []) ∷ ss)
  more_clean ss t clean one env env' same = let a = one env env' same in let b = clean env env' same in λ i. (a i ∷ []) ∷ b i

pub forms_are_good : FormsAreGood
forms_are_good m t = record {
  form = λ env ss clean. ap sense.is_so (closed_means m ss clean env t);
  number = λ env ss clean. ap sense.whole (closed_means m ss clean env t);
  fact = λ env ss u clean one. ap sense.is_so (closed_means m ((u ∷ []) ∷ ss) (more_clean m ss u clean one) env t);
}
