-- What a tree means with a term in the places of a name: what it means with the name at the term's value.
use Rattle.std.proofs.Common.{◌≡◌, ℕ, ℤ, ◌-ℤ◌, Bool, true, false, not, ◌&&◌, ◌||◌, cond, List, ◌∷◌, bytes_eq, refl, sym, ◌∙◌, ap}
use Rattle.qed_terms.specs.declared.head.Sort.TheVariants as sort
use Rattle.qed_terms.specs.declared.head.Head.TheVariants as h
use Rattle.qed_terms.specs.Free.{is_free, AgreeOn}
use Rattle.qed_terms.specs.Meaning.{World, Values, Whole, Truth, Cells, Blocks, whole, is_so, value, with_int, meaning, meanings, term_value, form_truth, head_value, all_from, some_from}
use Rattle.qed_terms.specs.Tree.{Tree, node, Trees, stop, more}
use Rattle.qed_terms.proofs.FreeNames.{meaning_of_free_names}
use Rattle.qed_substitution.specs.Substitution.{replace, replace_all, is_clear, are_clear, may_replace}
use Rattle.qed_substitution.proofs.Names.{name_itself, same_name, other_name, other_too}
use Rattle.qed_substitution.proofs.Booleans.{and_left, and_right, or_left, or_right}
use Rattle.wp_base.specs.Blocks.{to_nat}

-- ---- assignments that differ at one name of an integer alone

pub record Alike (x : List ℕ) (env env' : Values) : Type 0 where
  pub ints : (y : List ℕ) → bytes_eq x y ≡ false → env.ints y ≡ env'.ints y
  pub memories : env.memories ≡ env'.memories
  pub tables : env.tables ≡ env'.tables

below : (x y : List ℕ) (z : ℤ) (env env' : Values) → Alike x env env' → Alike x (with_int env y z) (with_int env' y z)
below x y z env env' a = record {
  ints = λ w k. ap (λ v. cond (bytes_eq w y) z v) (a.ints w k);
  memories = a.memories;
  tables = a.tables;
}

-- a name that isn't free may have any value
unseen : (u : Tree) (y : List ℕ) (z : ℤ) (env : Values) → is_free y sort.Int u ≡ false → AgreeOn u (with_int env y z) env
unseen u y z env none w sort.Int k = go (bytes_eq w y) refl
  where
    go : (b : Bool) → bytes_eq w y ≡ b → Whole (cond b z (env.ints w)) ≡ Whole (env.ints w)
    go true e = let no : is_free w sort.Int u ≡ false = ap (λ v. is_free v sort.Int u) (same_name w y e) ∙ none in absurd cc
    go false e = refl
unseen u y z env none w sort.Memory k = refl
unseen u y z env none w sort.Table k = refl

-- below a quantifier that binds the name they agree
hidden : (f : Tree) (x y : List ℕ) (z : ℤ) (env env' : Values) → bytes_eq x y ≡ true → Alike x env env' → AgreeOn f (with_int env y z) (with_int env' y z)
hidden f x y z env env' e a w sort.Int k = go (bytes_eq w y) refl
  where
    go : (b : Bool) → bytes_eq w y ≡ b → Whole (cond b z (env.ints w)) ≡ Whole (cond b z (env'.ints w))
    go true q = refl
    go false q = ap Whole (a.ints w (other_too x y w e q))
hidden f x y z env env' e a w sort.Memory k = ap (λ m. Cells (m w)) a.memories
hidden f x y z env env' e a w sort.Table k = ap (λ t. Blocks (t w)) a.tables

-- ---- a term in the places of a name

module _ (world : World) (x : List ℕ) (u : Tree) (integer : (env : Values) → meaning world env u ≡ Whole (value world env u)) where
  -- env' gives the name the term's value, where the term may stand in its places
  abbrev Given : Bool → Values → Values → Type 0
  Given under env env' = under ≡ false → value world env u ≡ env'.ints x

  given_below : (under : Bool) (y : List ℕ) (z : ℤ) (env env' : Values) → bytes_eq x y ≡ false → Given under env env' → Given (under || is_free y sort.Int u) (with_int env y z) (with_int env' y z)
  given_below under y z env env' e g k =
      ap whole (meaning_of_free_names world u (with_int env y z) env (unseen u y z env (or_right under (is_free y sort.Int u) k))) ∙ g (or_left under (is_free y sort.Int u) k)
      ∙ sym (ap (λ b. cond b z (env'.ints x)) e)

  at_name : (under : Bool) (y : List ℕ) (ts us : Trees) (env env' : Values) → Alike x env env' → Given under env env' → not (under && bytes_eq x y) ≡ true
      → meaning world env (cond (bytes_eq x y) u (node (h.Var y sort.Int) us)) ≡ Whole (env'.ints y)
  at_name under y ts us env env' a g k = go (bytes_eq x y) refl k
    where
      open_at : (b : Bool) → not (b && true) ≡ true → b ≡ false
      open_at true q = absurd cc
      open_at false q = refl

      go : (b : Bool) → bytes_eq x y ≡ b → not (under && b) ≡ true → meaning world env (cond b u (node (h.Var y sort.Int) us)) ≡ Whole (env'.ints y)
      go true e q = integer env ∙ ap Whole (g (open_at under q)) ∙ ap (λ v. Whole (env'.ints v)) (same_name x y e)
      go false e q = ap Whole (a.ints y e)

  abbrev BodyAlike : List ℕ → Tree → Tree → Values → Values → Type 0
  BodyAlike y f g env env' = (z : ℤ) → meaning world (with_int env y z) f ≡ meaning world (with_int env' y z) g

  at_body : (under : Bool) (y : List ℕ) (f : Tree) (env env' : Values) → Alike x env env' → Given under env env' → bytes_eq x y || is_clear (under || is_free y sort.Int u) x u f ≡ true
      → ((under' : Bool) (e e' : Values) → Alike x e e' → Given under' e e' → is_clear under' x u f ≡ true → meaning world e (replace x u f) ≡ meaning world e' f)
      → BodyAlike y (cond (bytes_eq x y) f (replace x u f)) f env env'
  at_body under y f env env' a g k inside z = go (bytes_eq x y) refl k
    where
      go : (b : Bool) → bytes_eq x y ≡ b → b || is_clear (under || is_free y sort.Int u) x u f ≡ true → meaning world (with_int env y z) (cond b f (replace x u f)) ≡ meaning world (with_int env' y z) f
      go true e q = meaning_of_free_names world f (with_int env y z) (with_int env' y z) (hidden f x y z env env' e a)
      go false e q = inside (under || is_free y sort.Int u) (with_int env y z) (with_int env' y z) (below x y z env env' a) (given_below under y z env env' e g) q

  all_alike : (y : List ℕ) (low high f low' high' g : Tree) (env env' : Values) → meaning world env low ≡ meaning world env' low' → meaning world env high ≡ meaning world env' high' → BodyAlike y f g env env'
      → (meaning world env (node (h.Forall y) (more low (more high (more f stop)))) ≡ meaning world env' (node (h.Forall y) (more low' (more high' (more g stop)))))
      × (meaning world env (node (h.Exists y) (more low (more high (more f stop)))) ≡ meaning world env' (node (h.Exists y) (more low' (more high' (more g stop)))))
  all_alike y low high f low' high' g env env' a b c = (
    λ i. Truth (all_from (whole (a i)) (to_nat (whole (b i) -ℤ whole (a i))) (λ z. is_so (c z i))),
    λ i. Truth (some_from (whole (a i)) (to_nat (whole (b i) -ℤ whole (a i))) (λ z. is_so (c z i))),
  )

  abbrev Means : Tree → Type 0
  Means t = (under : Bool) (env env' : Values) → Alike x env env' → Given under env env' → is_clear under x u t ≡ true → meaning world env (replace x u t) ≡ meaning world env' t

  -- a quantifier over the name y
  range_means : (y : List ℕ) (low high f : Tree) → Means low → Means high → Means f → (under : Bool) (env env' : Values) → Alike x env env' → Given under env env'
      → is_clear under x u low && is_clear under x u high && (bytes_eq x y || is_clear (under || is_free y sort.Int u) x u f) ≡ true
      → (meaning world env (node (h.Forall y) (more (replace x u low) (more (replace x u high) (more (cond (bytes_eq x y) f (replace x u f)) stop)))) ≡ meaning world env' (node (h.Forall y) (more low (more high (more f stop)))))
      × (meaning world env (node (h.Exists y) (more (replace x u low) (more (replace x u high) (more (cond (bytes_eq x y) f (replace x u f)) stop)))) ≡ meaning world env' (node (h.Exists y) (more low (more high (more f stop)))))
  range_means y low high f l m n under env env' a g k =
      let bounds = and_left (is_clear under x u low && is_clear under x u high) (bytes_eq x y || is_clear (under || is_free y sort.Int u) x u f) k in
      all_alike y (replace x u low) (replace x u high) (cond (bytes_eq x y) f (replace x u f)) low high f env env'
      (l under env env' a g (and_left (is_clear under x u low) (is_clear under x u high) bounds))
      (m under env env' a g (and_right (is_clear under x u low) (is_clear under x u high) bounds))
      (at_body under y f env env' a g (and_right (is_clear under x u low && is_clear under x u high) (bytes_eq x y || is_clear (under || is_free y sort.Int u) x u f) k) (λ under' e e' a' g' k'. n under' e e' a' g' k'))

  mutual
    pub replace_means : (t : Tree) (under : Bool) (env env' : Values) → Alike x env env' → Given under env env' → is_clear under x u t ≡ true → meaning world env (replace x u t) ≡ meaning world env' t
    replace_means (node (h.Var y sort.Int) ts) under env env' a g k = at_name under y ts (replace_all x u ts) env env' a g (and_left (not (under && bytes_eq x y)) (are_clear under x u ts) k)
    replace_means (node (h.Var y sort.Memory) ts) under env env' a g k = ap (λ m. Cells (m y)) a.memories
    replace_means (node (h.Var y sort.Table) ts) under env env' a g k = ap (λ t. Blocks (t y)) a.tables
    replace_means (node (h.Num z) ts) under env env' a g k = refl
    replace_means (node (h.Term o) ts) under env env' a g k = ap (term_value world o) (replace_all_means ts under env env' a g k)
    replace_means (node h.Ite ts) under env env' a g k = ap (head_value world env h.Ite) (replace_all_means ts under env env' a g k)
    replace_means (node (h.App f) ts) under env env' a g k = ap (λ vs. Whole (world.apps f vs)) (replace_all_means ts under env env' a g k)
    replace_means (node (h.Form o) ts) under env env' a g k = ap (λ vs. Truth (form_truth world o vs)) (replace_all_means ts under env env' a g k)
    replace_means (node h.True ts) under env env' a g k = refl
    replace_means (node h.False ts) under env env' a g k = refl
    replace_means (node h.Not ts) under env env' a g k = ap (head_value world env h.Not) (replace_all_means ts under env env' a g k)
    replace_means (node h.And ts) under env env' a g k = ap (head_value world env h.And) (replace_all_means ts under env env' a g k)
    replace_means (node h.Or ts) under env env' a g k = ap (head_value world env h.Or) (replace_all_means ts under env env' a g k)
    replace_means (node h.Imp ts) under env env' a g k = ap (head_value world env h.Imp) (replace_all_means ts under env env' a g k)
    replace_means (node h.Iff ts) under env env' a g k = ap (head_value world env h.Iff) (replace_all_means ts under env env' a g k)
    replace_means (node (h.Forall y) (more low (more high (more f stop)))) under env env' a g k =
        (range_means y low high f (λ under' e e' a' g' k'. replace_means low under' e e' a' g' k') (λ under' e e' a' g' k'. replace_means high under' e e' a' g' k') (λ under' e e' a' g' k'. replace_means f under' e e' a' g' k') under env env' a g k).0
    replace_means (node (h.Exists y) (more low (more high (more f stop)))) under env env' a g k =
        (range_means y low high f (λ under' e e' a' g' k'. replace_means low under' e e' a' g' k') (λ under' e e' a' g' k'. replace_means high under' e e' a' g' k') (λ under' e e' a' g' k'. replace_means f under' e e' a' g' k') under env env' a g k).1
    replace_means (node (h.Forall y) ts) under env env' a g k = absurd cc
    replace_means (node (h.Exists y) ts) under env env' a g k = absurd cc

    replace_all_means : (ts : Trees) (under : Bool) (env env' : Values) → Alike x env env' → Given under env env' → are_clear under x u ts ≡ true → meanings world env (replace_all x u ts) ≡ meanings world env' ts
    replace_all_means stop under env env' a g k = refl
    replace_all_means (more t ts) under env env' a g k =
        let first = replace_means t under env env' a g (and_left (is_clear under x u t) (are_clear under x u ts) k) in
        let rest = replace_all_means ts under env env' a g (and_right (is_clear under x u t) (are_clear under x u ts) k) in
        λ i. first i ∷ rest i

  -- the place of the name
  pub replaced_means : (t : Tree) (env : Values) → may_replace x u t ≡ true → meaning world env (replace x u t) ≡ meaning world (with_int env x (value world env u)) t
  replaced_means t env k =
      let v = value world env u in
      replace_means t false env (with_int env x v) (record {
        ints = λ y e. sym (ap (λ b. cond b v (env.ints y)) (other_name x y e));
        memories = refl;
        tables = refl;
      }) (λ q. sym (ap (λ b. cond b v (env.ints x)) (name_itself x))) k
