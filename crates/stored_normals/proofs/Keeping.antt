-- Normal forms that are kept: what was found before is found later, and one more is as the others.
use Rattle.std.proofs.Common.{◌≡◌, ◌⊎◌, Bool, true, false, cond, List, [], refl, sym, ◌∙◌, ap, subst, inl, inr}
use Rattle.std.specs.Prelude.{Some}
use Rattle.qed_terms.specs.declared.setting.Setting as memory
use Rattle.qed_terms.specs.Setting.{Setting}
use Rattle.qed_terms.specs.Store.{KeepsOlder}
use Rattle.qed_terms.specs.Tree.{Tree}
use Rattle.qed_terms.specs.View.{view_setting}
use Rattle.qed_rules.specs.Rules.{step}
use Rattle.qed_simplify.specs.Normal.{Normal}
use Rattle.qed_simplify.proofs.Derived.{settled}
use Rattle.stored_normals.specs.Kept.{IsExact, found_in, AreNormals}

some_is : {A : Type 0} {a b : A} → Some a ≡ Some b → a ≡ b
some_is e = cc

module _ {Id : Type 0} (eq : Id → Id → Bool) (s : Setting) where
  pub none_kept : (held : Id → Type 0) (tree : Id → Tree) (entries : List (Id × Id)) → entries ≡ [] → IsExact eq → AreNormals eq held tree s entries
  none_kept held tree entries e exact = record {
    exact = exact;
    asked = λ id made f. absurd (nothing id made f);
    made = λ id made f. absurd (nothing id made f);
    normal = λ id made f. absurd (nothing id made f);
  }
    where
      nothing : (id made : Id) → found_in eq entries id ≡ Some made → ⊥
      nothing id made f = let n = ap (λ es. found_in eq es id) (sym e) ∙ f in cc

  pub later_kept : (held held' : Id → Type 0) (tree tree' : Id → Tree) (entries : List (Id × Id)) → KeepsOlder held held' tree tree' → AreNormals eq held tree s entries → AreNormals eq held' tree' s entries
  later_kept held held' tree tree' entries k n = record {
    exact = n.exact;
    asked = λ id made e. k.still_held id (n.asked id made e);
    made = λ id made e. k.still_held made (n.made id made e);
    normal = λ id made e.
        subst (λ t. Normal (step s) t (tree' made)) (sym (k.same_tree id (n.asked id made e)))
        (subst (λ t. Normal (step s) (tree id) t) (sym (k.same_tree made (n.made id made e))) (n.normal id made e));
  }

  module _ (held : Id → Type 0) (tree : Id → Tree) where
    -- one more
    pub more_kept : (entries entries' : List (Id × Id)) (id made : Id) → held id → held made → Normal (step s) (tree id) (tree made)
        → ((other : Id) → found_in eq entries' other ≡ cond (eq id other) (Some made) (found_in eq entries other))
        → AreNormals eq held tree s entries → AreNormals eq held tree s entries'
    more_kept entries entries' id made h k n now all = record {
      exact = all.exact;
      asked = λ other found e. one (λ i m. held i) other found h (all.asked other found) (sym (now other) ∙ e);
      made = λ other found e. one (λ i m. held m) other found k (all.made other found) (sym (now other) ∙ e);
      normal = λ other found e. one (λ i m. Normal (step s) (tree i) (tree m)) other found n (all.normal other found) (sym (now other) ∙ e);
    }
      where
        one : (P : Id → Id → Type 0) (other found : Id) → P id made → (found_in eq entries other ≡ Some found → P other found) → cond (eq id other) (Some made) (found_in eq entries other) ≡ Some found → P other found
        one P other found p old e = go (eq id other) refl e
          where
            go : (b : Bool) → eq id other ≡ b → cond b (Some made) (found_in eq entries other) ≡ Some found → P other found
            go true same f = subst (λ i. P i found) (all.exact id other same) (subst (λ m. P id m) (some_is f) p)
            go false same f = old f

-- ---- in the code's words

module _ {Id : Type 0} (eq : Id → Id → Bool) (held : Id → Type 0) (tree : Id → Tree) where
  -- in another setting all was forgotten
  pub settled_kept : (s s' w : memory.Setting) (entries entries' : List (Id × Id)) → s' ≡ w → (entries' ≡ []) ⊎ ((entries' ≡ entries) × (s' ≡ s))
      → AreNormals eq held tree (view_setting s) entries → AreNormals eq held tree (view_setting w) entries'
  settled_kept s s' w entries entries' e (inl none) all = none_kept eq (view_setting w) held tree entries' none all.exact
  settled_kept s s' w entries entries' e (inr p) all =
      subst (λ z. AreNormals eq held tree (view_setting z) entries') (sym p.1 ∙ e) (subst (λ z. AreNormals eq held tree (view_setting s) z) (sym p.0) all)

  pub settled_here : (s s' w : memory.Setting) (entries entries' : List (Id × Id)) → s' ≡ w → (entries' ≡ []) ⊎ ((entries' ≡ entries) × (s' ≡ s))
      → AreNormals eq held tree (view_setting s) entries → AreNormals eq held tree (view_setting s') entries'
  settled_here s s' w entries entries' e t all = subst (λ z. AreNormals eq held tree (view_setting z) entries') (sym e) (settled_kept s s' w entries entries' e t all)

-- a tree and its normal form are noted, and the normal form as its own
pub noted_kept : {Id : Type 0} (eq : Id → Id → Bool) (s : Setting) (held held' : Id → Type 0) (tree tree' : Id → Tree) (entries entries' entries'' : List (Id × Id)) (id made : Id)
    → KeepsOlder held held' tree tree' → held id → held' made → Normal (step s) (tree id) (tree' made)
    → ((other : Id) → found_in eq entries' other ≡ cond (eq id other) (Some made) (found_in eq entries other))
    → ((other : Id) → found_in eq entries'' other ≡ cond (eq made other) (Some made) (found_in eq entries' other))
    → AreNormals eq held tree s entries → AreNormals eq held' tree' s entries''
noted_kept eq s held held' tree tree' entries entries' entries'' id made k h m n first second all =
    let normal = subst (λ t. Normal (step s) t (tree' made)) (sym (k.same_tree id h)) n in
    more_kept eq s held' tree' entries' entries'' made made m m (settled (step s) normal) second
    (more_kept eq s held' tree' entries entries' id made (k.still_held id h) m normal first (later_kept eq s held held' tree tree' entries k all))
