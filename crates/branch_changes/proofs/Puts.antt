-- A term in the places of a variable that has its value leaves formulas as true as they were, and so do normal forms.
use Rattle.std.proofs.Common.{◌≡◌, ℕ, Bool, true, false, ◌&&◌, cond, List, [], ◌∷◌, map, bytes_eq, refl, sym, ◌∙◌, ap, subst}
use Rattle.std.specs.Prelude.{Option, Some, None}
use Rattle.std.specs.List.{list_all}
use Rattle.qed_terms.specs.declared.head.Sort.{Sort}
use Rattle.qed_terms.specs.declared.head.Sort.TheVariants as sort
use Rattle.qed_terms.specs.Free.{AgreeOn}
use Rattle.qed_terms.specs.Meaning.{World, Values, Whole, Cells, whole, memory, is_so, meaning, truth, value, with_int}
use Rattle.qed_terms.specs.Setting.{Setting}
use Rattle.qed_terms.specs.Tree.{Tree}
use Rattle.qed_rules.specs.Rules.{step}
use Rattle.qed_substitution.specs.Substitution.{replace, may_replace}
use Rattle.qed_memories.specs.Alike.{RespectsAlike}
use Rattle.qed_simplify.specs.Normal.{Normal, Suits}
use Rattle.branches.specs.Branch.{Branch, AreTrue}
use Rattle.branch_changes.specs.MemoryNames.{with_memory, may_replace_memory}
use Rattle.branch_changes.specs.Givens.{Given, put_at, may_put_at, put, may_put, can_put, first_put}
use Rattle.branch_changes.specs.Changes.{EachTo}
use Rattle.branch_changes.proofs.Below.{Below}
use Rattle.branch_changes.proofs.Truths.{and_left, and_right, same_name}
use Rattle.branch_changes.proofs.MemoryPuts.{replaced_memory}
use Rattle.branch_changes.proofs.SameMaps.{alike_with}
use Rattle.branch_changes.proofs.Equalities.{SortMeans, HasAt, Has, AllHave}

-- ---- a name with the value that it has

int_as_before : (f : Tree) (x : List ℕ) (env : Values) → AgreeOn f (with_int env x (env.ints x)) env
int_as_before f x env y sort.Int k = go (bytes_eq y x) refl
  where
    go : (b : Bool) → bytes_eq y x ≡ b → Whole (cond b (env.ints x) (env.ints y)) ≡ Whole (env.ints y)
    go true e = ap (λ v. Whole (env.ints v)) (sym (same_name y x e))
    go false e = refl
int_as_before f x env y sort.Memory k = refl
int_as_before f x env y sort.Table k = refl

memory_as_before : (f : Tree) (x : List ℕ) (env : Values) → AgreeOn f (with_memory env x (env.memories x)) env
memory_as_before f x env y sort.Memory k = go (bytes_eq y x) refl
  where
    go : (b : Bool) → bytes_eq y x ≡ b → Cells (cond b (env.memories x) (env.memories y)) ≡ Cells (env.memories y)
    go true e = ap (λ v. Cells (env.memories v)) (sym (same_name y x e))
    go false e = refl
memory_as_before f x env y sort.Int k = refl
memory_as_before f x env y sort.Table k = refl

module _ (below : Below) (w : World) (respects : RespectsAlike w) (env : Values) where
  int_put : (x : List ℕ) (u f : Tree) → SortMeans w sort.Int u → HasAt w env sort.Int x u → may_replace x u f ≡ true → truth w env (replace x u f) ≡ truth w env f
  int_put x u f is has may =
      ap is_so (below.replacing w x u f is may env) ∙ ap (λ z. truth w (with_int env x z) f) (ap whole has) ∙ ap is_so (below.free_names w f (with_int env x (env.ints x)) env (int_as_before f x env))

  memory_put : (x : List ℕ) (u f : Tree) → SortMeans w sort.Memory u → HasAt w env sort.Memory x u → may_replace_memory x u f ≡ true → truth w env (put_at sort.Memory x u f) ≡ truth w env f
  memory_put x u f is has may =
      let m = memory (meaning w env u) in
      let a = alike_with below.heads w respects x (env.memories x) m has f env in
      ap is_so (replaced_memory below.free_names w x u f is may env) ∙ sym (below.truths _ _ a) ∙ ap is_so (below.free_names w f (with_memory env x (env.memories x)) env (memory_as_before f x env))

  put_at_means : (s : Sort) (x : List ℕ) (u f : Tree) → SortMeans w s u → HasAt w env s x u → may_put_at s x u f ≡ true → truth w env (put_at s x u f) ≡ truth w env f
  put_at_means sort.Int x u f is has may = int_put x u f is has may
  put_at_means sort.Memory x u f is has may = memory_put x u f is has may
  put_at_means sort.Table x u f is has may = refl

  pub put_all_true : (g : Given) → Has w env g → (fs : List Tree) → list_all (may_put g) fs ≡ true → AreTrue w env fs → AreTrue w env (map (put g) fs)
  put_all_true g has [] may are = tt
  put_all_true g has (f ∷ fs) may are = (
    put_at_means (g.sort) (g.name) (g.term) f has.0 has.1 (and_left (may_put g f) (list_all (may_put g) fs) may) ∙ are.0,
    put_all_true g has fs (and_right (may_put g f) (list_all (may_put g) fs) may) are.1,
  )

-- the variable that is chosen has the value of its term, and can be replaced
pub chosen_has : (w : World) (env : Values) (b : Branch) (gs : List Given) (g : Given) → AllHave w env gs → first_put b gs ≡ Some g → Has w env g × (can_put b g ≡ true)
chosen_has w env b [] g all e = absurd cc
chosen_has w env b (k ∷ gs) g all e = go (can_put b k) refl e (λ f. chosen_has w env b gs g all.1 f)
  where
    go : (t : Bool) → can_put b k ≡ t → cond t (Some k) (first_put b gs) ≡ Some g → (first_put b gs ≡ Some g → Has w env g × (can_put b g ≡ true)) → Has w env g × (can_put b g ≡ true)
    go true c f rest = let same : k ≡ g = cc in (subst (Has w env) same all.0, ap (can_put b) (sym same) ∙ c)
    go false c f rest = rest f

-- ---- normal forms

module _ (below : Below) (s : Setting) (w : World) (suits : Suits s w) (env : Values) where
  pub normal_true : (f n : Tree) → Normal (step s) f n → truth w env f ≡ true → truth w env n ≡ true
  normal_true f n normal e = below.truths _ _ (below.normal_means s f n normal w suits env) ∙ e

  pub normals_true : (fs ns : List Tree) → EachTo (Normal (step s)) fs ns → AreTrue w env fs → AreTrue w env ns
  normals_true [] [] each are = tt
  normals_true [] (n ∷ ns) each are = absurd each
  normals_true (f ∷ fs) [] each are = absurd each
  normals_true (f ∷ fs) (n ∷ ns) each are = (normal_true f n each.0 are.0, normals_true fs ns each.1 are.1)
