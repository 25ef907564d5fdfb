-- A `forall` by its parts, and at a term, from store to store.
use Rattle.std.proofs.Common.{◌≡◌, ℕ, Bool, true, false, cond, ℤ, List, [], ◌∷◌, length, refl, sym, ◌∙◌, ap}
use Rattle.std.specs.Prelude.{Option, Some, None, option_map}
use Rattle.qed_terms.specs.declared.head.Head.{Head}
use Rattle.qed_terms.specs.declared.head.Head.TheVariants as h
use Rattle.qed_terms.specs.declared.head.Sort.{Sort}
use Rattle.qed_terms.specs.declared.head.Sort.TheVariants as sort
use Rattle.qed_terms.specs.Nodes.{kids_of}
use Rattle.qed_terms.specs.Store.{KeepsOlder}
use Rattle.qed_terms.specs.Tree.{Tree, node, Trees, stop, more, list_of, head_of}
use Rattle.qed_linear.specs.Linear.{Lin, to_lin, of_lin}
use Rattle.qed_linear.specs.View.{lin_of}
use Rattle.qed_substitution.specs.Substitution.{may_replace}
use Rattle.branch_changes.specs.Givens.{may_put_at}
use Rattle.instance_rows.specs.Triggers.{Quantified, quantified_at, at_term, instance_at, solved, term_where}
use Rattle.forall_instances.specs.declared.foralls.IdForall.{IdForall}
use Rattle.forall_instances.specs.Foralls.{forall_of, ForallHeld, forall_name}
use Rattle.forall_instances.specs.declared.forms.Beside.{Beside}
use Rattle.forall_instances.specs.Forms.{IsApart, solved_by, term_by}

-- ---- the term for which a name makes one form another

solved_is : (may : ℤ → Bool) (x : List ℕ) (f g : Lin) (b : Beside) → IsApart x f b → solved_by (may b.times) b.times (lin_of b.others) g ≡ solved may x f g
solved_is may x f g b a = λ i. solved_by (may (a.times i)) (a.times i) (a.others i) g

-- of two terms by their forms
pub term_is : (may : ℤ → Bool) (x : List ℕ) (t u : Tree) (f g : Lin) (b : Beside) (o : Option Tree) → f ≡ to_lin t → g ≡ to_lin u → IsApart x f b → o ≡ term_by may b g → o ≡ term_where may x t u
term_is may x t u f g b o e k a w = w ∙ ap (option_map of_lin) (solved_is may x f g b a) ∙ (λ i. option_map of_lin (solved may x (e i) (k i)))

-- ---- the parts of a `forall`

pub no_forall : (t : Tree) → forall_name (head_of t) ≡ None → None ≡ quantified_at t
no_forall (node (h.Forall x) ts) e = absurd cc
no_forall (node (h.Num z) ts) e = refl
no_forall (node (h.Var y r) ts) e = refl
no_forall (node (h.Term o) ts) e = refl
no_forall (node h.Ite ts) e = refl
no_forall (node (h.App f) ts) e = refl
no_forall (node (h.Form o) ts) e = refl
no_forall (node h.True ts) e = refl
no_forall (node h.False ts) e = refl
no_forall (node h.Not ts) e = refl
no_forall (node h.And ts) e = refl
no_forall (node h.Or ts) e = refl
no_forall (node h.Imp ts) e = refl
no_forall (node h.Iff ts) e = refl
no_forall (node (h.Exists x) ts) e = refl

name_is : (head : Head) (x : List ℕ) → forall_name head ≡ Some x → head ≡ h.Forall x
name_is (h.Forall y) x e = cc
name_is (h.Num z) x e = absurd cc
name_is (h.Var y r) x e = absurd cc
name_is (h.Term o) x e = absurd cc
name_is h.Ite x e = absurd cc
name_is (h.App f) x e = absurd cc
name_is (h.Form o) x e = absurd cc
name_is h.True x e = absurd cc
name_is h.False x e = absurd cc
name_is h.Not x e = absurd cc
name_is h.And x e = absurd cc
name_is h.Or x e = absurd cc
name_is h.Imp x e = absurd cc
name_is h.Iff x e = absurd cc
name_is (h.Exists y) x e = absurd cc

not_three : (x : List ℕ) (ts : Trees) → (length (list_of ts) ≡ 3 → ⊥) → None ≡ quantified_at (node (h.Forall x) ts)
not_three x stop n = refl
not_three x (more a stop) n = refl
not_three x (more a (more b stop)) n = refl
not_three x (more a (more b (more c stop))) n = absurd (n refl)
not_three x (more a (more b (more c (more d ts)))) n = refl

three_of : (x : List ℕ) (ts : Trees) (a b c : Tree) → a ∷ b ∷ c ∷ [] ≡ list_of ts → Some (record { name = x; low = a; high = b; body = c }) ≡ quantified_at (node (h.Forall x) ts)
three_of x stop a b c e = absurd cc
three_of x (more t stop) a b c e = absurd cc
three_of x (more t (more u stop)) a b c e = absurd cc
three_of x (more t (more u (more v stop))) a b c e =
    let p : a ≡ t = cc in let q : b ≡ u = cc in let r : c ≡ v = cc in λ i. Some (record { name = x; low = p i; high = q i; body = r i })
three_of x (more t (more u (more v (more w ts)))) a b c e = absurd cc

pub other_kids : (t : Tree) (x : List ℕ) → forall_name (head_of t) ≡ Some x → (length (kids_of t) ≡ 3 → ⊥) → None ≡ quantified_at t
other_kids (node head ts) x e n = not_three x ts n ∙ ap (λ z. quantified_at (node z ts)) (sym (name_is head x e))

pub three_kids : (t : Tree) (x : List ℕ) (a b c : Tree) → forall_name (head_of t) ≡ Some x → a ∷ b ∷ c ∷ [] ≡ kids_of t → Some (record { name = x; low = a; high = b; body = c }) ≡ quantified_at t
three_kids (node head ts) x a b c e k = three_of x ts a b c k ∙ ap (λ z. quantified_at (node z ts)) (sym (name_is head x e))

-- ---- in a later store

module _ {Id : Type 0} (held held' : Id → Type 0) (tree tree' : Id → Tree) (keeps : KeepsOlder held held' tree tree') (q : IdForall Id) (there : ForallHeld held q) where
  pub same_forall : forall_of tree' q ≡ forall_of tree q
  same_forall = λ i. record { name = q.name; low = keeps.same_tree q.low there.0 i; high = keeps.same_tree q.high there.1 i; body = keeps.same_tree q.body there.2 i }

  pub forall_held : ForallHeld held' q
  forall_held = (keeps.still_held q.low there.0, keeps.still_held q.high there.1, keeps.still_held q.body there.2)

-- ---- at a term

pub may_is : (s : Sort) (x y : List ℕ) (u t : Tree) → s ≡ sort.Int → x ≡ y → may_put_at s x u t ≡ may_replace y u t
may_is s x y u t e k = λ i. may_put_at (e i) (k i) u t

pub not_there : (q : Quantified) (t : Tree) → may_replace q.name t q.body ≡ false → None ≡ instance_at q (Some t)
not_there q t e = sym (ap (λ b. cond b (Some (at_term q t)) None) e)

pub is_there : (q : Quantified) (t made : Tree) → may_replace q.name t q.body ≡ true → made ≡ at_term q t → Some made ≡ instance_at q (Some t)
is_there q t made e k = ap Some k ∙ sym (ap (λ b. cond b (Some (at_term q t)) None) e)
