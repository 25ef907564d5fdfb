-- A memory in the place of another that holds the same.
use Rattle.std.proofs.Common.{◌≡◌, ◌⊎◌, ℕ, ℤ, Bool, true, false, ◌&&◌, cond, List, [], ◌∷◌, ◌++◌, bytes_eq, refl, sym, ◌∙◌, ap, subst, inl, inr}
use Rattle.std.specs.Prelude.{pos}
use Rattle.std.specs.Ordering.{int_eq}
use Rattle.std.specs.List.{list_all}
use Rattle.std.proofs.lemmas.List.Folds.{list_all-append}
use Rattle.std.proofs.lemmas.Bool.Decides.{Decides-int_eq}
use Rattle.qed_terms.specs.declared.head.Sort.TheVariants as sort
use Rattle.qed_terms.specs.declared.head.Head.{Head}
use Rattle.qed_terms.specs.declared.head.Head.TheVariants as h
use Rattle.qed_terms.specs.Memory.{Memory, Entry, is_at, load, agree_at, same_memory}
use Rattle.qed_terms.specs.Meaning.{World, Values, Value, Cells, meaning, meanings, head_meaning}
use Rattle.qed_terms.specs.Tree.{Tree, node, Trees, stop, more}
use Rattle.qed_memories.specs.Alike.{SameMap, Alike, AllAlike, RespectsAlike, HeadsKeepAlike}
use Rattle.branch_changes.specs.MemoryNames.{with_memory}
use Rattle.branch_changes.proofs.Truths.{and_left, and_right}

-- ---- what is the same map holds the same at each address

module _ (m n : Memory) (b o : ℤ) where
  abbrev Agree : Type 0
  Agree = load m b o ≡ load n b o

  at_entry : (e : Entry) → is_at b o e ≡ true → agree_at m n e ≡ true → Agree
  at_entry e k a =
      let block = (Decides-int_eq e.block b).0 (and_left (int_eq e.block b) (int_eq e.offset o) k) in
      let offset = (Decides-int_eq e.offset o).0 (and_right (int_eq e.block b) (int_eq e.offset o) k) in
      let same = (Decides-int_eq (load m e.block e.offset) (load n e.block e.offset)).0 a in
      (λ i. load m (sym block i) (sym offset i)) ∙ same ∙ (λ i. load n (block i) (offset i))

  -- nothing is held there, or the two agree
  nothing_or : (es : Memory) → list_all (agree_at m n) es ≡ true → (load es b o ≡ pos 0) ⊎ Agree
  unfolding load
  nothing_or [] a = inl refl
  nothing_or (e ∷ es) a = go (is_at b o e) refl (nothing_or es (and_right (agree_at m n e) (list_all (agree_at m n) es) a))
    where
      go : (t : Bool) → is_at b o e ≡ t → (load es b o ≡ pos 0) ⊎ Agree → (cond t e.value (load es b o) ≡ pos 0) ⊎ Agree
      go true k rest = inr (at_entry e k (and_left (agree_at m n e) (list_all (agree_at m n) es) a))
      go false k rest = rest

  both : (load m b o ≡ pos 0) ⊎ Agree → (load n b o ≡ pos 0) ⊎ Agree → Agree
  both (inr a) q = a
  both (inl k) (inr a) = a
  both (inl k) (inl l) = k ∙ sym l

pub same_map : (m n : Memory) → same_memory m n ≡ true → SameMap m n
unfolding same_memory
same_map m n e b o =
    let k = sym (list_all-append (agree_at m n) m n) ∙ e in
    both m n b o (nothing_or m n b o m (and_left _ _ k)) (nothing_or m n b o n (and_right _ _ k))

-- ---- a tree means alike with the one or the other in the place of a name

abbrev is_variable : Head → Bool
is_variable (h.Var y s) = true
is_variable head = false

module _ (heads : HeadsKeepAlike) (w : World) (respects : RespectsAlike w) (x : List ℕ) (a b : Memory) (same : SameMap a b) where
  -- what a head makes of kids, with the memory for the name
  head_with : (c : Memory) (head : Head) (ts : Trees) → is_variable head ≡ false → (env : Values)
      → head_meaning w head (λ e. meanings w e ts) (with_memory env x c) ≡ head_meaning w head (λ e. meanings w (with_memory e x c) ts) env
  head_with c (h.Var y s) ts plain env = absurd cc
  head_with c (h.Num z) ts plain env = refl
  head_with c (h.Term o) ts plain env = refl
  head_with c h.Ite ts plain env = refl
  head_with c (h.App f) ts plain env = refl
  head_with c (h.Form o) ts plain env = refl
  head_with c h.True ts plain env = refl
  head_with c h.False ts plain env = refl
  head_with c h.Not ts plain env = refl
  head_with c h.And ts plain env = refl
  head_with c h.Or ts plain env = refl
  head_with c h.Imp ts plain env = refl
  head_with c h.Iff ts plain env = refl
  head_with c (h.Forall y) ts plain env = refl
  head_with c (h.Exists y) ts plain env = refl

  at_variable : (y : List ℕ) (env : Values) → SameMap (cond (bytes_eq y x) a (env.memories y)) (cond (bytes_eq y x) b (env.memories y))
  at_variable y env = go (bytes_eq y x)
    where
      go : (t : Bool) → SameMap (cond t a (env.memories y)) (cond t b (env.memories y))
      go true = same
      go false = λ p q. refl

  abbrev With : Memory → Values → Tree → Value
  With c env t = meaning w (with_memory env x c) t

  by_head : (head : Head) (ts : Trees) → is_variable head ≡ false → ((env : Values) → AllAlike (meanings w (with_memory env x a) ts) (meanings w (with_memory env x b) ts)) → (env : Values)
      → Alike (With a env (node head ts)) (With b env (node head ts))
  by_head head ts plain kids env =
      subst (λ v. Alike v (With b env (node head ts))) (sym (head_with a head ts plain env))
      (subst (λ v. Alike (head_meaning w head (λ e. meanings w (with_memory e x a) ts) env) v) (sym (head_with b head ts plain env))
      (heads w respects head (λ e. meanings w (with_memory e x a) ts) (λ e. meanings w (with_memory e x b) ts) kids env))

  mutual
    pub alike_with : (t : Tree) (env : Values) → Alike (With a env t) (With b env t)
    alike_with (node (h.Var y sort.Int) ts) env = refl
    alike_with (node (h.Var y sort.Memory) ts) env = at_variable y env
    alike_with (node (h.Var y sort.Table) ts) env = refl
    alike_with (node (h.Num z) ts) env = by_head (h.Num z) ts refl (λ e. all_alike_with ts e) env
    alike_with (node (h.Term o) ts) env = by_head (h.Term o) ts refl (λ e. all_alike_with ts e) env
    alike_with (node h.Ite ts) env = by_head h.Ite ts refl (λ e. all_alike_with ts e) env
    alike_with (node (h.App f) ts) env = by_head (h.App f) ts refl (λ e. all_alike_with ts e) env
    alike_with (node (h.Form o) ts) env = by_head (h.Form o) ts refl (λ e. all_alike_with ts e) env
    alike_with (node h.True ts) env = by_head h.True ts refl (λ e. all_alike_with ts e) env
    alike_with (node h.False ts) env = by_head h.False ts refl (λ e. all_alike_with ts e) env
    alike_with (node h.Not ts) env = by_head h.Not ts refl (λ e. all_alike_with ts e) env
    alike_with (node h.And ts) env = by_head h.And ts refl (λ e. all_alike_with ts e) env
    alike_with (node h.Or ts) env = by_head h.Or ts refl (λ e. all_alike_with ts e) env
    alike_with (node h.Imp ts) env = by_head h.Imp ts refl (λ e. all_alike_with ts e) env
    alike_with (node h.Iff ts) env = by_head h.Iff ts refl (λ e. all_alike_with ts e) env
    alike_with (node (h.Forall y) ts) env = by_head (h.Forall y) ts refl (λ e. all_alike_with ts e) env
    alike_with (node (h.Exists y) ts) env = by_head (h.Exists y) ts refl (λ e. all_alike_with ts e) env

    all_alike_with : (ts : Trees) (env : Values) → AllAlike (meanings w (with_memory env x a) ts) (meanings w (with_memory env x b) ts)
    all_alike_with stop env = tt
    all_alike_with (more t ts) env = (alike_with t env, all_alike_with ts env)
