-- Where a name isn't free nothing changes.
use Rattle.std.proofs.Common.{◌≡◌, ℕ, Bool, true, false, not, ◌&&◌, ◌||◌, cond, List, bytes_eq, refl, sym, ◌∙◌, ap}
use Rattle.qed_terms.specs.declared.head.Sort.{Sort}
use Rattle.qed_terms.specs.declared.head.Sort.TheVariants as sort
use Rattle.qed_terms.specs.declared.head.Head.TheVariants as h
use Rattle.qed_terms.specs.Free.{is_free, free_among}
use Rattle.qed_terms.specs.Tree.{Tree, node, Trees, stop, more, three}
use Rattle.qed_substitution.specs.Substitution.{replace, replace_all}
use Rattle.branch_changes.specs.MemoryNames.{replace_memory, replace_memories}
use Rattle.branch_changes.specs.Givens.{put_at}
use Rattle.stored_puts.proofs.Tests.{or_left, or_right, and_true, and_false}

module _ (x : List ℕ) (u : Tree) where
  -- a name that isn't this one
  int_other : (y : List ℕ) (ts us : Trees) → us ≡ ts → (bytes_eq x y && true) || free_among false x sort.Int ts ≡ false → cond (bytes_eq x y) u (node (h.Var y sort.Int) us) ≡ node (h.Var y sort.Int) ts
  int_other y ts us same e = go (bytes_eq x y) (sym (and_true (bytes_eq x y)) ∙ or_left (bytes_eq x y && true) _ e)
    where
      go : (b : Bool) → b ≡ false → cond b u (node (h.Var y sort.Int) us) ≡ node (h.Var y sort.Int) ts
      go true k = absurd cc
      go false k = ap (node (h.Var y sort.Int)) same

  memory_other : (y : List ℕ) (ts us : Trees) → us ≡ ts → (bytes_eq x y && true) || free_among false x sort.Memory ts ≡ false → cond (bytes_eq x y) u (node (h.Var y sort.Memory) us) ≡ node (h.Var y sort.Memory) ts
  memory_other y ts us same e = go (bytes_eq x y) (sym (and_true (bytes_eq x y)) ∙ or_left (bytes_eq x y && true) _ e)
    where
      go : (b : Bool) → b ≡ false → cond b u (node (h.Var y sort.Memory) us) ≡ node (h.Var y sort.Memory) ts
      go true k = absurd cc
      go false k = ap (node (h.Var y sort.Memory)) same

  -- of four that none is so each isn't
  first : (p q r s : Bool) → ((p || q) || r) || s ≡ false → p ≡ false
  first p q r s e = or_left p q (or_left (p || q) r (or_left ((p || q) || r) s e))

  second : (p q r s : Bool) → ((p || q) || r) || s ≡ false → q ≡ false
  second p q r s e = or_right p q (or_left (p || q) r (or_left ((p || q) || r) s e))

  third : (p q r s : Bool) → ((p || q) || r) || s ≡ false → r ≡ false
  third p q r s e = or_right (p || q) r (or_left ((p || q) || r) s e)

  fourth : (p q r s : Bool) → ((p || q) || r) || s ≡ false → s ≡ false
  fourth p q r s e = or_right ((p || q) || r) s e

  -- a body, where the name may be bound
  body_same : (bound free : Bool) (t t' : Tree) → (free ≡ false → t' ≡ t) → not bound && free ≡ false → cond bound t t' ≡ t
  body_same true free t t' f e = refl
  body_same false free t t' f e = f e

  mutual
    int_same : (t : Tree) → is_free x sort.Int t ≡ false → replace x u t ≡ t
    int_same (node (h.Var y sort.Int) ts) e = int_other y ts (replace_all x u ts) (ints_same ts (or_right (bytes_eq x y && true) _ e)) e
    int_same (node (h.Var y sort.Memory) ts) e = ap (node (h.Var y sort.Memory)) (ints_same ts (or_right (bytes_eq x y && false) _ e))
    int_same (node (h.Var y sort.Table) ts) e = ap (node (h.Var y sort.Table)) (ints_same ts (or_right (bytes_eq x y && false) _ e))
    int_same (node (h.Forall y) (more a (more b (more c stop)))) e =
        let p = is_free x sort.Int a in let q = is_free x sort.Int b in let r = not (bytes_eq x y && true) && is_free x sort.Int c in
        λ i. node (h.Forall y) (three (int_same a (first p q r false e) i) (int_same b (second p q r false e) i)
        (body_same (bytes_eq x y) (is_free x sort.Int c) c (replace x u c) (λ k. int_same c k) (ap (λ z. not z && is_free x sort.Int c) (sym (and_true (bytes_eq x y))) ∙ third p q r false e) i))
    int_same (node (h.Forall y) ts) e = refl
    int_same (node (h.Exists y) (more a (more b (more c stop)))) e =
        let p = is_free x sort.Int a in let q = is_free x sort.Int b in let r = not (bytes_eq x y && true) && is_free x sort.Int c in
        λ i. node (h.Exists y) (three (int_same a (first p q r false e) i) (int_same b (second p q r false e) i)
        (body_same (bytes_eq x y) (is_free x sort.Int c) c (replace x u c) (λ k. int_same c k) (ap (λ z. not z && is_free x sort.Int c) (sym (and_true (bytes_eq x y))) ∙ third p q r false e) i))
    int_same (node (h.Exists y) ts) e = refl
    int_same (node head ts) e = ap (node head) (ints_same ts e)

    ints_same : (ts : Trees) → free_among false x sort.Int ts ≡ false → replace_all x u ts ≡ ts
    ints_same stop e = refl
    ints_same (more t stop) e = ap (λ z. more z stop) (int_same t e)
    ints_same (more t (more v stop)) e = λ i. more (int_same t (or_left (is_free x sort.Int t) _ e) i) (more (int_same v (or_right (is_free x sort.Int t) _ e) i) stop)
    ints_same (more t (more v (more w ts))) e =
        let p = is_free x sort.Int t in let q = is_free x sort.Int v in let r = is_free x sort.Int w in let s = free_among false x sort.Int ts in
        λ i. more (int_same t (first p q r s e) i) (more (int_same v (second p q r s e) i) (more (int_same w (third p q r s e) i) (ints_same ts (fourth p q r s e) i)))

  mutual
    memory_same : (t : Tree) → is_free x sort.Memory t ≡ false → replace_memory x u t ≡ t
    memory_same (node (h.Var y sort.Memory) ts) e = memory_other y ts (replace_memories x u ts) (memories_same ts (or_right (bytes_eq x y && true) _ e)) e
    memory_same (node (h.Var y sort.Int) ts) e = ap (node (h.Var y sort.Int)) (memories_same ts (or_right (bytes_eq x y && false) _ e))
    memory_same (node (h.Var y sort.Table) ts) e = ap (node (h.Var y sort.Table)) (memories_same ts (or_right (bytes_eq x y && false) _ e))
    memory_same (node (h.Forall y) ts) e = ap (node (h.Forall y)) (memories_same ts (ap (λ b. free_among b x sort.Memory ts) (sym (and_false (bytes_eq x y))) ∙ e))
    memory_same (node (h.Exists y) ts) e = ap (node (h.Exists y)) (memories_same ts (ap (λ b. free_among b x sort.Memory ts) (sym (and_false (bytes_eq x y))) ∙ e))
    memory_same (node head ts) e = ap (node head) (memories_same ts e)

    memories_same : (ts : Trees) → free_among false x sort.Memory ts ≡ false → replace_memories x u ts ≡ ts
    memories_same stop e = refl
    memories_same (more t stop) e = ap (λ z. more z stop) (memory_same t e)
    memories_same (more t (more v stop)) e = λ i. more (memory_same t (or_left (is_free x sort.Memory t) _ e) i) (more (memory_same v (or_right (is_free x sort.Memory t) _ e) i) stop)
    memories_same (more t (more v (more w ts))) e =
        let p = is_free x sort.Memory t in let q = is_free x sort.Memory v in let r = is_free x sort.Memory w in let s = free_among false x sort.Memory ts in
        λ i. more (memory_same t (first p q r s e) i) (more (memory_same v (second p q r s e) i) (more (memory_same w (third p q r s e) i) (memories_same ts (fourth p q r s e) i)))

  -- the term changes nothing
  pub unchanged : (s : Sort) (t : Tree) → is_free x s t ≡ false → put_at s x u t ≡ t
  unchanged sort.Int t e = int_same t e
  unchanged sort.Memory t e = memory_same t e
  unchanged sort.Table t e = refl
