-- The kind of the cells of a memory, by its head and its kids.
use Rattle.std.proofs.Common.{◌≡◌, ℕ, ◌<◌, Bool, true, false, List, [], ◌∷◌, map, length, get_or, codes, refl, sym, ◌∙◌, ap, arith}
use Rattle.std.specs.Prelude.{Option, Some, None, option_map, if◌then◌else◌}
use Rattle.std.specs.Str.{bytes_eq}
use Rattle.wp_base.specs.declared.kinds.CellKind.{CellKind}
use Rattle.wp_base.specs.declared.kinds.CellKind.TheVariants as cell
use Rattle.goal_words.specs.Kinds.{row_of, kind_words}
use Rattle.qed_terms.specs.declared.head.Sort.TheVariants as sort
use Rattle.qed_terms.specs.declared.head.Head.{Head}
use Rattle.qed_terms.specs.declared.head.Head.TheVariants as h
use Rattle.qed_terms.specs.declared.head.TermOp.TheVariants as op
use Rattle.qed_terms.specs.Nodes.{kids_of}
use Rattle.qed_terms.specs.Tree.{Tree, node, Trees, stop, more, head_of}
use Rattle.instance_rows.specs.Accesses.{kind_under, named_kind}
use Rattle.branch_accesses.specs.Heads.{is_store, kind_in_head}

-- ---- words

pub first_word : (w : List ℕ) (b : Bool) → b ≡ bytes_eq w (codes "ptrb") → b ≡ true → Some cell.Ptr ≡ named_kind w
first_word w b e t = rw (sym e ∙ t) refl

pub second_word : (w : List ℕ) (a b : Bool) → a ≡ bytes_eq w (codes "ptrb") → a ≡ false → b ≡ bytes_eq w (codes "ptro") → b ≡ true → Some cell.Ptr ≡ named_kind w
second_word w a b d f e t = rw (sym d ∙ f) (rw (sym e ∙ t) refl)

pub other_word : (w : List ℕ) (a b : Bool) (o : Option CellKind) → a ≡ bytes_eq w (codes "ptrb") → a ≡ false → b ≡ bytes_eq w (codes "ptro") → b ≡ false
    → o ≡ option_map cell.Of (row_of kind_words w) → o ≡ named_kind w
other_word w a b o d f e t k = k ∙ sym (rw (sym d ∙ f) (rw (sym e ∙ t) refl))

-- ---- a memory

over_kids : (head : Head) (m : Tree) (ts : Trees) → kind_under (node head (more m ts)) ≡ (if is_store head then kind_under m else None)
over_kids (h.Term op.Store) m ts = refl
over_kids (h.Var x sort.Memory) m ts = refl
over_kids head m ts = refl

alone : (head : Head) → kind_under (node head stop) ≡ (if is_store head then None else kind_in_head head)
alone (h.Term op.Store) = refl
alone (h.Var x sort.Memory) = refl
alone (h.Var x sort.Int) = refl
alone (h.Var x sort.Table) = refl
alone head = refl

module _ {Id : Type 0} (tree : Id → Tree) where
  -- with kids
  some_kids : (t : Tree) (head : Head) (b : Bool) (ks : List Id) (k : Id) → head ≡ head_of t → b ≡ is_store head → map tree ks ≡ kids_of t → 0 < length ks → k ≡ get_or ks 0 k
      → kind_under t ≡ (if b then kind_under (tree k) else None)
  some_kids (node g stop) head b [] k e s m l i = absurd (omega (arith, l))
  some_kids (node g (more u us)) head b [] k e s m l i = absurd (omega (arith, l))
  some_kids (node g stop) head b (x ∷ ks) k e s m l i = absurd cc
  some_kids (node g (more u us)) head b (x ∷ ks) k e s m l i =
      let first : tree x ≡ u = cc in
      over_kids g u us ∙ (λ j. if (ap is_store (sym e) ∙ sym s) j then kind_under ((sym first ∙ ap tree (sym i)) j) else None)

  no_kids : (t : Tree) (head : Head) (b : Bool) (ks : List Id) → head ≡ head_of t → b ≡ is_store head → map tree ks ≡ kids_of t → length ks ≡ 0
      → kind_under t ≡ (if b then None else kind_in_head head)
  no_kids (node g stop) head b ks e s m l = alone g ∙ (λ j. if (ap is_store (sym e) ∙ sym s) j then None else kind_in_head (sym e j))
  no_kids (node g (more u us)) head b [] e s m l = absurd cc
  no_kids (node g (more u us)) head b (x ∷ ks) e s m l = absurd (omega (arith, l))

  positive : (ks : List Id) → (length ks ≡ 0 → ⊥) → 0 < length ks
  positive [] n = absurd (n refl)
  positive (k ∷ ks) n = omega arith

  pub store_bare : (t : Tree) (head : Head) (b : Bool) (ks : List Id) → head ≡ head_of t → b ≡ is_store head → b ≡ true → map tree ks ≡ kids_of t → length ks ≡ 0 → None ≡ kind_under t
  store_bare t head b ks e s p m l = sym (no_kids t head b ks e s m l ∙ ap (λ c. if c then None else kind_in_head head) p)

  pub under_store : (t : Tree) (head : Head) (b : Bool) (ks : List Id) (k : Id) (o : Option CellKind) → head ≡ head_of t → b ≡ is_store head → b ≡ true → map tree ks ≡ kids_of t → (length ks ≡ 0 → ⊥)
      → k ≡ get_or ks 0 k → o ≡ kind_under (tree k) → o ≡ kind_under t
  under_store t head b ks k o e s p m l i q = q ∙ sym (some_kids t head b ks k e s m (positive ks l) i ∙ ap (λ c. if c then kind_under (tree k) else None) p)

  pub name_alone : (t : Tree) (head : Head) (head' : Head) (b : Bool) (ks : List Id) (o : Option CellKind) → head ≡ head_of t → b ≡ is_store head → b ≡ false → map tree ks ≡ kids_of t → length ks ≡ 0
      → head' ≡ head_of t → o ≡ kind_in_head head' → o ≡ kind_under t
  name_alone t head head' b ks o e s p m l f q =
      q ∙ ap kind_in_head (f ∙ sym e) ∙ sym (no_kids t head b ks e s m l ∙ ap (λ c. if c then None else kind_in_head head) p)

  pub name_over : (t : Tree) (head : Head) (b : Bool) (ks : List Id) → head ≡ head_of t → b ≡ is_store head → b ≡ false → map tree ks ≡ kids_of t → (length ks ≡ 0 → ⊥) → None ≡ kind_under t
  name_over t head b [] e s p m l = absurd (l refl)
  name_over t head b (k ∷ ks) e s p m l =
      sym (some_kids t head b (k ∷ ks) k e s m (omega arith) refl ∙ ap (λ c. if c then kind_under (tree k) else None) p)

pub ruleset named_laws = (first_word, second_word, other_word)

pub ruleset under_laws = (store_bare, under_store, name_alone, name_over)
