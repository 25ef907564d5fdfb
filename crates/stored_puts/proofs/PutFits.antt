-- A term put in the places of a variable that it may stand for leaves a tree well formed.
use Rattle.std.proofs.Common.{◌≡◌, ℕ, Bool, true, false, ◌&&◌, cond, List, [], ◌∷◌, suc, bytes_eq, refl, ◌∙◌, ap}
use Rattle.qed_terms.specs.declared.head.Sort.{Sort}
use Rattle.qed_terms.specs.declared.head.Sort.TheVariants as sort
use Rattle.qed_terms.specs.declared.head.Head.{Head}
use Rattle.qed_terms.specs.declared.head.Head.TheVariants as h
use Rattle.qed_terms.specs.Free.{binds}
use Rattle.qed_terms.specs.Names.{is_name}
use Rattle.qed_terms.specs.Nodes.{kids_of}
use Rattle.qed_terms.specs.Store.{is_well_formed, over, place_of_head}
use Rattle.qed_terms.specs.Tree.{Tree, node, Trees, stop, more, three, head_of}
use Rattle.qed_terms.specs.WellFormed.{Place, term, formula, argument, int, takes_name, may_stand, kid_places, kid_count, fits, all_fit}
use Rattle.qed_substitution.specs.Substitution.{replace, replace_all, replace_range}
use Rattle.branch_changes.specs.MemoryNames.{replace_memory, replace_memories}
use Rattle.branch_changes.specs.Givens.{may_stand_for, put_at}
use Rattle.stored_puts.specs.Kids.{is_place, kids_put}
use Rattle.stored_puts.proofs.Tests.{and_left, and_right, and_both}
use Rattle.stored_puts.proofs.PutKids.{put_is}

-- where the variable may stand the term fits
int_fits : (u : Tree) (p : Place) (y : List ℕ) → may_stand_for sort.Int u ≡ true → takes_name p sort.Int y ≡ true → fits p u ≡ true
int_fits u (term sort.Int) y k e = and_left (fits int u) (fits argument u) k
int_fits u (term sort.Memory) y k e = absurd cc
int_fits u (term sort.Table) y k e = absurd cc
int_fits u formula y k e = absurd cc
int_fits u argument y k e = and_right (fits int u) (fits argument u) k

memory_fits : (u : Tree) (p : Place) (y : List ℕ) → may_stand_for sort.Memory u ≡ true → takes_name p sort.Memory y ≡ true → fits p u ≡ true
memory_fits u (term sort.Int) y k e = absurd cc
memory_fits u (term sort.Memory) y k e = and_left (fits (term sort.Memory) u) (fits argument u) k
memory_fits u (term sort.Table) y k e = absurd cc
memory_fits u formula y k e = absurd cc
memory_fits u argument y k e = and_right (fits (term sort.Memory) u) (fits argument u) k

module _ (x : List ℕ) (u : Tree) where
  -- the head stays, and the kids are as many and fit
  head_fits : (p : Place) (head : Head) (ts us : Trees) → kid_count us ≡ kid_count ts → (all_fit (kid_places head (kid_count ts)) ts ≡ true → all_fit (kid_places head (kid_count ts)) us ≡ true)
      → fits p (node head ts) ≡ true → fits p (node head us) ≡ true
  head_fits p head ts us n f e =
      and_both (may_stand p head) (all_fit (kid_places head (kid_count us)) us) (and_left (may_stand p head) _ e)
      (ap (λ m. all_fit (kid_places head m) us) n ∙ f (and_right (may_stand p head) _ e))

  ints_count : (ts : Trees) → kid_count (replace_all x u ts) ≡ kid_count ts
  ints_count stop = refl
  ints_count (more t ts) = ap suc (ints_count ts)

  memories_count : (ts : Trees) → kid_count (replace_memories x u ts) ≡ kid_count ts
  memories_count stop = refl
  memories_count (more t ts) = ap suc (memories_count ts)

  abbrev Stays : Tree → Tree → Type 0
  Stays t t' = (p : Place) → fits p t ≡ true → fits p t' ≡ true

  body_fits : (bound : Bool) (t : Tree) → Stays t (replace x u t) → Stays t (cond bound t (replace x u t))
  body_fits true t f p e = e
  body_fits false t f p e = f p e

  three_fit : (a b c a' b' c' : Tree) → Stays a a' → Stays b b' → Stays c c' → all_fit (int ∷ int ∷ formula ∷ []) (three a b c) ≡ true → all_fit (int ∷ int ∷ formula ∷ []) (three a' b' c') ≡ true
  three_fit a b c a' b' c' f g k e =
      let rest = and_right (fits int a) (fits int b && (fits formula c && true)) e in
      let last = and_right (fits int b) (fits formula c && true) rest in
      and_both (fits int a') _ (f int (and_left (fits int a) _ e))
      (and_both (fits int b') _ (g int (and_left (fits int b) _ rest)) (and_both (fits formula c') true (k formula (and_left (fits formula c) true last)) refl))

  module _ (k : may_stand_for sort.Int u ≡ true) where
    int_name : (p : Place) (y : List ℕ) (ts us : Trees) → fits p (node (h.Var y sort.Int) us) ≡ true → fits p (node (h.Var y sort.Int) ts) ≡ true → fits p (cond (bytes_eq x y) u (node (h.Var y sort.Int) us)) ≡ true
    int_name p y ts us f e = go (bytes_eq x y)
      where
        go : (b : Bool) → fits p (cond b u (node (h.Var y sort.Int) us)) ≡ true
        go true = int_fits u p y k (and_right (is_name y) (takes_name p sort.Int y) (and_left (is_name y && takes_name p sort.Int y) _ e))
        go false = f

    mutual
      int_stays : (t : Tree) → Stays t (replace x u t)
      int_stays (node (h.Var y sort.Int) ts) p e = int_name p y ts (replace_all x u ts) (head_fits p (h.Var y sort.Int) ts (replace_all x u ts) (ints_count ts) (ints_stay ts []) e) e
      int_stays (node (h.Forall y) (more a (more b (more c stop)))) p e =
          head_fits p (h.Forall y) (three a b c) (replace_range (bytes_eq x y) x u (three a b c)) refl
          (three_fit a b c (replace x u a) (replace x u b) (cond (bytes_eq x y) c (replace x u c)) (int_stays a) (int_stays b) (body_fits (bytes_eq x y) c (int_stays c))) e
      int_stays (node (h.Forall y) ts) p e = e
      int_stays (node (h.Exists y) (more a (more b (more c stop)))) p e =
          head_fits p (h.Exists y) (three a b c) (replace_range (bytes_eq x y) x u (three a b c)) refl
          (three_fit a b c (replace x u a) (replace x u b) (cond (bytes_eq x y) c (replace x u c)) (int_stays a) (int_stays b) (body_fits (bytes_eq x y) c (int_stays c))) e
      int_stays (node (h.Exists y) ts) p e = e
      int_stays (node head ts) p e = head_fits p head ts (replace_all x u ts) (ints_count ts) (ints_stay ts (kid_places head (kid_count ts))) e

      ints_stay : (ts : Trees) (ps : List Place) → all_fit ps ts ≡ true → all_fit ps (replace_all x u ts) ≡ true
      ints_stay stop ps e = e
      ints_stay (more t ts) [] e = absurd cc
      ints_stay (more t ts) (p ∷ ps) e = and_both (fits p (replace x u t)) (all_fit ps (replace_all x u ts)) (int_stays t p (and_left (fits p t) _ e)) (ints_stay ts ps (and_right (fits p t) _ e))

  module _ (k : may_stand_for sort.Memory u ≡ true) where
    memory_name : (p : Place) (y : List ℕ) (ts us : Trees) → fits p (node (h.Var y sort.Memory) us) ≡ true → fits p (node (h.Var y sort.Memory) ts) ≡ true
        → fits p (cond (bytes_eq x y) u (node (h.Var y sort.Memory) us)) ≡ true
    memory_name p y ts us f e = go (bytes_eq x y)
      where
        go : (b : Bool) → fits p (cond b u (node (h.Var y sort.Memory) us)) ≡ true
        go true = memory_fits u p y k (and_right (is_name y) (takes_name p sort.Memory y) (and_left (is_name y && takes_name p sort.Memory y) _ e))
        go false = f

    mutual
      memory_stays : (t : Tree) → Stays t (replace_memory x u t)
      memory_stays (node (h.Var y sort.Memory) ts) p e = memory_name p y ts (replace_memories x u ts) (head_fits p (h.Var y sort.Memory) ts (replace_memories x u ts) (memories_count ts) (memories_stay ts []) e) e
      memory_stays (node head ts) p e = head_fits p head ts (replace_memories x u ts) (memories_count ts) (memories_stay ts (kid_places head (kid_count ts))) e

      memories_stay : (ts : Trees) (ps : List Place) → all_fit ps ts ≡ true → all_fit ps (replace_memories x u ts) ≡ true
      memories_stay stop ps e = e
      memories_stay (more t ts) [] e = absurd cc
      memories_stay (more t ts) (p ∷ ps) e =
          and_both (fits p (replace_memory x u t)) (all_fit ps (replace_memories x u ts)) (memory_stays t p (and_left (fits p t) _ e)) (memories_stay ts ps (and_right (fits p t) _ e))

  pub put_stays : (s : Sort) → may_stand_for s u ≡ true → (p : Place) (t : Tree) → fits p t ≡ true → fits p (put_at s x u t) ≡ true
  put_stays sort.Int k p t e = int_stays k t p e
  put_stays sort.Memory k p t e = memory_stays k t p e
  put_stays sort.Table k p t e = e

  -- the head over its new kids
  pub put_fits : (s : Sort) (t : Tree) → may_stand_for s u ≡ true → is_well_formed t ≡ true → is_place s x (head_of t) ≡ false
      → is_well_formed (over (head_of t) (kids_put s x u (binds x s (head_of t)) 0 (kids_of t))) ≡ true
  put_fits s t k e n = ap (fits (place_of_head (head_of t))) (put_is x u s t e n) ∙ put_stays s k (place_of_head (head_of t)) t e
