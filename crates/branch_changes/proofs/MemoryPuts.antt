-- What a tree means with a memory in the places of a name: what it means with the name at that memory.
use Rattle.std.proofs.Common.{◌≡◌, ℕ, ℤ, ◌-ℤ◌, Bool, true, false, not, ◌&&◌, ◌||◌, cond, List, ◌∷◌, bytes_eq, refl, sym, ◌∙◌, ap}
use Rattle.wp_base.specs.Blocks.{to_nat}
use Rattle.qed_terms.specs.declared.head.Sort.TheVariants as sort
use Rattle.qed_terms.specs.declared.head.Head.TheVariants as h
use Rattle.qed_terms.specs.Free.{is_free, MeaningOfFreeNames}
use Rattle.qed_terms.specs.Memory.{Memory}
use Rattle.qed_terms.specs.Meaning.{World, Values, Whole, Truth, Cells, Blocks, whole, memory, is_so, with_int, meaning, meanings, term_value, form_truth, head_value, all_from, some_from}
use Rattle.qed_terms.specs.Tree.{Tree, node, Trees, stop, more}
use Rattle.branch_changes.specs.MemoryNames.{with_memory, replace_memory, replace_memories, is_clear_memory, are_clear_memories, is_clear_range, may_replace_memory}
use Rattle.branch_changes.specs.Laws.{ReplacingMemoriesKeepsMeaning}
use Rattle.branch_changes.proofs.Truths.{and_left, and_right, or_left, or_right, same_name, itself, other_way}
use Rattle.branch_changes.proofs.Names.{unseen}

-- the values differ at one memory alone
record Differ (x : List ℕ) (env env' : Values) : Type 0 where
  ints : env.ints ≡ env'.ints
  memories : (y : List ℕ) → bytes_eq x y ≡ false → env.memories y ≡ env'.memories y
  tables : env.tables ≡ env'.tables

under_int : (x y : List ℕ) (z : ℤ) (env env' : Values) → Differ x env env' → Differ x (with_int env y z) (with_int env' y z)
under_int x y z env env' d = record { ints = λ i v. cond (bytes_eq v y) z (d.ints i v); memories = d.memories; tables = d.tables }

module _ (free_names : MeaningOfFreeNames) (w : World) (x : List ℕ) (u : Tree) (is : (env : Values) → meaning w env u ≡ Cells (memory (meaning w env u))) where
  -- the name has the term's memory, but where a quantifier around binds a name of the term
  abbrev Has : Bool → Values → Values → Type 0
  Has under env env' = under ≡ false → memory (meaning w env u) ≡ env'.memories x

  has_under : (under : Bool) (y : List ℕ) (z : ℤ) (env env' : Values) → Has under env env' → Has (under || is_free y sort.Int u) (with_int env y z) (with_int env' y z)
  has_under under y z env env' k e =
      ap memory (sym (free_names w u env (with_int env y z) (unseen u y z env (or_right under (is_free y sort.Int u) e)))) ∙ k (or_left under (is_free y sort.Int u) e)

  at_name : (under : Bool) (y : List ℕ) (ts us : Trees) (env env' : Values) → Differ x env env' → Has under env env' → not (under && bytes_eq x y) ≡ true
      → meaning w env (cond (bytes_eq x y) u (node (h.Var y sort.Memory) us)) ≡ Cells (env'.memories y)
  at_name under y ts us env env' d k e = go (bytes_eq x y) refl e
    where
      free_of : (b : Bool) → not (b && true) ≡ true → b ≡ false
      free_of true q = absurd cc
      free_of false q = refl

      go : (b : Bool) → bytes_eq x y ≡ b → not (under && b) ≡ true → meaning w env (cond b u (node (h.Var y sort.Memory) us)) ≡ Cells (env'.memories y)
      go true n q = is env ∙ ap Cells (k (free_of under q)) ∙ ap (λ v. Cells (env'.memories v)) (same_name x y n)
      go false n q = ap Cells (d.memories y n)

  abbrev Same : Tree → Tree → Type 0
  Same t t' = (under : Bool) (env env' : Values) → Differ x env env' → Has under env env' → is_clear_memory under x u t ≡ true → meaning w env t' ≡ meaning w env' t

  abbrev BodySame : List ℕ → Tree → Tree → Values → Values → Type 0
  BodySame y f f' env env' = (z : ℤ) → meaning w (with_int env y z) f' ≡ meaning w (with_int env' y z) f

  abbrev Range : Tree → Tree → Tree → Trees
  Range a b f = more a (more b (more f stop))

  -- at a quantifier over y
  at_range : (y : List ℕ) (low high f low' high' f' : Tree) → Same low low' → Same high high' → Same f f' → (under : Bool) (env env' : Values) → Differ x env env' → Has under env env'
      → is_clear_memory under x u low && is_clear_memory under x u high && is_clear_memory (under || is_free y sort.Int u) x u f ≡ true
      → (meaning w env (node (h.Forall y) (Range low' high' f')) ≡ meaning w env' (node (h.Forall y) (Range low high f)))
      × (meaning w env (node (h.Exists y) (Range low' high' f')) ≡ meaning w env' (node (h.Exists y) (Range low high f)))
  at_range y low high f low' high' f' l m n under env env' d k e =
      let inner = is_clear_memory (under || is_free y sort.Int u) x u f in
      let bounds = and_left (is_clear_memory under x u low && is_clear_memory under x u high) inner e in
      let a = l under env env' d k (and_left (is_clear_memory under x u low) (is_clear_memory under x u high) bounds) in
      let b = m under env env' d k (and_right (is_clear_memory under x u low) (is_clear_memory under x u high) bounds) in
      let clear = and_right (is_clear_memory under x u low && is_clear_memory under x u high) inner e in
      let c : BodySame y f f' env env' = λ z. n (under || is_free y sort.Int u) (with_int env y z) (with_int env' y z) (under_int x y z env env' d) (has_under under y z env env' k) clear in (
        λ i. Truth (all_from (whole (a i)) (to_nat (whole (b i) -ℤ whole (a i))) (λ z. is_so (c z i))),
        λ i. Truth (some_from (whole (a i)) (to_nat (whole (b i) -ℤ whole (a i))) (λ z. is_so (c z i))),
      )

  mutual
    same_meaning : (t : Tree) (under : Bool) (env env' : Values) → Differ x env env' → Has under env env' → is_clear_memory under x u t ≡ true → meaning w env (replace_memory x u t) ≡ meaning w env' t
    same_meaning (node (h.Var y sort.Memory) ts) under env env' d k e = at_name under y ts (replace_memories x u ts) env env' d k (and_left (not (under && bytes_eq x y)) (are_clear_memories under x u ts) e)
    same_meaning (node (h.Var y sort.Int) ts) under env env' d k e = ap (λ v. Whole (v y)) d.ints
    same_meaning (node (h.Var y sort.Table) ts) under env env' d k e = ap (λ v. Blocks (v y)) d.tables
    same_meaning (node (h.Num z) ts) under env env' d k e = refl
    same_meaning (node (h.Term o) ts) under env env' d k e = ap (term_value w o) (same_meanings ts under env env' d k e)
    same_meaning (node h.Ite ts) under env env' d k e = ap (head_value w env h.Ite) (same_meanings ts under env env' d k e)
    same_meaning (node (h.App f) ts) under env env' d k e = ap (λ vs. Whole (w.apps f vs)) (same_meanings ts under env env' d k e)
    same_meaning (node (h.Form o) ts) under env env' d k e = ap (λ vs. Truth (form_truth w o vs)) (same_meanings ts under env env' d k e)
    same_meaning (node h.True ts) under env env' d k e = refl
    same_meaning (node h.False ts) under env env' d k e = refl
    same_meaning (node h.Not ts) under env env' d k e = ap (head_value w env h.Not) (same_meanings ts under env env' d k e)
    same_meaning (node h.And ts) under env env' d k e = ap (head_value w env h.And) (same_meanings ts under env env' d k e)
    same_meaning (node h.Or ts) under env env' d k e = ap (head_value w env h.Or) (same_meanings ts under env env' d k e)
    same_meaning (node h.Imp ts) under env env' d k e = ap (head_value w env h.Imp) (same_meanings ts under env env' d k e)
    same_meaning (node h.Iff ts) under env env' d k e = ap (head_value w env h.Iff) (same_meanings ts under env env' d k e)
    same_meaning (node (h.Forall y) (more low (more high (more f stop)))) under env env' d k e =
        (at_range y low high f (replace_memory x u low) (replace_memory x u high) (replace_memory x u f)
        (λ b p q r s t. same_meaning low b p q r s t) (λ b p q r s t. same_meaning high b p q r s t) (λ b p q r s t. same_meaning f b p q r s t) under env env' d k e).0
    same_meaning (node (h.Exists y) (more low (more high (more f stop)))) under env env' d k e =
        (at_range y low high f (replace_memory x u low) (replace_memory x u high) (replace_memory x u f)
        (λ b p q r s t. same_meaning low b p q r s t) (λ b p q r s t. same_meaning high b p q r s t) (λ b p q r s t. same_meaning f b p q r s t) under env env' d k e).1
    same_meaning (node (h.Forall y) ts) under env env' d k e = absurd cc
    same_meaning (node (h.Exists y) ts) under env env' d k e = absurd cc

    same_meanings : (ts : Trees) (under : Bool) (env env' : Values) → Differ x env env' → Has under env env' → are_clear_memories under x u ts ≡ true → meanings w env (replace_memories x u ts) ≡ meanings w env' ts
    same_meanings stop under env env' d k e = refl
    same_meanings (more t ts) under env env' d k e =
        let first = same_meaning t under env env' d k (and_left (is_clear_memory under x u t) (are_clear_memories under x u ts) e) in
        let rest = same_meanings ts under env env' d k (and_right (is_clear_memory under x u t) (are_clear_memories under x u ts) e) in
        λ i. first i ∷ rest i

pub replaced_memory : MeaningOfFreeNames → ReplacingMemoriesKeepsMeaning
replaced_memory free_names w x u t is clear env =
    let m = memory (meaning w env u) in
    same_meaning free_names w x u is t false env (with_memory env x m) (record {
      ints = refl;
      memories = λ y e. sym (ap (λ b. cond b m (env.memories y)) (other_way x y e));
      tables = refl;
    }) (λ q. sym (ap (λ b. cond b m (env.memories x)) (itself x))) clear
