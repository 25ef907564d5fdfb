-- What the links of a join say of its slots, and of its table.
use Rattle.std.proofs.Common.{◌≡◌, suc, ℤ, Bool, true, false, not, List, [], ◌∷◌, length, Option, Some, None, refl, sym, ap, ap₂, ◌∙◌, arith}
use Rattle.std.proofs.lemmas.Bool.{false≢true}
use Rattle.wp_base.specs.Blocks.{Table, count, grow}
use Rattle.qed_terms.specs.Tree.{Tree}
use Rattle.qed_terms.specs.Order.{same}
use Rattle.qed_terms.proofs.Total.{same_exact}
use Rattle.qed_terms.specs.Operators.{is_equal}
use Rattle.qed_terms.specs.Fresh.{Used, use_one}
use Rattle.qed_terms.specs.Meaning as sense
use Rattle.qed_terms.specs.Meaning.{Whole, Values, with_int, value}
use Rattle.goal_segments.specs.Segments.{SameBlocks}
use Rattle.typed_memories.proofs.Tables.{same_grown, grown_same}
use Rattle.walk_steps.specs.World.{IsBase}
use Rattle.walk_steps.proofs.Lists.{cons_parts}
use Rattle.walk_steps.proofs.Asking.{Holds}
use Rattle.walk_steps.proofs.Linking.{equal_same, same_equal}
use Rattle.walk_steps.proofs.Naming.{next_name, use_itself, with_next_new}
use Rattle.memory_steps.specs.State.{Base, HaveSorts}
use Rattle.memory_steps.specs.Forms.{Mark, datum, data_of, table_of}
use Rattle.memory_steps.specs.World.{new_name, pick, after_pick, or_own, chosen, count_base}
use Rattle.memory_steps.specs.Join.{picks, links, last_table, is_some_mark, table_with, count_link}
use Rattle.memory_steps.proofs.Naming.{Agree, agree_same, bring_agrees}
use Rattle.memory_steps.proofs.Linking.{term_told, told_term}
use Rattle.memory_steps.proofs.Picks.{AreNext, is_next, next_sort, Newest, SameNames}
use Rattle.memory_steps.proofs.Trails.{IsFront, Trailed, front_trailed, front_grown, last_moves}

-- ---- slots

pub picks_next : (bases : List Base) (c : Used) (ts us : List Tree) → AreNext bases c (picks bases c ts us)
picks_next [] c ts us = tt
picks_next (b ∷ bases) c [] us = tt
picks_next (b ∷ bases) c (t ∷ ts) [] = tt
picks_next (b ∷ bases) c (t ∷ ts) (u ∷ us) = let x = not (same t u) in (is_next c b x, picks_next bases (after_pick c b (pick c b x)) ts us)

own_same : (c : Used) (b : Base) (t u : Tree) (x : Bool) → same t u ≡ x → or_own (pick c b (not x)) t ≡ or_own (pick c b (not x)) u
own_same c b t u true e = same_exact t u e
own_same c b t u false e = refl

-- both sides choose the same slots
pub chosen_same : (bases : List Base) (c : Used) (ts us : List Tree) → length ts ≡ length bases → length us ≡ length bases → chosen (picks bases c ts us) ts ≡ chosen (picks bases c ts us) us
chosen_same [] c [] [] h k = refl
chosen_same [] c [] (u ∷ us) h k = absurd cc
chosen_same [] c (t ∷ ts) us h k = absurd cc
chosen_same (b ∷ bases) c [] us h k = absurd cc
chosen_same (b ∷ bases) c (t ∷ ts) [] h k = absurd cc
chosen_same (b ∷ bases) c (t ∷ ts) (u ∷ us) h k =
    ap₂ (λ x xs. x ∷ xs) (own_same c b t u (same t u) refl) (chosen_same bases (after_pick c b (pick c b (not (same t u)))) ts us (cc) (cc))

pub count_is_base : IsBase count_base.name
count_is_base = (((λ e. omega (arith, e)), tt), ((λ e. omega (arith, e)), tt))

module _ (m : sense.World) where
  pub links_decode : (env : Values) (bases : List Base) (c : Used) (ps : List (Option Tree)) (ts : List Tree) → AreNext bases c ps → HaveSorts bases (data_of m env ts)
      → Holds m env (links bases ps ts) → data_of m env (chosen ps ts) ≡ data_of m env ts
  links_decode env bases c [] ts n s h = refl
  links_decode env [] c (p ∷ ps) ts n s h = absurd n
  links_decode env (b ∷ bases) c (p ∷ ps) [] n s h = refl
  links_decode env (b ∷ bases) c (None ∷ ps) (t ∷ ts) n s h = ap (λ ds. datum m env t ∷ ds) (links_decode env bases c ps ts n.1 s.1 h)
  links_decode env (b ∷ bases) c (Some x ∷ ps) (t ∷ ts) n s h =
      ap₂ (λ d ds. d ∷ ds) (term_told m env b.is_memory x t (next_sort m c b x n.0 env) s.0 h.0) (links_decode env bases (use_one c b.name) ps ts n.1 s.1 h.1)

  pub links_hold : (env : Values) (bases : List Base) (c : Used) (ps : List (Option Tree)) (ts : List Tree) → AreNext bases c ps → HaveSorts bases (data_of m env ts)
      → Newest m env ps (data_of m env ts) → Holds m env (links bases ps ts)
  links_hold env bases c [] ts n s h = tt
  links_hold env [] c (p ∷ ps) ts n s h = absurd n
  links_hold env (b ∷ bases) c (p ∷ ps) [] n s h = tt
  links_hold env (b ∷ bases) c (None ∷ ps) (t ∷ ts) n s h = links_hold env bases c ps ts n.1 s.1 h
  links_hold env (b ∷ bases) c (Some x ∷ ps) (t ∷ ts) n s h =
      (told_term m env b.is_memory x t (next_sort m c b x n.0 env) s.0 h.0, links_hold env bases (use_one c b.name) ps ts n.1 s.1 h.1)

  pub links_settled : (env env' : Values) (bases : List Base) (c : Used) (ps : List (Option Tree)) (ts : List Tree) → AreNext bases c ps → HaveSorts bases (data_of m env ts)
      → HaveSorts bases (data_of m env' ts) → SameNames m env env' ps → data_of m env ts ≡ data_of m env' ts → Holds m env (links bases ps ts) → Holds m env' (links bases ps ts)
  links_settled env env' bases c [] ts n s s' k e h = tt
  links_settled env env' [] c (p ∷ ps) ts n s s' k e h = absurd n
  links_settled env env' (b ∷ bases) c (p ∷ ps) [] n s s' k e h = tt
  links_settled env env' (b ∷ bases) c (None ∷ ps) (t ∷ ts) n s s' k e h = links_settled env env' bases c ps ts n.1 s.1 s'.1 k (cons_parts e).1 h
  links_settled env env' (b ∷ bases) c (Some x ∷ ps) (t ∷ ts) n s s' k e h =
      let q = cons_parts e in
      let same = term_told m env b.is_memory x t (next_sort m c b x n.0 env) s.0 h.0 in (
        told_term m env' b.is_memory x t (next_sort m c b x n.0 env') s'.0 (sym k.0 ∙ same ∙ q.0),
        links_settled env env' bases (use_one c b.name) ps ts n.1 s.1 s'.1 k.1 q.1 h.1,
      )

  -- ---- the table

  -- the values with this number of blocks, where there is a name for it
  abbrev pub counted : Bool → Used → Values → ℤ → Values
  counted true d env z = env
  counted false d env z = with_int env (next_name d count_base.name) z

  pub counted_agrees : (b : Bool) (d : Used) (env : Values) (z : ℤ) → Agree d env (counted b d env z)
  counted_agrees true d env z = agree_same d env
  counted_agrees false d env z = bring_agrees false d env count_base.name (Whole z) count_is_base

  pub table_decode : (b : Bool) (d : Used) (own t last : Tree) (env : Values) → (b ≡ true → own ≡ t) → (b ≡ false → SameBlocks (table_of m env last) (table_of m env t))
      → Holds m env (count_link (pick d count_base (not b)) t) → table_of m env (table_with (pick d count_base (not b)) own last) ≡ table_of m env t
  table_decode true d own t last env same grown h = ap (table_of m env) (same refl)
  table_decode false d own t last env same grown h =
      let x = new_name d count_base in
      let n : value m env x ≡ count (table_of m env t) = equal_same (value m env x) (count (table_of m env t)) h.0 in
      ap (grow (table_of m env last)) n ∙ same_grown (table_of m env last) (table_of m env t) (grown refl)

  -- where the number is that of the table
  pub count_holds : (b : Bool) (d : Used) (env : Values) (z : ℤ) (t : Tree) → count (table_of m (counted b d env z) t) ≡ z
      → Holds m (counted b d env z) (count_link (pick d count_base (not b)) t)
  count_holds true d env z t e = tt
  count_holds false d env z t e =
      let env' = with_int env (next_name d count_base.name) z in
      let x = new_name d count_base in
      let n : value m env' x ≡ z = with_next_new d env count_base.name z in
      (same_equal (value m env' x) (count (table_of m env' t)) (n ∙ sym e), tt)

  number_same : (d : Used) (env env' : Values) → Agree (use_one d count_base.name) env env' → value m env (new_name d count_base) ≡ value m env' (new_name d count_base)
  number_same d env env' a = a.ints count_base.name (suc (d count_base.name)) count_is_base (use_itself d count_base.name)

  pub count_settled : (b : Bool) (d : Used) (t : Tree) (env env' : Values) → Agree (after_pick d count_base (pick d count_base (not b))) env env' → table_of m env t ≡ table_of m env' t
      → Holds m env (count_link (pick d count_base (not b)) t) → Holds m env' (count_link (pick d count_base (not b)) t)
  count_settled true d t env env' a e h = tt
  count_settled false d t env env' a e h = (sym (ap₂ (λ y z. is_equal y (count z)) (number_same d env env' a) e) ∙ h.0, tt)

  pub table_settled : (b : Bool) (d : Used) (own last : Tree) (env env' : Values) → Agree (after_pick d count_base (pick d count_base (not b))) env env'
      → table_of m env own ≡ table_of m env' own → table_of m env last ≡ table_of m env' last
      → table_of m env (table_with (pick d count_base (not b)) own last) ≡ table_of m env' (table_with (pick d count_base (not b)) own last)
  table_settled true d own last env env' a e f = e
  table_settled false d own last env env' a e f = ap₂ (λ t z. grow t z) f (number_same d env env' a)

  pub table_trailed : (b : Bool) (d : Used) (own : Tree) (trail all : List Mark) (env : Values) → IsFront trail all → Trailed m env all (table_of m env own)
      → Trailed m env trail (table_of m env (table_with (pick d count_base (not b)) own (last_table own trail)))
  table_trailed true d own trail all env f h = front_trailed m env trail all (table_of m env own) f h
  table_trailed false d own [] all env f h = tt
  table_trailed false d own (p ∷ ps) all env f h =
      let x = new_name d count_base in
      let last = table_of m env (last_table p.table ps) in
      last_moves m env p ps (table_of m env own) (grow last (value m env x)) (front_trailed m env (p ∷ ps) all (table_of m env own) f h) (grown_same last (value m env x))

  pub last_grown_to : (own : Tree) (trail all : List Mark) (env : Values) (t : Table) → is_some_mark trail ≡ true → IsFront trail all → Trailed m env all t
      → SameBlocks (table_of m env (last_table own trail)) t
  last_grown_to own [] all env t e f h = absurd (false≢true e)
  last_grown_to own (p ∷ ps) all env t e f h = front_grown m env p ps all t f h
