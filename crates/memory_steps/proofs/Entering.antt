-- The start: its slots, its table and what is known of them, with values for each state.
use Rattle.std.proofs.Common.{◌≡◌, ◌-◌, ◌^◌, ℕ, zero, suc, ℤ, pos, negsuc, int_le, Bool, true, false, cond, if◌then◌else◌, List, [], ◌∷◌, length, refl, sym, ap, ap₂, ◌∙◌, subst, arith, le_refl}
use Rattle.std.proofs.lemmas.Bool.{le-leb}
use Rattle.std.specs.Str.{bytes_eq}
use Rattle.std.proofs.lemmas.Slice.Eq.{bytes_eq-Decides}
use Rattle.wp_base.specs.Blocks.{Table, block_at, len}
use Rattle.qed_terms.specs.Fresh.{none_used}
use Rattle.qed_terms.specs.Meaning as sense
use Rattle.qed_terms.specs.Meaning.{Value, Whole, Cells, whole, memory, Values}
use Rattle.qed_terms.specs.Setting.{cells_at_most, IsBounded}
use Rattle.same_memories.specs.Canonical.{canonical}
use Rattle.same_memories.proofs.Listing.{canonical_is_canonical}
use Rattle.walk_steps.proofs.Asking.{Holds}
use Rattle.walk_steps.proofs.Naming.{bytes_same}
use Rattle.memory_steps.specs.State.{Datum, number, cells, State, state, Base, HasSort, HaveSorts, FitsOne}
use Rattle.memory_steps.specs.Forms.{datum_of, datum, data_of, state_of, AllSo, AreClaims, AreClean}
use Rattle.memory_steps.specs.World.{AreBases, name_for}
use Rattle.memory_steps.specs.Laws.{Origin, own, fixed, Start, IsFrom, most_cells, start_terms, table_name, start_slots, Away, OriginsFit, start_world}
use Rattle.memory_steps.proofs.Asking.{claims_so, so_claims}
use Rattle.memory_steps.proofs.Naming.{Agree, same_agree, bring, bring_new, name_same, name_sort}
use Rattle.memory_steps.proofs.Trails.{blocks_same}
use Rattle.memory_steps.proofs.Settled.{Settled, Steady, Sound}

-- ---- values with few cells

no_cells : (n : ℕ) (b : ℤ) → int_le (len [] b) (pos n) ≡ true
unfolding block_at
no_cells n (pos zero) = le-leb 0 n (omega (arith))
no_cells n (pos (suc k)) = le-leb 0 n (omega (arith))
no_cells n (negsuc k) = le-leb 0 n (omega (arith))

pub bounded_too : (bits : ℕ) (env env' : Values) → env.tables ≡ env'.tables → IsBounded bits env → IsBounded bits env'
bounded_too bits env env' e h = subst (λ (t : List ℕ → Table). (x : List ℕ) → cells_at_most (2 ^ (bits - 1) - 1) (t x)) e h

-- only the table at the start has blocks
abbrev pub with_table : Table → Values
with_table t = record { ints = λ x. pos 0; memories = λ x. []; tables = λ x. if bytes_eq x table_name then t else [] }

pub table_bounded : (bits : ℕ) (t : Table) → cells_at_most (most_cells bits) t → IsBounded bits (with_table t)
table_bounded bits t h x b = by (bytes_eq x table_name)
  where
    by : (y : Bool) → int_le (len (cond y t []) b) (pos (2 ^ (bits - 1) - 1)) ≡ true
    by true = h b
    by false = no_cells (2 ^ (bits - 1) - 1) b

pub table_there : (t : Table) → (with_table t).tables table_name ≡ t
table_there t = ap (λ y. cond y t []) (bytes_same table_name)

-- ---- values for a state

fits_value : (s : Bool) (d : Datum) → FitsOne s d → (v : Value) × (datum_of v ≡ d) × HasSort s (datum_of v)
fits_value true (number z) h = absurd h
fits_value true (cells f) h = (Cells f, ap cells h, tt)
fits_value false (number z) h = (Whole z, refl, tt)
fits_value false (cells f) h = absurd h

not_same : (x y : List ℕ) → (x ≡ y → ⊥) → bytes_eq y x ≡ false
not_same x y n = by (bytes_eq y x) refl
  where
    by : (b : Bool) → bytes_eq y x ≡ b → b ≡ false
    by true e = absurd (n (sym ((bytes_eq-Decides y x).0 e)))
    by false e = refl

tables_kept : (s : Bool) (env : Values) (x : List ℕ) (v : Value) → (bring s env x v).tables ≡ env.tables
tables_kept true env x v = refl
tables_kept false env x v = refl

module _ (m : sense.World) where
  other_name : (s r : Bool) (env : Values) (x y : List ℕ) (v : Value) → (x ≡ y → ⊥) → datum m (bring s env x v) (name_for r y) ≡ datum m env (name_for r y)
  other_name true true env x y v n = ap (λ t. cells (canonical (cond t (memory v) (env.memories y)))) (not_same x y n)
  other_name true false env x y v n = refl
  other_name false true env x y v n = refl
  other_name false false env x y v n = ap (λ t. number (cond t (whole v) (env.ints y))) (not_same x y n)

  abbrev pub AgreesWith : Values → List Base → List Origin → List Datum → Type 0
  AgreesWith env bases [] ds = Unit {0}
  AgreesWith env [] (o ∷ os) ds = Unit {0}
  AgreesWith env (b ∷ bases) (o ∷ os) [] = Unit {0}
  AgreesWith env (b ∷ bases) (own ∷ os) (d ∷ ds) = (datum m env (name_for b.is_memory b.name) ≡ d) × AgreesWith env bases os ds
  AgreesWith env (b ∷ bases) (fixed y ∷ os) (d ∷ ds) = AgreesWith env bases os ds

  agrees_more : (s : Bool) (env : Values) (x : List ℕ) (v : Value) (bases : List Base) (os : List Origin) (ds : List Datum) → Away x bases os → AgreesWith env bases os ds
      → AgreesWith (bring s env x v) bases os ds
  agrees_more s env x v bases [] ds a h = tt
  agrees_more s env x v [] (o ∷ os) ds a h = tt
  agrees_more s env x v (b ∷ bases) (o ∷ os) [] a h = tt
  agrees_more s env x v (b ∷ bases) (own ∷ os) (d ∷ ds) a h = (other_name s b.is_memory env x b.name v a.0 ∙ h.0, agrees_more s env x v bases os ds a.1 h.1)
  agrees_more s env x v (b ∷ bases) (fixed n ∷ os) (d ∷ ds) a h = agrees_more s env x v bases os ds a h

  pub start_values : (first : Values) (bases : List Base) (os : List Origin) (ds : List Datum) → IsFrom bases os ds → OriginsFit bases os
      → (env : Values) × (first.tables ≡ env.tables) × AgreesWith env bases os ds
  start_values first bases [] ds f o = (first, refl, tt)
  start_values first [] (o ∷ os) [] f h = absurd f
  start_values first [] (o ∷ os) (d ∷ ds) f h = absurd f
  start_values first (b ∷ bases) (o ∷ os) [] f h = absurd f
  start_values first (b ∷ bases) (own ∷ os) (d ∷ ds) f h =
      let s = b.is_memory in
      let r = start_values first bases os ds f.1 h.1 in
      let v = fits_value s d f.0 in
      (bring s r.0 b.name v.0, r.1 ∙ sym (tables_kept s r.0 b.name v.0), (bring_new m s r.0 b.name v.0 v.2 ∙ v.1, agrees_more s r.0 b.name v.0 bases os ds h.0 r.2))
  start_values first (b ∷ bases) (fixed z ∷ os) (d ∷ ds) f h = start_values first bases os ds f.1 h.1

  pub start_met : (env : Values) (bases : List Base) (os : List Origin) (ds : List Datum) → length os ≡ length bases → IsFrom bases os ds → AgreesWith env bases os ds
      → data_of m env (start_terms bases os) ≡ ds
  start_met env bases [] [] l f h = refl
  start_met env bases [] (d ∷ ds) l f h = absurd f
  start_met env [] (o ∷ os) ds l f h = absurd cc
  start_met env (b ∷ bases) (o ∷ os) [] l f h = absurd f
  start_met env (b ∷ bases) (own ∷ os) (d ∷ ds) l f h = ap₂ (λ y ys. y ∷ ys) h.0 (start_met env bases os ds (cc) f.1 h.1)
  start_met env (b ∷ bases) (fixed z ∷ os) (d ∷ ds) l f h = ap₂ (λ y ys. y ∷ ys) (sym f.0) (start_met env bases os ds (cc) f.1 h)

  own_fits : (s : Bool) (env : Values) (x : List ℕ) → FitsOne s (datum m env (name_for s x))
  own_fits true env x = canonical_is_canonical (env.memories x)
  own_fits false env x = tt

  pub start_from : (env : Values) (bases : List Base) (os : List Origin) → length os ≡ length bases → IsFrom bases os (data_of m env (start_terms bases os))
  start_from env bases [] l = tt
  start_from env [] (o ∷ os) l = absurd cc
  start_from env (b ∷ bases) (own ∷ os) l = (own_fits b.is_memory env b.name, start_from env bases os (cc))
  start_from env (b ∷ bases) (fixed z ∷ os) l = (refl, start_from env bases os (cc))

  start_size : (bases : List Base) (os : List Origin) → length os ≡ length bases → length (start_terms bases os) ≡ length bases
  start_size bases [] l = l
  start_size [] (o ∷ os) l = absurd cc
  start_size (b ∷ bases) (own ∷ os) l = ap suc (start_size bases os (cc))
  start_size (b ∷ bases) (fixed z ∷ os) l = ap suc (start_size bases os (cc))

  start_sorts : (env : Values) (bases : List Base) (os : List Origin) → length os ≡ length bases → OriginsFit bases os → HaveSorts bases (data_of m env (start_terms bases os))
  start_sorts env [] [] l h = tt
  start_sorts env (b ∷ bases) [] l h = absurd cc
  start_sorts env [] (o ∷ os) l h = absurd cc
  start_sorts env (b ∷ bases) (own ∷ os) l h = (name_sort m b.is_memory env b.name, start_sorts env bases os (cc) h.1)
  start_sorts env (b ∷ bases) (fixed z ∷ os) l h = (subst (λ s. HasSort s (number z)) (sym h.0) tt, start_sorts env bases os (cc) h.1)

  start_same : (env env' : Values) → Agree none_used env env' → (bases : List Base) → AreBases bases → (os : List Origin)
      → data_of m env (start_terms bases os) ≡ data_of m env' (start_terms bases os)
  start_same env env' a bases i [] = refl
  start_same env env' a [] i (o ∷ os) = refl
  start_same env env' a (b ∷ bases) i (own ∷ os) = ap₂ (λ y ys. y ∷ ys) (name_same m b.is_memory b.name 0 a i.0 (le_refl 0)) (start_same env env' a bases i.1 os)
  start_same env env' a (b ∷ bases) i (fixed z ∷ os) = ap (λ ys. number z ∷ ys) (start_same env env' a bases i.1 os)

  pub nothing_remembered : Steady m none_used []
  nothing_remembered = record { all = tt }

  module _ (bases : List Base) (e : Start) (l : length e.origins ≡ length bases) (i : AreBases bases) (o : OriginsFit bases e.origins) (g : AreClaims m e.facts) where
    start_sound : Sound m none_used (start_slots bases e.origins)
    start_sound = record {
      same = λ env env' a. ap₂ (λ ds t. state ds t) (start_same env env' a bases i e.origins) (ap (λ f. f table_name) a.tables);
      marks = λ env env' a. ap (λ f. f table_name ∷ []) a.tables;
      trailed = λ env. (blocks_same (env.tables table_name), tt);
    }

    start_clean : AreClean m (start_slots bases e.origins ∷ [])
    start_clean env env' b = ap (λ st. st ∷ []) (start_sound.same env env' (same_agree none_used b))

    -- what is known at the start is what is so of its state
    pub facts_so : (env : Values) (st : State) → state_of m env (start_slots bases e.origins) ≡ st → Holds m env (start_world bases e).known → AllSo (st ∷ []) e.facts
    facts_so env st s h = subst (λ st. AllSo (st ∷ []) e.facts) s (claims_so m env (start_slots bases e.origins ∷ []) start_clean e.facts g h)

    pub facts_known : (env : Values) (st : State) → state_of m env (start_slots bases e.origins) ≡ st → AllSo (st ∷ []) e.facts → Holds m env (start_world bases e).known
    facts_known env st s h = so_claims m env (start_slots bases e.origins ∷ []) start_clean e.facts g (subst (λ st. AllSo (st ∷ []) e.facts) (sym s) h)

    pub start_settled : Settled m bases none_used (start_world bases e)
    start_settled = record {
      size = start_size bases e.origins l;
      sorts = λ env. start_sorts env bases e.origins l o;
      known = λ env env' a h.
          let ss = start_slots bases e.origins in
          facts_known env' (state_of m env' ss) refl (subst (λ st. AllSo (st ∷ []) e.facts) (start_sound.same env env' a) (facts_so env (state_of m env ss) refl h));
      slots = start_sound;
    }
