-- Fresh names: values that agree on the names that are used, and values with another one for a name.
use Rattle.std.proofs.Common.{◌≡◌, ◌≤◌, ℕ, zero, suc, Bool, true, false, cond, if◌then◌else◌, List, refl, sym, ap, ◌∙◌, subst, arith, le_trans}
use Rattle.std.proofs.lemmas.Slice.Eq.{bytes_eq-Decides}
use Rattle.std.specs.Str.{bytes_eq}
use Rattle.qed_terms.specs.Fresh.{Lacks, hash, Used}
use Rattle.qed_terms.specs.Memory.{Memory}
use Rattle.qed_terms.proofs.Freshness.{fresh_names_differ, fresh_names_are_new}
use Rattle.qed_terms.specs.Meaning as sense
use Rattle.qed_terms.specs.Meaning.{Value, Whole, Truth, Cells, Blocks, whole, memory, Values, with_int}
use Rattle.same_memories.specs.Canonical.{canonical}
use Rattle.walk_steps.specs.Forms.{SameBesidesBound}
use Rattle.walk_steps.specs.World.{IsBase}
use Rattle.walk_steps.proofs.Naming.{bytes_same, name_at, Grows, next_name, name_lacks}
use Rattle.memory_steps.specs.State.{Base, number, cells, HasSort}
use Rattle.memory_steps.specs.Forms.{datum_of, datum}
use Rattle.memory_steps.specs.World.{name_for, new_name}

-- the same for the names that are used
pub record Agree (c : Used) (env env' : Values) : Type 0 where
  pub ints : (b : List ℕ) (k : ℕ) → IsBase b → k ≤ c b → env.ints (name_at b k) ≡ env'.ints (name_at b k)
  pub memories : (b : List ℕ) (k : ℕ) → IsBase b → k ≤ c b → env.memories (name_at b k) ≡ env'.memories (name_at b k)
  pub tables : env.tables ≡ env'.tables

pub agree_same : (c : Used) (env : Values) → Agree c env env
agree_same c env = record { ints = λ b k i le. refl; memories = λ b k i le. refl; tables = refl }

pub agree_less : {c c' : Used} {env env' : Values} → Grows c c' → Agree c' env env' → Agree c env env'
agree_less g a = record { ints = λ b k i le. a.ints b k i (le_trans le (g b)); memories = λ b k i le. a.memories b k i (le_trans le (g b)); tables = a.tables }

pub agree_trans : {c : Used} {x y z : Values} → Agree c x y → Agree c y z → Agree c x z
agree_trans a d = record {
  ints = λ b k i le. a.ints b k i le ∙ d.ints b k i le;
  memories = λ b k i le. a.memories b k i le ∙ d.memories b k i le;
  tables = a.tables ∙ d.tables;
}

pub same_agree : (c : Used) {env env' : Values} → SameBesidesBound env env' → Agree c env env'
same_agree c s = record { ints = λ b k i le. s.ints (name_at b k) (name_lacks b k i); memories = λ b k i le. ap (λ f. f (name_at b k)) s.memories; tables = s.tables }

-- ---- another value for the next name of a base

not_same : (x y : List ℕ) → (x ≡ y → ⊥) → bytes_eq x y ≡ false
not_same x y h = by (bytes_eq x y) refl
  where
    by : (b : Bool) → bytes_eq x y ≡ b → b ≡ false
    by true e = absurd (h ((bytes_eq-Decides x y).0 e))
    by false e = refl

not_next : (c : Used) (b : List ℕ) → IsBase b → (b' : List ℕ) (k : ℕ) → IsBase b' → k ≤ c b' → name_at b' k ≡ next_name c b → ⊥
not_next c b i b' zero i' le e = fresh_names_are_new b (suc (c b)) (subst (Lacks hash) e i'.0)
not_next c b i b' (suc k) i' le e =
    let p = fresh_names_differ b' b (suc k) (suc (c b)) i'.0 i.0 e in
    let n : suc k ≡ suc (c b) = p.1 in
    let q : c b' ≡ c b = ap c p.0 in
    omega (arith, le, n, q)

abbrev pub with_memory : Values → List ℕ → Memory → Values
with_memory env x m = record { ints = env.ints; memories = λ y. if bytes_eq y x then m else env.memories y; tables = env.tables }

-- the values with this one for the name of a slot
abbrev pub bring : (is_memory : Bool) → Values → List ℕ → Value → Values
bring true env x v = with_memory env x (memory v)
bring false env x v = with_int env x (whole v)

pub bring_agrees : (s : Bool) (c : Used) (env : Values) (b : List ℕ) (v : Value) → IsBase b → Agree c env (bring s env (next_name c b) v)
bring_agrees true c env b v i = record {
  ints = λ b' k i' le. refl;
  memories = λ b' k i' le. ap (λ t. cond t (memory v) (env.memories (name_at b' k))) (sym (not_same (name_at b' k) (next_name c b) (not_next c b i b' k i' le)));
  tables = refl;
}
bring_agrees false c env b v i = record {
  ints = λ b' k i' le. ap (λ t. cond t (whole v) (env.ints (name_at b' k))) (sym (not_same (name_at b' k) (next_name c b) (not_next c b i b' k i' le)));
  memories = λ b' k i' le. refl;
  tables = refl;
}

module _ (m : sense.World) where
  pub bring_new : (s : Bool) (env : Values) (x : List ℕ) (v : Value) → HasSort s (datum_of v) → datum m (bring s env x v) (name_for s x) ≡ datum_of v
  bring_new true env x (Whole z) h = absurd h
  bring_new true env x (Truth b) h = absurd h
  bring_new true env x (Cells n) h = ap (λ t. cells (canonical (cond t n (env.memories x)))) (bytes_same x)
  bring_new true env x (Blocks t) h = absurd h
  bring_new false env x (Whole z) h = ap (λ t. number (cond t z (env.ints x))) (bytes_same x)
  bring_new false env x (Truth b) h = ap (λ t. number (cond t (whole (Truth b)) (env.ints x))) (bytes_same x)
  bring_new false env x (Cells n) h = absurd h
  bring_new false env x (Blocks t) h = ap (λ u. number (cond u (whole (Blocks t)) (env.ints x))) (bytes_same x)

  -- a name that is used has one datum
  pub name_same : {c : Used} {env env' : Values} (s : Bool) (b : List ℕ) (k : ℕ) → Agree c env env' → IsBase b → k ≤ c b
      → datum m env (name_for s (name_at b k)) ≡ datum m env' (name_for s (name_at b k))
  name_same true b k a i le = ap (λ n. cells (canonical n)) (a.memories b k i le)
  name_same false b k a i le = ap number (a.ints b k i le)

  pub name_sort : (s : Bool) (env : Values) (x : List ℕ) → HasSort s (datum m env (name_for s x))
  name_sort true env x = tt
  name_sort false env x = tt

  pub new_same : (c : Used) {d : Used} {env env' : Values} (b : Base) → IsBase b.name → suc (c b.name) ≤ d b.name → Agree d env env'
      → datum m env (new_name c b) ≡ datum m env' (new_name c b)
  new_same c b i le a = name_same b.is_memory b.name (suc (c b.name)) a i le
