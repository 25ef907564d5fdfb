-- Fresh names: values that agree on the names that are used, and values with another one for a name.
use Rattle.std.proofs.Common.{◌≡◌, ◌≤◌, ℕ, zero, suc, ◌+◌, ◌==◌, ℤ, Bool, true, false, cond, List, [], ◌∷◌, ◌++◌, map, codes, refl, sym, ap, ◌∙◌, subst, arith, le_trans, le_refl}
use Rattle.std.proofs.lemmas.Slice.Eq.{bytes_eq-Decides}
use Rattle.std.specs.Str.{bytes_eq}
use Rattle.std.specs.Int.Digits.{digits_of, AllBelowBase}
use Rattle.std.proofs.lemmas.Int.Digits.{all_below_base_digits_of}
use Rattle.qed_terms.specs.Names.{before_colon}
use Rattle.qed_terms.specs.Fresh.{fresh_name, from_colon, numeral, Lacks, hash, Used, use_one}
use Rattle.qed_terms.proofs.Freshness.{fresh_names_differ, fresh_names_are_new}
use Rattle.qed_terms.specs.Meaning.{Values, with_int}
use Rattle.walk_steps.specs.Forms.{bang, SameBesidesBound}
use Rattle.walk_steps.specs.World.{IsBase}

pub bytes_same : (x : List ℕ) → bytes_eq x x ≡ true
bytes_same x = (bytes_eq-Decides x x).1 refl

not_same : (x y : List ℕ) → (x ≡ y → ⊥) → bytes_eq x y ≡ false
not_same x y h = by (bytes_eq x y) refl
  where
    by : (b : Bool) → bytes_eq x y ≡ b → b ≡ false
    by true e = absurd (h ((bytes_eq-Decides x y).0 e))
    by false e = refl

-- a name is the base itself, or a fresh one
abbrev pub name_at : List ℕ → ℕ → List ℕ
name_at base zero = base
name_at base (suc n) = fresh_name base (suc n)

-- the same for the names that are used
pub record Agree (c : Used) (env env' : Values) : Type 0 where
  pub same : (b : List ℕ) (k : ℕ) → IsBase b → k ≤ c b → env.ints (name_at b k) ≡ env'.ints (name_at b k)
  pub memories : env.memories ≡ env'.memories
  pub tables : env.tables ≡ env'.tables

abbrev pub Grows : Used → Used → Type 0
Grows c c' = (b : List ℕ) → c b ≤ c' b

pub agree_same : (c : Used) (env : Values) → Agree c env env
agree_same c env = record { same = λ b k i le. refl; memories = refl; tables = refl }

pub agree_less : {c c' : Used} {env env' : Values} → Grows c c' → Agree c' env env' → Agree c env env'
agree_less g a = record { same = λ b k i le. a.same b k i (le_trans le (g b)); memories = a.memories; tables = a.tables }

pub agree_trans : {c : Used} {x y z : Values} → Agree c x y → Agree c y z → Agree c x z
agree_trans a d = record { same = λ b k i le. a.same b k i le ∙ d.same b k i le; memories = a.memories ∙ d.memories; tables = a.tables ∙ d.tables }

pub grows_same : (c : Used) → Grows c c
grows_same c b = le_refl (c b)

pub grows_trans : {c d e : Used} → Grows c d → Grows d e → Grows c e
grows_trans g h b = le_trans (g b) (h b)

pub use_grows : (c : Used) (b : List ℕ) → Grows c (use_one c b)
use_grows c b x = by (bytes_eq x b)
  where
    by : (t : Bool) → c x ≤ cond t (suc (c x)) (c x)
    by true = omega (arith)
    by false = omega (arith)

pub use_itself : (c : Used) (b : List ℕ) → suc (c b) ≤ use_one c b b
use_itself c b = subst (λ t. suc (c b) ≤ cond t (suc (c b)) (c b)) (sym (bytes_same b)) (le_refl (suc (c b)))

-- ---- another value for the next name of a base

abbrev pub next_name : Used → List ℕ → List ℕ
next_name c b = fresh_name b (suc (c b))

not_next : (c : Used) (b : List ℕ) → IsBase b → (b' : List ℕ) (k : ℕ) → IsBase b' → k ≤ c b' → name_at b' k ≡ next_name c b → ⊥
not_next c b i b' zero i' le e = fresh_names_are_new b (suc (c b)) (subst (Lacks hash) e i'.0)
not_next c b i b' (suc k) i' le e =
    let p = fresh_names_differ b' b (suc k) (suc (c b)) i'.0 i.0 e in
    let n : suc k ≡ suc (c b) = p.1 in
    let q : c b' ≡ c b = ap c p.0 in
    omega (arith, le, n, q)

pub with_next_agrees : (c : Used) (env : Values) (b : List ℕ) (z : ℤ) → IsBase b → Agree c env (with_int env (next_name c b) z)
with_next_agrees c env b z i = record {
  same = λ b' k i' le. ap (λ t. cond t z (env.ints (name_at b' k))) (sym (not_same (name_at b' k) (next_name c b) (not_next c b i b' k i' le)));
  memories = refl;
  tables = refl;
}

pub with_next_new : (c : Used) (env : Values) (b : List ℕ) (z : ℤ) → (with_int env (next_name c b) z).ints (next_name c b) ≡ z
with_next_new c env b z = ap (λ t. cond t z (env.ints (next_name c b))) (bytes_same (next_name c b))

-- ---- names without `!`

lacks_both : (c : ℕ) (xs ys : List ℕ) → Lacks c xs → Lacks c ys → Lacks c (xs ++ ys)
lacks_both c [] ys h k = k
lacks_both c (x ∷ xs) ys h k = (h.0, lacks_both c xs ys h.1 k)

lacks_before : (c : ℕ) (x : List ℕ) → Lacks c x → Lacks c (before_colon x)
lacks_before c [] h = tt
lacks_before c (b ∷ x) h = by (lacks_before c x h.1) (b == 58)
  where
    by : Lacks c (before_colon x) → (t : Bool) → Lacks c (cond t [] (b ∷ before_colon x))
    by rest true = tt
    by rest false = (h.0, rest)

lacks_from : (c : ℕ) (x : List ℕ) → Lacks c x → Lacks c (from_colon x)
lacks_from c [] h = tt
lacks_from c (b ∷ x) h = by (lacks_from c x h.1) (b == 58)
  where
    by : Lacks c (from_colon x) → (t : Bool) → Lacks c (cond t (b ∷ x) (from_colon x))
    by rest true = h
    by rest false = rest

digits_lack : (ds : List ℕ) → AllBelowBase 10 ds → Lacks bang (map (λ d. 48 + d) ds)
digits_lack [] h = tt
digits_lack (d ∷ ds) h = ((λ e. omega (arith, e)), digits_lack ds h.1)

fresh_lacks : (b : List ℕ) (n : ℕ) → Lacks bang b → Lacks bang (fresh_name b n)
unfolding fresh_name
fresh_lacks b n h =
    lacks_both bang (before_colon b) _ (lacks_before bang b h)
    (lacks_both bang (codes "#") _ ((λ e. omega (arith, e)), tt)
    (lacks_both bang (numeral n) (from_colon b) (digits_lack (digits_of 10 n) (all_below_base_digits_of 10 n (omega arith))) (lacks_from bang b h)))

pub name_lacks : (b : List ℕ) (k : ℕ) → IsBase b → Lacks bang (name_at b k)
name_lacks b zero i = i.1
name_lacks b (suc k) i = fresh_lacks b (suc k) i.1

pub same_agree : (c : Used) {env env' : Values} → SameBesidesBound env env' → Agree c env env'
same_agree c s = record { same = λ b k i le. s.ints (name_at b k) (name_lacks b k i); memories = s.memories; tables = s.tables }
