-- Where a tree stands: in the body that it is spelled in, and in what that becomes.
use Rattle.std.proofs.Common.{◌≡◌, ℕ, suc, ◌+◌, ◌<◌, ◌≤◌, Bool, true, false, ◌||◌, not, List, length, nat_lt, eqb, refl, sym, ap, ◌∙◌, ⊎_elim, arith}
use Rattle.std.specs.Prelude.{◌-◌}
use Rattle.std.proofs.lemmas.Bool.{cases_Bool, false≢true}
use Rattle.std.proofs.lemmas.Bool.Decides.{Decides-eqb}
use Rattle.acsl_trees.specs.declared.heads.Head.TheVariants as hd
use Rattle.acsl_trees.specs.declared.heads.Label.{Label}
use Rattle.acsl_trees.specs.Tree.{Tree, leaf}
use Rattle.c_runs.specs.TruthStates.{Value, World, moved_to}
use Rattle.c_runs.specs.Truth.{Env, with_name, Calls, value}
use Rattle.acsl_expand.specs.Expansion.{placed}

-- ---- environments

-- the names that are around have the values that they had
abbrev pub Keeps : (around : ℕ) → Env → Env → Type 0
Keeps d old new = (i : ℕ) → i < d → new i ≡ old i

at_name : (d : ℕ) (v : Value) (env : Env) → with_name d v env d ≡ v
at_name d v env = rw ((Decides-eqb d d).1 refl) refl

other_name : (d : ℕ) (v : Value) (env : Env) (i : ℕ) → (i ≡ d → ⊥) → with_name d v env i ≡ env i
other_name d v env i h = ⊎_elim (λ t. absurd (h ((Decides-eqb i d).0 t))) (λ f. rw f refl) (cases_Bool (eqb i d))

-- any state where labels may stand, and else the one state
abbrev pub Same : (labels : Bool) → World → World → Type 0
Same true w w' = Unit {0}
Same false w w' = w' ≡ w

pub same_refl : (l : Bool) (w : World) → Same l w w
same_refl true w = tt
same_refl false w = refl

-- A term binds no name, so it is read alike wherever it stands.
abbrev pub Deep : (binders : Bool) → (around read : ℕ) → Type 0
Deep true d e = e ≡ d
Deep false d e = Unit {0}

pub deep_is : (u : Bool) (d e : ℕ) → u ≡ true → Deep u d e → e ≡ d
deep_is true d e is deep = deep
deep_is false d e is deep = absurd (false≢true is)

pub deep_refl : (u : Bool) (d : ℕ) → Deep u d d
deep_refl true d = refl
deep_refl false d = tt

pub deep_call : (u is_term : Bool) (d e : ℕ) → (u || is_term) ≡ true → Deep u d e → Deep (not is_term) d e
deep_call u true d e may deep = tt
deep_call true false d e may deep = deep
deep_call false false d e may deep = absurd (false≢true may)

-- the next name of the body is that of the next binder
pub record Level (n d : ℕ) (args : List Tree) (base : ℕ) : Type 0 where
  pub place : n + base ≡ length args + d
  pub above : base ≤ d

pub more_level : (n d base : ℕ) (args : List Tree) → Level n d args base → Level (suc n) (suc d) args base
more_level n d base args h = record { place = omega (arith, h.place); above = omega (arith, h.above) }

placed_next : (n d base : ℕ) (args : List Tree) → Level n d args base → placed args base n ≡ leaf (hd.Name d)
placed_next n d base args h =
    let t : nat_lt n (length args) ≡ false = grind (arith, h.place, h.above) in
    let e : (n - length args) + base ≡ d = omega (arith, h.place, h.above) in rw t (ap (λ k. leaf (hd.Name k)) e)

-- ---- places

-- by the calls that are left
module _ (m : Calls) where
  -- each name of the body stands for a tree with its value, whatever binders are added
  abbrev pub Fits : (labels : Bool) → (n d : ℕ) → Env → World → List Tree → (base : ℕ) → Env → Type 0
  Fits l n d env w args base ns =
      (x : ℕ) (env' : Env) (e : ℕ) (w' : World) → x < n → Keeps d env env' → Same l w w' → value m env' e w' (placed args base x) ≡ ns x

  -- Labels may stand there (`l`), and binders (`u`). In the body `n` names are around, with the values `ns`; `d` are around what it becomes, which is read
  -- as if there were `e`.
  pub record Around : Type 0 where
    pub l : Bool
    pub u : Bool
    pub n : ℕ
    pub d : ℕ
    pub e : ℕ
    pub env : Env
    pub w : World
    pub args : List Tree
    pub base : ℕ
    pub ns : Env
    pub level : Level n d args base
    pub deep : Deep u d e
    pub fits : Fits l n d env w args base ns

  pub fits_more : (c : Around) (v : Value) → Fits c.l (suc c.n) (suc c.d) (with_name c.d v c.env) c.w c.args c.base (with_name c.n v c.ns)
  fits_more c v x env' e w' lt keeps same = ⊎_elim (λ t. next ((Decides-eqb x c.n).0 t)) (λ f. before (below f) ∙ rw f refl) (cases_Bool (eqb x c.n))
    where
      next : x ≡ c.n → value m env' e w' (placed c.args c.base x) ≡ with_name c.n v c.ns x
      next is =
          ap (λ x. value m env' e w' (placed c.args c.base x)) is ∙ ap (value m env' e w') (placed_next c.n c.d c.base c.args c.level)
          ∙ keeps c.d (omega arith) ∙ at_name c.d v c.env ∙ sym (at_name c.n v c.ns) ∙ ap (with_name c.n v c.ns) (sym is)

      below : eqb x c.n ≡ false → x < c.n
      below f = let p : x ≡ c.n → ⊥ = λ p. false≢true (sym f ∙ (Decides-eqb x c.n).1 p) in grind (arith, lt, p)

      before : x < c.n → value m env' e w' (placed c.args c.base x) ≡ c.ns x
      before less = c.fits x env' e w' less (λ i le. keeps i (omega (arith, le)) ∙ other_name c.d v c.env i (λ p. omega (arith, p, le))) same

  -- under a binder that stands for this
  abbrev pub under : Around → Value → Around
  under c v = record c {
    n = suc c.n;
    d = suc c.d;
    e = suc c.d;
    env = with_name c.d v c.env;
    ns = with_name c.n v c.ns;
    level = more_level c.n c.d c.base c.args c.level;
    deep = deep_refl c.u (suc c.d);
    fits = fits_more c v;
  }

  -- read where it stands
  abbrev pub in_place : Around → Around
  in_place c = record c { e = c.d; deep = deep_refl c.u c.d }

  -- an argument, read under more binders
  abbrev pub as_argument : (c : Around) (env' : Env) (e' : ℕ) → Keeps c.d c.env env' → Around
  as_argument c env' e' keeps = record c {
    u = false;
    e = e';
    env = env';
    deep = tt;
    fits = λ x env'' e'' w' lt keeps' same. c.fits x env'' e'' w' lt (λ i le. keeps' i le ∙ keeps i le) same;
  }

  pub fits_at : (l : Bool) → l ≡ true → (n d : ℕ) (env : Env) (w w' : World) (args : List Tree) (base : ℕ) (ns : Env)
      → Fits l n d env w args base ns → Fits l n d env w' args base ns
  fits_at true is n d env w w' args base ns fits = fits
  fits_at false is n d env w w' args base ns fits = absurd (false≢true is)

  abbrev pub under_label : (c : Around) (label : Label) → c.l ≡ true → Around
  under_label c label is = record c {
    w = moved_to label c.w;
    fits = fits_at c.l is c.n c.d c.env c.w (moved_to label c.w) c.args c.base c.ns c.fits;
  }
