-- Where a tree stands: what stands for names and states there, whatever binders come later.
use Rattle.std.proofs.Common.{◌≡◌, ℕ, suc, ◌+◌, ◌==◌, Bool, true, false, cond, List, refl, sym, ap, ◌∙◌, subst, arith, ⊎_elim}
use Rattle.std.specs.Prelude.{ℤ, if◌then◌else◌, Option}
use Rattle.std.specs.Str.{bytes_eq}
use Rattle.std.proofs.lemmas.Bool.{cases_Bool}
use Rattle.std.proofs.lemmas.Slice.Eq.{bytes_eq-Decides}
use Rattle.wp_base.specs.declared.kinds.Kind.{Kind}
use Rattle.acsl_trees.specs.declared.heads.Label.{Label}
use Rattle.acsl_trees.specs.declared.heads.Label.TheVariants as label
use Rattle.c_runs.specs.TruthStates as state
use Rattle.c_runs.specs.TruthStates.{Value, World, number}
use Rattle.c_runs.specs.Truth as truth
use Rattle.c_runs.specs.Truth.{Env}
use Rattle.qed_terms.specs.Tree.{var}
use Rattle.qed_terms.specs.Meaning.{Values, World as Logic, with_int}
use Rattle.acsl_encode.specs.Readings.{Terms, integer, Reading, moved_to}
use Rattle.acsl_encode.specs.Encode.{Names, with_name}
use Rattle.acsl_encode.specs.Meaning.{Means, IsOfKind, AtHome, Stands}
use Rattle.acsl_encode.specs.Binders.{Binders, Differ, Later}
use Rattle.acsl_encode.specs.Calls.{CallsStand}
use Rattle.leaf_annotations.specs.Sorted.{TermsSorted, ReadingSorted}
use Rattle.acsl_encode.proofs.Heads.{at_label}
use Rattle.leaf_annotations.proofs.Sorting as sorting
use Rattle.leaf_annotations.proofs.Sorting.{NamesSorted, moved_reading}

-- ---- assignments

pub later_same : (b : Binders) (i : ℕ) (env : Values) → Later b i env env
later_same b i env = record { ints = λ x free. refl; memories = λ x. refl; tables = λ x. refl }

pub later_from : (b : Binders) (i n : ℕ) (env env' : Values) → Later b (i + n) env env' → Later b i env env'
later_from b i n env env' l = record {
  ints = λ x free. l.ints x (λ k le. free k (omega (arith, le)));
  memories = l.memories;
  tables = l.tables;
}

pub later_both : (b : Binders) (i : ℕ) (env env' env'' : Values) → Later b i env env' → Later b i env' env'' → Later b i env env''
later_both b i env env' env'' l k = record {
  ints = λ x free. k.ints x free ∙ l.ints x free;
  memories = λ x. k.memories x ∙ l.memories x;
  tables = λ x. k.tables x ∙ l.tables x;
}

other_int : (env : Values) (x y : List ℕ) (z : ℤ) → (x ≡ y → ⊥) → (with_int env x z).ints y ≡ env.ints y
other_int env x y z differ =
    ⊎_elim (λ yes. absurd (differ (sym ((bytes_eq-Decides y x).0 yes)))) (λ no. ap (λ b. cond b z (env.ints y)) no) (cases_Bool (bytes_eq y x))

pub this_int : (env : Values) (x : List ℕ) (z : ℤ) → (with_int env x z).ints x ≡ z
this_int env x z = ap (λ b. cond b z (env.ints x)) ((bytes_eq-Decides x x).1 refl)

pub later_bound : (b : Binders) (i : ℕ) (env : Values) (z : ℤ) → Later b i env (with_int env (b i) z)
later_bound b i env z = record {
  ints = λ x free. other_int env (b i) x z (free i (omega arith));
  memories = λ x. refl;
  tables = λ x. refl;
}

-- ---- places

-- `m` is what calls mean
module _ (q : Logic) (m : truth.Calls) where
  -- Binders from number `i` on are free; `d` names are around, which stand for these values.
  pub record Around : Type 0 where
    pub r : Reading
    pub w : World
    pub env : Values
    pub ns : Names
    pub values : Env
    pub i : ℕ
    pub d : ℕ
    pub differ : Differ r.common.binder
    pub calls : CallsStand q.apps m r.common r.called
    pub good : ReadingSorted r
    pub names_sorted : NamesSorted ns
    pub stands : (env' : Values) → Later r.common.binder i env env' → Stands q r env' w
    pub fits : (env' : Values) → Later r.common.binder i env env' → (x : ℕ) → Means q r.common env' (ns x) (values x)

  -- behind so many binders
  abbrev pub behind : Around → ℕ → Around
  behind c n = record c {
    i = c.i + n;
    stands = λ env' l. c.stands env' (later_from c.r.common.binder c.i n c.env env' l);
    fits = λ env' l. c.fits env' (later_from c.r.common.binder c.i n c.env env' l);
  }

  -- under other values of the binders that are free
  abbrev pub at_values : (c : Around) (env : Values) → Later c.r.common.binder c.i c.env env → Around
  at_values c env l = record c {
    env = env;
    stands = λ env' k. c.stands env' (later_both c.r.common.binder c.i c.env env env' l k);
    fits = λ env' k. c.fits env' (later_both c.r.common.binder c.i c.env env env' l k);
  }

  pub moved_stands : (l : Label) (r : Reading) (env : Values) (w : World) → Stands q r env w → Stands q (moved_to l r) env (state.moved_to l w)
  moved_stands l r env w s = record {
    here = at_label q r env l w s;
    pre = s.pre;
    post = s.post;
    loop_entry = s.loop_entry;
    result = s.result;
    model = s.model;
    structs = s.structs;
    hidden = s.hidden;
    homes = λ k. moved_homes k;
    long_bits = s.long_bits;
  }
    where
      moved_homes : (k : Label) → AtHome r.common (state.state_at k (state.moved_to l w))
      moved_homes label.Here = s.homes l
      moved_homes label.Pre = s.homes label.Pre
      moved_homes label.Post = s.homes label.Post
      moved_homes label.LoopEntry = s.homes label.LoopEntry

  abbrev pub under_label : Around → Label → Around
  under_label c k = record c {
    r = moved_to k c.r;
    w = state.moved_to k c.w;
    stands = λ env' l. moved_stands k c.r env' c.w (c.stands env' l);
    good = moved_reading k c.r c.good;
  }

  pub named_fits : (c : Around) (x : Terms) (v : Value) (env' : Values) → Means q c.r.common env' x v →
      ((y : ℕ) → Means q c.r.common env' (c.ns y) (c.values y))
      → (y : ℕ) → Means q c.r.common env' (with_name c.d x c.ns y) (truth.with_name c.d v c.values y)
  named_fits c x v env' h fits y = by (y == c.d)
    where
      by : (b : Bool) → Means q c.r.common env' (if b then x else c.ns y) (if b then v else c.values y)
      by true = h
      by false = fits y

  -- under a name for this
  abbrev pub under_let : (c : Around) (x : Terms) (v : Value) → TermsSorted x
      → ((env' : Values) → Later c.r.common.binder c.i c.env env' → Means q c.r.common env' x v) → Around
  under_let c x v fit means = record c {
    ns = with_name c.d x c.ns;
    values = truth.with_name c.d v c.values;
    d = suc c.d;
    fits = λ env' l. named_fits c x v env' (means env' l) (c.fits env' l);
    names_sorted = sorting.named_sorted c.d x c.ns fit c.names_sorted;
  }

  -- ---- under a binder

  module _ (c : Around) (k : Option Kind) (z : ℤ) (is_kind : IsOfKind c.r.common.model k z) where
    abbrev bound : Values
    bound = with_int c.env (c.r.common.binder c.i) z

    abbrev all_later : (env' : Values) → Later c.r.common.binder (suc c.i) bound env' → Later c.r.common.binder c.i c.env env'
    all_later env' l =
        later_both c.r.common.binder c.i c.env bound env' (later_bound c.r.common.binder c.i c.env z) (later_next l)
      where
        later_next : Later c.r.common.binder (suc c.i) bound env' → Later c.r.common.binder c.i bound env'
        later_next l = record { ints = λ x free. l.ints x (λ n le. free n (omega (arith, le))); memories = l.memories; tables = l.tables }

    bound_is : (env' : Values) → Later c.r.common.binder (suc c.i) bound env' → env'.ints (c.r.common.binder c.i) ≡ z
    bound_is env' l =
        l.ints (c.r.common.binder c.i) (λ n le e. let same = c.differ n c.i e in omega (arith, le, same)) ∙ this_int c.env (c.r.common.binder c.i) z

    pub bound_means : (env' : Values) → Later c.r.common.binder (suc c.i) bound env' → Means q c.r.common env' (integer k (var (c.r.common.binder c.i)))
        (number z)
    bound_means env' l = let e = sym (bound_is env' l) in (ap number e, subst (λ z. IsOfKind c.r.common.model k z) e is_kind)

    abbrev pub under_binder : Around
    under_binder = record c {
      env = bound;
      ns = with_name c.d (integer k (var (c.r.common.binder c.i))) c.ns;
      values = truth.with_name c.d (number z) c.values;
      i = suc c.i;
      d = suc c.d;
      stands = λ env' l. c.stands env' (all_later env' l);
      fits = λ env' l. named_fits c (integer k (var (c.r.common.binder c.i))) (number z) env' (bound_means env' l) (c.fits env' (all_later env' l));
      names_sorted = sorting.named_sorted c.d (integer k (var (c.r.common.binder c.i))) c.ns (λ q env. refl) c.names_sorted;
    }
