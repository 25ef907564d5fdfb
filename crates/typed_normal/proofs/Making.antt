-- What is made of an expression: statements that are typed, a value of the expression's type, and the kinds of the temporaries that these set.
use Rattle.std.proofs.Common.{◌≡◌, ℕ, zero, suc, ◌<◌, ℤ, pos, Bool, true, false, not, ◌&&◌, if◌then◌else◌, List, [], ◌∷◌, ◌++◌, length, Option, Some, None, option_map, slice_get, refl, sym, ap, ◌∙◌}
use Rattle.std.proofs.lemmas.Bool.{lt-ltb}
use Rattle.wp_base.specs.declared.kinds.CellKind.{CellKind}
use Rattle.wp_base.specs.declared.kinds.Kind.TheVariants as kind
use Rattle.c_kinds.specs.declared.models.Machdep.{Machdep}
use Rattle.c_kinds.specs.declared.models.Machdep.TheVariants as model
use Rattle.c_kinds.specs.Models.{holds}
use Rattle.typed_prog.specs.declared.types.CoreType.{CoreType}
use Rattle.typed_prog.specs.declared.operators.Connective.{Connective}
use Rattle.typed_prog.specs.Types.{of_kind, void, is_pointer}
use Rattle.typed_prog.specs.Tree as t
use Rattle.c_runs.specs.Program.{Function, Facts, Stmts}
use Rattle.c_runs.specs.Values.{kind_at, decides, agree}
use Rattle.c_runs.specs.Core.{Core, set, branch, exit, Cores, end, then_, join, one}
use Rattle.c_runs.specs.Checks.{has_checks}
use Rattle.c_runs.specs.Plans.{temp_of, constant_of, no_value, Made, Tests, Sent, Mades, Plan, kept, save, sent_made, jump, leaf, leafy, straight, crossed, logic_test, flag, logic_made, logic_plan, Condition, jumps_, tests_, condition, next_of, fork, into, choice_made, save_if, made_if, nothing_made}
use Rattle.c_runs.specs.Normal.{normal_function}
use Rattle.plain_states.proofs.Scoping.{none_some}
use Rattle.value_terms.specs.Typed.{IsTyped, AreTyped, kind_given}
use Rattle.typed_runs.specs.Fitting.{Shape, InScope}
use Rattle.typed_normal.specs.Typed.{core_scope, CoreIsTyped, CoresAreTyped}
use Rattle.typed_normal.proofs.Sorts.{SameTypes}

-- ---- where a statement stands

-- in a function with these variables and results, of a file
pub record Place : Type 0 where
  pub facts : Facts
  pub bare : Shape
  pub functions : ℕ → Option (Function Stmts)

-- how many temporaries the function has, and of which kinds
pub record Env : Type 0 where
  pub count : ℕ
  pub kind : ℕ → CellKind

abbrev pub shape : Place → Env → Shape
shape q e = record {
  variables = q.bare.variables;
  temporaries = e.count;
  temp_kind = e.kind;
  result = q.bare.result;
  has_blocks = q.bare.has_blocks;
  has_kind = q.bare.has_kind;
}

abbrev pub normals : Place → ℕ → Option (Function Cores)
normals q n = option_map normal_function (q.functions n)

-- ---- temporaries

-- the first ones have these kinds
abbrev pub Known : List CellKind → Env → Type 0
Known ks e = (n : ℕ) (k : CellKind) → slice_get ks n ≡ Some k → (n < e.count) × (e.kind n ≡ k)

abbrev pub Extends : List CellKind → List CellKind → Type 0
Extends ks ls = (n : ℕ) (k : CellKind) → slice_get ks n ≡ Some k → slice_get ls n ≡ Some k

-- with some temporaries more, up to this number, this is so
pub record Makes (ks : List CellKind) (next : ℕ) (P : Env → Type 0) : Type 0 where
  pub kinds : List CellKind
  pub extends : Extends ks kinds
  pub count : length kinds ≡ next
  pub so : (e : Env) → Known kinds e → P e

-- nothing is set
pub makes_none : {P : Env → Type 0} (ks : List CellKind) (n : ℕ) → length ks ≡ n → ((e : Env) → Known ks e → P e) → Makes ks n P
makes_none ks n count so = record { kinds = ks; extends = λ i k h. h; count = count; so = so }

-- what is so before stays so
pub makes_then : {P Q : Env → Type 0} (ks : List CellKind) (n m : ℕ) → Makes ks n P
    → ((ls : List CellKind) → length ls ≡ n → Extends ks ls → ((e : Env) → Known ls e → P e) → Makes ls m Q) → Makes ks m (λ e. P e × Q e)
makes_then ks n m a next =
    let b = next a.kinds a.count a.extends a.so in
    record {
      kinds = b.kinds;
      extends = λ i k h. b.extends i k (a.extends i k h);
      count = b.count;
      so = λ e known. (a.so e (λ i k h. known i k (b.extends i k h)), b.so e known);
    }

pub makes_map : {P Q : Env → Type 0} (ks : List CellKind) (n : ℕ) → ((e : Env) → P e → Q e) → Makes ks n P → Makes ks n Q
makes_map ks n f a = record { kinds = a.kinds; extends = a.extends; count = a.count; so = λ e known. f e (a.so e known) }

-- what is so of these temporaries alone is so too
pub makes_with : {P Q : Env → Type 0} (ks : List CellKind) (n : ℕ) → ((e : Env) → Known ks e → Q e) → Makes ks n P → Makes ks n (λ e. P e × Q e)
makes_with ks n so a = record {
  kinds = a.kinds;
  extends = a.extends;
  count = a.count;
  so = λ e known. (a.so e known, so e (λ i k h. known i k (a.extends i k h)));
}

kept_at : (ks : List CellKind) (k : CellKind) → Extends ks (ks ++ k ∷ [])
kept_at [] k n l h = absurd (none_some l h)
kept_at (j ∷ ks) k zero l h = h
kept_at (j ∷ ks) k (suc n) l h = kept_at ks k n l h

last_at : (ks : List CellKind) (k : CellKind) → slice_get (ks ++ k ∷ []) (length ks) ≡ Some k
last_at [] k = refl
last_at (j ∷ ks) k = last_at ks k

one_longer : (ks : List CellKind) (k : CellKind) → length (ks ++ k ∷ []) ≡ suc (length ks)
one_longer [] k = refl
one_longer (j ∷ ks) k = ap suc (one_longer ks k)

-- one temporary more, of this kind
abbrev pub IsTemp : ℕ → CellKind → Env → Type 0
IsTemp n k e = (n < e.count) × (e.kind n ≡ k)

pub makes_temp : (ks : List CellKind) (n : ℕ) (k : CellKind) → length ks ≡ n → Makes ks (suc n) (IsTemp n k)
makes_temp ks n k count = record {
  kinds = ks ++ k ∷ [];
  extends = kept_at ks k;
  count = one_longer ks k ∙ ap suc count;
  so = λ e known. known n k (ap (slice_get (ks ++ k ∷ [])) (sym count) ∙ last_at ks k);
}

pub one_of : (m : Machdep) → holds m kind.Int (pos 1) ≡ true
one_of model.X86_32 = refl
one_of model.X86_64 = refl

pub none_of : (m : Machdep) → holds m kind.Int (pos 0) ≡ true
none_of model.X86_32 = refl
none_of model.X86_64 = refl

module _ (q : Place) where
  module _ (f : InScope) where
    -- ---- values

    abbrev pub TypedIn : Env → t.Value → Type 0
    TypedIn e v = IsTyped q.facts q.bare.variables (core_scope q.facts (shape q e) f) v

    -- a value of the type, with these temporaries
    abbrev pub Has : List CellKind → t.Value → Type 0
    Has ks d = (e : Env) → Known ks e → TypedIn e d

    pub has_more : (ks ls : List CellKind) (d : t.Value) → Extends ks ls → Has ks d → Has ls d
    has_more ks ls d more h e known = h e (λ i k g. known i k (more i k g))

    -- what is of no use
    pub has_no_value : (ks : List CellKind) → Has ks no_value
    has_no_value ks e known = (refl, none_of q.facts.model)

  module _ (f : InScope) (low : ℕ) where
    abbrev pub Fits : Env → Cores → Type 0
    Fits e cs = CoresAreTyped q.facts (shape q e) (normals q) f low cs

    abbrev pub FitsOne : Env → Core → Type 0
    FitsOne e c = CoreIsTyped q.facts (shape q e) (normals q) f low c

    pub join_fits : (e : Env) (a b : Cores) → Fits e a → Fits e b → Fits e (join a b)
    join_fits e end b h k = k
    join_fits e (then_ s a) b h k = (h.0, join_fits e a b h.1 k)

    pub record MadeIs (type : CoreType) (m : Made) (e : Env) : Type 0 where
      pub before : Fits e m.before
      pub value : TypedIn f e m.value
      pub same : t.type_of m.value ≡ type

    pub record MadesAre (es : t.Values) (m : Mades) (e : Env) : Type 0 where
      pub before : Fits e m.before
      pub values : AreTyped q.facts q.bare.variables (core_scope q.facts (shape q e) f) m.values
      pub same : SameTypes es m.values

    pub record SentIs (type : CoreType) (x : Sent) (e : Env) : Type 0 where
      pub before : Fits e x.before
      pub put : (n : ℕ) → IsTemp n (kind_given type) e → FitsOne e (x.put n)

    abbrev pub TestsFit : Tests → Env → Type 0
    TestsFit x e = Fits e x.tests

    -- from any number on, where what is left of the effect has a type
    abbrev pub FirstIs : (left : t.Value) → CoreType → (ℕ → Made) → Type 0
    FirstIs d type g = (ks : List CellKind) (n : ℕ) → length ks ≡ n → Has f ks d → Makes ks (g n).next_temp (MadeIs type (g n))

    pub record PlanIs (d : t.Value) (type : CoreType) (plan : Plan) : Type 0 where
      pub made : FirstIs d type plan.made
      pub sent : (ks : List CellKind) (n : ℕ) → length ks ≡ n → Has f ks d → Makes ks (plan.sent n).next_temp (SentIs type (plan.sent n))
      pub test : (want : Bool) (k : ℕ) (ks : List CellKind) (n : ℕ) → length ks ≡ n → Has f ks d → Makes ks (plan.test want k n).next_temp (TestsFit (plan.test want k n))

    -- ---- temporaries that are set

    pub set_fits : (e : Env) (type : CoreType) (n : ℕ) (v : t.Value) → t.type_of v ≡ type → TypedIn f e v → IsTemp n (kind_given type) e → FitsOne e (set n v)
    set_fits e type n v same typed temp = (typed, ap kind_given same ∙ sym temp.1)

    pub temp_is : (e : Env) (type : CoreType) (l n : ℕ) → IsTemp n (kind_given type) e → TypedIn f e (temp_of type l n)
    temp_is e type l n temp = ap (λ b. if b && true then Some (e.kind n) else None) (lt-ltb n e.count temp.0) ∙ ap Some temp.1

    save_is : (e : Env) (type : CoreType) (m : Made) → MadeIs type m e → IsTemp m.next_temp (kind_given type) e → MadeIs type (save m) e
    save_is e type m h temp = record {
      before = join_fits e m.before (one (set m.next_temp m.value)) h.before (set_fits e type m.next_temp m.value h.same h.value temp, tt);
      value = temp_is e (t.type_of m.value) (t.line_of m.value) m.next_temp (temp.0, temp.1 ∙ sym (ap kind_given h.same));
      same = h.same;
    }

    pub saves : (ks : List CellKind) (type : CoreType) (m : Made) → Makes ks m.next_temp (MadeIs type m) → Makes ks (save m).next_temp (MadeIs type (save m))
    saves ks type m h =
        makes_map ks (suc m.next_temp) (λ e both. save_is e type m both.0 both.1)
        (makes_then ks m.next_temp (suc m.next_temp) h (λ ls count more so. makes_temp ls m.next_temp (kind_given type) count))

    pub saves_if : (b : Bool) (ks : List CellKind) (type : CoreType) (m : Made) → Makes ks m.next_temp (MadeIs type m)
        → Makes ks (save_if q.bare.variables b m).next_temp (MadeIs type (save_if q.bare.variables b m))
    saves_if b ks type m h = elim (b && has_checks q.bare.variables m.value) as (λ c. Makes ks (if c then save m else m).next_temp (MadeIs type (if c then save m else m)))
        [ true ↦ saves ks type m h | false ↦ h ]

    sent_is : (e : Env) (type : CoreType) (m : Made) → MadeIs type m e → SentIs type (sent_made m) e
    sent_is e type m h = record { before = h.before; put = λ n temp. set_fits e type n m.value h.same h.value temp }

    -- ---- conditions

    jump_fits : (want : Bool) (e : Env) (k : ℕ) (type : CoreType) (m : Made) → MadeIs type m e → FitsOne e (jump want k m.value)
    jump_fits true e k type m h = (h.value, tt, (tt, tt))
    jump_fits false e k type m h = (h.value, (tt, tt), tt)

    pub leaf_fits : (want : Bool) (k : ℕ) (ks : List CellKind) (type : CoreType) (m : Made) → Makes ks m.next_temp (MadeIs type m) → Makes ks (leaf want k m).next_temp (TestsFit (leaf want k m))
    leaf_fits want k ks type m h = makes_map ks m.next_temp (λ e h. join_fits e m.before (one (jump want k m.value)) h.before (jump_fits want e k type m h, tt)) h

    pub leafy_is : (d : t.Value) (type : CoreType) (g : ℕ → Made) → FirstIs d type g → PlanIs d type (leafy g)
    leafy_is d type g h = record {
      made = h;
      sent = λ ks n count left. makes_map ks (g n).next_temp (λ e h. sent_is e type (g n) h) (h ks n count left);
      test = λ want k ks n count left. leaf_fits want k ks type (g n) (h ks n count left);
    }

    module _ (d : t.Value) where
      straight_is : (u v : CoreType) (a b : Plan) → PlanIs d u a → PlanIs d v b → (want : Bool) (k : ℕ) (ks : List CellKind) (n : ℕ) → length ks ≡ n → Has f ks d
          → Makes ks (straight a b want k n).next_temp (TestsFit (straight a b want k n))
      straight_is u v a b pa pb want k ks n count left =
          let x = a.test want k n in
          let y = b.test want k x.next_temp in
          makes_map ks y.next_temp (λ e both. join_fits e x.tests y.tests both.0 both.1)
          (makes_then ks x.next_temp y.next_temp (pa.test want k ks n count left) (λ ls count more so. pb.test want k ls x.next_temp count (has_more f ks ls d more left)))

      crossed_is : (u v : CoreType) (a b : Plan) → PlanIs d u a → PlanIs d v b → (want : Bool) (k : ℕ) (ks : List CellKind) (n : ℕ) → length ks ≡ n → Has f ks d
          → Makes ks (crossed a b want k n).next_temp (TestsFit (crossed a b want k n))
      crossed_is u v a b pa pb want k ks n count left =
          let x = a.test (not want) 0 n in
          let y = b.test want (suc k) x.next_temp in
          makes_map ks y.next_temp (λ e both. (join_fits e x.tests y.tests both.0 both.1, tt))
          (makes_then ks x.next_temp y.next_temp (pa.test (not want) 0 ks n count left) (λ ls count more so. pb.test want (suc k) ls x.next_temp count (has_more f ks ls d more left)))

      logic_test_is : (c : Connective) (u v : CoreType) (a b : Plan) → PlanIs d u a → PlanIs d v b → (want : Bool) (k : ℕ) (ks : List CellKind) (n : ℕ) → length ks ≡ n → Has f ks d
          → Makes ks (logic_test c a b want k n).next_temp (TestsFit (logic_test c a b want k n))
      logic_test_is c u v a b pa pb want k ks n count left =
          elim (agree (decides c) want) as (λ z. Makes ks (if z then crossed a b want k n else straight a b want k n).next_temp (TestsFit (if z then crossed a b want k n else straight a b want k n)))
          [ true ↦ crossed_is u v a b pa pb want k ks n count left | false ↦ straight_is u v a b pa pb want k ks n count left ]

      -- ---- truths

      truth_typed : (e : Env) (type : CoreType) (l : ℕ) (z : ℤ) → type ≡ of_kind kind.Int → holds q.facts.model kind.Int z ≡ true → TypedIn f e (constant_of type l z)
      truth_typed e type l z int h = (ap is_pointer int, ap (λ u. holds q.facts.model (kind_at u) z) int ∙ h)

      flag_is : (e : Env) (type : CoreType) (l : ℕ) (x : Tests) → type ≡ of_kind kind.Int → TestsFit x e → IsTemp x.next_temp (kind_given type) e → MadeIs type (flag type l x) e
      flag_is e type l x int h temp =
          let yes = then_ (set x.next_temp (constant_of type l (pos 1))) (one (exit 1)) in
          let set_to : (z : ℤ) → holds q.facts.model kind.Int z ≡ true → FitsOne e (set x.next_temp (constant_of type l z)) =
          λ z k. set_fits e type x.next_temp (constant_of type l z) refl (truth_typed e type l z int k) temp in
          record {
            before = ((join_fits e x.tests yes h (set_to (pos 1) (one_of q.facts.model), (tt, tt)), (set_to (pos 0) (none_of q.facts.model), tt)), tt);
            value = temp_is e type l x.next_temp temp;
            same = refl;
          }

      logic_made_is : (type : CoreType) (l : ℕ) (c : Connective) (u v : CoreType) (a b : Plan) → type ≡ of_kind kind.Int → PlanIs d u a → PlanIs d v b → FirstIs d type (logic_made type l c a b)
      logic_made_is type l c u v a b int pa pb ks n count left =
          let x = logic_test c a b true 0 n in
          makes_map ks (suc x.next_temp) (λ e both. flag_is e type l x int both.0 both.1)
          (makes_then ks x.next_temp (suc x.next_temp) (logic_test_is c u v a b pa pb true 0 ks n count left) (λ ls count more so. makes_temp ls x.next_temp (kind_given type) count))

      pub logic_is : (type : CoreType) (l : ℕ) (c : Connective) (u v : CoreType) (a b : Plan) → type ≡ of_kind kind.Int → PlanIs d u a → PlanIs d v b → PlanIs d type (logic_plan type l c a b)
      logic_is type l c u v a b int pa pb =
          let made = logic_made_is type l c u v a b int pa pb in
          record {
            made = made;
            sent = λ ks n count left. makes_map ks (logic_made type l c a b n).next_temp (λ e h. sent_is e type (logic_made type l c a b n) h) (made ks n count left);
            test = λ want k ks n count left. logic_test_is c u v a b pa pb want k ks n count left;
          }

      -- ---- two ways

      -- the condition's own statements, with two ways that fit
      abbrev pub ForkFits : Condition → Env → Type 0
      ForkFits w e = (first other : ℕ → Cores) → ((k : ℕ) → Fits e (first k)) → ((k : ℕ) → Fits e (other k)) → Fits e (fork w first other)

      fork_jumps : (e : Env) (x : Tests) → TestsFit x e → ForkFits (jumps_ x) e
      fork_jumps e x h first other a b = ((join_fits e x.tests (join (first 2) (one (exit 1))) h (join_fits e (first 2) (one (exit 1)) (a 2) (tt, tt)), b 1), tt)

      fork_tests : (e : Env) (type : CoreType) (m : Made) → MadeIs type m e → ForkFits (tests_ m) e
      fork_tests e type m h first other a b = join_fits e m.before (one (branch m.value (first 0) (other 0))) h.before ((h.value, a 0, b 0), tt)

      pub forks : (type : CoreType) (c : Plan) → PlanIs d type c → (ks : List CellKind) (n : ℕ) → length ks ≡ n → Has f ks d → Makes ks (next_of (condition c n)) (ForkFits (condition c n))
      forks type c pc ks n count left =
          elim c.jumps as (λ b. Makes ks (next_of (if b then jumps_ (c.test true 0 n) else tests_ (c.made n))) (ForkFits (if b then jumps_ (c.test true 0 n) else tests_ (c.made n)))) [
            | true ↦ makes_map ks (c.test true 0 n).next_temp (λ e h. fork_jumps e (c.test true 0 n) h) (pc.test true 0 ks n count left)
            | false ↦ makes_map ks (c.made n).next_temp (λ e h. fork_tests e type (c.made n) h) (pc.made ks n count left)
          ]

      into_fits : (e : Env) (type : CoreType) (n : ℕ) (x : Sent) → SentIs type x e → IsTemp n (kind_given type) e → (k : ℕ) → Fits e (into n x k)
      into_fits e type n x h temp k = join_fits e x.before (one (x.put n)) h.before (h.put n temp, tt)

      pub choice_is : (type : CoreType) (l : ℕ) (u : CoreType) (v w : CoreType) (c a b : Plan) → kind_given v ≡ kind_given type → kind_given w ≡ kind_given type → PlanIs d u c → PlanIs d v a
          → PlanIs d w b → FirstIs d type (choice_made type l c a b)
      choice_is type l u v w c a b av bw pc pa pb ks n count left =
          let o = condition c n in
          let x = a.sent (next_of o) in
          let y = b.sent (suc x.next_temp) in
          makes_map ks y.next_temp
          (λ e all. record {
            before = all.0 (into x.next_temp x) (into x.next_temp y) (into_fits e v x.next_temp x all.1.0 (all.1.1.0.0, all.1.1.0.1 ∙ sym av))
                (into_fits e w x.next_temp y all.1.1.1 (all.1.1.0.0, all.1.1.0.1 ∙ sym bw));
            value = temp_is e type l x.next_temp all.1.1.0;
            same = refl;
          })
          (makes_then ks (next_of o) y.next_temp (forks u c pc ks n count left) (λ ls count more so.
          makes_then ls x.next_temp y.next_temp (pa.sent ls (next_of o) count (has_more f ks ls d more left)) (λ js count' more' so'.
          makes_then js (suc x.next_temp) y.next_temp (makes_temp js x.next_temp (kind_given type) count') (λ is count'' more'' so''.
          pb.sent is (suc x.next_temp) count'' (has_more f js is d more'' (has_more f ls js d more' (has_more f ks ls d more left)))))))

    -- ---- what is kept

    pub kept_is : (d : t.Value) (type : CoreType) (v : t.Value) → t.type_of v ≡ type → ((ks : List CellKind) → Has f ks d → Has f ks v) → FirstIs d type (kept v)
    kept_is d type v same typed ks n count left = makes_none ks n count (λ e known. record { before = tt; value = typed ks left e known; same = same })

    pub nothing_is : (d : t.Value) → FirstIs d void nothing_made
    nothing_is d = kept_is d void no_value refl (λ ks left. has_no_value f ks)

    pub if_is : (b : Bool) (d : t.Value) (u v : CoreType) (g h : ℕ → Made) → FirstIs d u g → FirstIs d v h → FirstIs d (if b then u else v) (made_if b g h)
    if_is true d u v g h pg ph = pg
    if_is false d u v g h pg ph = ph
