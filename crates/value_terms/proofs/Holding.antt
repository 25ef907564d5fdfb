-- Numbers of a kind, what operators make of them behind their checks, and variables that no pointer leads to.
use Rattle.std.proofs.Common.{◌≡◌, ℕ, Bool, true, false, not, ◌&&◌, ◌||◌, ℤ, pos, List, [], ◌∷◌, Option, Some, None, refl, sym, ap, ◌∙◌, subst}
use Rattle.std.specs.Prelude.{if◌then◌else◌, slice_get, map, int_lt, ◌<ℤ◌}
use Rattle.std.specs.List.{list_all}
use Rattle.std.proofs.lemmas.Bool.{and_parts}
use Rattle.wp_base.specs.declared.kinds.Kind.{Kind}
use Rattle.wp_base.specs.declared.kinds.CellKind.{CellKind}
use Rattle.wp_base.specs.declared.kinds.CellKind.TheVariants as cell
use Rattle.c_kinds.specs.declared.models.Machdep.{Machdep}
use Rattle.c_kinds.specs.declared.models.Machdep.TheVariants as model
use Rattle.c_kinds.specs.Models.{holds}
use Rattle.c_kinds.specs.NumberLaws.{IsOfKind}
use Rattle.c_kinds.proofs.Ranking.{every_kind, for_each}
use Rattle.c_kinds.proofs.Results.{results_are_of_kind}
use Rattle.typed_prog.specs.declared.types.CoreType.{CoreType}
use Rattle.typed_prog.specs.declared.operators.Arithmetic.{Arithmetic}
use Rattle.typed_prog.specs.declared.operators.Arithmetic.TheVariants as ar
use Rattle.typed_prog.specs.declared.operators.Root.{Root}
use Rattle.typed_prog.specs.declared.operators.Root.TheVariants as root
use Rattle.typed_prog.specs.declared.operators.Variable.TheVariants as variable
use Rattle.typed_prog.specs.Types.{is_pointer}
use Rattle.typed_prog.specs.Tree as t
use Rattle.c_runs.specs.TruthStates.{Value, number, pointer, addresses, region, number_of}
use Rattle.c_runs.specs.Program.{Facts, Variable}
use Rattle.c_runs.specs.States.{World}
use Rattle.c_runs.specs.Operators.{Undefined, init, Val, is, truth_number, arithmetic, computed, complement}
use Rattle.c_runs.specs.Objects.{plain_root, is_plain_in}
use Rattle.c_runs.specs.Scopes.{is_content}
use Rattle.c_runs.specs.Values.{kind_at, Temps}
use Rattle.c_runs.specs.Laws.{on_constants, may_be_second, number_in}
use Rattle.c_runs.proofs.Constants.{operators_are_those_of_constants}
use Rattle.c_runs.specs.Checks.{Check, here, one_if, checks_of, all_checks, in_operand, later}
use Rattle.c_runs.specs.CheckLaws.{settle}
use Rattle.c_runs.proofs.Checking.{met_in}
use Rattle.value_terms.specs.Readings.{plain_global}
use Rattle.value_terms.specs.Typed.{given_by, kind_given, second_is}
use Rattle.value_terms.proofs.Listing.{all, all_parts, all_same, deep}
use Rattle.value_terms.proofs.Cells.{less_test}

-- ---- numbers

pub record IsNumber (m : Machdep) (k : Kind) (v : Value) : Type 0 where
  pub same : v ≡ number (number_of v)
  pub held : holds m k (number_of v) ≡ true

pub number_is : (p : Facts) (n : ℤ) (k : Kind) (v : Value) → is_content p n (cell.Of k) v ≡ true → IsNumber p.model k v
number_is p n k (number z) h = record { same = refl; held = h }
number_is p n k (pointer b o) h = absurd cc
number_is p n k (addresses s) h = absurd cc
number_is p n k (region cs s) h = absurd cc

-- that of an operand whose kind is known
pub number_of_kind : (p : Facts) (n : ℤ) (c : CellKind) (k : Kind) (v : Value) → c ≡ cell.Of k → is_content p n c v ≡ true → IsNumber p.model k v
number_of_kind p n c k v e h = number_is p n k v (subst (λ c. is_content p n c v ≡ true) e h)

pub integer_given : (type : CoreType) → is_pointer type ≡ false → kind_given type ≡ cell.Of (kind_at type)
integer_given type e = ap (λ b. given_by b (kind_at type)) e

pub as_given : (p : Facts) (n : ℤ) (type : CoreType) (z : ℤ) → is_pointer type ≡ false → holds p.model (kind_at type) z ≡ true
    → is_content p n (kind_given type) (number z) ≡ true
as_given p n type z e h = subst (λ c. is_content p n c (number z) ≡ true) (sym (integer_given type e)) h

-- ---- 0 and 1

all_truths : (m : Machdep) → list_all (λ k. holds m k (pos 0) && holds m k (pos 1)) every_kind ≡ true
unfolding every_kind
all_truths model.X86_32 = refl
all_truths model.X86_64 = refl

pub holds_zero : (m : Machdep) (k : Kind) → holds m k (pos 0) ≡ true
holds_zero m k = (and_parts _ _ (for_each (λ k. holds m k (pos 0) && holds m k (pos 1)) (all_truths m) k)).0

pub truth_given : (p : Facts) (n : ℤ) (type : CoreType) (b : Bool) → is_pointer type ≡ false → is_content p n (kind_given type) (truth_number b) ≡ true
truth_given p n type b e = by_truth b
  where
    both : (holds p.model (kind_at type) (pos 0) ≡ true) × (holds p.model (kind_at type) (pos 1) ≡ true)
    both = and_parts _ _ (for_each (λ k. holds p.model k (pos 0) && holds p.model k (pos 1)) (all_truths p.model) (kind_at type))

    by_truth : (b : Bool) → is_content p n (kind_given type) (truth_number b) ≡ true
    by_truth true = as_given p n type (pos 1) e both.1
    by_truth false = as_given p n type (pos 0) e both.0

-- ---- arithmetic, behind checks that are met

pub settle_met : {X : Type 0} (cs : List Check) (met : Check → Bool) (bad : Undefined → ℕ → X) (x : X) → all met cs ≡ true → settle cs met bad x ≡ x
settle_met [] met bad x h = refl
settle_met (c ∷ cs) met bad x h =
    let parts = and_parts (met c) _ h in
    ap (λ t. if t then settle cs met bad x else bad c.kind c.line) parts.0 ∙ settle_met cs met bad x parts.1

pub given_held : (m : Machdep) (k : Kind) (v : Val) (z : ℤ) (o : Option ℤ) → number_in v ≡ o → v ≡ is (number z) → IsOfKind m k o → holds m k z ≡ true
given_held m k v z o e f h = subst (IsOfKind m k) (sym e ∙ ap number_in f) h

pub arithmetic_held : (m : Machdep) (k : Kind) (l : ℕ) (o : Arithmetic) (a b : ℤ) → holds m k a ≡ true → may_be_second m k o b ≡ true
    → computed m k l o a b ≡ is (number (arithmetic m k o a b)) → holds m k (arithmetic m k o a b) ≡ true
arithmetic_held m k l o a b h g e =
    given_held m k (computed m k l o a b) _ (on_constants o m k a b) ((operators_are_those_of_constants m k l a b).arithmetic o h g) e (of_kind o)
  where
    of_kind : (o : Arithmetic) → IsOfKind m k (on_constants o m k a b)
    of_kind ar.Mul = (results_are_of_kind m k a b).products
    of_kind ar.Div = (results_are_of_kind m k a b).quotients
    of_kind ar.Rem = (results_are_of_kind m k a b).remainders
    of_kind ar.Add = (results_are_of_kind m k a b).sums
    of_kind ar.Sub = (results_are_of_kind m k a b).differences
    of_kind ar.Shl = (results_are_of_kind m k a b).shifts_left
    of_kind ar.Shr = (results_are_of_kind m k a b).shifts_right
    of_kind ar.And = (results_are_of_kind m k a b).ands
    of_kind ar.Xor = (results_are_of_kind m k a b).xors
    of_kind ar.Or = (results_are_of_kind m k a b).ors

pub complement_held : (m : Machdep) (k : Kind) (a : ℤ) → holds m k a ≡ true → holds m k (complement m k a) ≡ true
complement_held m k a h =
    subst (IsOfKind m k) (sym ((operators_are_those_of_constants m k 0 a a).complement h)) ((results_are_of_kind m k a a).complements)

-- the right operand, which may have a kind of its own
pub second_held : (p : Facts) (n : ℤ) (o : Arithmetic) (k : Kind) (c c' : CellKind) (v : Value) → c ≡ cell.Of k → second_is o c c'
    → is_content p n c' v ≡ true → may_be_second p.model k o (number_of v) ≡ true
second_held p n ar.Mul k c c' v e s h = (number_of_kind p n c' k v (s ∙ e) h).held
second_held p n ar.Div k c c' v e s h = (number_of_kind p n c' k v (s ∙ e) h).held
second_held p n ar.Rem k c c' v e s h = (number_of_kind p n c' k v (s ∙ e) h).held
second_held p n ar.Add k c c' v e s h = (number_of_kind p n c' k v (s ∙ e) h).held
second_held p n ar.Sub k c c' v e s h = (number_of_kind p n c' k v (s ∙ e) h).held
second_held p n ar.Shl k c c' v e s h = refl
second_held p n ar.Shr k c c' v e s h = refl
second_held p n ar.And k c c' v e s h = (number_of_kind p n c' k v (s ∙ e) h).held
second_held p n ar.Xor k c c' v e s h = (number_of_kind p n c' k v (s ∙ e) h).held
second_held p n ar.Or k c c' v e s h = (number_of_kind p n c' k v (s ∙ e) h).held

-- ---- reading

pub plain_is : (xs : List Variable) (r : Root) (x : ℕ) (v : Variable) → plain_root xs r ≡ Some x → slice_get xs x ≡ Some v → v.is_plain ≡ true
plain_is xs (root.Variable (variable.Local y)) x v e f = by_test (is_plain_in (slice_get xs y)) refl e
  where
    by_test : (b : Bool) → is_plain_in (slice_get xs y) ≡ b → (if b then Some y else None) ≡ Some x → v.is_plain ≡ true
    by_test true h e = let same : y ≡ x = cc in sym (ap is_plain_in f) ∙ ap (λ y. is_plain_in (slice_get xs y)) (sym same) ∙ h
    by_test false h e = absurd cc
plain_is xs (root.Variable (variable.Global y)) x v e f = absurd cc
plain_is xs (root.Pointed n) x v e f = absurd cc

pub record GlobalIs (gs : List Variable) (r : Root) (x : ℕ) : Type 0 where
  pub root : r ≡ root.Variable (variable.Global x)
  pub plain : (v : Variable) → slice_get gs x ≡ Some v → v.is_plain ≡ true

pub global_is : (gs : List Variable) (r : Root) (x : ℕ) → plain_global gs r ≡ Some x → GlobalIs gs r x
global_is gs (root.Variable (variable.Global y)) x e = by_test (is_plain_in (slice_get gs y)) refl e
  where
    by_test : (b : Bool) → is_plain_in (slice_get gs y) ≡ b → (if b then Some y else None) ≡ Some x → GlobalIs gs (root.Variable (variable.Global y)) x
    by_test true h e =
        let same : y ≡ x = cc in
        record {
          root = ap (λ y. root.Variable (variable.Global y)) same;
          plain = λ v f. sym (ap is_plain_in f) ∙ ap (λ y. is_plain_in (slice_get gs y)) (sym same) ∙ h;
        }
    by_test false h e = absurd cc
global_is gs (root.Variable (variable.Local y)) x e = absurd cc
global_is gs (root.Pointed n) x e = absurd cc

-- what is asked in some cases is so in these
pub asked_true : (b c : Bool) (u : Undefined) (line : ℕ) (met : Check → Bool) → all met (one_if b u line) ≡ true → met (here u line) ≡ (if b then c else true)
    → b ≡ true → c ≡ true
asked_true true c u line met h e q = sym e ∙ (and_parts (met (here u line)) true h).0
asked_true false c u line met h e q = absurd cc

-- where its check is met, it has a value
pub read_has_value : (sure : Bool) (b : Bool) (l : ℕ) (met : Check → Bool) → met (here init l) ≡ (sure || b) → all met (one_if (not sure) init l) ≡ true
    → (sure || b) ≡ true
read_has_value true b l met h g = refl
read_has_value false b l met h g = sym h ∙ (and_parts (met (here init l)) true g).0

pub some_blocks : (n : ℤ) → pos 0 <ℤ n → (true && int_lt (pos 0) n) ≡ true
some_blocks n h = less_test (pos 0) n h

-- ---- operands, the first one and those behind it

module _ (p : Facts) (xs : List Variable) (tm : Temps) (w : World) where
  pub split : (e : t.Value) (es : t.Values) → all (met_in p xs tm w (t.more e es)) (all_checks xs (t.more e es)) ≡ true
      → (all (met_in p xs tm w (t.more e es)) (map (in_operand 0) (checks_of xs e)) ≡ true)
      × (all (met_in p xs tm w (t.more e es)) (map later (all_checks xs es)) ≡ true)
  split e es met = all_parts (met_in p xs tm w (t.more e es)) (map (in_operand 0) (checks_of xs e)) (map later (all_checks xs es)) met

  pub same_later : (e : t.Value) (es : t.Values)
      → all (λ c. met_in p xs tm w (t.more e es) (later c)) (all_checks xs es) ≡ all (met_in p xs tm w es) (all_checks xs es)
  same_later e es = all_same _ _ (all_checks xs es) (deep xs es _ _ (λ u l n i way. refl))
