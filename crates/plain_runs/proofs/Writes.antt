-- A temporary or a variable that is set keeps what isn't it, and the slots fit.
use Rattle.std.proofs.Common.{◌≡◌, ℕ, ◌+◌, ◌<◌, ◌≤◌, ℤ, pos, Bool, true, false, List, length, Some, slice_get, refl, sym, ap, ◌∙◌, subst, inr, arith}
use Rattle.std.specs.Prelude.{◌==◌}
use Rattle.std.proofs.lemmas.Bool.{false≢true}
use Rattle.std.proofs.lemmas.Bool.Decides.{Decides-eqb}
use Rattle.c_kinds.specs.Models.{holds}
use Rattle.c_runs.specs.Program.{Facts, Variable}
use Rattle.c_runs.specs.States.{Granted}
use Rattle.c_runs.specs.Claims.{may_change_local}
use Rattle.plain_states.specs.Slots.{State, at, double, value_slot, flag_slot, local_value, local_flag, temp_slot, with_temp_slot, with_variable}
use Rattle.plain_states.specs.Scopes.{kind_of}
use Rattle.plain_states.proofs.Lists.{put_here, put_elsewhere, put_length, value_before, flag_before, set_value, set_flag, set_other, set_behind, set_length}
use Rattle.plain_states.proofs.Scoping.{found_below}
use Rattle.plain_states.proofs.Calling.{some_same}
use Rattle.plain_runs.specs.Fitting.{Shape, sizes, IsFlag, Fit}
use Rattle.plain_runs.specs.Kept.{may_change_global, IsScoped, Kept}

-- one of two, or not
pub same_or : {P : Type 0} (i j : ℕ) → (i ≡ j → P) → ((i ≡ j → ⊥) → P) → P
same_or {P} i j hit miss = by (i == j) refl where
  by : (t : Bool) → (i == j) ≡ t → P
  by true e = hit ((Decides-eqb i j).0 e)
  by false e = miss (λ p. false≢true (sym e ∙ (Decides-eqb i j).1 p))

pub no_match : (i j : ℕ) → (i == j) ≡ false → i ≡ j → ⊥
no_match i j h e = false≢true (sym h ∙ (Decides-eqb i j).1 e)

module _ (p : Facts) (s : Shape) where
  -- ---- temporaries

  module _ (gs : List Granted) (t f : ℕ → Bool) (st : State) (fit : Fit p s st) (scoped : IsScoped p s f st) (n : ℕ) (v : ℤ) (in_range : n < s.temporaries) (of_kind : holds p.model (s.temp_kind n) v ≡ true) where
    abbrev temp_after : State
    temp_after = with_temp_slot (sizes p s) n v st

    elsewhere : (i : ℕ) → (temp_slot (sizes p s) n ≡ i → ⊥) → at temp_after i ≡ at st i
    elsewhere i d = put_elsewhere (pos 0) st (temp_slot (sizes p s) n) i v d

    value_stays : (x : ℕ) → x < (sizes p s).globals + (sizes p s).locals → at temp_after (value_slot x) ≡ at st (value_slot x)
    value_stays x l = let b = value_before x ((sizes p s).globals + (sizes p s).locals) l in elsewhere (value_slot x) (λ e. omega (arith, e, b))

    flag_stays : (x : ℕ) → x < (sizes p s).globals + (sizes p s).locals → at temp_after (flag_slot x) ≡ at st (flag_slot x)
    flag_stays x l = let b = flag_before x ((sizes p s).globals + (sizes p s).locals) l in elsewhere (flag_slot x) (λ e. omega (arith, e, b))

    local_stays : (x : ℕ) → x < (sizes p s).locals → (at temp_after (local_value (sizes p s) x) ≡ at st (local_value (sizes p s) x)) × (at temp_after (local_flag (sizes p s) x) ≡ at st (local_flag (sizes p s) x))
    local_stays x l = (value_stays ((sizes p s).globals + x) (omega (arith, l)), flag_stays ((sizes p s).globals + x) (omega (arith, l)))

    other_temp : (j : ℕ) → (n ≡ j → ⊥) → at temp_after (temp_slot (sizes p s) j) ≡ at st (temp_slot (sizes p s) j)
    other_temp j d = elsewhere (temp_slot (sizes p s) j) (λ e. d (omega (arith, e)))

    this_temp : at temp_after (temp_slot (sizes p s) n) ≡ v
    this_temp = let size = fit.size in put_here (pos 0) st (temp_slot (sizes p s) n) v (omega (arith, size, in_range))

    pub temp_kept : Kept p s gs t (λ j. n == j) f st (with_temp_slot (sizes p s) n v st)
    temp_kept = record {
      fit = record {
        size = put_length st (temp_slot (sizes p s) n) v ∙ fit.size;
        globals = λ x y e. let l = found_below p.globals x y e in ap (holds p.model (kind_of y)) (value_stays x (omega (arith, l))) ∙ fit.globals x y e;
        locals = λ x y e. let l = found_below s.variables x y e in ap (holds p.model (kind_of y)) (local_stays x l).0 ∙ fit.locals x y e;
        temps = λ j l. same_or n j (λ e. subst (λ j. holds p.model (s.temp_kind j) (at temp_after (temp_slot (sizes p s) j)) ≡ true) e (ap (holds p.model (s.temp_kind n)) this_temp ∙ of_kind))
            (λ d. ap (holds p.model (s.temp_kind j)) (other_temp j d) ∙ fit.temps j l);
        flags = λ x l. subst IsFlag (sym (flag_stays x l)) (fit.flags x l);
      };
      globals = λ x l h. value_stays x (omega (arith, l));
      allowed = λ x l h. local_stays x l;
      untouched = λ x l h. local_stays x l;
      rises = λ x l h. (local_stays x l).1 ∙ h;
      scoped = λ x l h. let old = scoped x l h in ((local_stays x l).0 ∙ old.0, (local_stays x l).1 ∙ old.1);
      temporaries = λ j h. other_temp j (no_match n j h);
    }

  -- ---- variables, by their number among those of the file and the function

  module _ (st : State) (fit : Fit p s st) (x : ℕ) (v w : ℤ) (in_range : x < (sizes p s).globals + (sizes p s).locals) where
    abbrev after : State
    after = with_variable x v w st

    long : double ((sizes p s).globals + (sizes p s).locals) ≤ length st
    long = let size = fit.size in omega (arith, size)

    pub this_value : at after (value_slot x) ≡ v
    this_value = set_value x ((sizes p s).globals + (sizes p s).locals) v w st in_range long

    pub this_flag : at after (flag_slot x) ≡ w
    this_flag = set_flag x ((sizes p s).globals + (sizes p s).locals) v w st in_range long

    pub other_variable : (y : ℕ) → (x ≡ y → ⊥) → (at after (value_slot y) ≡ at st (value_slot y)) × (at after (flag_slot y) ≡ at st (flag_slot y))
    other_variable y d = set_other x y v w st d

    pub temps_stay : (n : ℕ) → at after (temp_slot (sizes p s) n) ≡ at st (temp_slot (sizes p s) n)
    temps_stay n = set_behind x ((sizes p s).globals + (sizes p s).locals) (temp_slot (sizes p s) n) v w st in_range (omega arith)

    -- where the variable gets a number of its kind
    pub variable_fits : IsFlag w → ((y : Variable) → slice_get p.globals x ≡ Some y → holds p.model (kind_of y) v ≡ true)
        → ((i : ℕ) (y : Variable) → x ≡ (sizes p s).globals + i → slice_get s.variables i ≡ Some y → holds p.model (kind_of y) v ≡ true) → Fit p s (with_variable x v w st)
    variable_fits flag g l = record {
      size = set_length x v w st ∙ fit.size;
      globals = λ y b e. same_or x y (λ h. ap (λ i. holds p.model (kind_of b) (at after (value_slot i))) (sym h) ∙ ap (holds p.model (kind_of b)) this_value ∙ g b (ap (slice_get p.globals) h ∙ e))
          (λ d. ap (holds p.model (kind_of b)) (other_variable y d).0 ∙ fit.globals y b e);
      locals = λ y b e. same_or x ((sizes p s).globals + y)
          (λ h. ap (λ i. holds p.model (kind_of b) (at after (value_slot i))) (sym h) ∙ ap (holds p.model (kind_of b)) this_value ∙ l y b h e)
          (λ d. ap (holds p.model (kind_of b)) (other_variable ((sizes p s).globals + y) d).0 ∙ fit.locals y b e);
      temps = λ n le. ap (holds p.model (s.temp_kind n)) (temps_stay n) ∙ fit.temps n le;
      flags = λ y le. same_or x y (λ h. subst (λ i. IsFlag (at after (flag_slot i))) h (subst IsFlag (sym this_flag) flag)) (λ d. subst IsFlag (sym (other_variable y d).1) (fit.flags y le));
    }

  -- ---- a variable that a statement sets

  module _ (gs : List Granted) (u f : ℕ → Bool) (st : State) (fit : Fit p s st) (scoped : IsScoped p s f st) where
    -- of the function
    pub local_kept : (x : ℕ) (y : Variable) (v : ℤ) → slice_get s.variables x ≡ Some y → holds p.model (kind_of y) v ≡ true → f x ≡ true → may_change_local p gs x ≡ true
        → Kept p s gs (λ i. x == i) u f st (with_variable ((sizes p s).globals + x) v (pos 1) st)
    local_kept x y v e k so may =
        let l = found_below s.variables x y e in
        let in_range : (sizes p s).globals + x < (sizes p s).globals + (sizes p s).locals = omega (arith, l) in
        let others : (i : ℕ) → (x ≡ i → ⊥) → (at (with_variable ((sizes p s).globals + x) v (pos 1) st) (local_value (sizes p s) i) ≡ at st (local_value (sizes p s) i)) × (at (with_variable ((sizes p s).globals + x) v (pos 1) st) (local_flag (sizes p s) i) ≡ at st (local_flag (sizes p s) i)) =
        λ i d. other_variable st fit ((sizes p s).globals + x) v (pos 1) in_range ((sizes p s).globals + i) (λ h. d (omega (arith, h))) in
        record {
          fit = variable_fits st fit ((sizes p s).globals + x) v (pos 1) in_range (inr refl)
              (λ b h. let m = found_below p.globals ((sizes p s).globals + x) b h in absurd (omega (arith, m)))
              (λ i b h g. let same : x ≡ i = omega (arith, h) in
              ap (λ w. holds p.model (kind_of w) v) (some_same b y (sym g ∙ ap (slice_get s.variables) (sym same) ∙ e)) ∙ k);
          globals = λ i le h. (other_variable st fit ((sizes p s).globals + x) v (pos 1) in_range i (λ h. omega (arith, h, le))).0;
          allowed = λ i le h. others i (λ e. false≢true (sym h ∙ ap (may_change_local p gs) (sym e) ∙ may));
          untouched = λ i le h. others i (no_match x i h);
          rises = λ i le h. same_or x i
              (λ e. ap (λ i. at (with_variable ((sizes p s).globals + x) v (pos 1) st) (local_flag (sizes p s) i)) (sym e) ∙ this_flag st fit ((sizes p s).globals + x) v (pos 1) in_range)
              (λ d. (others i d).1 ∙ h);
          scoped = λ i le h. let old = scoped i le h in let d = others i (λ e. false≢true (sym h ∙ ap f (sym e) ∙ so)) in (d.0 ∙ old.0, d.1 ∙ old.1);
          temporaries = λ n h. temps_stay st fit ((sizes p s).globals + x) v (pos 1) in_range n;
        }

    -- of the file
    pub global_kept : (t : ℕ → Bool) (x : ℕ) (y : Variable) (v : ℤ) → slice_get p.globals x ≡ Some y → holds p.model (kind_of y) v ≡ true → may_change_global gs x ≡ true
        → Kept p s gs t u f st (with_variable x v (pos 1) st)
    global_kept t x y v e k may =
        let l = found_below p.globals x y e in
        let in_range : x < (sizes p s).globals + (sizes p s).locals = omega (arith, l) in
        let locals : (i : ℕ) → (at (with_variable x v (pos 1) st) (local_value (sizes p s) i) ≡ at st (local_value (sizes p s) i)) × (at (with_variable x v (pos 1) st) (local_flag (sizes p s) i) ≡ at st (local_flag (sizes p s) i)) =
        λ i. other_variable st fit x v (pos 1) in_range ((sizes p s).globals + i) (λ h. omega (arith, h, l)) in
        record {
          fit = variable_fits st fit x v (pos 1) in_range (inr refl) (λ b h. ap (λ w. holds p.model (kind_of w) v) (some_same b y (sym h ∙ e)) ∙ k)
              (λ i b h g. absurd (omega (arith, h, l)));
          globals = λ i le h. (other_variable st fit x v (pos 1) in_range i (λ e. false≢true (sym h ∙ ap (may_change_global gs) (sym e) ∙ may))).0;
          allowed = λ i le h. locals i;
          untouched = λ i le h. locals i;
          rises = λ i le h. (locals i).1 ∙ h;
          scoped = λ i le h. let old = scoped i le h in ((locals i).0 ∙ old.0, (locals i).1 ∙ old.1);
          temporaries = λ n h. temps_stay st fit x v (pos 1) in_range n;
        }
