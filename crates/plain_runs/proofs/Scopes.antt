-- A scope that is entered and left keeps what isn't set in it.
use Rattle.std.proofs.Common.{◌≡◌, ℕ, zero, suc, ◌+◌, ◌<◌, ◌≤◌, ℤ, pos, Bool, true, false, ◌||◌, if◌then◌else◌, List, [], ◌∷◌, length, Option, Some, None, is_some, slice_get, refl, sym, ap, ◌∙◌, subst, inl, inr, arith}
use Rattle.std.specs.Prelude.{◌==◌}
use Rattle.std.specs.List.{list_all}
use Rattle.std.proofs.lemmas.Bool.{false≢true, and_parts}
use Rattle.std.proofs.lemmas.Bool.Decides.{Decides-eqb}
use Rattle.std.proofs.lemmas.Int.{ints}
use Rattle.wp_base.specs.declared.kinds.CellKind.TheVariants as cell
use Rattle.wp_base.specs.declared.kinds.Kind.{Kind}
use Rattle.wp_base.specs.declared.kinds.Kind.TheVariants as kind
use Rattle.c_kinds.specs.declared.models.Machdep.{Machdep}
use Rattle.c_kinds.specs.declared.models.Machdep.TheVariants as model
use Rattle.c_kinds.specs.Models.{holds}
use Rattle.c_runs.specs.TruthStates.{Value, number, pointer, addresses, region, number_of}
use Rattle.c_runs.specs.Program.{Facts, Variable}
use Rattle.c_runs.specs.States.{Granted}
use Rattle.c_runs.specs.Claims.{may_change_local}
use Rattle.c_runs.specs.Scopes.{next_content, scalar_of}
use Rattle.plain_states.specs.Slots.{State, at, value_slot, flag_slot, local_value, local_flag, temp_slot, with_variable}
use Rattle.plain_states.specs.Scopes.{is_integer, are_one_integer, kind_of, first_value, first_flag, left_contents, made_state, made_contents, scope_state, without_variables}
use Rattle.plain_states.proofs.Scoping.{found_below, listed_integer, cell_of_integer}
use Rattle.plain_states.proofs.Calling.{some_same}
use Rattle.plain_runs.specs.Fitting.{Shape, sizes, IsFlag, Fit, with_name, with_names, Declares}
use Rattle.plain_runs.specs.Kept.{AllBelow, IsScoped, Unchanged, Kept, Returned}
use Rattle.plain_runs.proofs.Keeping.{first_false, second_false}
use Rattle.plain_runs.proofs.Writes.{no_match, variable_fits, other_variable, temps_stay, this_value, this_flag}
use Rattle.plain_runs.proofs.Sets.{high_may}

-- ---- first values

-- 0 is a number of each kind
pub zero_of : (m : Machdep) (k : Kind) → holds m k (pos 0) ≡ true
zero_of model.X86_32 kind.Bool = refl
zero_of model.X86_32 kind.Char = refl
zero_of model.X86_32 kind.SChar = refl
zero_of model.X86_32 kind.UChar = refl
zero_of model.X86_32 kind.Short = refl
zero_of model.X86_32 kind.UShort = refl
zero_of model.X86_32 kind.Int = refl
zero_of model.X86_32 kind.UInt = refl
zero_of model.X86_32 kind.Long = refl
zero_of model.X86_32 kind.ULong = refl
zero_of model.X86_32 kind.LLong = refl
zero_of model.X86_32 kind.ULLong = refl
zero_of model.X86_64 kind.Bool = refl
zero_of model.X86_64 kind.Char = refl
zero_of model.X86_64 kind.SChar = refl
zero_of model.X86_64 kind.UChar = refl
zero_of model.X86_64 kind.Short = refl
zero_of model.X86_64 kind.UShort = refl
zero_of model.X86_64 kind.Int = refl
zero_of model.X86_64 kind.UInt = refl
zero_of model.X86_64 kind.Long = refl
zero_of model.X86_64 kind.ULong = refl
zero_of model.X86_64 kind.LLong = refl
zero_of model.X86_64 kind.ULLong = refl

content_of : (p : Facts) (n : ℤ) (k : Kind) (vs : List Value) → holds p.model k (number_of (next_content p n (cell.Of k) vs)) ≡ true
content_of p n k [] = zero_of p.model k
content_of p n k (number z ∷ vs) = by (holds p.model k z) refl where
  by : (t : Bool) → holds p.model k z ≡ t → holds p.model k (number_of (if t then number z else number (pos 0))) ≡ true
  by true e = e
  by false e = zero_of p.model k
content_of p n k (pointer b o ∷ vs) = zero_of p.model k
content_of p n k (addresses s ∷ vs) = zero_of p.model k
content_of p n k (region cells s ∷ vs) = zero_of p.model k

first_of : (p : Facts) (n : ℤ) (v : Variable) (vs : List Value) → is_integer v ≡ true → holds p.model (kind_of v) (first_value p n v vs) ≡ true
first_of p n v vs h = by v.has_value where
  by : (t : Bool) → holds p.model (kind_of v) (if t then pos 0 else number_of (next_content p n (scalar_of v.layout.cells) vs)) ≡ true
  by true = zero_of p.model (kind_of v)
  by false = ap (λ c. holds p.model (kind_of v) (number_of (next_content p n c vs))) (cell_of_integer v.layout.cells (and_parts v.is_plain (are_one_integer v.layout.cells) h).1) ∙ content_of p n (kind_of v) vs

flag_of : (v : Variable) → IsFlag (first_flag v)
flag_of v = by v.has_value where
  by : (t : Bool) → IsFlag (if t then pos 1 else pos 0)
  by true = inr refl
  by false = inl refl

pub on_bool : {P : Type 0} (b : Bool) → (b ≡ true → P) → (b ≡ false → P) → P
on_bool true hit miss = hit refl
on_bool false hit miss = miss refl

-- ---- names of a block

pub listed : List ℕ → ℕ → Bool
listed [] x = false
listed (y ∷ ys) x = (y == x) || listed ys x

pub names_split : (ys : List ℕ) (f : ℕ → Bool) (x : ℕ) → with_names ys f x ≡ false → (listed ys x ≡ false) × (f x ≡ false)
unfolding listed
names_split [] f x h = (refl, h)
names_split (y ∷ ys) f x h =
    let r = names_split ys (with_name y f) x h in
    let q = first_false (y == x) (f x) r.1 in
    (ap (λ t. t || listed ys x) q ∙ r.0, second_false (y == x) (f x) r.1)

pub names_join : (ys : List ℕ) (f : ℕ → Bool) (x : ℕ) → listed ys x ≡ false → f x ≡ false → with_names ys f x ≡ false
unfolding listed
names_join [] f x h k = k
names_join (y ∷ ys) f x h k = names_join ys (with_name y f) x (second_false (y == x) (listed ys x) h) (ap (λ t. t || f x) (first_false (y == x) (listed ys x) h) ∙ k)

module _ (p : Facts) (s : Shape) where
  -- a block's variables aren't in scope around it, and stand behind those of loops
  pub listed_free : (f : ℕ → Bool) (low : ℕ) (ys : List ℕ) → Declares p s f low ys → (x : ℕ) → listed ys x ≡ true → (f x ≡ false) × (low ≤ x)
  unfolding listed
  listed_free f low [] d x h = absurd (false≢true h)
  listed_free f low (y ∷ ys) d x h = by (y == x) refl (λ q. let r = listed_free (with_name y f) low ys d.3 x q in (second_false (y == x) (f x) r.0, r.1)) h where
    by : (t : Bool) → (y == x) ≡ t → (listed ys x ≡ true → (f x ≡ false) × (low ≤ x)) → (t || listed ys x) ≡ true → (f x ≡ false) × (low ≤ x)
    by true e later h = let same = (Decides-eqb y x).0 e in let le = d.1 in (ap f (sym same) ∙ d.0, omega (arith, le, same))
    by false e later h = later h

-- ---- a block is entered

no_none : {X : Type 0} (xs : List X) (i : ℕ) → i < length xs → slice_get xs i ≡ None → ⊥
no_none [] i l e = omega (arith, l)
no_none (x ∷ xs) zero l e = false≢true (sym (ap is_some e))
no_none (x ∷ xs) (suc i) l e = no_none xs i (omega (arith, l)) e

-- all slots but those of the block's variables are as before
pub record Spares (p : Facts) (s : Shape) (ys : List ℕ) (st after : State) : Type 0 where
  pub locals : (x : ℕ) → x < (sizes p s).locals → listed ys x ≡ false → Unchanged p s st after x
  pub globals : (x : ℕ) → x < (sizes p s).globals → (at after (value_slot x) ≡ at st (value_slot x)) × (at after (flag_slot x) ≡ at st (flag_slot x))
  pub temps : (n : ℕ) → at after (temp_slot (sizes p s) n) ≡ at st (temp_slot (sizes p s) n)

pub record Entered (p : Facts) (s : Shape) (f : ℕ → Bool) (ys : List ℕ) (st after : State) : Type 0 where
  pub fit : Fit p s after
  pub scoped : IsScoped p s (with_names ys f) after
  pub spares : Spares p s ys st after

module _ (p : Facts) (s : Shape) where
  spares_none : (st : State) → Spares p s [] st st
  spares_none st = record { locals = λ x l h. (refl, refl); globals = λ x l. (refl, refl); temps = λ n. refl }

  -- one of its variables, and then the others
  spares_one : (y : ℕ) (ys : List ℕ) (v w : ℤ) (st after : State) → Fit p s st → y < (sizes p s).locals → Spares p s ys (with_variable ((sizes p s).globals + y) v w st) after
      → Spares p s (y ∷ ys) st after
  unfolding listed
  spares_one y ys v w st after fit l rest =
      let in_range : (sizes p s).globals + y < (sizes p s).globals + (sizes p s).locals = omega (arith, l) in
      record {
        locals = λ x le h.
            let other = other_variable p s st fit ((sizes p s).globals + y) v w in_range ((sizes p s).globals + x)
            (λ e. no_match y x (first_false (y == x) (listed ys x) h) (omega (arith, e))) in
            let later = rest.locals x le (second_false (y == x) (listed ys x) h) in
            (later.0 ∙ other.0, later.1 ∙ other.1);
        globals = λ x le.
            let other = other_variable p s st fit ((sizes p s).globals + y) v w in_range x (λ e. omega (arith, e, le)) in
            let later = rest.globals x le in
            (later.0 ∙ other.0, later.1 ∙ other.1);
        temps = λ n. rest.temps n ∙ temps_stay p s st fit ((sizes p s).globals + y) v w in_range n;
      }

  module _ (all : list_all is_integer s.variables ≡ true) (n : ℤ) where
    enters_one : (f : ℕ → Bool) (y : ℕ) (ys : List ℕ) (vs : List Value) (st : State) → Fit p s st → IsScoped p s f st → y < (sizes p s).locals
        → ((vs : List Value) (st : State) → Fit p s st → IsScoped p s (with_name y f) st → Entered p s (with_name y f) ys st (scope_state p s.variables n ys vs st))
        → (o : Option Variable) → slice_get s.variables y ≡ o → Entered p s f (y ∷ ys) st (scope_state p s.variables n ys (made_contents p s.variables n o vs) (made_state p s.variables n y o vs st))
    enters_one f y ys vs st fit scoped l rest None e = absurd (no_none s.variables y l e)
    enters_one f y ys vs st fit scoped l rest (Some v) e =
        let in_range : (sizes p s).globals + y < (sizes p s).globals + (sizes p s).locals = omega (arith, l) in
        let made_fit = variable_fits p s st fit ((sizes p s).globals + y) (first_value p n v vs) (first_flag v) in_range (flag_of v)
        (λ b h. let m = found_below p.globals ((sizes p s).globals + y) b h in absurd (omega (arith, m)))
        (λ i b h g. let same : y ≡ i = omega (arith, h) in
        ap (λ w. holds p.model (kind_of w) (first_value p n v vs)) (some_same b v (sym g ∙ ap (slice_get s.variables) (sym same) ∙ e)) ∙ first_of p n v vs (listed_integer s.variables all y v e)) in
        let made_scoped : IsScoped p s (with_name y f) (with_variable ((sizes p s).globals + y) (first_value p n v vs) (first_flag v) st) =
        λ x le h.
        let other = other_variable p s st fit ((sizes p s).globals + y) (first_value p n v vs) (first_flag v) in_range ((sizes p s).globals + x)
        (λ e. no_match y x (first_false (y == x) (f x) h) (omega (arith, e))) in
        let old = scoped x le (second_false (y == x) (f x) h) in
        (other.0 ∙ old.0, other.1 ∙ old.1) in
        let later = rest (left_contents v vs) (with_variable ((sizes p s).globals + y) (first_value p n v vs) (first_flag v) st) made_fit made_scoped in
        record { fit = later.fit; scoped = later.scoped; spares = spares_one y ys (first_value p n v vs) (first_flag v) st _ fit l later.spares }

    pub enters : (f : ℕ → Bool) (low : ℕ) (ys : List ℕ) → Declares p s f low ys → (vs : List Value) (st : State) → Fit p s st → IsScoped p s f st
        → Entered p s f ys st (scope_state p s.variables n ys vs st)
    enters f low [] d vs st fit scoped = record { fit = fit; scoped = scoped; spares = spares_none st }
    enters f low (y ∷ ys) d vs st fit scoped =
        enters_one f y ys vs st fit scoped d.2 (λ vs st fit scoped. enters (with_name y f) low ys d.3 vs st fit scoped) (slice_get s.variables y) refl

  -- ---- a block is left

  pub record Leaves (ys : List ℕ) (st after : State) : Type 0 where
    pub fit : Fit p s after
    pub spares : Spares p s ys st after
    pub cleared : (x : ℕ) → x < (sizes p s).locals → listed ys x ≡ true → (at after (local_value (sizes p s) x) ≡ pos 0) × (at after (local_flag (sizes p s) x) ≡ pos 0)

  pub leaves : (f : ℕ → Bool) (low : ℕ) (ys : List ℕ) → Declares p s f low ys → (st : State) → Fit p s st → Leaves ys st (without_variables (sizes p s) ys st)
  unfolding listed
  leaves f low [] d st fit = record { fit = fit; spares = spares_none st; cleared = λ x l h. absurd (false≢true h) }
  leaves f low (y ∷ ys) d st fit =
      let l = d.2 in
      let in_range : (sizes p s).globals + y < (sizes p s).globals + (sizes p s).locals = omega (arith, l) in
      let gone = variable_fits p s st fit ((sizes p s).globals + y) (pos 0) (pos 0) in_range (inl refl) (λ b h. zero_of p.model (kind_of b)) (λ i b h g. zero_of p.model (kind_of b)) in
      let later = leaves (with_name y f) low ys d.3 (with_variable ((sizes p s).globals + y) (pos 0) (pos 0) st) gone in
      record {
        fit = later.fit;
        spares = spares_one y ys (pos 0) (pos 0) st _ fit l later.spares;
        cleared = λ x le h. on_bool (listed ys x) (λ q. later.cleared x le q)
            (λ q. let kept = later.spares.locals x le q in
            let same : y ≡ x = (Decides-eqb y x).0 (or_first (y == x) (listed ys x) h q) in
            let here : (at (with_variable ((sizes p s).globals + y) (pos 0) (pos 0) st) (local_value (sizes p s) x) ≡ pos 0) × (at (with_variable ((sizes p s).globals + y) (pos 0) (pos 0) st) (local_flag (sizes p s) x) ≡ pos 0) =
            subst (λ i. (at (with_variable ((sizes p s).globals + y) (pos 0) (pos 0) st) (local_value (sizes p s) i) ≡ pos 0) × (at (with_variable ((sizes p s).globals + y) (pos 0) (pos 0) st) (local_flag (sizes p s) i) ≡ pos 0)) same
            (this_value p s st fit ((sizes p s).globals + y) (pos 0) (pos 0) in_range, this_flag p s st fit ((sizes p s).globals + y) (pos 0) (pos 0) in_range) in
            (kept.0 ∙ here.0, kept.1 ∙ here.1));
      } where
        or_first : (a b : Bool) → (a || b) ≡ true → b ≡ false → a ≡ true
        or_first true b h q = refl
        or_first false b h q = absurd (false≢true (sym q ∙ h))

  -- ---- the whole scope

  module _ (gs : List Granted) (t u f : ℕ → Bool) (low : ℕ) (below : AllBelow low gs) (ys : List ℕ) (d : Declares p s f low ys) (st inside : State) (scoped : IsScoped p s f st) (begins : Entered p s f ys st inside) where
    free : (x : ℕ) → f x ≡ true → listed ys x ≡ false
    free x h = on_bool (listed ys x) (λ e. absurd (false≢true (sym (listed_free p s f low ys d x e).0 ∙ h))) (λ e. e)

    -- what loops around let change no more is none of the block's variables
    around : (x : ℕ) → may_change_local p gs x ≡ false → listed ys x ≡ false
    around x h = on_bool (listed ys x) (λ e. absurd (false≢true (sym h ∙ high_may p low gs below x (listed_free p s f low ys d x e).1))) (λ e. e)

    chain : (mid : State) (ends : Leaves ys mid (without_variables (sizes p s) ys mid)) (x : ℕ) → x < (sizes p s).locals → listed ys x ≡ false → Unchanged p s inside mid x
        → Unchanged p s st (without_variables (sizes p s) ys mid) x
    chain mid ends x l h k =
        let first = begins.spares.locals x l h in
        let last = ends.spares.locals x l h in
        (last.0 ∙ k.0 ∙ first.0, last.1 ∙ k.1 ∙ first.1)

    pub scope_kept : (mid : State) → Kept p s gs t u (with_names ys f) inside mid → Kept p s gs t u f st (without_variables (sizes p s) ys mid)
    scope_kept mid k =
        let ends = leaves f low ys d mid k.fit in
        record {
          fit = ends.fit;
          globals = λ x l h. (ends.spares.globals x l).0 ∙ k.globals x l h ∙ (begins.spares.globals x l).0;
          allowed = λ x l h. chain mid ends x l (around x h) (k.allowed x l h);
          untouched = λ x l h. on_bool (listed ys x)
              (λ e. let gone = ends.cleared x l e in let old = scoped x l (listed_free p s f low ys d x e).0 in (gone.0 ∙ sym old.0, gone.1 ∙ sym old.1))
              (λ e. chain mid ends x l e (k.untouched x l h));
          rises = λ x l h. on_bool (listed ys x)
              (λ e. absurd (one_no_zero (sym h ∙ (scoped x l (listed_free p s f low ys d x e).0).1)))
              (λ e. (ends.spares.locals x l e).1 ∙ k.rises x l ((begins.spares.locals x l e).1 ∙ h));
          scoped = λ x l h. on_bool (listed ys x) (λ e. ends.cleared x l e)
              (λ e. let last = ends.spares.locals x l e in let old = k.scoped x l (names_join ys f x e h) in (last.0 ∙ old.0, last.1 ∙ old.1));
          temporaries = λ n h. ends.spares.temps n ∙ k.temporaries n h ∙ begins.spares.temps n;
        } where
          one_no_zero : pos 1 ≡ pos 0 → ⊥
          one_no_zero e = omega (arith, ints, e)

    -- where the function returns
    pub scope_returned : (v : Value) (mid : State) → Returned p s gs v inside mid → Returned p s gs v st (without_variables (sizes p s) ys mid)
    scope_returned v mid r =
        let ends = leaves f low ys d mid r.fit in
        record {
          result = r.result;
          fit = ends.fit;
          file = record {
            fit = ends.fit.globals;
            flags = λ x l. ends.fit.flags x (omega (arith, l));
            same = λ x l h. (ends.spares.globals x l).0 ∙ r.file.same x l h ∙ (begins.spares.globals x l).0;
          };
        }
