-- What sets of regions let change.
use Rattle.std.proofs.Common.{◌≡◌, ℕ, ℤ, Bool, true, false, List, refl, sym, ap, subst, ◌∙◌, ⊎_elim}
use Rattle.std.specs.Prelude.{pos}
use Rattle.std.proofs.lemmas.Bool.{cases_Bool, false≢true}
use Rattle.typed_prog.specs.declared.operators.Variable.TheVariants as variable
use Rattle.c_runs.specs.TruthStates.{Value, State, is_negative}
use Rattle.c_runs.specs.TruthAllowed.{lies_in, is_named, Allows, Within, LivesOn, ChangesAdd}

-- what isn't so of the larger isn't so of the smaller
not_so : (a b : Bool) → (a ≡ true → b ≡ true) → b ≡ false → a ≡ false
not_so a b larger none = ⊎_elim (λ yes. absurd (false≢true (sym none ∙ larger yes))) (λ no. no) (cases_Bool a)

more : (rs qs : List Value) (s t : State) → Within rs qs → Allows rs s t → Allows qs s t
more rs qs s t w h = record {
  cells = λ k b o cell out. h.cells k b o cell (not_so (lies_in rs k b o) (lies_in qs k b o) (w.cells k b o) out);
  globals = λ n plain out. h.globals n plain (not_so (is_named rs (s.home (variable.Global n))) (is_named qs (s.home (variable.Global n))) (w.names (s.home (variable.Global n))) out);
}

-- of a variable that is at this block in the second state
later : (rs : List Value) (t u : State) (n : ℕ) (b : ℤ) → t.home (variable.Global n) ≡ b → Allows rs t u → is_negative b ≡ true → is_named rs b ≡ false → u.cells b (pos 0) ≡ t.cells b (pos 0)
later rs t u n b is h plain out =
    let at : is_negative (t.home (variable.Global n)) ≡ true = ap is_negative is ∙ plain in
    let not_in : is_named rs (t.home (variable.Global n)) ≡ false = ap (is_named rs) is ∙ out in
    subst (λ c. u.cells c (pos 0) ≡ t.cells c (pos 0)) is (h.globals n at not_in)

in_turn : (rs : List Value) (s t u : State) → LivesOn s t → Allows rs s t → Allows rs t u → Allows rs s u
in_turn rs s t u l h g = record {
  cells = λ k b o cell out. g.cells k b o (l.cells k b o cell) out ∙ h.cells k b o cell out;
  globals = λ n plain out. later rs t u n (s.home (variable.Global n)) (l.homes (variable.Global n)) g plain out ∙ h.globals n plain out;
}

pub changes_add : ChangesAdd
changes_add = record {
  none = λ rs s. record { cells = λ k b o cell out. refl; globals = λ n plain out. refl };
  more = more;
  in_turn = in_turn;
}
