-- The small function fits.
use Rattle.std.proofs.Common.{◌≡◌, ℕ, zero, suc, ◌<◌, ◌≤◌, true, false, ◌||◌, [], ◌∷◌, Option, Some, slice_get, refl, sym, ap, ◌∙◌, subst, inr, arith}
use Rattle.std.specs.Prelude.{◌==◌}
use Rattle.std.proofs.lemmas.Bool.{false≢true}
use Rattle.wp_base.specs.declared.kinds.CellKind.TheVariants as cell
use Rattle.wp_base.specs.declared.kinds.Kind.TheVariants as kind
use Rattle.wp_base.specs.Blocks.{cells_of}
use Rattle.typed_prog.specs.Tree as tree
use Rattle.c_runs.specs.Program.{Variable, Function}
use Rattle.c_runs.specs.Objects.{is_plain_in}
use Rattle.c_runs.specs.Tree.{Steps}
use Rattle.plain_runs.specs.Kept.{some_sets}
use Rattle.typed_memories.proofs.Tests.{on_test}
use Rattle.typed_runs.specs.Fitting.{kind_of, to_cell, by_place, FitsFunction}
use Rattle.typed_runs.specs.Examples.{int, to_pointed, held, f, functions, turn, small, SmallProgramFits}
use Rattle.typed_runs.proofs.Opening.{same_name}

not_x : (x : ℕ) → 3 ≤ x → some_sets turn x ≡ false
not_x x le = on_test (1 == x) (λ same. let e = same_name 1 x same in absurd (omega (arith, le, e))) (λ other. ap (λ b. ((b || false) || false) || false) other)

one_cell_of : (x : ℕ) (v : Variable) → x < 1 → slice_get f.variables x ≡ Some v → v.is_plain ≡ false → cells_of v.layout ≡ kind_of v ∷ []
one_cell_of zero v le e not_plain = absurd (false≢true (sym not_plain ∙ sym (ap (λ (o : Option Variable). is_plain_in o) e)))
one_cell_of (suc x) v le e not_plain = absurd (omega (arith, le))

f_fits : FitsFunction small true (λ k. true) f
f_fits = record {
  temporaries = 0;
  temp_kind = λ n. cell.Of kind.Int;
  short = refl;
  params = omega arith;
  one_cell = one_cell_of;
  unset = λ n used. absurd (false≢true used);
  body = (
    (
      (refl, omega arith, (_, refl), (refl, omega arith, (_, refl), tt)),
      (
        (cell.Of kind.Int, record { variable = _; found = refl; scoped = refl; inside = omega arith; kind = refl; one_cell = λ e. refl }, record { typed = (refl, refl); kind = refl; checks = refl }),
        (
          (
            cell.Ptr,
            record { variable = _; found = refl; scoped = refl; inside = omega arith; kind = refl; one_cell = λ e. absurd (false≢true (sym e)) },
            record { typed = (tt, (refl, refl, record { variable = _; is = (refl, refl); block = refl })); kind = refl; checks = refl },
          ),
          (
            (
              (
                record { inside = omega arith; inner = λ x le. inr (not_x x le); temporaries = λ n used. absurd (false≢true used) },
                (
                  (
                    (
                      record {
                        typed = ((((tt, record { variable = _; found = refl; declared = refl; kind = refl }), tt), (refl, (refl, refl, tt))), tt);
                        some = λ e. absurd cc;
                        stored = refl;
                        way = to_cell refl refl (record { variable = _; is = (refl, refl); block = refl }, refl);
                        checks = refl;
                      },
                      tt,
                    ),
                    (tt, tt),
                  ),
                  tt,
                ),
              ),
              tt,
            ),
            (
              (
                f,
                refl,
                record {
                  typed = ((tt, record { variable = _; found = refl; declared = refl; kind = refl }), tt);
                  kinds =
                      (refl, tt);
                  checks = refl;
                },
                by_place {type = int} {l = 1} {path = to_pointed} {es = tree.more (held 0) tree.stop} ((tt, record { variable = _; found = refl; declared = refl; kind = refl }), tt)
                    (to_cell refl refl tt) refl,
              ),
              (
                (cell.Of kind.Int, refl, record { typed = (((tt, record { variable = _; found = refl; declared = refl; kind = refl }), tt), (refl, (refl, refl, tt))); kind = refl; checks = refl }),
                tt,
              ),
            ),
          ),
        ),
      ),
    ),
    tt,
  );
}

pub small_program_fits : SmallProgramFits
small_program_fits = record { has_blocks = true; has_kind = λ k. true; functions = by } where
  by : (n : ℕ) (g : Function Steps) → functions n ≡ Some g → FitsFunction small true (λ k. true) g
  by zero g e = subst (FitsFunction small true (λ k. true)) (same f g e) f_fits where
    same : (a b : Function Steps) → Some a ≡ Some b → a ≡ b
    same a b e = cc
  by (suc n) g e = absurd cc
