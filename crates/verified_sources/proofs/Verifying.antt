-- What is found, in the words of the code.
use Rattle.std.proofs.Common.{◌≡◌, ℕ, Bool, true, false, ◌&&◌, List, Result, Ok, Err, IfOk, refl, sym, ap, ◌∙◌}
use Rattle.std.specs.Prelude.{Option}
use Rattle.typed_unit.specs.Unit as u
use Rattle.c_runs.specs.Program.{Stmts, Program}
use Rattle.c_runs.specs.Tree.{Steps}
use Rattle.plain_test.specs.Plain.{is_plain_file}
use Rattle.slot_names.specs.Bases.{Name}
use Rattle.binder_names.specs.Tables.{Named}
use Rattle.logic_order.specs.Order.{is_in_order, takes_in}
use Rattle.logic_settings.specs.Found.{IsOrder}
use Rattle.logic_settings.specs.declared.orders.Order.{Order}
use Rattle.file_spellings.specs.Spelled.{file_names}
use Rattle.verified_sources.specs.Tests.{rest_fits, is_verified_by}

-- three tests of which two are passed
pub all_three : {E : Type 0} {a b : Bool} (c : Bool) (r : Result Bool E) → a ≡ true → b ≡ true → IfOk r (λ so. so ≡ c) → IfOk r (λ so. so ≡ (a && (b && c)))
all_three c (Ok x) first second third = third ∙ sym (λ i. first i && (second i && c))
all_three c (Err e) first second third = tt

and_false : (b : Bool) → (b && false) ≡ false
and_false true = refl
and_false false = refl

module _ (t : u.Typed) (p : Program Stmts) (q : Program Steps) (table : List Named) (file : List Name) where
  abbrev ordered : Bool
  ordered = is_in_order p.facts (file_names t)

  abbrev rest : Bool
  rest = rest_fits (takes_in p.facts (file_names t)) t p q table file

  pub not_plain : is_plain_file t ≡ false → is_verified_by t p q table file ≡ false
  not_plain e = ap (λ b. b && (ordered && rest)) e

  pub not_ordered : ordered ≡ false → is_verified_by t p q table file ≡ false
  not_ordered e = ap (λ b. is_plain_file t && (b && rest)) e ∙ and_false (is_plain_file t)

  pub not_fitting : (o : Order) (fits : Bool) → IsOrder p.facts (file_names t) o → fits ≡ rest_fits o.takes t p q table file → fits ≡ false
      → is_verified_by t p q table file ≡ false
  not_fitting o fits h made lost =
      ap (λ b. is_plain_file t && (ordered && b)) (ap (λ takes. rest_fits takes t p q table file) (sym h.takes) ∙ sym made ∙ lost)
      ∙ ap (λ b. is_plain_file t && b) (and_false ordered) ∙ and_false (is_plain_file t)

  pub verified : (o : Order) (fits : Bool) → is_plain_file t ≡ true → IsOrder p.facts (file_names t) o → fits ≡ rest_fits o.takes t p q table file → fits ≡ true
      → (is_verified_by t p q table file ≡ true) × IsOrder p.facts (file_names t) o
  verified o fits plain h made so =
      ((λ i. plain i && (h.ordered i && (ap (λ takes. rest_fits takes t p q table file) (sym h.takes) ∙ sym made ∙ so) i)), h)
