-- Functions that pass the test have names that fit.
use Rattle.std.proofs.Common.{◌≡◌, ℕ, ◌==◌, Bool, true, false, not, ◌&&◌, List, [], ◌∷◌, refl}
use Rattle.std.specs.List.{list_all}
use Rattle.std.proofs.lemmas.Bool.{and_parts, not-true}
use Rattle.qed_terms.specs.Names.{is_name, is_memory_name}
use Rattle.qed_terms.specs.Setting.{all_differ, same_param}
use Rattle.qed_terms.specs.Tree.{var}
use Rattle.acsl_encode.specs.Readings.{Named, one, two, Global, integer_global, pointer_global, Called}
use Rattle.acsl_encode.specs.Binders.{mark}
use Rattle.acsl_encode.specs.Regular.{AllOf, NameFits, NamedFits, GlobalFits, CalledFits}
use Rattle.acsl_encode.specs.Setting.{params_in}
use Rattle.acsl_encode.specs.WellFormed.{IsInt}
use Rattle.plain_annotations.proofs.Naming.{lacks_byte}
use Rattle.logic_order.specs.Names.{is_unmarked}
use Rattle.logic_order.specs.Order.{name_fits, named_fits, global_fits, called_fits}

var_fits : (x : List ℕ) → is_name x ≡ true → is_memory_name x ≡ false → IsInt (var x)
var_fits x name e = record { int = λ i. name i && true && true; argument = λ i. name i && not (e i) && true }

name_is : (x : List ℕ) → name_fits x ≡ true → NameFits x
name_is x h =
    let first = and_parts (is_name x) (not (is_memory_name x) && is_unmarked x) h in
    let second = and_parts (not (is_memory_name x)) (is_unmarked x) first.1 in
    record { fits = var_fits x first.0 (not-true (is_memory_name x) second.0); unmarked = lacks_byte (λ b. not (b == mark)) mark x refl second.1 }

named_is : (p : Named) → named_fits p ≡ true → NamedFits p
named_is (one x) h = name_is x h
named_is (two b o) h = let e = and_parts (name_fits b) (name_fits o) h in (name_is b e.0, name_is o e.1)

global_is : (g : Global) → global_fits g ≡ true → GlobalFits g
global_is (integer_global n k x) h = name_is x h
global_is (pointer_global n b o) h = let e = and_parts (name_fits b) (name_fits o) h in (name_is b e.0, name_is o e.1)

all_are : {X : Type 0} (p : X → Bool) (P : X → Type 0) → ((x : X) → p x ≡ true → P x) → (xs : List X) → list_all p xs ≡ true → AllOf P xs
all_are p P f [] h = tt
all_are p P f (x ∷ xs) h = let e = and_parts (p x) (list_all p xs) h in (f x e.0, all_are p P f xs e.1)

pub called_is : (c : Called) → called_fits c ≡ true → CalledFits c
called_is c h =
    let first = and_parts (is_name c.name) _ h in
    let second = and_parts (list_all named_fits c.params) _ first.1 in
    let third = and_parts (list_all global_fits c.globals) (all_differ same_param (params_in c)) second.1 in
    record {
      name = first.0;
      params = all_are named_fits NamedFits named_is c.params second.0;
      globals = all_are global_fits GlobalFits global_is c.globals third.0;
      differ = third.1;
    }
