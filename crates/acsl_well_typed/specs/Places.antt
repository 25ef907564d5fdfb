-- What typing makes of sets of addresses is in order (ACSL 2.3.4, 2.7).
use Rattle.std.specs.Prelude.{◌≡◌, ℕ, Bool, List, Some}
use Rattle.c_syntax.specs.Term as t
use Rattle.acsl_rules.specs.Laws.{Holds}
use Rattle.acsl_names.specs.declared.names.Bound.{Bound}
use Rattle.acsl_names.specs.declared.names.Reading.{Reading}
use Rattle.acsl_names.specs.declared.counting.Count.{Count}
use Rattle.acsl_names.specs.Names.{Around}
use Rattle.acsl_places.specs.Places.{entry, valid_typed, separated_typed}
use Rattle.acsl_well_typed.specs.WellTyped.{an_integer, a_region, Names, types_give}
use Rattle.acsl_well_typed.specs.Terms.{HaveTypes, known_at, Gives}

-- Where each name has a type: an entry of `assigns` is a region, and `\valid` and `\separated` are truths.
pub record PlacesFit (ends : Bool) (c : Around) (b : Bound) (ns : Names) : Type 0 where
  pub of_entry : (r : Reading) (n : Count) (a : t.Term) → Holds (λ x. Gives (known_at ends c) ns a_region x.0) (entry c b r n a)
  pub of_valid : (r : Reading) (n : Count) (line : ℕ) (writable : Bool) (a : t.Term)
      → Holds (λ x. Gives (known_at ends c) ns an_integer x.0) (valid_typed c b r n line writable a)
  pub of_separated : (r : Reading) (n : Count) (line : ℕ) (terms : List t.Term)
      → Holds (λ x. Gives (known_at ends c) ns an_integer x.0) (separated_typed c b r n line terms)

abbrev pub PlacesAreWellTyped : Type 0
PlacesAreWellTyped = (ends : Bool) (c : Around) (b : Bound) (ns : Names) → HaveTypes c.definitions.items → types_give b.types ≡ Some ns → PlacesFit ends c b ns
