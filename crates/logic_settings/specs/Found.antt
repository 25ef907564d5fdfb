-- What is found of a file's logic functions.
use Rattle.std.specs.Prelude.{◌≡◌, ℕ, true, false, List, map, Option, Some, None}
use Rattle.std.specs.Option.{option_map}
use Rattle.qed_terms.specs.View.{view_setting}
use Rattle.c_runs.specs.Program.{Facts}
use Rattle.annotation_words.specs.View.{view_called, called_in}
use Rattle.annotation_words.specs.declared.readings.Called.{Called}
use Rattle.plain_annotations.specs.Places.{params_of}
use Rattle.logic_order.specs.Names.{FileNames}
use Rattle.logic_order.specs.Order.{is_in_order, known_by, setting_by, takes_in}
use Rattle.logic_settings.specs.declared.orders.Order.{Order}

-- how many integers each function takes
abbrev pub takes_of : Facts → List (Option Called) → List (Option ℕ)
takes_of p known = map (λ (o : Option Called). params_of p (option_map view_called o)) known

-- Which functions may be called, the setting, and how many integers functions take, of a file that is in order.
pub record IsOrder (p : Facts) (names : FileNames) (o : Order) : Type 0 where
  pub ordered : is_in_order p names ≡ true
  pub called : called_in o.called ≡ known_by p names
  pub setting : view_setting o.setting ≡ setting_by p names
  pub takes : o.takes ≡ takes_in p names

-- none where it isn't
abbrev pub Finds : Facts → FileNames → Option Order → Type 0
Finds p names (Some o) = IsOrder p names o
Finds p names None = is_in_order p names ≡ false
