-- The texts of a file by the table of its binders and by what is found of its logic functions.
use Rattle.std.specs.Prelude.{◌≡◌, List}
use Rattle.c_runs.specs.Program.{Facts}
use Rattle.program_steps.specs.Terms.{Texts}
use Rattle.annotation_words.specs.View.{called_in}
use Rattle.binder_names.specs.Tables.{Named, named_in}
use Rattle.plain_annotations.specs.Settings.{texts_of}
use Rattle.logic_order.specs.Names.{FileNames, names_with}
use Rattle.logic_settings.specs.Found.{IsOrder}
use Rattle.logic_settings.specs.declared.orders.Order.{Order}

-- what a walk reads
abbrev pub texts_by : List Named → Order → Texts
texts_by table o = record { binders = named_in table; called = called_in o.called }

abbrev pub TextsAreOfFiles : Type 0
TextsAreOfFiles =
    (p : Facts) (names : FileNames) (table : List Named) (o : Order) → IsOrder p names o → texts_by table o ≡ texts_of p (names_with names (named_in table))
