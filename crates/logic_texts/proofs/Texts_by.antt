-- The texts of a file by its table.
use Rattle.binder_names.specs.Tables.{named_in}
use Rattle.logic_texts.specs.Laws.{TextsAreOfFiles}

pub texts_are_of_files : TextsAreOfFiles
texts_are_of_files p names table o h = λ i. record { binders = named_in table; called = h.called i }
