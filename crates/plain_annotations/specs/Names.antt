-- Names of binders as they are spelled are names of C (C11 6.4.2.1): letters, digits and `_`, not a digit first.
use Rattle.std.specs.Prelude.{◌==◌, Bool, false, not, ◌&&◌, ◌||◌, ℕ, List, [], ◌∷◌}
use Rattle.std.specs.List.{list_all}
use Rattle.qed_terms.specs.Names.{is_digit, is_letter}
use Rattle.acsl_encode.specs.Binders.{Spelled}

abbrev pub is_c_byte : ℕ → Bool
is_c_byte b = is_letter b || is_digit b || b == 95

abbrev pub begins_well : List ℕ → Bool
begins_well [] = false
begins_well (b ∷ x) = not (is_digit b)

abbrev pub is_c_name : List ℕ → Bool
is_c_name x = begins_well x && list_all is_c_byte x

abbrev pub are_c_names : Spelled → Bool
are_c_names names = list_all is_c_name names
