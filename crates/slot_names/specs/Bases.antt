-- Base names of the slots of a function: of each variable its name, and that of its flag. A parameter that has the name of a variable of the file has `%`
-- before it. What a function gives is `\result`, what a call gives `%`, and the temporaries are `%1`, `%2` and so on. No name of C has a `%` or a `\`.
use Rattle.std.specs.Prelude.{ℕ, zero, suc, ◌-◌, nat_lt, ◌==◌, Bool, true, false, not, ◌&&◌, ◌||◌, if◌then◌else◌, List, [], ◌∷◌, ◌++◌, map, take, codes}
use Rattle.std.specs.List.{list_all, list_any}
use Rattle.std.specs.Str.{bytes_eq}
use Rattle.qed_terms.specs.Fresh.{numeral}
use Rattle.qed_terms.specs.Names.{is_digit, is_letter}

abbrev pub Name : Type 0
Name = List ℕ

abbrev pub is_among : Name → List Name → Bool
is_among x xs = list_any (bytes_eq x) xs

-- ---- variables

abbrev pub flag_name : Name → Name
flag_name x = x ++ codes ":i"

-- what a variable holds, and whether it was set
abbrev pub pairs_of : List Name → List Name
pairs_of [] = []
pairs_of (x ∷ xs) = x ∷ flag_name x ∷ pairs_of xs

abbrev pub hides : Name → Name
hides x = 37 ∷ x

abbrev pub shown_as : (is_hidden : Bool) → Name → Name
shown_as true x = hides x
shown_as false x = x

-- so many of them are parameters yet
abbrev pub own_name : (file : List Name) → (params : ℕ) → Name → Name
own_name gs n x = shown_as (nat_lt 0 n && is_among x gs) x

-- the first ones are parameters
abbrev pub own_names : (file : List Name) → (params : ℕ) → List Name → List Name
own_names gs n [] = []
own_names gs n (x ∷ xs) = own_name gs n x ∷ own_names gs (n - 1) xs

-- ---- temporaries

abbrev pub temporary_name : (number : ℕ) → Name
temporary_name n = 37 ∷ numeral n

-- so many from this number on
abbrev pub temporary_names : (number count : ℕ) → List Name
temporary_names n zero = []
temporary_names n (suc k) = temporary_name n ∷ temporary_names (suc n) k

-- ---- all slots

abbrev pub behind_variables : (temporaries : ℕ) → List Name
behind_variables k = codes "\\result" ∷ codes "%" ∷ temporary_names 1 k

abbrev pub slot_bases : (file : List Name) (params : ℕ) (own : List Name) (temporaries : ℕ) → List Name
slot_bases gs n xs k = pairs_of gs ++ (pairs_of (own_names gs n xs) ++ behind_variables k)

-- ---- names of C (C11 6.4.2)

abbrev pub is_c_byte : ℕ → Bool
is_c_byte b = is_letter b || is_digit b || b == 95

abbrev pub begins_well : Name → Bool
begins_well [] = false
begins_well (b ∷ x) = not (is_digit b)

abbrev pub is_c_name : Name → Bool
is_c_name x = begins_well x && list_all is_c_byte x

-- each one is there once
abbrev pub differ : List Name → Bool
differ [] = true
differ (x ∷ xs) = not (is_among x xs) && differ xs

-- names of C, of which those of the file differ, and those of the parameters
abbrev pub are_fit : (file : List Name) (params : ℕ) (own : List Name) → Bool
are_fit gs n xs = (list_all is_c_name gs && list_all is_c_name xs) && (differ gs && differ (take n xs))
