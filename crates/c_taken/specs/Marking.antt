-- What is marked at a place of a text, and the scopes around it (C11 6.2.1).
use Rattle.std.specs.Prelude.{ℕ, Bool, true, false, List, [], ◌∷◌, ◌++◌, length, Option, Some, None, slice_set}
use Rattle.name_table.specs.Names.{is_free, declared}
use Rattle.name_table.specs.Nesting.{meaning_in, innermost, declared_in, entered, around}
use Rattle.c_taken.specs.Addressed.{Names}
use Rattle.c_taken.specs.declared.marks.Marks.{Marks}

abbrev pub no_marks : Marks
no_marks = record { scopes = []; taken = []; outer = [] }

-- a scope begins; and it ends, with its names
abbrev pub inside : Marks → Marks
inside m = record m { scopes = entered m.scopes }

abbrev pub left : Marks → Marks
left m = record m { scopes = around m.scopes }

abbrev pub one_more : (is_new : Bool) → List Bool → List Bool
one_more true flags = flags ++ false ∷ []
one_more false flags = flags

-- A local has the next number, and a flag, where its name is new in its block.
abbrev pub declared_here : List ℕ → Marks → Marks
declared_here x m = record m { scopes = declared_in m.scopes x (length m.taken); taken = one_more (is_free (innermost m.scopes) x) m.taken }

-- A name is that of the local which the innermost block that declares it means; where none does, it is one of the file scope.
abbrev pub mark_by : Option ℕ → List ℕ → Marks → Marks
mark_by (Some n) x m = record m { taken = slice_set m.taken n true }
mark_by None x m = record m { outer = declared m.outer x true }

unfoldable pub mark : List ℕ → Marks → Marks
mark x m = mark_by (meaning_in m.scopes x) x m

abbrev pub marked : Names → Marks → Marks
marked [] m = m
marked (x ∷ xs) m = marked xs (mark x m)
