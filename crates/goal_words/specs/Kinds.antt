-- The words of kinds.
use Rattle.std.specs.Prelude.{ℕ, List, [], ◌∷◌, codes, Option, Some, None, if◌then◌else◌}
use Rattle.std.specs.Option.{option_map}
use Rattle.std.specs.Str.{bytes_eq}
use Rattle.wp_base.specs.declared.kinds.Kind.{Kind}
use Rattle.wp_base.specs.declared.kinds.Kind.TheVariants as kind
use Rattle.wp_base.specs.declared.kinds.CellKind.{CellKind}
use Rattle.wp_base.specs.declared.kinds.CellKind.TheVariants as cell
use Rattle.goal_words.specs.Bytes.{Reader, with_rest, front, after}

abbrev pub kind_text : Kind → List ℕ
kind_text kind.Bool = codes "bool"
kind_text kind.Char = codes "char"
kind_text kind.SChar = codes "schar"
kind_text kind.UChar = codes "uchar"
kind_text kind.Short = codes "short"
kind_text kind.UShort = codes "ushort"
kind_text kind.Int = codes "int"
kind_text kind.UInt = codes "uint"
kind_text kind.Long = codes "long"
kind_text kind.ULong = codes "ulong"
kind_text kind.LLong = codes "llong"
kind_text kind.ULLong = codes "ullong"

abbrev pub cell_text : CellKind → List ℕ
cell_text (cell.Of k) = kind_text k
cell_text cell.Ptr = codes "ptr"

-- what stands beside the word in a table
abbrev pub row_of : {X : Type 0} → List (List ℕ × X) → List ℕ → Option X
row_of [] word = None
row_of (row ∷ rows) word = if bytes_eq row.0 word then Some row.1 else row_of rows word

unfoldable pub kind_words : List (List ℕ × Kind)
kind_words =
    (codes "bool", kind.Bool) ∷ (codes "char", kind.Char) ∷ (codes "schar", kind.SChar) ∷ (codes "uchar", kind.UChar)
    ∷ (codes "short", kind.Short) ∷ (codes "ushort", kind.UShort) ∷ (codes "int", kind.Int) ∷ (codes "uint", kind.UInt)
    ∷ (codes "long", kind.Long) ∷ (codes "ulong", kind.ULong) ∷ (codes "llong", kind.LLong) ∷ (codes "ullong", kind.ULLong) ∷ []

abbrev pub cell_of : List ℕ → Option CellKind
cell_of word = if bytes_eq word (codes "ptr") then Some cell.Ptr else option_map cell.Of (row_of kind_words word)

abbrev pub cell_word : Reader CellKind
cell_word bytes = with_rest (after bytes) (cell_of (front bytes))
