-- Names and what each of them means, in the order of their declarations. A name is declared once in a scope (C11 6.2.1;
-- narrower than 6.7p3, by which typedefs of one type, tags and names with linkage may be declared again).
use Rattle.std.specs.Prelude.{ℕ, Bool, List, [], ◌∷◌, ◌++◌, map, take, Option, Some, None, if◌then◌else◌}
use Rattle.std.specs.Option.{is_none}
use Rattle.std.specs.Str.{bytes_eq}
use Rattle.std.specs.declared.vec.Vec.{Vec}

abbrev pub Names : Type 0 → Type 0
Names V = List (List ℕ × V)

-- what the first declaration of a name says of it
abbrev pub meaning_of : {V : Type 0} → Names V → List ℕ → Option V
meaning_of [] x = None
meaning_of (d ∷ ds) x = if bytes_eq x d.0 then Some d.1 else meaning_of ds x

-- what the first so many declarations say of a name
abbrev pub meaning_among : {V : Type 0} → (count : ℕ) → Names V → List ℕ → Option V
meaning_among n ds x = meaning_of (take n ds) x

abbrev pub is_free : {V : Type 0} → Names V → List ℕ → Bool
is_free ds x = is_none (meaning_of ds x)

-- with one declaration more; a name that is there keeps the one that it has
abbrev pub declared : {V : Type 0} → Names V → List ℕ → V → Names V
declared ds x v = if is_free ds x then ds ++ (x, v) ∷ [] else ds

-- the declarations in a table in memory, whose names are vectors of bytes
abbrev pub name_and_meaning : {Z V : Type 0} → Vec ℕ Z × V → List ℕ × V
name_and_meaning d = (d.0.items, d.1)

abbrev pub declarations : {Z V : Type 0} → List (Vec ℕ Z × V) → Names V
declarations ds = map name_and_meaning ds
