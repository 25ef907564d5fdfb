-- The annotations of a file with their definitions expanded in place (ACSL 2.6). A logic function that calls itself stays, and what it stands for is
-- expanded too.
use Rattle.std.specs.Prelude.{ℕ, ◌+◌, Bool, false, List, [], ◌∷◌, ◌++◌, map, length, slice_get, Option, Some, None, Ok}
use Rattle.c_answers.specs.Answers.{Answer, after}
use Rattle.typed_unit.specs.Unit as u
use Rattle.acsl_trees.specs.Tree.{Tree}
use Rattle.acsl_names.specs.declared.names.Definition.{Definition as Declared}
use Rattle.acsl_clauses.specs.Typed as c
use Rattle.acsl_notes.specs.Notes as n
use Rattle.acsl_typing.specs.Annotations.{Annotation, Annotations, of_function, of_definition, file_annotated}
use Rattle.acsl_expand.specs.Expansion.{Definition, expanded, expanded_body}

-- ---- what definitions stand for

abbrev pub is_recursive_by : Option Declared → Bool
is_recursive_by (Some d) = d.is_recursive
is_recursive_by None = false

abbrev pub meant : List Declared → (number : ℕ) → Tree → Definition
meant ds k t = record { body = t; is_recursive = is_recursive_by (slice_get ds k) }

-- the number of the next definition behind a declaration
abbrev pub behind : (number : ℕ) → Annotation → ℕ
behind k (of_function cs ns) = k
behind k (of_definition t) = k + 1

abbrev pub meant_in : List Declared → (number : ℕ) → Annotation → List Definition
meant_in ds k (of_function cs ns) = []
meant_in ds k (of_definition t) = meant ds k t ∷ []

-- those of a file in order; the next one has this number
abbrev pub meant_from : List Declared → (number : ℕ) → List Annotation → List Definition
meant_from ds k [] = []
meant_from ds k (x ∷ xs) = meant_in ds k x ++ meant_from ds (behind k x) xs

-- ---- clauses

abbrev pub said_expanded : List Definition → c.Said → c.Said
said_expanded ds (c.claims r t) = c.claims r (expanded ds t)
said_expanded ds (c.decreases t) = c.decreases (expanded ds t)
said_expanded ds (c.assigns ts) = c.assigns (map (expanded ds) ts)
said_expanded ds (c.begins k) = c.begins k
said_expanded ds (c.together g ks) = c.together g ks

abbrev pub clause_expanded : List Definition → c.TypedClause → c.TypedClause
clause_expanded ds x = record { said = said_expanded ds x.said; line = x.line }

abbrev pub note_expanded : List Definition → n.Note → n.Note
note_expanded ds (n.of_loop cs) = n.of_loop (map (clause_expanded ds) cs)
note_expanded ds (n.assertion t) = n.assertion (expanded ds t)

-- ---- declarations

abbrev pub params_by : Option Declared → ℕ
params_by (Some d) = length d.params
params_by None = 0

-- what the definition with this number stands for
abbrev pub body_expanded : List Definition → List Declared → (number : ℕ) → Tree
body_expanded ms ds k = expanded_body ms k (params_by (slice_get ds k))

abbrev pub item_expanded : List Definition → List Declared → (number : ℕ) → Annotation → Annotation
item_expanded ms ds k (of_function cs ns) = of_function (map (clause_expanded ms) cs) (map (note_expanded ms) ns)
item_expanded ms ds k (of_definition t) = of_definition (body_expanded ms ds k)

-- those of a file in order; the next definition has this number
abbrev pub items_from : List Definition → List Declared → (number : ℕ) → List Annotation → List Annotation
items_from ms ds k [] = []
items_from ms ds k (x ∷ xs) = item_expanded ms ds k x ∷ items_from ms ds (behind k x) xs

abbrev pub all_expanded : Annotations → Annotations
all_expanded a = record a { items = items_from (meant_from a.definitions.items 0 a.items) a.definitions.items 0 a.items }

-- the annotations of a typed file, or the first fault among them
unfoldable pub file_expanded : u.Typed → Answer Annotations
file_expanded t = after (file_annotated t) (λ a. Ok (all_expanded a))
