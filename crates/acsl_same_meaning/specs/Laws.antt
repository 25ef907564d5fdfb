-- Each annotation of a typed file that is expanded means what it means with its calls (ACSL 2.6).
use Rattle.std.specs.Prelude.{◌≡◌, Bool, true, false, List, [], ◌∷◌, length, Option, Some, None, slice_get, Ok}
use Rattle.std.specs.Option.{is_some}
use Rattle.typed_unit.specs.Unit as u
use Rattle.acsl_trees.specs.Tree.{Tree}
use Rattle.acsl_names.specs.declared.names.Definition.{Definition as Declared}
use Rattle.acsl_clauses.specs.Typed as c
use Rattle.acsl_notes.specs.Notes as n
use Rattle.acsl_typing.specs.Annotations.{Annotation, Annotations, of_function, of_definition, file_annotated}
use Rattle.acsl_expand.specs.Expansion.{Definition}
use Rattle.acsl_annotated.specs.Annotated.{meant_from, params_by, file_expanded}
use Rattle.c_runs.specs.TruthStates.{World}
use Rattle.c_runs.specs.Truth.{Env, value, calls_of}
use Rattle.c_runs.specs.TruthLaws.{Signatures, is_well_formed, are_definitions}
use Rattle.acsl_well_typed.specs.Clauses.{All}
use Rattle.acsl_same_meaning.specs.Spelled.{FileIsSpelled}

-- ---- what a file's annotations refer to

abbrev pub is_term_by : Option Declared → Bool
is_term_by (Some d) = is_some d.result
is_term_by None = false

abbrev pub signatures_of : List Declared → Signatures
signatures_of ds k = record { params = params_by (slice_get ds k); is_term = is_term_by (slice_get ds k) }

-- what the definitions of a file stand for
abbrev pub meanings : Annotations → List Definition
meanings a = meant_from a.definitions.items 0 a.items

-- ---- annotations are well formed

abbrev pub IsWellFormed : Signatures → Tree → Type 0
IsWellFormed s t = is_well_formed true true s 0 t ≡ true

abbrev pub SaidFits : Signatures → c.Said → Type 0
SaidFits s (c.claims r t) = IsWellFormed s t
SaidFits s (c.decreases t) = IsWellFormed s t
SaidFits s (c.assigns ts) = All (IsWellFormed s) ts
SaidFits s (c.begins k) = Unit {0}
SaidFits s (c.together g ks) = Unit {0}

abbrev pub ClauseFits : Signatures → c.TypedClause → Type 0
ClauseFits s x = SaidFits s x.said

abbrev pub NoteFits : Signatures → n.Note → Type 0
NoteFits s (n.of_loop cs) = All (ClauseFits s) cs
NoteFits s (n.assertion t) = IsWellFormed s t

abbrev pub AnnotationFits : Signatures → Annotation → Type 0
AnnotationFits s (of_function cs ns) = All (ClauseFits s) cs × All (NoteFits s) ns
AnnotationFits s (of_definition t) = Unit {0}

-- what `same_meaning` asks for
pub record FileFits (a : Annotations) : Type 0 where
  pub definitions : are_definitions (signatures_of a.definitions.items) (meanings a) (length (meanings a)) ≡ true
  pub annotations : All (AnnotationFits (signatures_of a.definitions.items)) a.items

abbrev pub FilesAreWellFormed : Type 0
FilesAreWellFormed = (t : u.Typed) (a : Annotations) → FileIsSpelled t → file_annotated t ≡ Ok a → FileFits a

-- ---- and mean the same

-- item by item
abbrev pub Each : {X : Type 0} → (X → X → Type 0) → List X → List X → Type 0
Each R [] [] = Unit {0}
Each R (x ∷ xs) (y ∷ ys) = R x y × Each R xs ys
Each R _ _ = ⊥

-- A tree by these definitions, and one by those: in every state, and whatever names stand for, they have one value.
abbrev pub SameValue : (ds es : List Definition) → Tree → Tree → Type 0
SameValue ds es t v = (env : Env) (w : World) → value (calls_of es) env 0 w v ≡ value (calls_of ds) env 0 w t

abbrev pub SameSaid : (ds es : List Definition) → c.Said → c.Said → Type 0
SameSaid ds es (c.claims r t) (c.claims q v) = (r ≡ q) × SameValue ds es t v
SameSaid ds es (c.decreases t) (c.decreases v) = SameValue ds es t v
SameSaid ds es (c.assigns ts) (c.assigns vs) = Each (SameValue ds es) ts vs
SameSaid ds es (c.begins k) (c.begins m) = k ≡ m
SameSaid ds es (c.together g ks) (c.together h ms) = (g ≡ h) × (ks ≡ ms)
SameSaid ds es _ _ = ⊥

abbrev pub SameClause : (ds es : List Definition) → c.TypedClause → c.TypedClause → Type 0
SameClause ds es x y = (x.line ≡ y.line) × SameSaid ds es x.said y.said

abbrev pub SameNote : (ds es : List Definition) → n.Note → n.Note → Type 0
SameNote ds es (n.of_loop xs) (n.of_loop ys) = Each (SameClause ds es) xs ys
SameNote ds es (n.assertion t) (n.assertion v) = SameValue ds es t v
SameNote ds es _ _ = ⊥

-- What a definition stands for is no annotation. By which ones the annotations are read is told by both lists.
abbrev pub SameAnnotation : (ds es : List Definition) → Annotation → Annotation → Type 0
SameAnnotation ds es (of_function xs ns) (of_function ys ms) = Each (SameClause ds es) xs ys × Each (SameNote ds es) ns ms
SameAnnotation ds es (of_definition t) (of_definition v) = Unit {0}
SameAnnotation ds es _ _ = ⊥

-- the same definitions are declared, and the annotations mean the same
pub record MeanTheSame (a b : Annotations) : Type 0 where
  pub definitions : b.definitions ≡ a.definitions
  pub annotations : Each (SameAnnotation (meanings a) (meanings b)) a.items b.items

-- Of a file that has no fault, each annotation that is expanded, by the definitions that are expanded, means what it means with its calls.
abbrev pub FilesMeanTheSame : Type 0
FilesMeanTheSame = (t : u.Typed) (a b : Annotations) → FileIsSpelled t → file_annotated t ≡ Ok a → file_expanded t ≡ Ok b → MeanTheSame a b
