-- Annotations that are well formed mean what they mean with their calls, once they are expanded.
use Rattle.std.proofs.Common.{◌≡◌, ℕ, zero, suc, ◌+◌, ◌<◌, true, List, [], ◌∷◌, map, length, Ok, Err, refl, ap, sym, ◌∙◌, subst, arith}
use Rattle.c_answers.specs.Answers.{Answer, after}
use Rattle.acsl_trees.specs.Tree.{Tree}
use Rattle.acsl_names.specs.declared.names.Definition.{Definition as Declared}
use Rattle.acsl_clauses.specs.Typed as c
use Rattle.acsl_notes.specs.Notes as n
use Rattle.acsl_typing.specs.Annotations.{Annotation, Annotations, of_function, of_definition, file_annotated}
use Rattle.acsl_expand.specs.Expansion.{Definition, definition_at, expanded}
use Rattle.acsl_annotated.specs.Annotated.{meant, meant_from, params_by, said_expanded, clause_expanded, note_expanded, body_expanded, items_from, all_expanded, file_expanded}
use Rattle.c_runs.specs.TruthLaws.{Signatures, is_definition, are_definitions, Expands}
use Rattle.c_runs.proofs.Definitions.{same_meaning}
use Rattle.acsl_same_meaning.specs.Trees.{Signed}
use Rattle.acsl_well_typed.specs.Clauses.{All}
use Rattle.acsl_same_meaning.specs.Laws.{is_term_by, signatures_of, meanings, IsWellFormed, SaidFits, ClauseFits, NoteFits, AnnotationFits, FileFits, FilesAreWellFormed, Each, SameValue, SameSaid, SameClause, SameNote, SameAnnotation, MeanTheSame, FilesMeanTheSame}
use Rattle.acsl_same_meaning.proofs.Operators.{both}
use Rattle.acsl_same_meaning.proofs.Bodies.{AllStand}
use Rattle.acsl_same_meaning.proofs.Files.{ItemsFit, IsFile, file_is}
use Rattle.acsl_same_meaning.proofs.Answers.{answered}

-- ---- signatures

signed : (ds : List Declared) → Signed (signatures_of ds) ds
signed ds i x found = (ap params_by found, ap is_term_by found)

-- ---- definitions by number

none_first : (i : ℕ) → i ≡ 0 + i
none_first i = omega arith

module _ (q : Signatures) (ds : List Declared) where
  definitions_by : (k : ℕ) (xs : List Annotation) → ItemsFit q ds k xs → (i : ℕ) → i < length (meant_from ds k xs)
      → is_definition q (k + i) (definition_at (meant_from ds k xs) i) ≡ true
  definitions_by k [] fits i lt = absurd (omega (arith, lt))
  definitions_by k (of_function cs ns ∷ xs) fits i lt = definitions_by k xs fits.1 i lt
  definitions_by k (of_definition t ∷ xs) fits zero lt = let same : k + 0 ≡ k = omega arith in ap (λ j. is_definition q j (meant ds k t)) same ∙ fits.0
  definitions_by k (of_definition t ∷ xs) fits (suc i) lt =
      let same : k + suc i ≡ (k + 1) + i = omega arith in
      ap (λ j. is_definition q j (definition_at (meant_from ds (k + 1) xs) i)) same ∙ definitions_by (k + 1) xs fits.1 i (omega (arith, lt))

  are_by : (ms : List Definition) (n : ℕ) → ((i : ℕ) → i < n → is_definition q i (definition_at ms i) ≡ true) → are_definitions q ms n ≡ true
  are_by ms zero f = refl
  are_by ms (suc n) f = both (f n (omega arith)) (are_by ms n (λ i lt. f i (omega (arith, lt))))

  annotations_by : (k : ℕ) (xs : List Annotation) → ItemsFit q ds k xs → All (AnnotationFits q) xs
  annotations_by k [] fits = tt
  annotations_by k (of_function cs ns ∷ xs) fits = (fits.0, annotations_by k xs fits.1)
  annotations_by k (of_definition t ∷ xs) fits = (tt, annotations_by (k + 1) xs fits.1)

file_fits : (a : Annotations) → ItemsFit (signatures_of a.definitions.items) a.definitions.items 0 a.items → FileFits a
file_fits a fits = record {
  definitions =
      are_by (signatures_of a.definitions.items) a.definitions.items (meanings a) (length (meanings a))
      (λ i lt. ap (λ j. is_definition (signatures_of a.definitions.items) j (definition_at (meanings a) i)) (none_first i)
      ∙ definitions_by (signatures_of a.definitions.items) a.definitions.items 0 a.items fits i lt);
  annotations = annotations_by (signatures_of a.definitions.items) a.definitions.items 0 a.items fits;
}

-- ---- definitions expanded

module _ (ms : List Definition) (ds : List Declared) where
  same_count : (k : ℕ) (xs : List Annotation) → length (meant_from ds k (items_from ms ds k xs)) ≡ length (meant_from ds k xs)
  same_count k [] = refl
  same_count k (of_function cs ns ∷ xs) = same_count k xs
  same_count k (of_definition t ∷ xs) = ap suc (same_count (k + 1) xs)

  bodies_by : (k : ℕ) (xs : List Annotation) (i : ℕ) → (definition_at (meant_from ds k xs) i).is_recursive ≡ true
      → definition_at (meant_from ds k (items_from ms ds k xs)) i ≡ record { body = body_expanded ms ds (k + i); is_recursive = true }
  bodies_by k [] i is = absurd cc
  bodies_by k (of_function cs ns ∷ xs) i is = bodies_by k xs i is
  bodies_by k (of_definition t ∷ xs) zero is =
      let same : k ≡ k + 0 = omega arith in ap (λ z. record { body = body_expanded ms ds k; is_recursive = z }) is
      ∙ ap (λ j. record { body = body_expanded ms ds j; is_recursive = true }) same
  bodies_by k (of_definition t ∷ xs) (suc i) is =
      let same : (k + 1) + i ≡ k + suc i = omega arith in bodies_by (k + 1) xs i is
      ∙ ap (λ j. record { body = body_expanded ms ds j; is_recursive = true }) same

expands : (a : Annotations) → Expands (signatures_of a.definitions.items) (meanings a) (meanings (all_expanded a))
expands a = record {
  count = same_count (meanings a) a.definitions.items 0 a.items;
  bodies = λ i is.
      bodies_by (meanings a) a.definitions.items 0 a.items i is
      ∙ ap (λ j. record { body = body_expanded (meanings a) a.definitions.items j; is_recursive = true }) (sym (none_first i));
}

-- ---- annotations expanded

module _ (q : Signatures) (ms es : List Definition) (are : are_definitions q ms (length ms) ≡ true) (ex : Expands q ms es) where
  tree_same : (t : Tree) → IsWellFormed q t → SameValue ms es t (expanded ms t)
  tree_same t fits env w = same_meaning q ms es t env w are ex fits

  trees_same : (ts : List Tree) → All (IsWellFormed q) ts → Each (SameValue ms es) ts (map (expanded ms) ts)
  trees_same [] fits = tt
  trees_same (t ∷ ts) fits = (tree_same t fits.0, trees_same ts fits.1)

  said_same : (x : c.Said) → SaidFits q x → SameSaid ms es x (said_expanded ms x)
  said_same (c.claims r t) fits = (refl, tree_same t fits)
  said_same (c.decreases t) fits = tree_same t fits
  said_same (c.assigns ts) fits = trees_same ts fits
  said_same (c.begins k) fits = refl
  said_same (c.together g ks) fits = (refl, refl)

  clauses_same : (xs : List c.TypedClause) → All (ClauseFits q) xs → Each (SameClause ms es) xs (map (clause_expanded ms) xs)
  clauses_same [] fits = tt
  clauses_same (x ∷ xs) fits = ((refl, said_same x.said fits.0), clauses_same xs fits.1)

  note_same : (x : n.Note) → NoteFits q x → SameNote ms es x (note_expanded ms x)
  note_same (n.of_loop cs) fits = clauses_same cs fits
  note_same (n.assertion t) fits = tree_same t fits

  notes_same : (xs : List n.Note) → All (NoteFits q) xs → Each (SameNote ms es) xs (map (note_expanded ms) xs)
  notes_same [] fits = tt
  notes_same (x ∷ xs) fits = (note_same x fits.0, notes_same xs fits.1)

  items_same : (ds : List Declared) (k : ℕ) (xs : List Annotation) → All (AnnotationFits q) xs → Each (SameAnnotation ms es) xs (items_from ms ds k xs)
  items_same ds k [] fits = tt
  items_same ds k (of_function cs ns ∷ xs) fits = ((clauses_same cs fits.0.0, notes_same ns fits.0.1), items_same ds k xs fits.1)
  items_same ds k (of_definition t ∷ xs) fits = (tt, items_same ds (k + 1) xs fits.1)

all_same : (a : Annotations) → FileFits a → Each (SameAnnotation (meanings a) (meanings (all_expanded a))) a.items (all_expanded a).items
all_same a fits =
    items_same (signatures_of a.definitions.items) (meanings a) (meanings (all_expanded a)) fits.definitions
    (expands a) a.definitions.items 0 a.items fits.annotations

-- ---- files

same_answer : {X : Type 0} (x y : X) (o : Answer X) → o ≡ Ok x → o ≡ Ok y → x ≡ y
same_answer x y (Ok z) e d = let p : z ≡ x = cc in let q : z ≡ y = cc in sym p ∙ q
same_answer x y (Err r) e d = absurd cc

module _ (stand : AllStand) where
  pub well_formed : FilesAreWellFormed
  well_formed t a spelled is =
      file_fits a (answered (IsFile stand (signatures_of a.definitions.items) t spelled) (file_annotated t) a is
      (file_is stand (signatures_of a.definitions.items) t spelled) (signed a.definitions.items))

  pub mean_the_same : FilesMeanTheSame
  unfolding file_expanded
  mean_the_same t a b spelled is made =
      let same : all_expanded a ≡ b = same_answer (all_expanded a) b (after (file_annotated t) (λ a. Ok (all_expanded a)))
      (ap (λ o. after o (λ a. Ok (all_expanded a))) is) made in
      subst (MeanTheSame a) same (record { definitions = refl; annotations = all_same a (well_formed t a spelled is) })
