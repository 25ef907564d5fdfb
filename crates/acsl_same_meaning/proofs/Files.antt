-- What typing makes of all annotations of a file is well formed.
use Rattle.std.proofs.Common.{◌≡◌, ℕ, zero, suc, ◌+◌, Bool, true, false, List, [], ◌∷◌, ◌++◌, length, Option, Some, None, Ok, Err, slice_get, refl, ap, sym, ◌∙◌, subst, append_assoc, append-nil, length-append}
use Rattle.c_answers.specs.Answers.{Answer}
use Rattle.c_syntax.specs.Contract.{Contract}
use Rattle.c_syntax.specs.Decl.{LogicDecl}
use Rattle.c_scopes.specs.declared.symbols.Object.{Object}
use Rattle.typed_unit.specs.Unit as u
use Rattle.acsl_trees.specs.Tree.{Tree}
use Rattle.acsl_rules.specs.Laws.{Holds}
use Rattle.acsl_names.specs.declared.names.Definition.{Definition as Declared}
use Rattle.acsl_names.specs.Names.{Around}
use Rattle.acsl_clauses.specs.Items.{Item, contract_items}
use Rattle.acsl_definitions.specs.Definitions.{definition_typed}
use Rattle.acsl_notes.specs.Notes.{params_scope}
use Rattle.acsl_typing.specs.Annotations as a
use Rattle.acsl_typing.specs.Annotations.{before_of, second, contract_checked, around_contract, has_contract, contract_of, enclosing_of, notes_in, next_body, notes_of, function_annotated, definition_annotated, part_by, part_annotated, parts_annotated, finished, file_annotated}
use Rattle.acsl_annotated.specs.Annotated.{is_recursive_by, meant}
use Rattle.c_runs.specs.TruthLaws.{Signatures, is_definition}
use Rattle.acsl_same_meaning.specs.Trees.{Signed}
use Rattle.acsl_same_meaning.specs.Definitions.{IsOneMore}
use Rattle.acsl_well_typed.specs.Clauses.{All, ItemBinds}
use Rattle.acsl_well_typed.specs.Files.{StmtBinds}
use Rattle.acsl_same_meaning.specs.Spelled.{IsSpelled, PartIsSpelled, FileIsSpelled}
use Rattle.acsl_same_meaning.specs.Laws.{ClauseFits, NoteFits}
use Rattle.acsl_same_meaning.proofs.Answers.{after_holds, holds_all}
use Rattle.acsl_same_meaning.proofs.Bodies.{AllStand, signed_first, found_first, found_last, definition_is}
use Rattle.acsl_same_meaning.proofs.Lists.{contract_fits, body_fits}

pub holds_if : {A : Type 0} {X : Type 0} (P : X → Type 0) (o : Answer X) → (A → Holds P o) → Holds (λ x. A → P x) o
holds_if P (Ok x) f = f
holds_if P (Err r) f = tt

-- each annotation by the number of the next definition
abbrev pub ItemsFit : Signatures → List Declared → (number : ℕ) → List a.Annotation → Type 0
ItemsFit q ds k [] = Unit {0}
ItemsFit q ds k (a.of_function cs ns ∷ xs) = (All (ClauseFits q) cs × All (NoteFits q) ns) × ItemsFit q ds k xs
ItemsFit q ds k (a.of_definition t ∷ xs) = (is_definition q k (meant ds k t) ≡ true) × ItemsFit q ds (k + 1) xs

-- what a declaration says, and the definitions that it adds
abbrev PartFits : Signatures → (before : List Declared) → a.Annotation → (more : List Declared) → Type 0
PartFits q before (a.of_function cs ns) more = (more ≡ []) × (All (ClauseFits q) cs × All (NoteFits q) ns)
PartFits q before (a.of_definition t) more =
    (d : Declared) × (more ≡ d ∷ []) × (is_definition q (length before) (record { body = t; is_recursive = d.is_recursive }) ≡ true)

body_at : (bs : List u.Body) (i : ℕ) (o : Option u.Body) → slice_get bs i ≡ o → All (λ b. StmtBinds b.stmt) bs → (b : u.Body) → o ≡ Some b → StmtBinds b.stmt
body_at [] i o is f b e = absurd cc
body_at (x ∷ bs) zero o is f b e = let same : x ≡ b = cc in subst (λ b. StmtBinds b.stmt) same f.0
body_at (x ∷ bs) (suc i) o is f b e = body_at bs i o is f.1 b e

second_fits : (q : Signatures) (xs : List Item) → Holds (All (ClauseFits q)) (second xs)
second_fits q [] = tt
second_fits q (x ∷ xs) = tt

module _ (stand : AllStand) (q : Signatures) (t : u.Typed) (spelled : FileIsSpelled t) where
  checked_fits : (c : Around) (has_one : Bool) (k : Contract) → Signed q c.definitions.items → All ItemBinds (contract_items k)
      → Holds (All (ClauseFits q)) (contract_checked c has_one k)
  checked_fits c true k sig bind = second_fits q (contract_items k)
  checked_fits c false k sig bind = contract_fits stand q c sig k bind

  notes_by : (j : a.Annotating) (names tags i : ℕ) (ps : List Object) (o : Option u.Body) → Signed q j.definitions.items
      → ((b : u.Body) → o ≡ Some b → StmtBinds b.stmt)
      → Holds (All (NoteFits q)) (notes_in t j names tags i ps o)
  notes_by j names tags i ps None sig bind = tt
  notes_by j names tags i ps (Some b) sig bind = body_fits stand q (enclosing_of t j names tags i ps b) sig (params_scope ps) b.stmt (bind b refl)

  next_binds : (j : a.Annotating) (has_body : Bool) (b : u.Body) → next_body t j has_body ≡ Some b → StmtBinds b.stmt
  next_binds j true b e = body_at t.bodies j.bodies (slice_get t.bodies j.bodies) refl spelled.bodies b e
  next_binds j false b e = absurd cc

  -- one part more
  pub record IsPart (j m : a.Annotating) : Type 0 where
    pub last : a.Annotation
    pub items : m.items ≡ j.items ++ last ∷ []
    pub more : List Declared
    pub definitions : m.definitions.items ≡ j.definitions.items ++ more
    pub fits : Signed q m.definitions.items → PartFits q j.definitions.items last more

  function_is : (j : a.Annotating) (names tags i : ℕ) (ps : List Object) (k : Contract) (has_body : Bool) → All ItemBinds (contract_items k)
      → Holds (IsPart j) (function_annotated t j names tags i ps k has_body)
  function_is j names tags i ps k has_body bind =
      after_holds (λ cs. Signed q j.definitions.items → All (ClauseFits q) cs) (IsPart j) (contract_of t j names tags i ps k) _
      (holds_if (All (ClauseFits q)) (contract_of t j names tags i ps k)
      (λ sig. checked_fits (around_contract t j names tags i ps) (has_contract j i) k sig bind)) (λ cs fcs.
      after_holds (λ ns. Signed q j.definitions.items → All (NoteFits q) ns) (IsPart j) (notes_of t j names tags i ps has_body) _
      (holds_if (All (NoteFits q)) (notes_of t j names tags i ps has_body)
      (λ sig. notes_by j names tags i ps (next_body t j has_body) sig (next_binds j has_body)))
      (λ ns fns. record {
        last = a.of_function cs ns;
        items = refl;
        more = [];
        definitions = sym (append-nil j.definitions.items);
        fits = λ sig.
            (refl, (fcs sig, fns sig));
      }))

  definition_part : (j : a.Annotating) (names tags : ℕ) (l : LogicDecl) → IsSpelled l → Holds (IsPart j) (definition_annotated t j names tags l)
  definition_part j names tags l is =
      after_holds (λ r. IsOneMore j.definitions.items l r.0 r.1.items) (IsPart j) (definition_typed (before_of t j.sizes names tags) j.definitions l) _
      (definition_is stand (before_of t j.sizes names tags) j.definitions l is)
      (λ r x. record {
        last = a.of_definition r.0;
        items = refl;
        more = x.last ∷ [];
        definitions = x.is;
        fits = λ sig.
            (x.last, refl, ap (λ z. is_definition q (length j.definitions.items) (record { body = r.0; is_recursive = z })) x.recursive ∙ x.fits q sig);
      })

  part_is : (j : a.Annotating) (names tags : ℕ) (p : u.Annotated) → PartIsSpelled p → Holds (IsPart j) (part_by t j names tags p)
  part_is j names tags (u.of_function i ps k has_body) is = function_is j names tags i ps k has_body is
  part_is j names tags (u.of_logic l) is = definition_part j names tags l is

  -- ---- all of them

  pub record AreParts (j m : a.Annotating) : Type 0 where
    pub more : List a.Annotation
    pub items : m.items ≡ j.items ++ more
    pub rest : List Declared
    pub definitions : m.definitions.items ≡ j.definitions.items ++ rest
    pub fits : Signed q m.definitions.items → ItemsFit q m.definitions.items (length j.definitions.items) more

  meant_is : (ds : List Declared) (before rest : List Declared) (d : Declared) (v : Tree) → ds ≡ (before ++ d ∷ []) ++ rest
      → meant ds (length before) v ≡ record { body = v; is_recursive = d.is_recursive }
  meant_is ds before rest d v is =
      ap (λ o. record { body = v; is_recursive = is_recursive_by o })
      (ap (λ ds. slice_get ds (length before)) is ∙ found_first (before ++ d ∷ []) rest (length before) d (found_last before d))

  step : (before mid all rest : List Declared) (more : List Declared) (x : a.Annotation) (xs : List a.Annotation) → mid ≡ before ++ more → all ≡ mid ++ rest
      → PartFits q before x more
      → ItemsFit q all (length mid) xs → ItemsFit q all (length before) (x ∷ xs)
  step before mid all rest more (a.of_function cs ns) xs is whole f fs =
      let same : mid ≡ before = is ∙ ap (λ ds. before ++ ds) f.0 ∙ append-nil before in (f.1, subst (λ ds. ItemsFit q all (length ds) xs) same fs)
  step before mid all rest more (a.of_definition v) xs is whole f fs =
      let same : mid ≡ before ++ f.0 ∷ [] = is ∙ ap (λ ds. before ++ ds) f.1 in
      let long : length mid ≡ length before + 1 = ap length same ∙ length-append before (f.0 ∷ []) in (
        ap (is_definition q (length before)) (meant_is all before rest f.0 v (whole ∙ ap (λ ds. ds ++ rest) same))
            ∙ f.2,
        subst (λ k. ItemsFit q all k xs) long fs,
      )

  one_part : (j m w : a.Annotating) → IsPart j m → AreParts m w → AreParts j w
  one_part j m w x xs = record {
    more = x.last ∷ xs.more;
    items = xs.items ∙ ap (λ ys. ys ++ xs.more) x.items ∙ append_assoc j.items (x.last ∷ []) xs.more;
    rest = x.more ++ xs.rest;
    definitions = xs.definitions ∙ ap (λ ds. ds ++ xs.rest) x.definitions ∙ append_assoc j.definitions.items x.more xs.rest;
    fits = λ sig.
        step j.definitions.items m.definitions.items w.definitions.items xs.rest x.more x.last xs.more x.definitions xs.definitions
        (x.fits (signed_first q m.definitions.items xs.rest (subst (Signed q) xs.definitions sig))) (xs.fits sig);
  }

  parts_are : (j : a.Annotating) (ps : List u.Part) → All (λ p. PartIsSpelled p.decl) ps → Holds (AreParts j) (parts_annotated t j ps)
  parts_are j [] is = record { more = []; items = sym (append-nil j.items); rest = []; definitions = sym (append-nil j.definitions.items); fits = λ sig. tt }
  parts_are j (p ∷ ps) is =
      after_holds (IsPart j) (AreParts j) (part_annotated t j p) _ (part_is j p.names p.tags p.decl is.0)
      (λ m x. holds_all (AreParts m) (AreParts j) (parts_annotated t m ps) (λ w xs. one_part j m w x xs) (parts_are m ps is.1))

  abbrev pub IsFile : a.Annotations → Type 0
  IsFile x = Signed q x.definitions.items → ItemsFit q x.definitions.items 0 x.items

  pub file_is : Holds IsFile (file_annotated t)
  unfolding file_annotated
  file_is =
      after_holds (AreParts (a.at_start t.file)) IsFile (parts_annotated t (a.at_start t.file) t.parts) _ (parts_are (a.at_start t.file) t.parts spelled.parts)
      (λ w x. λ sig. subst (ItemsFit q w.definitions.items 0) (sym x.items) (x.fits sig))
