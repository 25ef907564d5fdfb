-- What typing makes of the annotations of a body is in order, and so is what it makes of a file's.
use Rattle.std.proofs.Common.{◌≡◌, ℕ, zero, suc, Bool, true, false, List, [], ◌∷◌, ◌++◌, Option, Some, None, refl, ap, sym, ◌∙◌, subst, slice_get, append_assoc, append-nil}
use Rattle.c_syntax.specs.Pred.{Pred}
use Rattle.c_syntax.specs.Contract.{Contract, LoopAnnot}
use Rattle.c_syntax.specs.Decl.{LogicDecl}
use Rattle.c_scopes.specs.declared.symbols.Object.{Object}
use Rattle.c_scopes.specs.declared.file.File.{File}
use Rattle.typed_prog.specs.declared.types.CoreType.{CoreType}
use Rattle.typed_unit.specs.Stmt as s
use Rattle.typed_unit.specs.Unit as u
use Rattle.name_table.specs.Names.{Names as Table}
use Rattle.acsl_trees.specs.Tree.{Tree}
use Rattle.acsl_rules.specs.Laws.{Holds}
use Rattle.acsl_names.specs.declared.names.Definition.{Definition}
use Rattle.acsl_names.specs.Names.{Around}
use Rattle.acsl_clauses.specs.Items.{Item, contract_items}
use Rattle.acsl_clauses.specs.Typed.{Said, claims, decreases, assigns, begins, together, TypedClause}
use Rattle.acsl_clauses.specs.Clauses.{loop_typed, assertion_typed}
use Rattle.acsl_definitions.specs.Definitions.{definition_typed}
use Rattle.acsl_notes.specs.Notes.{Note, of_loop, assertion, Enclosing, Noted, params_scope, opened, with_object, with_locals, around_at, with_loop, with_assertion, noted, all_noted, at_start, body_noted}
use Rattle.acsl_typing.specs.Annotations as a
use Rattle.acsl_typing.specs.Annotations.{before_of, result_of, second, contract_checked, around_contract, has_contract, contract_of, enclosing_of, notes_in, next_body, notes_of, with_function, function_annotated, definition_annotated, part_by, part_annotated, parts_annotated, finished, file_annotated}
use Rattle.acsl_well_typed.specs.WellTyped.{an_integer, a_region, Known}
use Rattle.acsl_well_typed.specs.Terms.{HasTypes, HaveTypes, known_at, Gives}
use Rattle.acsl_well_typed.specs.Ranges.{EachBinds}
use Rattle.acsl_well_typed.specs.Clauses.{All, SaidFits, ClausesFit, ContractBinds, LoopBinds}
use Rattle.acsl_well_typed.specs.Definitions.{known_with, BodyBinds, DefinitionFits, IsOneMore}
use Rattle.acsl_well_typed.specs.Files.{NoteFits, PartFits, PartsFit, FileFits, StmtBinds, StmtsBind, PartBinds, FileBinds, FilesAreWellTyped, RangesOfFilesAreWellTyped}
use Rattle.acsl_well_typed.proofs.Answers.{after_holds, holds_all}
use Rattle.acsl_well_typed.proofs.Lists.{contract_fits, loop_fits, assertion_fits}
use Rattle.acsl_well_typed.proofs.Growth.{Grow, more_grow, tree_grows}
use Rattle.acsl_well_typed.proofs.Bodies.{have_more, body_grows, definitions_are_well_typed}

both_all : {X : Type 0} (P : X → Type 0) (xs ys : List X) → All P xs → All P ys → All P (xs ++ ys)
both_all P [] ys f g = g
both_all P (x ∷ xs) ys f g = (f.0, both_all P xs ys f.1 g)

-- ---- the annotations of a body

module _ (z : Bool) (e : Enclosing) (have : HaveTypes e.definitions.items) where
  abbrev pub k : Known
  k = known_with z e.definitions.items e.within.result

  abbrev pub AreNotes : Noted → Type 0
  AreNotes j = All (NoteFits k) j.notes

  object_keeps : (j : Noted) (i : ℕ) (o : Option Object) → AreNotes j → AreNotes (with_object j i o)
  object_keeps j i (Some o) f = f
  object_keeps j i None f = f

  locals_keep : (os : List Object) (j : Noted) (ds : List s.Declared) → AreNotes j → AreNotes (with_locals os j ds)
  locals_keep os j [] f = f
  locals_keep os j (d ∷ ds) f = locals_keep os (with_object j d.local (slice_get os d.local)) ds (object_keeps j d.local (slice_get os d.local) f)

  loop_keeps : (j : Noted) (x : LoopAnnot) → (z ≡ true → LoopBinds x) → AreNotes j → Holds AreNotes (with_loop e j x)
  loop_keeps j x asked f =
      after_holds (ClausesFit k) AreNotes (loop_typed (around_at e j.blocks (Some j.declared)) x) _
      (loop_fits z (around_at e j.blocks (Some j.declared)) have x asked)
      (λ cs fcs. both_all (NoteFits k) j.notes (of_loop cs ∷ []) f (fcs, tt))

  assertion_keeps : (i : Option ℕ) (j : Noted) (p : Pred) → (z ≡ true → EachBinds p) → AreNotes j → Holds AreNotes (with_assertion e i j p)
  assertion_keeps i j p asked f =
      after_holds (Gives k [] an_integer) AreNotes (assertion_typed (around_at e j.blocks i) p) _ (assertion_fits z (around_at e j.blocks i) have p asked)
      (λ t ft. both_all (NoteFits k) j.notes (assertion t ∷ []) f (ft, tt))

  mutual
    noted_keeps : (i : Option ℕ) (j : Noted) (x : s.Stmt) → (z ≡ true → StmtBinds x) → AreNotes j → Holds AreNotes (noted e i j x)
    noted_keeps i j (s.empty line) asked f = f
    noted_keeps i j (s.expr line v) asked f = f
    noted_keeps i j (s.block line body) asked f = after_holds AreNotes AreNotes (all_noted e i (opened j) body) _ (all_keep i (opened j) body asked f)
        (λ q fq. fq)
    noted_keeps i j (s.locals line vars) asked f = locals_keep e.within.objects j vars f
    noted_keeps i j (s.if_else line test x y) asked f = after_holds AreNotes AreNotes (noted e i j x) _ (noted_keeps i j x (λ h. (asked h).0) f)
        (λ q fq. noted_keeps i q y (λ h. (asked h).1) fq)
    noted_keeps i j (s.loop_of line annot turns body) asked f = after_holds AreNotes AreNotes (with_loop e j annot) _ (loop_keeps j annot (λ h. (asked h).0) f)
        (λ q fq. noted_keeps (Some j.declared) q body (λ h. (asked h).1) fq)
    noted_keeps i j (s.switch line v body) asked f = after_holds AreNotes AreNotes (all_noted e i (opened j) body) _ (all_keep i (opened j) body asked f)
        (λ q fq. fq)
    noted_keeps i j (s.case_of line z) asked f = f
    noted_keeps i j (s.default line) asked f = f
    noted_keeps i j (s.break line) asked f = f
    noted_keeps i j (s.continue line) asked f = f
    noted_keeps i j (s.return_of line v) asked f = f
    noted_keeps i j (s.assert line p) asked f = assertion_keeps i j p asked f

    all_keep : (i : Option ℕ) (j : Noted) (xs : s.Stmts) → (z ≡ true → StmtsBind xs) → AreNotes j → Holds AreNotes (all_noted e i j xs)
    all_keep i j s.stop asked f = f
    all_keep i j (s.more x xs) asked f = after_holds AreNotes AreNotes (noted e i j x) _ (noted_keeps i j x (λ h. (asked h).0) f)
        (λ q fq. all_keep i q xs (λ h. (asked h).1) fq)

  body_keeps : (bs : List (Table ℕ)) (x : s.Stmt) → (z ≡ true → StmtBinds x) → Holds (All (NoteFits k)) (body_noted e bs x)
  unfolding body_noted
  body_keeps bs x asked = after_holds AreNotes (All (NoteFits k)) (noted e None (at_start bs e.within.params) x) _
      (noted_keeps None (at_start bs e.within.params) x asked tt) (λ j f. f)

-- ---- functions

second_is : (k : Known) (xs : List Item) → Holds (ClausesFit k) (second xs)
second_is k [] = tt
second_is k (x ∷ xs) = tt

checked_is : (z : Bool) (c : Around) (has_one : Bool) (q : Contract) → HaveTypes c.definitions.items → (z ≡ true → ContractBinds q)
    → Holds (ClausesFit (known_at z c)) (contract_checked c has_one q)
checked_is z c true q have asked = second_is (known_at z c) (contract_items q)
checked_is z c false q have asked = contract_fits z c have q asked

module _ (z : Bool) (t : u.Typed) (bodies : z ≡ true → All (λ b. StmtBinds b.stmt) t.bodies) where
  -- the definitions of these, and where the function with this number gives what it does
  abbrev pub known_in : a.Annotating → (number : ℕ) → Known
  known_in j i = known_with z j.definitions.items (result_of t.file i)

  notes_by : (j : a.Annotating) (names tags i : ℕ) (ps : List Object) (o : Option u.Body) → ((q : u.Body) → o ≡ Some q → z ≡ true → StmtBinds q.stmt)
      → HaveTypes j.definitions.items → Holds (All (NoteFits (known_in j i))) (notes_in t j names tags i ps o)
  notes_by j names tags i ps None asked have = tt
  notes_by j names tags i ps (Some b) asked have = body_keeps z (enclosing_of t j names tags i ps b) have (params_scope ps) b.stmt (asked b refl)

  body_at : (bs : List u.Body) (i : ℕ) (q : u.Body) → All (λ b. StmtBinds b.stmt) bs → slice_get bs i ≡ Some q → StmtBinds q.stmt
  body_at [] i q f h = absurd cc
  body_at (b ∷ bs) zero q f h = let same : b ≡ q = cc in subst (λ b. StmtBinds b.stmt) same f.0
  body_at (b ∷ bs) (suc i) q f h = body_at bs i q f.1 h

  next_binds : (j : a.Annotating) (has_body : Bool) (q : u.Body) → next_body t j has_body ≡ Some q → z ≡ true → StmtBinds q.stmt
  next_binds j true q h e = body_at t.bodies j.bodies q (bodies e) h
  next_binds j false q h e = absurd cc

  -- one part more, and what it says
  pub record IsPart (j : a.Annotating) (p : u.Annotated) (q : a.Annotating) : Type 0 where
    pub last : a.Annotation
    pub items : q.items ≡ j.items ++ last ∷ []
    pub types : HaveTypes q.definitions.items
    pub fits : PartFits z t.file (λ ds. ds) p last j.definitions.items q.definitions.items

  function_is : (j : a.Annotating) (names tags i : ℕ) (ps : List Object) (q : Contract) (has_body : Bool) → HaveTypes j.definitions.items
      → (z ≡ true → ContractBinds q)
      → Holds (IsPart j (u.of_function i ps q has_body)) (function_annotated t j names tags i ps q has_body)
  function_is j names tags i ps q has_body have asked =
      after_holds (ClausesFit (known_in j i)) (IsPart j (u.of_function i ps q has_body)) (contract_of t j names tags i ps q) _
      (checked_is z (around_contract t j names tags i ps) (has_contract j i) q have asked) (λ cs fcs.
      after_holds (All (NoteFits (known_in j i))) (IsPart j (u.of_function i ps q has_body)) (notes_of t j names tags i ps has_body) _
      (notes_by j names tags i ps (next_body t j has_body) (next_binds j has_body) have)
      (λ ns fns. record { last = a.of_function cs ns; items = refl; types = have; fits = (fcs, fns, refl) }))

  types_of : (ds all : List Definition) (d : Definition) → all ≡ ds ++ d ∷ [] → HaveTypes ds → HasTypes d → HaveTypes all
  types_of ds all d is f g = subst HaveTypes (sym is) (have_more ds d f g)

  definition_is : (j : a.Annotating) (names tags : ℕ) (q : LogicDecl) → HaveTypes j.definitions.items → (z ≡ true → BodyBinds q.body)
      → Holds (IsPart j (u.of_logic q)) (definition_annotated t j names tags q)
  definition_is j names tags q have asked =
      after_holds (λ r. IsOneMore z j.definitions.items q r.0 r.1.items) (IsPart j (u.of_logic q))
      (definition_typed (before_of t j.sizes names tags) j.definitions q) _
      (definitions_are_well_typed z (before_of t j.sizes names tags) j.definitions q have asked)
      (λ r m. record {
        last = a.of_definition r.0;
        items = refl;
        types = types_of j.definitions.items r.1.items m.last m.is have m.types;
        fits = (m.last, m.is, m.fits);
      })

  part_is : (j : a.Annotating) (names tags : ℕ) (p : u.Annotated) → HaveTypes j.definitions.items → (z ≡ true → PartBinds p)
      → Holds (IsPart j p) (part_by t j names tags p)
  part_is j names tags (u.of_function i ps q has_body) have asked = function_is j names tags i ps q has_body have asked
  part_is j names tags (u.of_logic q) have asked = definition_is j names tags q have asked

  -- ---- files

  pub record AreParts (j : a.Annotating) (ps : List u.Part) (q : a.Annotating) : Type 0 where
    pub more : List a.Annotation
    pub items : q.items ≡ j.items ++ more
    pub fits : PartsFit z t.file (λ ds. ds) ps more j.definitions.items q.definitions.items

  one_part : (j m q : a.Annotating) (p : u.Part) (ps : List u.Part) → IsPart j p.decl m → AreParts m ps q → AreParts j (p ∷ ps) q
  one_part j m q p ps x xs = record {
    more = x.last ∷ xs.more;
    items = xs.items ∙ ap (λ ys. ys ++ xs.more) x.items ∙ append_assoc j.items (x.last ∷ []) xs.more;
    fits = (m.definitions.items, x.fits, xs.fits);
  }

  parts_are : (j : a.Annotating) (ps : List u.Part) → HaveTypes j.definitions.items → (z ≡ true → All (λ p. PartBinds p.decl) ps)
      → Holds (AreParts j ps) (parts_annotated t j ps)
  parts_are j [] have asked = record { more = []; items = sym (append-nil j.items); fits = refl }
  parts_are j (p ∷ ps) have asked =
      after_holds (IsPart j p.decl) (AreParts j (p ∷ ps)) (part_annotated t j p) _ (part_is j p.names p.tags p.decl have (λ h. (asked h).0))
      (λ m x. holds_all (AreParts m ps) (AreParts j (p ∷ ps)) (parts_annotated t m ps) (λ q xs. one_part j m q p ps x xs)
      (parts_are m ps x.types (λ h. (asked h).1)))

-- ---- by all definitions

all_map : {X : Type 0} (P Q : X → Type 0) (xs : List X) → ((x : X) → P x → Q x) → All P xs → All Q xs
all_map P Q [] go f = tt
all_map P Q (x ∷ xs) go f = (go x f.0, all_map P Q xs go f.1)

module _ (z : Bool) (ds es : List Definition) (result : CoreType) (grow : Grow ds es) where
  said_grows : (x : Said) → SaidFits (known_with z ds result) x → SaidFits (known_with z es result) x
  said_grows (claims r t) f = tree_grows z ds es result grow [] an_integer t f
  said_grows (decreases t) f = tree_grows z ds es result grow [] an_integer t f
  said_grows (assigns ts) f = all_map (Gives (known_with z ds result) [] a_region) (Gives (known_with z es result) [] a_region) ts
      (λ t f. tree_grows z ds es result grow [] a_region t f) f
  said_grows (begins n) f = tt
  said_grows (together g ns) f = tt

  clauses_grow : (cs : List TypedClause) → ClausesFit (known_with z ds result) cs → ClausesFit (known_with z es result) cs
  clauses_grow cs f = all_map (λ x. SaidFits (known_with z ds result) x.said) (λ x. SaidFits (known_with z es result) x.said) cs (λ x f. said_grows x.said f) f

  note_grows : (n : Note) → NoteFits (known_with z ds result) n → NoteFits (known_with z es result) n
  note_grows (of_loop cs) f = clauses_grow cs f
  note_grows (assertion t) f = tree_grows z ds es result grow [] an_integer t f

  notes_grow : (ns : List Note) → All (NoteFits (known_with z ds result)) ns → All (NoteFits (known_with z es result)) ns
  notes_grow ns f = all_map (NoteFits (known_with z ds result)) (NoteFits (known_with z es result)) ns note_grows f

definition_grows : (z : Bool) (ds es : List Definition) (l : LogicDecl) (d : Definition) (t : Tree) → Grow ds es → DefinitionFits z ds l d t
    → DefinitionFits z es l d t
definition_grows z ds es l d t grow f = record { names = f.names; params = f.params; body = body_grows z ds es f.names l.body d.result t grow f.body }

module _ (z : Bool) (f : File) where
  -- the first ones are among them
  abbrev pub Begins : (before all : List Definition) → Type 0
  Begins before all = (rest : List Definition) × (all ≡ before ++ rest)

  begins_grow : (before all : List Definition) → Begins before all → Grow before all
  begins_grow before all b = subst (Grow before) (sym b.1) (more_grow before b.0)

  part_begins : (p : u.Annotated) (x : a.Annotation) (before behind all : List Definition) → PartFits z f (λ ds. ds) p x before behind → Begins behind all
      → Begins before all
  part_begins (u.of_function i ps q has_body) (a.of_function cs ns) before behind all h b = (b.0, b.1 ∙ ap (λ ds. ds ++ b.0) h.2)
  part_begins (u.of_logic l) (a.of_definition t) before behind all h b = (h.0 ∷ b.0, b.1 ∙ ap (λ ds. ds ++ b.0) h.1 ∙ append_assoc before (h.0 ∷ []) b.0)
  part_begins (u.of_function i ps q has_body) (a.of_definition t) before behind all h b = absurd h
  part_begins (u.of_logic l) (a.of_function cs ns) before behind all h b = absurd h

  parts_begin : (ps : List u.Part) (xs : List a.Annotation) (before all : List Definition) → PartsFit z f (λ ds. ds) ps xs before all → Begins before all
  parts_begin [] [] before all h = ([], sym h ∙ sym (append-nil before))
  parts_begin [] (x ∷ xs) before all h = absurd h
  parts_begin (p ∷ ps) [] before all h = absurd h
  parts_begin (p ∷ ps) (x ∷ xs) before all h = part_begins p.decl x before h.0 all h.1 (parts_begin ps xs h.0 all h.2)

  part_by_all : (p : u.Annotated) (x : a.Annotation) (before behind all : List Definition) → PartFits z f (λ ds. ds) p x before behind → Grow before all
      → Grow behind all
      → PartFits z f (λ ds. all) p x before behind
  part_by_all (u.of_function i ps q has_body) (a.of_function cs ns) before behind all h first next =
      (clauses_grow z before all (result_of f i) first cs h.0, notes_grow z before all (result_of f i) first ns h.1, h.2)
  part_by_all (u.of_logic l) (a.of_definition t) before behind all h first next = (h.0, h.1, definition_grows z behind all l h.0 t next h.2)
  part_by_all (u.of_function i ps q has_body) (a.of_definition t) before behind all h first next = absurd h
  part_by_all (u.of_logic l) (a.of_function cs ns) before behind all h first next = absurd h

  parts_by_all : (ps : List u.Part) (xs : List a.Annotation) (before all : List Definition) → PartsFit z f (λ ds. ds) ps xs before all
      → PartsFit z f (λ ds. all) ps xs before all
  parts_by_all [] [] before all h = h
  parts_by_all [] (x ∷ xs) before all h = absurd h
  parts_by_all (p ∷ ps) [] before all h = absurd h
  parts_by_all (p ∷ ps) (x ∷ xs) before all h = (
    h.0,
    part_by_all p.decl x before h.0 all h.1 (begins_grow before all (part_begins p.decl x before h.0 all h.1 (parts_begin ps xs h.0 all h.2)))
        (begins_grow h.0 all (parts_begin ps xs h.0 all h.2)),
    parts_by_all ps xs h.0 all h.2,
  )

file_fits : (z : Bool) (t : u.Typed) (bodies : z ≡ true → All (λ b. StmtBinds b.stmt) t.bodies) (q : a.Annotating)
    → AreParts z t bodies (a.at_start t.file) t.parts q → FileFits z t (finished q)
file_fits z t bodies q h =
    let fits : PartsFit z t.file (λ ds. ds) t.parts q.items [] q.definitions.items =
    subst (λ xs. PartsFit z t.file (λ ds. ds) t.parts xs [] q.definitions.items) (sym h.items) h.fits in
    record { by_those_before = fits; by_all = parts_by_all z t.file t.parts q.items [] q.definitions.items fits }

any_fits : (z : Bool) (t : u.Typed) → (z ≡ true → FileBinds t) → Holds (FileFits z t) (file_annotated t)
unfolding file_annotated
any_fits z t asked =
    after_holds (AreParts z t (λ h. (asked h).bodies) (a.at_start t.file) t.parts) (FileFits z t) (parts_annotated t (a.at_start t.file) t.parts) _
    (parts_are z t (λ h. (asked h).bodies) (a.at_start t.file) t.parts tt (λ h. (asked h).parts)) (λ q h. file_fits z t (λ h. (asked h).bodies) q h)

not_so : {X : Type 0} → ◌≡◌ {A = Bool} false true → X
not_so e = absurd cc

pub files_are_well_typed : FilesAreWellTyped
files_are_well_typed t = any_fits false t (λ h. not_so h)

pub ranges_of_files_are_well_typed : RangesOfFilesAreWellTyped
ranges_of_files_are_well_typed t binds = any_fits true t (λ h. binds)
