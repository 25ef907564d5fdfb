-- Bodies and their annotations, in the order of the text.
use Rattle.std.proofs.Common.{◌≡◌, ℕ, suc, ◌+◌, ◌==◌, Bool, true, false, if◌then◌else◌, List, [], ◌∷◌, ◌++◌, map, length, Option, Some, None, Ok, Err, slice_get, refl, sym, ap, subst, ◌∙◌, append_assoc, append-nil, zero-add, arith}
use Rattle.c_answers.specs.Answers.{Answer, after}
use Rattle.c_syntax.specs.Contract.{Contract}
use Rattle.c_syntax.specs.Decl as d
use Rattle.c_scopes.specs.declared.symbols.Object.{Object}
use Rattle.typed_unit.specs.Unit as u
use Rattle.acsl_names.specs.declared.names.Definition.{Definition as Declared}
use Rattle.acsl_names.specs.declared.names.Definitions.{Definitions}
use Rattle.acsl_trees.specs.Tree.{Tree}
use Rattle.acsl_expand.specs.Expansion.{Definition}
use Rattle.acsl_clauses.specs.Typed.{TypedClause}
use Rattle.acsl_notes.specs.Notes.{Note, Noted, Enclosing, params_scope, noted, body_noted, at_start as start}
use Rattle.acsl_definitions.specs.Definitions.{definition_typed}
use Rattle.acsl_annotated.specs.Told.{Annotation, of_function, of_definition, Annotations, Annotating, before_of, enclosing_of, notes_in as typed_notes_in}
use Rattle.acsl_annotated.specs.Told.{notes_of as typed_notes_of, contract_of, with_function, bodies_behind, function_annotated, definition_annotated}
use Rattle.acsl_annotated.specs.Told.{part_by, part_annotated, parts_annotated, at_start, finished, file_annotated}
use Rattle.acsl_annotated.specs.Annotated.{behind, note_expanded, meant_from, item_expanded, items_from, all_expanded}
use Rattle.c_programs.specs.Files.{Text, notes_in, notes_of, text_of}
use Rattle.c_programs.specs.FileLaws.{IsNoted, BodiesAreNoted, BodyIsPlaced, BodiesArePlaced}
use Rattle.c_programs.specs.Bodies.{placed}
use Rattle.c_programs.specs.Placing.{Becomes}
use Rattle.c_programs.specs.Laws.{Declares, IsPlaced}
use Rattle.c_programs.proofs.Notes.{Holds, after_holds, holds_more, this, notes_are_placed}

-- ---- declarations, as typing passes over them

-- typed of this body
record Raw (b : u.Body) (ns : List Note) : Type 0 where
  enclosing : Enclosing
  params : List Object
  objects : enclosing.within.objects ≡ b.locals
  count : enclosing.within.params ≡ length params
  noted : body_noted enclosing (params_scope params) b.stmt ≡ Ok ns

abbrev RawOf : Option u.Body → List Note → Type 0
RawOf None ns = Unit {0}
RawOf (Some b) ns = Raw b ns

module _ (t : u.Typed) where
  -- the annotations of a body at its place among the bodies
  abbrev RawBy : (bodies : ℕ) → (has_body : Bool) → Annotation → Type 0
  RawBy n true (of_function cs ns) = RawOf (slice_get t.bodies n) ns
  RawBy n true (of_definition q) = ⊥
  RawBy n false x = Unit {0}

  abbrev RawIn : (bodies : ℕ) → u.Annotated → Annotation → Type 0
  RawIn n (u.of_function i ps q has_body) x = RawBy n has_body x
  RawIn n (u.of_logic l) x = Unit {0}

  abbrev further : (bodies : ℕ) → u.Annotated → ℕ
  further n (u.of_function i ps q has_body) = bodies_behind has_body n
  further n (u.of_logic l) = n

  abbrev AllRaw : (bodies : ℕ) → List u.Part → List Annotation → Type 0
  AllRaw n [] [] = Unit {0}
  AllRaw n (p ∷ ps) (x ∷ xs) = RawIn n p.decl x × AllRaw (further n p.decl) ps xs
  AllRaw n [] (x ∷ xs) = ⊥
  AllRaw n (p ∷ ps) [] = ⊥

  -- what a declaration adds
  record Adds (n : ℕ) (a : u.Annotated) (before after_ : Annotating) : Type 0 where
    item : Annotation
    items : after_.items ≡ before.items ++ item ∷ []
    bodies : after_.bodies ≡ further n a
    raw : RawIn n a item

  notes_raw : (k : Annotating) (names tags i : ℕ) (ps : List Object) (o : Option u.Body) → Holds (RawOf o) (typed_notes_in t k names tags i ps o)
  notes_raw k names tags i ps None = tt
  notes_raw k names tags i ps (Some b) =
      holds_more (λ ns. typed_notes_in t k names tags i ps (Some b) ≡ Ok ns) (Raw b) (typed_notes_in t k names tags i ps (Some b))
      (λ ns noted. record { enclosing = enclosing_of t k names tags i ps b; params = ps; objects = refl; count = refl; noted = noted }) (this _)

  by_body : (k : Annotating) (names tags i : ℕ) (ps : List Object) (cs : List TypedClause) (has_body : Bool) → Holds (λ ns. RawBy k.bodies has_body (of_function cs ns)) (typed_notes_of t k names tags i ps has_body)
  by_body k names tags i ps cs true = notes_raw k names tags i ps (slice_get t.bodies k.bodies)
  by_body k names tags i ps cs false = tt

  function_adds : (k : Annotating) (names tags i : ℕ) (ps : List Object) (q : Contract) (has_body : Bool) → Holds (Adds k.bodies (u.of_function i ps q has_body) k) (function_annotated t k names tags i ps q has_body)
  function_adds k names tags i ps q has_body =
      after_holds (λ cs. Unit {0}) (Adds k.bodies (u.of_function i ps q has_body) k) (contract_of t k names tags i ps q) _ (any (contract_of t k names tags i ps q)) (λ cs h.
      after_holds (λ ns. RawBy k.bodies has_body (of_function cs ns)) (Adds k.bodies (u.of_function i ps q has_body) k) (typed_notes_of t k names tags i ps has_body)
      (λ ns. Ok (with_function k i has_body cs ns)) (by_body k names tags i ps cs has_body) (λ ns raw. record { item = of_function cs ns; items = refl; bodies = refl; raw = raw }))
    where
      any : {X : Type 0} (o : Answer X) → Holds (λ x. Unit {0}) o
      any (Ok x) = tt
      any (Err r) = tt

  definition_adds : (k : Annotating) (names tags : ℕ) (l : d.LogicDecl) → Holds (Adds k.bodies (u.of_logic l) k) (definition_annotated t k names tags l)
  definition_adds k names tags l = by (definition_typed (before_of t k.sizes names tags) k.definitions l)
    where
      by : (o : Answer (Tree × Definitions)) → Holds (Adds k.bodies (u.of_logic l) k) (after o (λ r. Ok (record k { definitions = r.1; items = k.items ++ of_definition r.0 ∷ [] })))
      by (Ok r) = record { item = of_definition r.0; items = refl; bodies = refl; raw = tt }
      by (Err r) = tt

  part_adds : (k : Annotating) (p : u.Part) → Holds (Adds k.bodies p.decl k) (part_annotated t k p)
  part_adds k p = by p.decl
    where
      by : (a : u.Annotated) → Holds (Adds k.bodies a k) (part_by t k p.names p.tags a)
      by (u.of_function i ps q has_body) = function_adds k p.names p.tags i ps q has_body
      by (u.of_logic l) = definition_adds k p.names p.tags l

  -- what several add
  record AddAll (n : ℕ) (ps : List u.Part) (before after_ : Annotating) : Type 0 where
    added : List Annotation
    items : after_.items ≡ before.items ++ added
    raw : AllRaw n ps added

  one_and_others : (n : ℕ) (p : u.Part) (ps : List u.Part) (k j l : Annotating) → Adds n p.decl k j → AddAll j.bodies ps j l → AddAll n (p ∷ ps) k l
  one_and_others n p ps k j l one others =
      let P : ℕ → Type 0 = λ m. AllRaw m ps others.added in
      record {
        added = one.item ∷ others.added;
        items = others.items ∙ ap (λ us. us ++ others.added) one.items ∙ append_assoc k.items (one.item ∷ []) others.added;
        raw = (one.raw, subst P one.bodies others.raw);
      }

  parts_add : (ps : List u.Part) (k : Annotating) → Holds (AddAll k.bodies ps k) (parts_annotated t k ps)
  parts_add [] k = record { added = []; items = sym (append-nil k.items); raw = tt }
  parts_add (p ∷ ps) k =
      after_holds (Adds k.bodies p.decl k) (AddAll k.bodies (p ∷ ps) k) (part_annotated t k p) (λ j. parts_annotated t j ps) (part_adds k p) (λ j one.
      holds_more (AddAll j.bodies ps j) (AddAll k.bodies (p ∷ ps) k) (parts_annotated t j ps) (λ l others. one_and_others k.bodies p ps k j l one others) (parts_add ps j))

  file_raw : (a : Annotations) → file_annotated t ≡ Ok a → AllRaw 0 t.parts a.items
  unfolding file_annotated
  file_raw a is = by (parts_annotated t (at_start t.file) t.parts) (parts_add t.parts (at_start t.file)) is
    where
      by : (o : Answer Annotating) → Holds (AddAll 0 t.parts (at_start t.file)) o → after o (λ k. Ok (finished k)) ≡ Ok a → AllRaw 0 t.parts a.items
      by (Ok k) all is =
          let e : finished k ≡ a = cc in
          let P : List Annotation → Type 0 = AllRaw 0 t.parts in subst P (sym all.items ∙ ap (λ b. b.items) e) all.raw
      by (Err r) all is = absurd cc

  -- ---- and as programs take them

  module _ (ms : List Definition) (ds : List Declared) where
    to_noted : (b : u.Body) (ns : List Note) → Raw b ns → IsNoted ms b (map (note_expanded ms) ns)
    to_noted b ns r = record { enclosing = r.enclosing; params = r.params; typed = ns; objects = r.objects; count = r.count; noted = r.noted; expanded = refl }

    -- the bodies from a place on, with the notes from there on
    abbrev Fits : (n : ℕ) → List (List Note) → Type 0
    Fits n [] = Unit {0}
    Fits n (ns ∷ nss) = ((b : u.Body) → slice_get t.bodies n ≡ Some b → IsNoted ms b ns) × Fits (n + 1) nss

    raw_there : (o : Option u.Body) (ns : List Note) → RawOf o ns → (b : u.Body) → o ≡ Some b → Raw b ns
    raw_there None ns r b is = absurd cc
    raw_there (Some c) ns r b is = let e : c ≡ b = cc in let P : u.Body → Type 0 = λ x. Raw x ns in subst P e r

    fits : (n k : ℕ) (ps : List u.Part) (xs : List Annotation) → AllRaw n ps xs → Fits n (notes_of ps (items_from ms ds k xs))
    fits n k [] [] all = tt
    fits n k [] (x ∷ xs) all = absurd all
    fits n k (p ∷ ps) [] all = absurd all
    fits n k (p ∷ ps) (x ∷ xs) all = by p.decl x all.0 (λ m j rest. fits m j ps xs rest) all.1
      where
        by : (a : u.Annotated) (x : Annotation) → RawIn n a x → ((m j : ℕ) → AllRaw m ps xs → Fits m (notes_of ps (items_from ms ds j xs))) → AllRaw (further n a) ps xs
            → Fits n (notes_in a (item_expanded ms ds k x) ++ notes_of ps (items_from ms ds (behind k x) xs))
        by (u.of_function i os q true) (of_function cs ns) raw go rest = (λ b is. to_noted b ns (raw_there (slice_get t.bodies n) ns raw b is), go (n + 1) k rest)
        by (u.of_function i os q true) (of_definition z) raw go rest = absurd raw
        by (u.of_function i os q false) (of_function cs ns) raw go rest = go n k rest
        by (u.of_function i os q false) (of_definition z) raw go rest = go n (k + 1) rest
        by (u.of_logic l) (of_function cs ns) raw go rest = go n k rest
        by (u.of_logic l) (of_definition z) raw go rest = go n (k + 1) rest

    found : (f n : ℕ) (bs : List u.Body) (nss : List (List Note)) (x : Text) → ((i : ℕ) → slice_get bs i ≡ slice_get t.bodies (n + i)) → Fits n nss → text_of f bs nss ≡ Some x → IsNoted ms x.body x.notes
    found f n [] nss x same fit is = absurd cc
    found f n (b ∷ bs) [] x same fit is = absurd cc
    found f n (b ∷ bs) (ns ∷ nss) x same fit is =
        by (b.function == f) is (λ go. found f (n + 1) bs nss x (λ i. let e : n + suc i ≡ (n + 1) + i = omega arith in same (suc i) ∙ ap (slice_get t.bodies) e) fit.1 go)
      where
        by : (c : Bool) → (if c then Some (record { body = b; notes = ns }) else text_of f bs nss) ≡ Some x → (text_of f bs nss ≡ Some x → IsNoted ms x.body x.notes) → IsNoted ms x.body x.notes
        by true is go =
            let y : Text = record { body = b; notes = ns } in
            let e : y ≡ x = cc in
            let here : n + 0 ≡ n = omega arith in
            let P : Text → Type 0 = λ z. IsNoted ms z.body z.notes in
            subst P e (fit.0 b (sym (same 0 ∙ ap (slice_get t.bodies) here)))
        by false is go = go is

pub bodies_are_noted : BodiesAreNoted
bodies_are_noted t a f x typed is =
    found t (meant_from a.definitions.items 0 a.items) a.definitions.items f 0 t.bodies (notes_of t.parts (all_expanded a).items) x
    (λ i. ap (slice_get t.bodies) (sym (zero-add i))) (fits t (meant_from a.definitions.items 0 a.items) a.definitions.items 0 0 t.parts a.items (file_raw t a typed)) is

-- ---- placed

module _ (ds : List Definition) (x : Text) (is : IsNoted ds x.body x.notes) (are : Declares is.enclosing.within.objects x.body.stmt) where
  abbrev before : Noted
  before = start (params_scope is.params) is.enclosing.within.params

  placed_by : (o : Answer Noted) → noted is.enclosing None before x.body.stmt ≡ o → after o (λ k. Ok k.notes) ≡ Ok is.typed → BodyIsPlaced ds x is
  placed_by (Ok j) typed h =
      let n = notes_are_placed is.enclosing ds None before j x.body.stmt are typed in
      let same : j.notes ≡ is.typed = cc in
      let P : List Note → Type 0 = λ ns. IsPlaced (Becomes is.enclosing ds None before x.body.stmt j) j.declared [] (placed x.body.stmt ns is.enclosing.within.params) in
      record {
        behind = j;
        all = subst P (append-nil (map (note_expanded ds) n.0) ∙ ap (map (note_expanded ds)) (sym n.1 ∙ same) ∙ sym is.expanded) (n.2 []);
      }
  placed_by (Err r) typed h = absurd cc

  body_placed : BodyIsPlaced ds x is
  unfolding body_noted
  body_placed = placed_by (noted is.enclosing None before x.body.stmt) refl is.noted

pub bodies_are_placed : BodiesArePlaced
bodies_are_placed ds x is are = let P : List Object → Type 0 = λ os. Declares os x.body.stmt in body_placed ds x is (subst P (sym is.objects) are)
