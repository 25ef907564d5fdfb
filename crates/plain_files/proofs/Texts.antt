-- Each function of the file has a body with the annotations that stand in it.
use Rattle.std.proofs.Common.{◌≡◌, ℕ, zero, suc, ◌+◌, ◌≤◌, Bool, true, false, ◌||◌, if◌then◌else◌, List, [], ◌∷◌, ◌++◌, length, Some, Ok, refl, sym, ap, ◌∙◌, subst, slice_get, arith, length-append, append_assoc, append-nil}
use Rattle.std.specs.Prelude.{◌==◌}
use Rattle.std.specs.Option.{option_map}
use Rattle.std.proofs.lemmas.Bool.{false≢true}
use Rattle.std.proofs.lemmas.Bool.Decides.{nat_tests}
use Rattle.c_answers.specs.Answers.{after}
use Rattle.c_scopes.specs.declared.symbols.Signature.{Signature}
use Rattle.typed_unit.specs.Unit as u
use Rattle.c_functions.specs.Functions.{is_defined}
use Rattle.acsl_trees.specs.Tree.{Tree}
use Rattle.acsl_expand.specs.Expansion.{Definition}
use Rattle.acsl_names.specs.declared.names.Definition.{Definition as Declared}
use Rattle.acsl_names.specs.declared.names.Definitions.{Definitions}
use Rattle.acsl_notes.specs.Notes.{Note}
use Rattle.acsl_definitions.specs.Definitions.{definition_typed}
use Rattle.acsl_typing.specs.Annotations as an
use Rattle.acsl_typing.specs.Annotations.{Annotation, of_function, of_definition, Annotations, Annotating, before_of, part_by, part_annotated, parts_annotated, file_annotated}
use Rattle.acsl_annotated.specs.Annotated.{item_expanded, items_from, behind, all_expanded, meant_from, file_expanded}
use Rattle.plain_programs.specs.Told.{at, notes_in, notes_of, Text, text_of, clauses_for, function_with, function_of, functions_from, functions_of}
use Rattle.plain_programs.specs.Told.{program_of}
use Rattle.plain_files.proofs.Names.{some_is, no_some}
use Rattle.plain_files.proofs.Declaring.{ok_is, gives}
use Rattle.plain_files.proofs.Bodies.{All, bodies_in, all_bodies_in, FileIs}

-- ---- annotations are of the sorts of their declarations

abbrev pub OfSort : u.Annotated → Annotation → Type 0
OfSort (u.of_function i ps q has_body) (of_function cs ns) = Unit {0}
OfSort (u.of_function i ps q has_body) (of_definition t) = ⊥
OfSort (u.of_logic l) x = Unit {0}

abbrev pub Fit : List u.Part → List Annotation → Type 0
Fit [] [] = Unit {0}
Fit (p ∷ ps) (x ∷ xs) = OfSort p.decl x × Fit ps xs
Fit [] (x ∷ xs) = ⊥
Fit (p ∷ ps) [] = ⊥

-- one annotation more, of this sort
record Adds (k : Annotating) (a : u.Annotated) (j : Annotating) : Type 0 where
  pub item : Annotation
  pub items : j.items ≡ k.items ++ item ∷ []
  pub sort : OfSort a item

module _ (t : u.Typed) where
  one_adds : (k : Annotating) (names tags : ℕ) (a : u.Annotated) (j : Annotating) → part_by t k names tags a ≡ Ok j → Adds k a j
  one_adds k names tags (u.of_function i ps q has_body) j h =
      let cs = gives (an.contract_of t k names tags i ps q) (λ cs. after (an.notes_of t k names tags i ps has_body) (λ ns. Ok (an.with_function k i has_body cs ns))) j h in
      let ns = gives (an.notes_of t k names tags i ps has_body) (λ ns. Ok (an.with_function k i has_body cs.0 ns)) j cs.2 in
      record { item = of_function cs.0 ns.0; items = ap (λ (x : Annotating). x.items) (sym (ok_is (an.with_function k i has_body cs.0 ns.0) j ns.2)); sort = tt }
  one_adds k names tags (u.of_logic l) j h =
      let r = gives (definition_typed (before_of t k.sizes names tags) k.definitions l)
      (λ (r : Tree × Definitions). Ok (record k { definitions = r.1; items = k.items ++ of_definition r.0 ∷ [] })) j h in
      record { item = of_definition r.0.0; items = ap (λ (x : Annotating). x.items) (sym (ok_is (record k { definitions = r.0.1; items = k.items ++ of_definition r.0.0 ∷ [] }) j r.2)); sort = tt }

  all_add : (ps : List u.Part) (k j : Annotating) → parts_annotated t k ps ≡ Ok j → (xs : List Annotation) × (j.items ≡ k.items ++ xs) × Fit ps xs
  all_add [] k j h = ([], ap (λ (x : Annotating). x.items) (sym (ok_is k j h)) ∙ sym (append-nil k.items), tt)
  all_add (p ∷ ps) k j h =
      let next = gives (part_annotated t k p) (λ i. parts_annotated t i ps) j h in
      let one = one_adds k p.names p.tags p.decl next.0 next.1 in
      let rest = all_add ps next.0 j next.2 in
      (one.item ∷ rest.0, rest.1 ∙ ap (λ is. is ++ rest.0) one.items ∙ append_assoc k.items (one.item ∷ []) rest.0, (one.sort, rest.2))

  annotations_fit : (a : Annotations) → file_annotated t ≡ Ok a → Fit t.parts a.items
  unfolding file_annotated
  annotations_fit a h =
      let k = gives (parts_annotated t (an.at_start t.file) t.parts) (λ k. Ok (an.finished k)) a h in
      let xs = all_add t.parts (an.at_start t.file) k.0 k.1 in
      subst (Fit t.parts) (sym xs.1 ∙ ap (λ (x : Annotations). x.items) (ok_is (an.finished k.0) a k.2)) xs.2

sort_kept : (ms : List Definition) (ds : List Declared) (k : ℕ) (a : u.Annotated) (x : Annotation) → OfSort a x → OfSort a (item_expanded ms ds k x)
sort_kept ms ds k (u.of_function i ps q has_body) (of_function cs ns) h = tt
sort_kept ms ds k (u.of_function i ps q has_body) (of_definition t) h = h
sort_kept ms ds k (u.of_logic l) x h = tt

expanded_fit : (ms : List Definition) (ds : List Declared) (k : ℕ) (ps : List u.Part) (xs : List Annotation) → Fit ps xs → Fit ps (items_from ms ds k xs)
expanded_fit ms ds k [] [] h = tt
expanded_fit ms ds k [] (x ∷ xs) h = elim h [ ]
expanded_fit ms ds k (p ∷ ps) [] h = elim h [ ]
expanded_fit ms ds k (p ∷ ps) (x ∷ xs) h = (sort_kept ms ds k p.decl x h.0, expanded_fit ms ds (behind k x) ps xs h.1)

pub typed_fit : (t : u.Typed) (a : Annotations) → file_expanded t ≡ Ok a → Fit t.parts a.items
unfolding file_expanded
typed_fit t a h =
    let r = gives (file_annotated t) (λ b. Ok (all_expanded b)) a h in
    subst (λ (b : Annotations). Fit t.parts b.items) (ok_is (all_expanded r.0) a r.2)
    (expanded_fit (meant_from r.0.definitions.items 0 r.0.items) r.0.definitions.items 0 t.parts r.0.items (annotations_fit t r.0 r.1))

-- ---- as many annotated bodies as bodies

notes_here : (a : u.Annotated) (x : Annotation) → OfSort a x → length (notes_in a x) ≡ bodies_in a
notes_here (u.of_function i ps q true) (of_function cs ns) h = refl
notes_here (u.of_function i ps q true) (of_definition t) h = elim h [ ]
notes_here (u.of_function i ps q false) (of_function cs ns) h = refl
notes_here (u.of_function i ps q false) (of_definition t) h = elim h [ ]
notes_here (u.of_logic l) x h = refl

pub as_many_notes : (ps : List u.Part) (xs : List Annotation) → Fit ps xs → length (notes_of ps xs) ≡ all_bodies_in ps
as_many_notes [] [] h = refl
as_many_notes [] (x ∷ xs) h = elim h [ ]
as_many_notes (p ∷ ps) [] h = elim h [ ]
as_many_notes (p ∷ ps) (x ∷ xs) h = omega (arith, length-append (notes_in p.decl x) (notes_of ps xs), notes_here p.decl x h.0, as_many_notes ps xs h.1)

-- ---- texts

pub text_there : (n : ℕ) (bs : List u.Body) (nss : List (List Note)) → length bs ≤ length nss → is_defined bs (Some n) ≡ true → (x : Text) × (text_of n bs nss ≡ Some x)
text_there n [] nss le h = absurd (false≢true h)
text_there n (b ∷ bs) [] le h = absurd (omega (arith, le))
text_there n (b ∷ bs) (ns ∷ nss) le h = by (b.function == n) h (text_there n bs nss (omega (arith, le))) where
  by : (t : Bool) → (t || is_defined bs (Some n)) ≡ true → (is_defined bs (Some n) ≡ true → (x : Text) × (text_of n bs nss ≡ Some x))
      → (x : Text) × ((if t then Some (record { body = b; notes = ns }) else text_of n bs nss) ≡ Some x)
  by true h rest = (record { body = b; notes = ns }, refl)
  by false h rest = rest h

pub text_is : (P : u.Body → Type 0) (n : ℕ) (bs : List u.Body) (nss : List (List Note)) (x : Text) → text_of n bs nss ≡ Some x → All P bs → P x.body × (x.body.function ≡ n)
text_is P n [] nss x h all = absurd (no_some x h)
text_is P n (b ∷ bs) [] x h all = absurd (no_some x h)
text_is P n (b ∷ bs) (ns ∷ nss) x h all = by (b.function == n) refl h (λ k. text_is P n bs nss x k all.1) where
  numbers : (i j : ℕ) → (i == j) ≡ true → i ≡ j
  numbers i j e = grind (arith, nat_tests, e)

  by : (t : Bool) → (b.function == n) ≡ t → (if t then Some (record { body = b; notes = ns }) else text_of n bs nss) ≡ Some x → (text_of n bs nss ≡ Some x → P x.body × (x.body.function ≡ n))
      → P x.body × (x.body.function ≡ n)
  by true e h rest =
      let same = some_is (record { body = b; notes = ns }) x h in
      (subst (λ (y : Text). P y.body) same all.0, ap (λ (y : Text). y.body.function) (sym same) ∙ numbers b.function n e)
  by false e h rest = rest h

-- ---- functions of the program

at_number : (t : u.Typed) (a : Annotations) (i n : ℕ) (gs : List Signature) (s : Signature) → slice_get gs n ≡ Some s → at (functions_from t a i gs) n ≡ function_of t a (i + n) s
at_number t a i n [] s h = absurd (no_some s h)
at_number t a i zero (g ∷ gs) s h = let e : i ≡ i + zero = omega arith in ap (function_of t a i) (some_is g s h) ∙ ap (λ j. function_of t a j s) e
at_number t a i (suc n) (g ∷ gs) s h = let e : (i + 1) + n ≡ i + suc n = omega arith in at_number t a (i + 1) n gs s h ∙ ap (λ j. function_of t a j s) e

-- A function that is declared is in the program, with its body.
pub record IsThere (t : u.Typed) (a : Annotations) (n : ℕ) (s : Signature) : Type 0 where
  pub text : Text
  pub written : text_of n t.bodies (notes_of t.parts a.items) ≡ Some text
  pub found : (program_of t a).functions n ≡ Some (function_with t.file.structs s (clauses_for n t.parts a.items) text)

pub function_there : (t : u.Typed) (a : Annotations) → FileIs t → Fit t.parts a.items → (n : ℕ) (s : Signature) → slice_get t.file.functions n ≡ Some s → IsThere t a n s
unfolding program_of functions_of
function_there t a is fit n s h =
    let le : length t.bodies ≤ length (notes_of t.parts a.items) = omega (arith, as_many_notes t.parts a.items fit, is.count) in
    let x = text_there n t.bodies (notes_of t.parts a.items) le (is.each n s h) in
    record {
      text = x.0;
      written = x.1;
      found = at_number t a 0 n t.file.functions s h ∙ ap (λ j. function_of t a j s) (zero_more n) ∙ ap (option_map (function_with t.file.structs s (clauses_for n t.parts a.items))) x.1;
    } where
      zero_more : (n : ℕ) → 0 + n ≡ n
      zero_more n = omega arith
