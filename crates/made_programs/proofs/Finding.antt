-- Annotations and bodies of a function, found.
use Rattle.std.proofs.Common.{◌≡◌, ◌≢◌, ℕ, zero, suc, ◌+◌, ◌<◌, ◌≤◌, ◌==◌, Bool, true, false, if◌then◌else◌, List, [], ◌∷◌, ◌++◌, map, length, drop, get_or, Option, Some, None, slice_get, refl, sym, ap, ◌∙◌, append_assoc, append-nil, arith}
use Rattle.std.specs.Borrow.{Bor}
use Rattle.std.proofs.lemmas.List.{at_drop_more, at_drop_all, map_push, drop_all}
use Rattle.std.proofs.lemmas.Bool.Decides.{nat_tests}
use Rattle.typed_unit.specs.declared.unit.Part.{Part}
use Rattle.typed_unit.specs.declared.unit.Body.{Body}
use Rattle.typed_unit.specs.Unit as u
use Rattle.typed_unit.specs.View.{view_annotated, view_body, view_part}
use Rattle.acsl_clauses.specs.declared.typed.TypedClause.{TypedClause as CodeClause}
use Rattle.acsl_clauses.specs.Typed.{TypedClause, view_clause}
use Rattle.acsl_notes.specs.declared.notes.Note.{Note as Code}
use Rattle.acsl_notes.specs.Notes.{Note}
use Rattle.acsl_typing.specs.declared.annotations.Annotation.{Annotation as CodeAnnotation}
use Rattle.acsl_typing.specs.Annotations.{view_annotation}
use Rattle.c_programs.specs.Files.{Text, or_these, clauses_in, clauses_for, notes_in, notes_of, text_of}
use Rattle.made_programs.specs.Texts.{notes_seen, all_notes, some_notes, text_by}

-- ---- contracts

no_items : (f : ℕ) (ps : List u.Part) → clauses_for f ps [] ≡ []
no_items f [] = refl
no_items f (p ∷ ps) = refl

empty_seen : (cs : List CodeClause) → length cs ≤ 0 → map view_clause cs ≡ []
empty_seen [] none = refl
empty_seen (c ∷ cs) none = absurd (omega (arith, none))

some_seen : (cs : List CodeClause) (ys : List TypedClause) → 0 < length cs → or_these (map view_clause cs) ys ≡ map view_clause cs
some_seen [] ys some = absurd (omega (arith, some))
some_seen (c ∷ cs) ys some = refl

module _ (f : ℕ) (ps : List Part) (xs : List CodeAnnotation) (i : ℕ) where
  abbrev left : List TypedClause
  left = clauses_for f (map view_part (drop i ps)) (map view_annotation (drop i xs))

  abbrev rest : List TypedClause
  rest = clauses_for f (map view_part (drop (i + 1) ps)) (map view_annotation (drop (i + 1) xs))

  left_is : (p : Part) (x : CodeAnnotation) → i < length ps → i < length xs → p ≡ get_or ps i p → x ≡ get_or xs i x → left ≡ or_these (clauses_in f (view_annotated p.decl) (view_annotation x)) rest
  left_is p x in_parts in_items is its =
      at_drop_more (λ zs. clauses_for f (map view_part zs) (map view_annotation (drop i xs))) ps i p in_parts
      ∙ at_drop_more (λ zs. clauses_for f (view_part (get_or ps i p) ∷ map view_part (drop (i + 1) ps)) (map view_annotation zs)) xs i x in_items
      ∙ ap (λ z. or_these (clauses_in f (view_annotated z.decl) (view_annotation (get_or xs i x))) rest) (sym is) ∙ ap (λ z. or_these (clauses_in f (view_annotated p.decl) (view_annotation z)) rest) (sym its)

  pub clause_turn : (p : Part) (x : CodeAnnotation) (cs : List CodeClause) (whole : List TypedClause) → i < length ps → i < length xs → p ≡ get_or ps i p → x ≡ get_or xs i x
      → map view_clause cs ≡ clauses_in f (view_annotated p.decl) (view_annotation x) → length cs ≤ 0 → left ≡ whole → rest ≡ whole
  clause_turn p x cs whole in_parts in_items is its view none so =
      sym (left_is p x in_parts in_items is its ∙ ap (λ us. or_these us rest) (sym view ∙ empty_seen cs none)) ∙ so

  pub clause_found : (p : Part) (x : CodeAnnotation) (cs : List CodeClause) (whole : List TypedClause) → i < length ps → i < length xs → p ≡ get_or ps i p → x ≡ get_or xs i x
      → map view_clause cs ≡ clauses_in f (view_annotated p.decl) (view_annotation x) → 0 < length cs → left ≡ whole → map view_clause cs ≡ whole
  clause_found p x cs whole in_parts in_items is its view some so =
      sym (left_is p x in_parts in_items is its ∙ ap (λ us. or_these us rest) (sym view) ∙ some_seen cs rest some) ∙ so

  pub clause_short : (whole : List TypedClause) → length xs ≤ i → left ≡ whole → [] ≡ whole
  clause_short whole past so = sym (at_drop_all (λ zs. clauses_for f (map view_part (drop i ps)) (map view_annotation zs)) xs i past ∙ no_items f (map view_part (drop i ps))) ∙ so

  pub clause_none : (whole : List TypedClause) → length ps ≤ i → left ≡ whole → [] ≡ whole
  clause_none whole past so = sym (at_drop_all (λ zs. clauses_for f (map view_part zs) (map view_annotation (drop i xs))) ps i past) ∙ so

pub ruleset clause_laws = (clause_turn, clause_found, clause_short, clause_none)

-- ---- notes

pub notes_put : (nss all : List (Bor (List Code))) (ns : Bor (List Code)) → all ≡ nss ++ ns ∷ [] → all_notes all ≡ all_notes nss ++ some_notes (Some ns)
notes_put nss all ns grown = ap all_notes grown ∙ map_push notes_seen nss ns

pub no_notes_put : (nss : List (Bor (List Code))) → all_notes nss ≡ all_notes nss ++ some_notes None
no_notes_put nss = sym (append-nil (all_notes nss))

pub ruleset put_laws = (notes_put, no_notes_put)

no_notes : (ps : List u.Part) → notes_of ps [] ≡ []
no_notes [] = refl
no_notes (p ∷ ps) = refl

module _ (ps : List Part) (xs : List CodeAnnotation) (i : ℕ) (made : List (Bor (List Code))) where
  abbrev to_come : ℕ → List (List Note)
  to_come j = notes_of (map view_part (drop j ps)) (map view_annotation (drop j xs))

  to_come_is : (p : Part) (x : CodeAnnotation) → i < length ps → i < length xs → p ≡ get_or ps i p → x ≡ get_or xs i x → to_come i ≡ notes_in (view_annotated p.decl) (view_annotation x) ++ to_come (i + 1)
  to_come_is p x in_parts in_items is its =
      at_drop_more (λ zs. notes_of (map view_part zs) (map view_annotation (drop i xs))) ps i p in_parts
      ∙ at_drop_more (λ zs. notes_of (view_part (get_or ps i p) ∷ map view_part (drop (i + 1) ps)) (map view_annotation zs)) xs i x in_items
      ∙ ap (λ z. notes_in (view_annotated z.decl) (view_annotation (get_or xs i x)) ++ to_come (i + 1)) (sym is) ∙ ap (λ z. notes_in (view_annotated p.decl) (view_annotation z) ++ to_come (i + 1)) (sym its)

  pub notes_turn : (p : Part) (x : CodeAnnotation) (o : Option (Bor (List Code))) (more : List (Bor (List Code))) (whole : List (List Note)) → i < length ps → i < length xs → p ≡ get_or ps i p
      → x ≡ get_or xs i x → some_notes o ≡ notes_in (view_annotated p.decl) (view_annotation x) → all_notes more ≡ all_notes made ++ some_notes o → all_notes made ++ to_come i ≡ whole
      → all_notes more ++ to_come (i + 1) ≡ whole
  notes_turn p x o more whole in_parts in_items is its view grown so =
      ap (λ us. us ++ to_come (i + 1)) (grown ∙ ap (λ us. all_notes made ++ us) view)
      ∙ append_assoc (all_notes made) (notes_in (view_annotated p.decl) (view_annotation x)) (to_come (i + 1))
      ∙ ap (λ us. all_notes made ++ us) (sym (to_come_is p x in_parts in_items is its)) ∙ so

  pub notes_short : (whole : List (List Note)) → length xs ≤ i → all_notes made ++ to_come i ≡ whole → all_notes made ≡ whole
  notes_short whole past so =
      sym (append-nil (all_notes made))
      ∙ ap (λ us. all_notes made ++ us) (sym (at_drop_all (λ zs. notes_of (map view_part (drop i ps)) (map view_annotation zs)) xs i past ∙ no_notes (map view_part (drop i ps)))) ∙ so

  pub notes_done : (whole : List (List Note)) → length ps ≤ i → all_notes made ++ to_come i ≡ whole → all_notes made ≡ whole
  notes_done whole past so =
      sym (append-nil (all_notes made)) ∙ ap (λ us. all_notes made ++ us) (sym (at_drop_all (λ zs. notes_of (map view_part zs) (map view_annotation (drop i xs))) ps i past)) ∙ so

pub ruleset notes_laws = (notes_turn, notes_short, notes_done)

-- ---- bodies

no_texts : (f : ℕ) (bs : List u.Body) → text_of f bs [] ≡ None
no_texts f [] = refl
no_texts f (b ∷ bs) = refl

-- the first of them, by the notes at their front
one_text : (f : ℕ) (b : u.Body) (bs : List u.Body) (nss : List (List Note)) → text_of f (b ∷ bs) nss ≡ (if b.function == f then text_by b (slice_get nss 0) else text_of f bs (drop 1 nss))
one_text f b bs [] = both (b.function == f)
  where
    both : (c : Bool) → None ≡ (if c then text_by b (slice_get [] 0) else text_of f bs (drop 1 []))
    both true = refl
    both false = sym (no_texts f bs)
one_text f b bs (ns ∷ nss) = refl

abbrev nothing : List (List Note)
nothing = []

drop-nil : (i : ℕ) → drop i nothing ≡ nothing
drop-nil i = drop_all i nothing (omega arith)

get-nil : (i : ℕ) → slice_get nothing i ≡ None
get-nil zero = refl
get-nil (suc i) = refl

get-drop : (nss : List (List Note)) (i : ℕ) → slice_get (drop i nss) 0 ≡ slice_get nss i
get-drop [] i = ap (λ us. slice_get us 0) (drop-nil i) ∙ get-nil 0 ∙ sym (get-nil i)
get-drop (ns ∷ nss) zero = refl
get-drop (ns ∷ nss) (suc i) = get-drop nss i

drop-next : (nss : List (List Note)) (i : ℕ) → drop 1 (drop i nss) ≡ drop (i + 1) nss
drop-next [] i = ap (drop 1) (drop-nil i) ∙ drop-nil 1 ∙ sym (drop-nil (i + 1))
drop-next (ns ∷ nss) zero = refl
drop-next (ns ∷ nss) (suc i) = let e : suc (i + 1) ≡ suc i + 1 = omega arith in drop-next nss i ∙ ap (λ k. drop k (ns ∷ nss)) e

module _ (f : ℕ) (bs : List Body) (nss : List (List Note)) (i : ℕ) where
  texts_left : (b : Body) → i < length bs → b ≡ get_or bs i b
      → text_of f (map view_body (drop i bs)) (drop i nss) ≡ (if b.function == f then text_by (view_body b) (slice_get nss i) else text_of f (map view_body (drop (i + 1) bs)) (drop (i + 1) nss))
  texts_left b in_list is =
      at_drop_more (λ zs. text_of f (map view_body zs) (drop i nss)) bs i b in_list ∙ ap (λ z. text_of f (view_body z ∷ map view_body (drop (i + 1) bs)) (drop i nss)) (sym is)
      ∙ one_text f (view_body b) (map view_body (drop (i + 1) bs)) (drop i nss)
      ∙ ap (λ o. if b.function == f then text_by (view_body b) o else text_of f (map view_body (drop (i + 1) bs)) (drop 1 (drop i nss))) (get-drop nss i)
      ∙ ap (λ us. if b.function == f then text_by (view_body b) (slice_get nss i) else text_of f (map view_body (drop (i + 1) bs)) us) (drop-next nss i)

  same_is : (x : ℕ) → x ≡ f → (x == f) ≡ true
  same_is x e = grind (arith, nat_tests)

  other_is : (x : ℕ) → x ≢ f → (x == f) ≡ false
  other_is x e = grind (arith, nat_tests)

  pub text_turn : (b : Body) (whole : Option Text) → i < length bs → b ≡ get_or bs i b → b.function ≢ f → text_of f (map view_body (drop i bs)) (drop i nss) ≡ whole
      → text_of f (map view_body (drop (i + 1) bs)) (drop (i + 1) nss) ≡ whole
  text_turn b whole in_list is other so =
      sym (texts_left b in_list is
      ∙ ap (λ c. if c then text_by (view_body b) (slice_get nss i) else text_of f (map view_body (drop (i + 1) bs)) (drop (i + 1) nss)) (other_is b.function other)) ∙ so

  pub text_found : (b : Body) (whole : Option Text) → i < length bs → b ≡ get_or bs i b → b.function ≡ f → text_of f (map view_body (drop i bs)) (drop i nss) ≡ whole
      → text_by (view_body b) (slice_get nss i) ≡ whole
  text_found b whole in_list is same so =
      sym (texts_left b in_list is
      ∙ ap (λ c. if c then text_by (view_body b) (slice_get nss i) else text_of f (map view_body (drop (i + 1) bs)) (drop (i + 1) nss)) (same_is b.function same)) ∙ so

  pub text_none : (whole : Option Text) → length bs ≤ i → text_of f (map view_body (drop i bs)) (drop i nss) ≡ whole → None ≡ whole
  text_none whole past so = sym (at_drop_all (λ zs. text_of f (map view_body zs) (drop i nss)) bs i past) ∙ so

pub ruleset text_laws = (text_turn, text_found, text_none)
