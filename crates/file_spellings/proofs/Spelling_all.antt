-- Spellings, from a place on.
use Rattle.std.proofs.Common.{◌≡◌, ℕ, ◌+◌, ◌<◌, ◌≤◌, List, [], ◌∷◌, ◌++◌, map, length, drop, get_or, refl, sym, ap, ◌∙◌, append_assoc, append-nil}
use Rattle.std.proofs.lemmas.List.{at_drop_more, at_drop_all, map-append}
use Rattle.c_syntax.specs.View.{view_var}
use Rattle.c_syntax.specs.declared.decl.VarDecl.{VarDecl}
use Rattle.acsl_encode.specs.Readings as r
use Rattle.acsl_encode.specs.Told as told
use Rattle.annotation_words.specs.View.{view_named}
use Rattle.annotation_words.specs.declared.readings.Named.{Named}
use Rattle.typed_unit.specs.View.{view_annotated, view_part}
use Rattle.typed_unit.specs.declared.unit.Part.{Part}
use Rattle.logic_calls.specs.View.{view_spelling}
use Rattle.logic_calls.specs.declared.names.Spelling.{Spelling}
use Rattle.slot_names.specs.Bases.{Name}
use Rattle.file_spellings.specs.Spelled.{param_named, spelled_by, spelled_parts}

-- one more item, seen, and those that are left
module _ {X Y Z : Type 0} (view : Z → Y) (f : X → Y) (xs : List X) where
  turned : (i : ℕ) (x : X) (done more : List Z) (z : Z) (whole : List Y) → map view done ++ map f (drop i xs) ≡ whole → i < length xs → x ≡ get_or xs i x → view z ≡ f x
      → more ≡ done ++ z ∷ [] → map view more ++ map f (drop (i + 1) xs) ≡ whole
  turned i x done more z whole so l is made pushed =
      ap (λ zs. map view zs ++ map f (drop (i + 1) xs)) pushed ∙ ap (λ ys. ys ++ map f (drop (i + 1) xs)) (map-append view done (z ∷ []))
      ∙ append_assoc (map view done) (view z ∷ []) (map f (drop (i + 1) xs)) ∙ ap (λ y. map view done ++ y ∷ map f (drop (i + 1) xs)) (made ∙ ap f is)
      ∙ ap (λ ys. map view done ++ ys) (sym (at_drop_more (map f) xs i x l)) ∙ so

  ended : (i : ℕ) (done : List Z) (whole : List Y) → map view done ++ map f (drop i xs) ≡ whole → length xs ≤ i → map view done ≡ whole
  ended i done whole so l = sym (append-nil (map view done)) ∙ ap (λ ys. map view done ++ ys) (sym (at_drop_all (map f) xs i l)) ∙ so

twice : (gs : List Name) (ps : List VarDecl) → map (λ p. param_named gs (view_var p)) ps ≡ map (param_named gs) (map view_var ps)
twice gs [] = refl
twice gs (p ∷ ps) = ap (λ xs. param_named gs (view_var p) ∷ xs) (twice gs ps)

module _ (gs : List Name) (ps : List VarDecl) where
  abbrev pub ParamsFrom : ℕ → List r.Named
  ParamsFrom i = map (param_named gs) (map view_var (drop i ps))

  pub param_turn : (i : ℕ) (p : VarDecl) (done more : List Named) (n : Named) (whole : List r.Named) → map view_named done ++ ParamsFrom i ≡ whole → i < length ps
      → p ≡ get_or ps i p → view_named n ≡ param_named gs (view_var p) → more ≡ done ++ n ∷ [] → map view_named more ++ ParamsFrom (i + 1) ≡ whole
  param_turn i p done more n whole so l is made pushed =
      ap (λ xs. map view_named more ++ xs) (sym (twice gs (drop (i + 1) ps)))
      ∙ turned view_named (λ q. param_named gs (view_var q)) ps i p done more n whole (ap (λ xs. map view_named done ++ xs) (twice gs (drop i ps)) ∙ so) l is made pushed

  pub param_end : (i : ℕ) (done : List Named) (whole : List r.Named) → map view_named done ++ ParamsFrom i ≡ whole → length ps ≤ i → map view_named done ≡ whole
  param_end i done whole so l =
      ended view_named (λ q. param_named gs (view_var q)) ps i done whole (ap (λ xs. map view_named done ++ xs) (twice gs (drop i ps)) ∙ so) l

pub ruleset param_laws = (param_turn, param_end)

pub spelled_none : (old : List Spelling) → map view_spelling old ≡ map view_spelling old ++ []
spelled_none old = sym (append-nil (map view_spelling old))

pub spelled_one : (old new : List Spelling) (s : Spelling) (y : told.Spelling) → view_spelling s ≡ y → new ≡ old ++ s ∷ [] → map view_spelling new ≡ map view_spelling old ++ y ∷ []
spelled_one old new s y made pushed =
    ap (map view_spelling) pushed ∙ map-append view_spelling old (s ∷ []) ∙ ap (λ z. map view_spelling old ++ z ∷ []) made

pub ruleset put_laws = (spelled_none, spelled_one)

module _ (gs : List Name) (ps : List Part) where
  abbrev pub PartsFrom : ℕ → List told.Spelling
  PartsFrom i = spelled_parts gs (map view_part (drop i ps))

  pub part_turn : (i : ℕ) (p : Part) (done more : List told.Spelling) (whole : List told.Spelling) → done ++ PartsFrom i ≡ whole → i < length ps → p ≡ get_or ps i p
      → more ≡ done ++ spelled_by gs (view_annotated p.decl) → more ++ PartsFrom (i + 1) ≡ whole
  part_turn i p done more whole so l is put =
      ap (λ xs. xs ++ PartsFrom (i + 1)) put ∙ append_assoc done (spelled_by gs (view_annotated p.decl)) (PartsFrom (i + 1))
      ∙ ap (λ (q : Part). done ++ (spelled_by gs (view_annotated q.decl) ++ PartsFrom (i + 1))) is
      ∙ ap (λ xs. done ++ xs) (sym (at_drop_more (λ qs. spelled_parts gs (map view_part qs)) ps i p l)) ∙ so

  pub part_end : (i : ℕ) (done whole : List told.Spelling) → done ++ PartsFrom i ≡ whole → length ps ≤ i → done ≡ whole
  part_end i done whole so l = sym (append-nil done) ∙ ap (λ xs. done ++ xs) (sym (at_drop_all (λ qs. spelled_parts gs (map view_part qs)) ps i l)) ∙ so

pub ruleset part_laws = (part_turn, part_end)
