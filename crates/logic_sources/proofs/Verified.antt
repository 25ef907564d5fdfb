-- What is verified is met by the laws on goals of plain texts.
use Rattle.std.proofs.Common.{◌≡◌, ℕ, Bool, true, false, ◌&&◌, List, [], ◌∷◌, refl, sym, ap, ◌∙◌, subst, inl, inr}
use Rattle.std.specs.Prelude.{Some}
use Rattle.std.specs.List.{list_all}
use Rattle.c_grammar.specs.Decls.{SpellsLines}
use Rattle.c_typing.specs.Typing.{typed_program}
use Rattle.c_runs.specs.Program.{Function}
use Rattle.plain_sources.specs.Told.{notes_of, program_of, IsOfText, core_of, names_in, EachMeets, SetsStand}
use Rattle.c_runs.specs.Tree.{Steps}
use Rattle.walk_steps.specs.State.{In}
use Rattle.plain_test.specs.Plain.{is_plain_file}
use Rattle.plain_sources.proofs.Told.{is_found, core_found, body_in, files_in_order_meet, plain_texts_stand}
use Rattle.plain_annotations.specs.Annotated.{is_annotated}
use Rattle.plain_trees.specs.Taking.{taking}
use Rattle.plain_trees.proofs.Texts_alike.{each_is_annotated}
use Rattle.slot_names.specs.Bases.{are_fit}
use Rattle.binder_names.specs.Tables.{is_named_table, named_in}
use Rattle.binder_names.proofs.Naming.{names_fit}
use Rattle.plain_sources.specs.Sources.{Source}
use Rattle.plain_sources.specs.Built.{table_in, facts_in, first_names, loops_fit, sets_fit}
use Rattle.plain_sources.proofs.Verified.{read, names_are}
use Rattle.logic_order.specs.Order.{is_in_order, takes_in}
use Rattle.logic_order.proofs.Ordered.{files_in_order, functions_take}
use Rattle.logic_sources.specs.Built.{spelled_in, names_of, texts_in, function_fits, body_fits, is_verified}
use Rattle.logic_sources.specs.Laws.{VerifiedIsMet, VerifiedIsRegular}

both : (a b : Bool) → (a && b) ≡ true → (a ≡ true) × (b ≡ true)
both true b e = (refl, e)
both false b e = absurd cc

in_all : {X : Type 0} (f : X → Bool) (x : X) (xs : List X) → In x xs → list_all f xs ≡ true → f x ≡ true
in_all f x [] h e = absurd h
in_all f x (y ∷ ys) (inl same) e = ap f same ∙ (both (f y) (list_all f ys) e).0
in_all f x (y ∷ ys) (inr h) e = in_all f x ys h (both (f y) (list_all f ys) e).1

pub record Passes (s : Source) : Type 0 where
  pub plain : is_plain_file s.typed ≡ true
  pub ordered : is_in_order (facts_in s) (spelled_in s) ≡ true
  pub named : is_named_table (table_in s) ≡ true
  pub sets : list_all (sets_fit s) s.typed.bodies ≡ true
  pub bodies : list_all (body_fits s) s.typed.bodies ≡ true

pub passes : (s : Source) → is_verified s ≡ true → Passes s
unfolding is_verified
passes s e =
    let first = both (is_plain_file s.typed) _ e in
    let second = both (is_in_order (facts_in s) (spelled_in s)) _ first.1 in
    let third = both (is_named_table (table_in s)) _ second.1 in
    let fourth = both (list_all (sets_fit s) s.typed.bodies) _ third.1 in
    record { plain = first.0; ordered = second.0; named = third.0; sets = fourth.0; bodies = fourth.1 }

module _ (s : Source) where
  -- a function that is there passes its tests
  pub fits_at : Passes s → (n : ℕ) (f : Function Steps) → (core_of s.typed s.annots).functions n ≡ Some f → function_fits s n (Some f) ≡ true
  fits_at h n f e =
      let t = s.typed in
      let a = s.annots in
      let c = core_found ((program_of t a).functions n) f e in
      let found = is_found t a n c.0 c.1.0 in
      let b = body_in n t.bodies (notes_of t.parts a.items) found.text found.written in
      let so = in_all (body_fits s) found.text.body t.bodies b.0 h.bodies in
      subst (λ o. function_fits s n o ≡ true) e (subst (λ k. function_fits s k ((core_of t a).functions k) ≡ true) b.1 so)

  pub annotated_at : (f : Function Steps) → is_annotated (facts_in s) (taking (takes_in (facts_in s) (spelled_in s))) f ≡ true
      → is_annotated (facts_in s) (texts_in s) f ≡ true
  annotated_at f e =
      each_is_annotated (facts_in s) (texts_in s) (takes_in (facts_in s) (spelled_in s)) (functions_take (facts_in s) (spelled_in s) (named_in (table_in s)))
      (Some f ∷ []) (ap (λ b. b && true) e) 0 f refl

  -- the sets of its loops do
  pub sets_at : Passes s → SetsStand s.typed s.annots
  sets_at h n f e =
      let t = s.typed in
      let a = s.annots in
      let found = is_found t a n f e in
      let b = body_in n t.bodies (notes_of t.parts a.items) found.text found.written in
      let so = in_all (sets_fit s) found.text.body t.bodies b.0 h.sets in
      subst (λ o. loops_fit s o ≡ true) e (subst (λ k. loops_fit s ((program_of t a).functions k) ≡ true) b.1 so)

  pub each_meets : Passes s → EachMeets s.typed s.annots (names_of s)
  each_meets h n f e =
      let so = both (is_annotated (facts_in s) (taking (takes_in (facts_in s) (spelled_in s))) f) _ (fits_at h n f e) in
      record {
        annotated = annotated_at f so.0;
        named = subst (λ xs. are_fit (names_in s.typed.file.globals) f.params xs ≡ true) (names_are s n f e) so.1;
      }

pub verified_is_met : VerifiedIsMet
verified_is_met m ts p lines s spelled is built =
    let r = read m p s is in
    let so = passes s built in
    let text : IsOfText m ts s.tree s.typed s.annots = record {
      lines = lines;
      spelled = subst (λ q. SpellsLines ts q lines) (sym r.tree) spelled;
      typed = ap (typed_program m) r.tree ∙ r.typed;
      annotated = r.annotated;
      plain = so.plain;
    } in
    let stands = plain_texts_stand m ts s.tree s.typed s.annots text (sets_at s so) in
    let order = files_in_order (facts_in s) (spelled_in s) (named_in (table_in s)) so.ordered in
    let meets = files_in_order_meet s.typed s.annots (names_of s) (names_fit (table_in s) so.named) order.ordered (each_meets s so) in
    (stands.0, record { text = text; meets = meets; stands = stands.1 })

pub verified_is_regular : VerifiedIsRegular
verified_is_regular s built = (files_in_order (facts_in s) (spelled_in s) (named_in (table_in s)) (passes s built).ordered).regular
