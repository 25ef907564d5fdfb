-- What is read of a tree, step by step, and the names of a function's own variables.
use Rattle.std.proofs.Common.{◌≡◌, ℕ, ◌==◌, Bool, true, false, if◌then◌else◌, List, [], ◌∷◌, Some, None, Ok, Err, refl, sym, ap, ◌∙◌, subst}
use Rattle.c_syntax.specs.Decl as d
use Rattle.c_kinds.specs.declared.models.Machdep.{Machdep}
use Rattle.c_answers.specs.Answers.{Answer, after}
use Rattle.c_typing.specs.Typing.{typed_program}
use Rattle.typed_unit.specs.Unit as u
use Rattle.acsl_notes.specs.Notes.{Note}
use Rattle.acsl_typing.specs.Annotations.{Annotations}
use Rattle.plain_goals.specs.Told.{file_expanded, Text, notes_of, text_of, program_of}
use Rattle.c_runs.specs.Program.{Function}
use Rattle.c_runs.specs.Tree.{Steps}
use Rattle.plain_goals.proofs.Told.{is_found}
use Rattle.plain_goals.specs.Files.{core_of, names_in, own_names, text_at}
use Rattle.plain_goals.proofs.Files.{core_found}
use Rattle.plain_sources.specs.Sources.{Source, source_of}
use Rattle.plain_sources.specs.Built.{first_names}

-- ---- what is read, step by step

pub record IsRead (m : Machdep) (p : d.Program) (s : Source) : Type 0 where
  pub tree : s.tree ≡ p
  pub typed : typed_program m p ≡ Ok s.typed
  pub annotated : file_expanded s.typed ≡ Ok s.annots

pub read : (m : Machdep) (p : d.Program) (s : Source) → source_of m p ≡ Ok s → IsRead m p s
unfolding source_of
read m p s e = by (typed_program m p) refl e where
  then_ : (t : u.Typed) → typed_program m p ≡ Ok t → (o : Answer Annotations) → file_expanded t ≡ o
      → after o (λ a. Ok (record { tree = p; typed = t; annots = a })) ≡ Ok s → IsRead m p s
  then_ t h (Err r) k e = absurd cc
  then_ t h (Ok a) k e =
      let read : Source = record { tree = p; typed = t; annots = a } in
      let same : read ≡ s = cc in
      let is : IsRead m p read = record { tree = refl; typed = h; annotated = k } in
      subst (IsRead m p) same is

  by : (o : Answer u.Typed) → typed_program m p ≡ o → after o (λ t. after (file_expanded t) (λ a. Ok (record { tree = p; typed = t; annots = a }))) ≡ Ok s → IsRead m p s
  by (Err r) h e = absurd cc
  by (Ok t) h e = then_ t h (file_expanded t) refl e

-- ---- names of a function's own variables

none_some : {X : Type 0} (x : X) → None ≡ Some x → ⊥
none_some x e = absurd cc

some_same : {X : Type 0} (x y : X) → Some x ≡ Some y → x ≡ y
some_same x y e = cc

pub first_is : (n : ℕ) (bs : List u.Body) (nss : List (List Note)) (x : Text) → text_of n bs nss ≡ Some x → first_names n bs ≡ names_in x.body.locals
first_is n [] nss x e = absurd (none_some x e)
first_is n (b ∷ bs) [] x e = absurd (none_some x e)
first_is n (b ∷ bs) (ns ∷ nss) x e = by (first_is n bs nss x) (b.function == n) e
  where
    by : (text_of n bs nss ≡ Some x → first_names n bs ≡ names_in x.body.locals) → (c : Bool) → (if c then Some (record { body = b; notes = ns }) else text_of n bs nss) ≡ Some x
        → (if c then names_in b.locals else first_names n bs) ≡ names_in x.body.locals
    by later true h = let same = some_same (record { body = b; notes = ns }) x h in ap (λ (y : Text). names_in y.body.locals) same
    by later false h = later h

module _ (s : Source) where
  -- a function that is there has its names in its first body
  pub names_are : (n : ℕ) (f : Function Steps) → (core_of s.typed s.annots).functions n ≡ Some f → first_names n s.typed.bodies ≡ own_names (text_at s.typed s.annots n)
  names_are n f e =
      let t = s.typed in
      let a = s.annots in
      let c = core_found ((program_of t a).functions n) f e in
      let found = is_found t a n c.0 c.1.0 in
      first_is n t.bodies (notes_of t.parts a.items) found.text found.written ∙ sym (ap own_names found.written)
