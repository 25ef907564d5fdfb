-- Plain texts have goals.
use Rattle.std.proofs.Common.{◌≡◌, ◌≤◌, ℕ, suc, ◌==◌, Bool, true, false, ◌&&◌, if◌then◌else◌, List, [], ◌∷◌, length, map, refl, sym, ap, ◌∙◌, subst, inl, inr}
use Rattle.std.specs.Prelude.{Option, Some, None}
use Rattle.std.specs.Option.{is_some, option_map}
use Rattle.std.specs.List.{list_all}
use Rattle.std.proofs.lemmas.Bool.{and_parts, eqb-true}
use Rattle.wp_base.specs.declared.kinds.Kind.{Kind}
use Rattle.wp_base.specs.declared.kinds.Kind.TheVariants as kind
use Rattle.c_kinds.specs.declared.models.Machdep.{Machdep}
use Rattle.c_syntax.specs.declared.token.Token.{Token}
use Rattle.c_syntax.specs.Decl as d
use Rattle.c_scopes.specs.declared.symbols.Object.{Object}
use Rattle.typed_unit.specs.Unit as u
use Rattle.acsl_notes.specs.Notes.{Note}
use Rattle.acsl_typing.specs.Annotations.{Annotations}
use Rattle.c_runs.specs.Program.{Stmts, Function, Program}
use Rattle.plain_files.specs.Told.{Text, text_of, values_of, program_of}
use Rattle.c_runs.specs.Normal.{normal_function}
use Rattle.c_runs.specs.Adding.{function_of}
use Rattle.c_runs.specs.Tree.{Steps}
use Rattle.plain_states.proofs.Scoping.{none_some}
use Rattle.plain_states.proofs.Calling.{some_same}
use Rattle.plain_runs.specs.Fitting.{Shape, FitsProgram}
use Rattle.walk_steps.specs.State.{In}
use Rattle.plain_annotations.specs.Settings.{Names, SettingFits}
use Rattle.slot_names.specs.Bases.{is_c_name}
use Rattle.slot_names.specs.Laws.{Fit}
use Rattle.program_goals.specs.Words.{Written, shape_in}
use Rattle.program_goals.specs.Texts.{AreIntegerNames, TextsFit}
use Rattle.program_goals.specs.Programs.{FunctionIn, ProgramFits}
use Rattle.plain_words.specs.Temporaries.{temporaries_in}
use Rattle.plain_goals.specs.Files.{names_in, own_names, written_for, written_by, core_of, text_at, setting_of_file, texts_of_file, written_of}
use Rattle.plain_goals.specs.Laws.{FilesInOrderMeet, FilesWithoutRecursionMeet, IsMet, PlainTextsHaveGoals}
use Rattle.plain_files.proofs.Told.{is_found}
use Rattle.plain_files.proofs.Variables.{as_many}
use Rattle.plain_files.proofs.Whole.{plain_texts_fit}
use Rattle.plain_annotations.proofs.Settings.{settings_fit, plain_settings_fit}
use Rattle.slot_names.proofs.Fitting.{bases_fit}
use Rattle.plain_goals.proofs.Naming.{plain_binders, integer_bases}
use Rattle.plain_goals.proofs.Functions.{function_in}

-- ---- functions of the text

-- a function of the core program is made of one of the text
pub core_found : (o : Option (Function Stmts)) (f : Function Steps) → option_map function_of (option_map normal_function o) ≡ Some f
    → (g : Function Stmts) × ((o ≡ Some g) × (function_of (normal_function g) ≡ f))
core_found None f e = absurd (none_some f e)
core_found (Some g) f e = (g, (refl, some_same (function_of (normal_function g)) f e))

as_many_names : (os : List Object) → length (names_in os) ≡ length os
as_many_names [] = refl
as_many_names (o ∷ os) = ap suc (as_many_names os)

many_globals : (t : u.Typed) (a : Annotations) → length (program_of t a).facts.globals ≡ length t.file.globals
unfolding program_of
many_globals t a = as_many t.file.structs t.plain (map is_some t.inits) 0 t.file.globals

-- its body is one of the file
pub body_in : (n : ℕ) (bs : List u.Body) (nss : List (List Note)) (x : Text) → text_of n bs nss ≡ Some x → In x.body bs × (x.body.function ≡ n)
body_in n [] nss x e = absurd (none_some x e)
body_in n (b ∷ bs) [] x e = absurd (none_some x e)
body_in n (b ∷ bs) (ns ∷ nss) x e = by (body_in n bs nss x) (b.function == n) refl e
  where
    by : (text_of n bs nss ≡ Some x → In x.body bs × (x.body.function ≡ n)) → (c : Bool) → (b.function == n) ≡ c
        → (if c then Some (record { body = b; notes = ns }) else text_of n bs nss) ≡ Some x → In x.body (b ∷ bs) × (x.body.function ≡ n)
    by more true k h =
        let same = some_same (record { body = b; notes = ns }) x h in (inl (ap (λ (y : Text). y.body) (sym same)), ap (λ (y : Text). y.body.function) (sym same) ∙ eqb-true b.function n k)
    by more false k h = let rest = more h in (inr rest.0, rest.1)

module _ (m : Machdep) (ts : List Token) (p : d.Program) (t : u.Typed) (a : Annotations) (names : Names) (kinds : (function number : ℕ) → Kind) (met : IsMet m ts p t a names kinds) where
  abbrev q : Program Steps
  q = core_of t a

  fits : FitsProgram q
  fits = plain_texts_fit m ts p t a met.text

  settled : (s : Shape) → SettingFits (program_of t a).facts names s
  settled s = met.meets.settled s

  abbrev shapeless : Shape
  shapeless = record { variables = []; temporaries = 0; temp_kind = λ n. kind.Int; result = None }

  -- as many names as variables
  globals_named : length q.facts.globals ≡ length (names_in t.file.globals)
  globals_named = many_globals t a ∙ sym (as_many_names t.file.globals)

  locals_named : (n : ℕ) (f : Function Steps) → q.functions n ≡ Some f → length f.variables ≡ length (own_names (text_at t a n))
  locals_named n f e =
      let c = core_found ((program_of t a).functions n) f e in
      let x = is_found t a n c.0 c.1.0 in
      let ss = t.file.structs in
      ap (λ (f : Function Steps). length f.variables) (sym c.1.1)
      ∙ ap (λ (g : Function Stmts). length g.variables) x.same
      ∙ as_many ss x.text.body.plain (values_of (length x.signature.params) x.text.body) 0 x.text.body.locals
      ∙ sym (as_many_names x.text.body.locals)
      ∙ sym (ap (λ o. length (own_names o)) x.written)

  pub bases_of : (n : ℕ) (f : Function Steps) → q.functions n ≡ Some f
      → Fit (written_for (names_in t.file.globals) (own_names (text_at t a n)) f (kinds n)).bases q.facts.globals f.variables f.params (temporaries_in f.body)
  bases_of n f e =
      bases_fit (names_in t.file.globals) f.params (own_names (text_at t a n)) (temporaries_in f.body) (met.meets.functions n f e).named
      (subst (λ k. f.params ≤ k) (locals_named n f e) (fits.functions n f e).params) q.facts.globals f.variables globals_named (locals_named n f e)

  -- how its slots are written
  pub written_so : (P : Written → Type 0) (n : ℕ) (f : Function Steps) → q.functions n ≡ Some f → P (written_for (names_in t.file.globals) (own_names (text_at t a n)) f (kinds n))
      → P (written_of t a names kinds n)
  written_so P n f e h = subst (λ o. P (written_by (names_in t.file.globals) (own_names (text_at t a n)) o (kinds n))) (sym e) h

  pub program_fits : ProgramFits (setting_of_file t a names) q (texts_of_file t a names) (written_of t a names kinds)
  program_fits = record {
    plain = fits;
    model = (settled shapeless).model;
    functions = λ n f e.
        written_so (FunctionIn (setting_of_file t a names) q (texts_of_file t a names) n f) n f e
        (function_in (setting_of_file t a names) q (texts_of_file t a names) fits (settled shapeless).model (λ k g h. (met.meets.functions k g h).annotated) n f e
        (written_for (names_in t.file.globals) (own_names (text_at t a n)) f (kinds n)) (settled (shape_in f (written_for (names_in t.file.globals) (own_names (text_at t a n)) f (kinds n)))).texts (met.stands n f e) (bases_of n f e));
  }

  -- ---- names

  pub texts_named : TextsFit (texts_of_file t a names)
  texts_named = record { binders = λ x. plain_binders (names.binders x) (met.meets.binders x); called = (settled shapeless).texts.called }

  pub bases_named : (n : ℕ) (f : Function Steps) → q.functions n ≡ Some f → AreIntegerNames (written_of t a names kinds n).bases
  bases_named n f e =
      let gs = names_in t.file.globals in
      let xs = own_names (text_at t a n) in
      let fit = and_parts (list_all is_c_name gs && list_all is_c_name xs) _ (met.meets.functions n f e).named in
      written_so (λ w. AreIntegerNames w.bases) n f e (integer_bases gs f.params xs (temporaries_in f.body) fit.0 (bases_of n f e).names)

pub files_in_order_meet : FilesInOrderMeet
files_in_order_meet t a names binders order each =
    record { binders = binders; settled = λ s. settings_fit (program_of t a).facts names s binders order; functions = each }

pub files_without_recursion_meet : FilesWithoutRecursionMeet
files_without_recursion_meet t a binders named none each =
    record { binders = named; settled = λ s. (plain_settings_fit (program_of t a).facts binders s none named).fits; functions = each }

pub plain_texts_have_goals : PlainTextsHaveGoals
plain_texts_have_goals = program_fits
