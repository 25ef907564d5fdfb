-- The report that is made of a source.
use Rattle.std.proofs.Common.{◌≡◌, ℕ, Bool, true, false, ◌&&◌, List, [], Some, None, refl, sym, ap, ◌∙◌, subst}
use Rattle.std.specs.List.{list_all}
use Rattle.wp_base.specs.declared.kinds.Kind.{Kind}
use Rattle.c_kinds.specs.declared.models.Machdep.{Machdep}
use Rattle.c_syntax.specs.declared.token.Token.{Token}
use Rattle.c_syntax.specs.Decl as d
use Rattle.from_lines.specs.Froms.{from_lines}
use Rattle.typed_unit.specs.Unit as u
use Rattle.acsl_typing.specs.Annotations.{Annotations}
use Rattle.c_runs.specs.Program.{Facts, Stmts, Program}
use Rattle.c_programs.specs.Files.{program_of}
use Rattle.c_runs.specs.Tree.{Steps}
use Rattle.qed_terms.specs.Setting.{Setting, is_regular}
use Rattle.qed_terms.specs.View.{view_setting}
use Rattle.plain_test.specs.Plain.{is_plain_file}
use Rattle.slot_names.specs.Bases.{Name}
use Rattle.binder_names.specs.Tables.{Named, table_of, is_named_table}
use Rattle.plain_goals.specs.Files.{FunctionGoals, core_of, names_in, setting_of_file, file_goals}
use Rattle.plain_goals.specs.Laws.{IsMet}
use Rattle.plain_sources.specs.Sources.{Source}
use Rattle.plain_sources.specs.Built.{facts_in, table_in, sets_fit}
use Rattle.logic_order.specs.Names.{FileNames}
use Rattle.logic_order.specs.Order.{is_in_order}
use Rattle.logic_order.proofs.Ordered.{files_in_order}
use Rattle.logic_settings.specs.Found.{IsOrder}
use Rattle.logic_settings.specs.declared.orders.Order.{Order}
use Rattle.logic_texts.specs.Laws.{texts_by}
use Rattle.logic_texts.proofs.Texts_by.{texts_are_of_files}
use Rattle.file_spellings.specs.Spelled.{file_names}
use Rattle.plain_reports.specs.Told.{names_of, spelled_in, texts_in, body_fits, is_verified}
use Rattle.verified_sources.specs.Tests.{is_verified_by}
use Rattle.verified_sources.proofs.Sources.{tests_are_of_sources}
use Rattle.source_goals.specs.Walked.{AllBodiesClosed, file_goals_by}
use Rattle.source_goals.proofs.Sources.{walks_are_of_sources}
use Rattle.wp_words.specs.Command.{Wanted}
use Rattle.file_reports.specs.declared.reports.FileReport.{FileReport}
use Rattle.file_reports.specs.Lines.{IsReport}
use Rattle.file_reports.specs.Made.{source_by, Makes}

pub unplain : (s : Source) → is_plain_file s.typed ≡ false → is_verified s ≡ false
unfolding is_verified
unplain s e =
    ap
    (λ (b : Bool). b
    && (is_in_order (facts_in s) (spelled_in s) && (is_named_table (table_in s) && (list_all (sets_fit s) s.typed.bodies && list_all (body_fits s) s.typed.bodies))))
    e

-- the setting of what is found is one that a prover takes
pub regular : (p : Facts) (names : FileNames) (o : Order) → IsOrder p names o → is_regular (view_setting o.setting) ≡ true
regular p names o h = ap is_regular h.setting ∙ (files_in_order p names (λ a. []) h.ordered).regular

module _ (tree : d.Program) (t : u.Typed) (a : Annotations) (p : Program Stmts) (q : Program Steps) (table : List Named) (file : List Name) (of_file : p ≡ program_of t a) (of_core : q ≡ core_of t a)
    (of_table : table ≡ table_of t p.functions) (of_names : file ≡ names_in t.file.globals)
  where
    table_is : table ≡ table_in (source_by tree t a)
    table_is = of_table ∙ ap (λ (x : Program Stmts). table_of t x.functions) of_file

    tests_say : is_verified (source_by tree t a) ≡ is_verified_by t p q table file
    tests_say = tests_are_of_sources (source_by tree t a) ∙ sym (λ i. is_verified_by t (of_file i) (of_core i) (table_is i) (of_names i))

    pub unverified : (wanted : Wanted) → is_verified_by t p q table file ≡ false → Makes wanted (source_by tree t a) None
    unverified wanted isnt = tests_say ∙ isnt

    -- what is found of its logic functions is that of its source
    ordered : (o : Order) → IsOrder p.facts (file_names t) o → IsOrder (facts_in (source_by tree t a)) (spelled_in (source_by tree t a)) o
    ordered o h = subst (λ (x : Program Stmts). IsOrder x.facts (file_names t) o) of_file h

    setting_is : (o : Order) → IsOrder p.facts (file_names t) o → view_setting o.setting ≡ setting_of_file t a (names_of (source_by tree t a))
    setting_is o h = (ordered o h).setting

    texts_are : (o : Order) → IsOrder p.facts (file_names t) o → texts_by table o ≡ texts_in (source_by tree t a)
    texts_are o h =
        ap (λ (x : List Named). texts_by x o) table_is
        ∙ texts_are_of_files (facts_in (source_by tree t a)) (spelled_in (source_by tree t a)) (table_in (source_by tree t a)) o (ordered o h)

    pub made : (wanted : Wanted) (o : Order) (r : FileReport) → is_verified_by t p q table file ≡ true → IsOrder p.facts (file_names t) o
        → ((kinds : (function number : ℕ) → Kind) → AllBodiesClosed q kinds
        → IsReport (view_setting o.setting) wanted t file (from_lines tree) (file_goals_by (view_setting o.setting) t q (texts_by table o) file kinds) r.text r.all_proved)
        → Makes wanted (source_by tree t a) (Some r)
    made wanted o r so order says = (tests_say ∙ so, is) where
      is : (m : Machdep) (ts : List Token) (kinds : (function number : ℕ) → Kind) → IsMet m ts tree t a (names_of (source_by tree t a)) kinds
          → IsReport (setting_of_file t a (names_of (source_by tree t a))) wanted t (names_in t.file.globals) (from_lines tree) (file_goals t a (names_of (source_by tree t a)) kinds) r.text r.all_proved
      is m ts kinds met =
          let s = source_by tree t a in
          let walks = walks_are_of_sources m ts s kinds met in
          let closed : AllBodiesClosed q kinds = subst (λ (x : Program Steps). AllBodiesClosed x kinds) (sym of_core) walks.closed in
          let goals : file_goals_by (view_setting o.setting) t q (texts_by table o) file kinds ≡ file_goals t a (names_of s) kinds =
          (λ i. file_goals_by (setting_is o order i) t (of_core i) (texts_are o order i) (of_names i) kinds) ∙ walks.goals in
          subst (λ (x : Setting). IsReport x wanted t (names_in t.file.globals) (from_lines tree) (file_goals t a (names_of s) kinds) r.text r.all_proved) (setting_is o order)
          (subst (λ (gs : List FunctionGoals). IsReport (view_setting o.setting) wanted t (names_in t.file.globals) (from_lines tree) gs r.text r.all_proved) goals
          (subst (λ (xs : List Name). IsReport (view_setting o.setting) wanted t xs (from_lines tree) (file_goals_by (view_setting o.setting) t q (texts_by table o) file kinds) r.text r.all_proved) of_names
          (says kinds closed)))
