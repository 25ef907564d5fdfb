-- A typed file is spelled as its program is.
use Rattle.std.proofs.Common.{ℕ, ℤ, Bool, List, [], ◌∷◌, Option, Some, None}
use Rattle.wp_base.specs.declared.kinds.Kind.{Kind}
use Rattle.c_syntax.specs.Contract.{LoopAnnot}
use Rattle.c_syntax.specs.Stmt as p
use Rattle.c_syntax.specs.Decl as d
use Rattle.name_table.specs.Names.{Names}
use Rattle.c_answers.specs.Answers.{Answer, after}
use Rattle.c_variables.specs.declared.context.Context.{Context}
use Rattle.typed_unit.specs.Stmt as s
use Rattle.typed_unit.specs.Unit as u
use Rattle.c_stmts.specs.Locals.{locals}
use Rattle.c_stmts.specs.Cases.{with_case}
use Rattle.c_stmts.specs.Statements.{entered, test_of, value_of, switched_value, return_value, number_for, Item, label, item, turns_before, turns_behind, turns_of, loop_by, stmt, stmts, labelled, body}
use Rattle.c_functions.specs.Functions.{Functions, header, with_stmt, finished as function_finished, function}
use Rattle.c_taken.specs.Walks.{taken_locals}
use Rattle.c_decls.specs.Structs.{struct_declared}
use Rattle.c_decls.specs.Enums.{enum_declared, typedef_declared}
use Rattle.c_decls.specs.Globals.{globals_declared}
use Rattle.c_typing.specs.Typing.{Facts, facts_of, Unit as Left, at_start, declaration, declarations, typed_program}
use Rattle.acsl_rules.specs.Laws.{Holds}
use Rattle.acsl_clauses.specs.Items.{loop_items}
use Rattle.acsl_well_typed.specs.Clauses.{All, ItemBinds}
use Rattle.acsl_well_typed.specs.Files.{StmtBinds, StmtsBind}
use Rattle.acsl_same_meaning.specs.Spelled.{PartIsSpelled, FileIsSpelled}
use Rattle.acsl_binders.specs.Spelled.{SpelledBinds, AllSpelledBind, BodySpelledBinds}
use Rattle.acsl_same_meaning.specs.Programs.{DeclIsSpelled, TypedFilesAreSpelled}
use Rattle.acsl_same_meaning.proofs.Answers.{after_holds, after_any, answered}
use Rattle.acsl_same_meaning.proofs.Lists.{both_all}

-- ---- statements

abbrev Binds : s.Stmt × Context → Type 0
Binds r = StmtBinds r.0

abbrev ItemIs : Item → Type 0
ItemIs r = StmtBinds r.stmt

label_is : (k : Option Kind) (zs : List ℤ) (c : Context) (line : ℕ) (a : _) → Holds ItemIs (label k zs c line a)
unfolding label
label_is k zs c line a = after_any ItemIs (number_for c k line a) _ (λ z. after_any ItemIs (with_case line zs z) _ (λ ws. tt))

item_is : (k : Option Kind) (zs : List ℤ) (c : Context) (x : p.Stmt) (other : Answer (s.Stmt × Context)) → Holds Binds other
    → Holds ItemIs (item k zs c x other)
item_is k zs c (p.case_of line a) other f = label_is k zs c line a
item_is k zs c (p.default line) other f = tt
item_is k zs c _ other f = after_holds Binds ItemIs other _ f (λ r g. g)

loop_is : (line : ℕ) (annot : LoopAnnot) (t : s.Turns) (o : Answer (s.Stmt × Context)) → All ItemBinds (loop_items annot) → Holds Binds o
    → Holds Binds (loop_by line annot t o)
loop_is line annot t o bind f = after_holds Binds Binds o _ f (λ r g. (bind, g))

mutual
  stmt_is : (c : Context) (x : p.Stmt) → SpelledBinds x → Holds Binds (stmt c x)
  stmt_is c (p.empty line) f = tt
  stmt_is c (p.expr line a) f = after_any Binds (value_of c a) _ (λ v. tt)
  stmt_is c (p.block line xs) f = after_holds (λ r. StmtsBind r.0) Binds (stmts (entered c) xs) _ (stmts_are (entered c) xs f) (λ r g. g)
  stmt_is c (p.locals line vars) f = after_any Binds (locals c vars) _ (λ r. tt)
  stmt_is c (p.if_only line test a) f = after_any Binds (test_of c test) _ (λ v. after_holds Binds Binds (stmt c a) _ (stmt_is c a f) (λ r g. (g, tt)))
  stmt_is c (p.if_else line test a b) f =
      after_any Binds (test_of c test) _ (λ v. after_holds Binds Binds (stmt c a) _ (stmt_is c a f.0)
      (λ r g. after_holds Binds Binds (stmt r.1 b) _ (stmt_is r.1 b f.1) (λ q h. (g, h))))
  stmt_is c (p.while_of line annot test x) f = after_any Binds (turns_before c test) _ (λ t. loop_is line annot t (stmt c x) f.0 (stmt_is c x f.1))
  stmt_is c (p.do_of line annot x test) f =
      after_holds Binds Binds (stmt c x) _ (stmt_is c x f.1) (λ r g. after_any Binds (turns_behind r.1 test) _ (λ t. (f.0, g)))
  stmt_is c (p.for_of line annot first test next x) f =
      after_holds Binds Binds (stmt (entered c) first) _ (stmt_is (entered c) first f.1)
      (λ r g. after_holds Binds Binds (after (turns_of r.1 test next) (λ t. loop_by line annot t (stmt r.1 x))) _
      (after_any Binds (turns_of r.1 test next) _ (λ t. loop_is line annot t (stmt r.1 x) f.0 (stmt_is r.1 x f.2))) (λ q h. (g, (h, tt))))
  stmt_is c (p.switch line a xs) f =
      after_any Binds (switched_value c a) _ (λ v. after_holds (λ r. StmtsBind r.0) Binds (labelled _ [] (entered c) xs) _
      (labelled_are _ [] (entered c) xs f) (λ r g. g))
  stmt_is c (p.case_of line a) f = tt
  stmt_is c (p.default line) f = tt
  stmt_is c (p.break line) f = tt
  stmt_is c (p.continue line) f = tt
  stmt_is c (p.return_of line a) f = after_any Binds (return_value c line a) _ (λ v. tt)
  stmt_is c (p.assert line q) f = f

  stmts_are : (c : Context) (xs : p.Stmts) → AllSpelledBind xs → Holds (λ r. StmtsBind r.0) (stmts c xs)
  stmts_are c p.stop f = tt
  stmts_are c (p.more x xs) f =
      after_holds Binds (λ r. StmtsBind r.0) (stmt c x) _ (stmt_is c x f.0)
      (λ r g. after_holds (λ r. StmtsBind r.0) (λ r. StmtsBind r.0) (stmts r.1 xs) _ (stmts_are r.1 xs f.1) (λ q h. (g, h)))

  labelled_are : (k : Option Kind) (zs : List ℤ) (c : Context) (xs : p.Stmts) → AllSpelledBind xs → Holds (λ r. StmtsBind r.0) (labelled k zs c xs)
  labelled_are k zs c p.stop f = tt
  labelled_are k zs c (p.more x xs) f =
      after_holds ItemIs (λ r. StmtsBind r.0) (item k zs c x (stmt c x)) _ (item_is k zs c x (stmt c x) (stmt_is c x f.0))
      (λ r g. after_holds (λ r. StmtsBind r.0) (λ r. StmtsBind r.0) (labelled k r.numbers r.context xs) _ (labelled_are k r.numbers r.context xs f.1)
      (λ q h. (g, h)))

body_is : (c : Context) (x : p.Stmt) → SpelledBinds x → Holds Binds (body c x)
body_is c (p.block line xs) f = after_holds (λ r. StmtsBind r.0) Binds (stmts c xs) _ (stmts_are c xs f) (λ r g. g)
body_is c x f = stmt_is c x f

-- ---- functions

abbrev BodyIs : u.Body → Type 0
BodyIs b = StmtBinds b.stmt

abbrev PartIs : u.Part → Type 0
PartIs q = PartIsSpelled q.decl

pub record AreLeft (fs : Functions) : Type 0 where
  pub parts : All PartIs fs.parts
  pub bodies : All BodyIs fs.bodies

with_stmt_is : (c : Context) (bs : List u.Body) (g : d.Function) (o : Option p.Stmt) → BodySpelledBinds o → All BodyIs bs
    → Holds (λ r. All BodyIs r.0) (with_stmt c bs g o)
with_stmt_is c bs g None f all = all
with_stmt_is c bs g (Some x) f all = after_holds Binds (λ r. All BodyIs r.0) (body c x) _ (body_is c x f) (λ r h. both_all BodyIs bs _ all (h, tt))

function_is : (c : Context) (fs : Functions) (bodied : Names Bool) (taken : List Bool) (g : d.Function) → DeclIsSpelled (d.function g) → AreLeft fs
    → Holds (λ r. AreLeft r.1) (function c fs bodied taken g)
unfolding function function_finished
function_is c fs bodied taken g f all =
    after_any (λ r. AreLeft r.1) (header c bodied fs.bodies taken g) _
    (λ h. after_holds (λ r. All BodyIs r.0) (λ r. AreLeft r.1) (with_stmt h fs.bodies g g.body) _ (with_stmt_is h fs.bodies g g.body f.1 all.bodies)
    (λ q k. record { parts = both_all PartIs fs.parts _ all.parts (f.0, tt); bodies = k }))

-- ---- files

abbrev LeftIs : Left → Type 0
LeftIs v = AreLeft v.functions

declaration_is : (facts : Facts) (v : Left) (x : d.Decl) → DeclIsSpelled x → LeftIs v → Holds LeftIs (declaration facts v x)
unfolding declaration
declaration_is facts v (d.struct_decl x) f all = after_any LeftIs (struct_declared v.context x) _ (λ c. all)
declaration_is facts v (d.enum_decl x) f all = after_any LeftIs (enum_declared v.context x) _ (λ c. all)
declaration_is facts v (d.typedef_decl x) f all = after_any LeftIs (typedef_declared v.context x) _ (λ c. all)
declaration_is facts v (d.globals xs) f all = after_any LeftIs (globals_declared facts.taken v.context v.inits xs) _ (λ r. all)
declaration_is facts v (d.function g) f all =
    after_holds (λ r. AreLeft r.1) LeftIs (function v.context v.functions facts.bodied (taken_locals g) g) _
    (function_is v.context v.functions facts.bodied (taken_locals g) g f all) (λ r h. h)
declaration_is facts v (d.logic_decl l) f all = record { parts = both_all PartIs v.functions.parts _ all.parts (f, tt); bodies = all.bodies }

declarations_are : (facts : Facts) (v : Left) (xs : List d.Decl) → All DeclIsSpelled xs → LeftIs v → Holds LeftIs (declarations facts v xs)
declarations_are facts v [] f all = all
declarations_are facts v (x ∷ xs) f all =
    after_holds LeftIs LeftIs (declaration facts v x) _ (declaration_is facts v x f.0 all) (λ w h. declarations_are facts w xs f.1 h)

pub typed_files_are_spelled : TypedFilesAreSpelled
unfolding typed_program
typed_files_are_spelled m q t spelled is =
    answered FileIsSpelled (typed_program m q) t is
    (after_holds LeftIs FileIsSpelled (declarations (facts_of q) (at_start m) q) _
    (declarations_are (facts_of q) (at_start m) q spelled (record { parts = tt; bodies = tt }))
    (λ v h. record { parts = h.parts; bodies = h.bodies }))
