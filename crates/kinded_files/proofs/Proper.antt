-- Functions are typed by the rules of their form, and a body that isn't typed as the block of the parameters is no block.
use Rattle.std.proofs.Common.{◌≡◌, ℕ, Bool, true, false, not, ◌||◌, List, [], ◌∷◌, ◌++◌, Option, Some, None, Ok, Err, refl, sym, ap, subst, ◌∙◌, append-nil}
use Rattle.std.specs.Str.{bytes_eq}
use Rattle.std.proofs.lemmas.Bool.{false≢true}
use Rattle.c_syntax.specs.Decl as d
use Rattle.c_syntax.specs.Stmt as p
use Rattle.name_table.specs.Names.{Names as Table, is_free}
use Rattle.c_answers.specs.Answers.{Answer}
use Rattle.c_taken.specs.Addressed.{Names, is_among, contract_addressed, type_addressed}
use Rattle.c_taken.specs.Free.{free_in_decl, free_in_decls}
use Rattle.c_taken.specs.Marking.{no_marks, inside, left, marked}
use Rattle.c_taken.specs.Walks.{vars_walked, block_of, body_by, body_walked, function_walked, locals_by, taken_locals, taken_names}
use Rattle.c_taken.proofs.Free.{outer_names_are_free}
use Rattle.c_variables.specs.declared.context.Context.{Context}
use Rattle.c_stmts.specs.Statements.{stmt, stmts, body}
use Rattle.c_functions.specs.Functions.{Functions, header, with_stmt, finished, function}
use Rattle.typed_unit.specs.Stmt as s
use Rattle.typed_unit.specs.Unit as u
use Rattle.c_well_typed.proofs.Fitting.{Holds, after_holds}
use Rattle.c_typed_stmts.specs.Judgement.{IsTyped, AreTyped}
use Rattle.c_typed_stmts.proofs.Statements.{a_stmt, all_stmts}
use Rattle.c_typed_files.specs.Functions as g
use Rattle.c_typed_files.specs.Functions.{IsHeader, IsBody, HasBody, IsFunction}
use Rattle.c_typed_files.proofs.Functions.{a_header}
use Rattle.kinded_files.proofs.Marks.{Marks, Upto}
use Rattle.kinded_files.proofs.Taken.{Proper}

-- ---- bodies

abbrev IsProper : Context → p.Stmt → s.Stmt × Context → Type 0
IsProper c x r = (is : IsBody c x r.0 r.1) × Proper is

single : (c : Context) (x : p.Stmt) → block_of x ≡ None → Holds (IsProper c x) (stmt c x)
single c x none = by (stmt c x) (a_stmt c x) where
  by : (o : Answer (s.Stmt × Context)) → Holds (λ r. IsTyped c x r.0 r.1) o → Holds (IsProper c x) o
  by (Ok r) is = (g.other c r.1 x r.0 is, none)
  by (Err r) is = tt

a_body : (c : Context) (x : p.Stmt) → Holds (IsProper c x) (body c x)
a_body c (p.block line xs) =
    after_holds (λ r. AreTyped c xs r.0 r.1) (IsProper c (p.block line xs)) (stmts c xs) _ (all_stmts c xs) (λ r are. (g.block c r.1 line xs r.0 are, tt))
a_body c (p.empty line) = single c (p.empty line) refl
a_body c (p.expr line a) = single c (p.expr line a) refl
a_body c (p.locals line ds) = single c (p.locals line ds) refl
a_body c (p.if_only line a x) = single c (p.if_only line a x) refl
a_body c (p.if_else line a x y) = single c (p.if_else line a x y) refl
a_body c (p.while_of line annot a x) = single c (p.while_of line annot a x) refl
a_body c (p.do_of line annot x a) = single c (p.do_of line annot x a) refl
a_body c (p.for_of line annot x a b y) = single c (p.for_of line annot x a b y) refl
a_body c (p.switch line a xs) = single c (p.switch line a xs) refl
a_body c (p.case_of line a) = single c (p.case_of line a) refl
a_body c (p.default line) = single c (p.default line) refl
a_body c (p.break line) = single c (p.break line) refl
a_body c (p.continue line) = single c (p.continue line) refl
a_body c (p.return_of line a) = single c (p.return_of line a) refl
a_body c (p.assert line q) = single c (p.assert line q) refl

abbrev pub HasProper : {c : Context} {bodies : List u.Body} {h : d.Function} {x : Option p.Stmt} {bs : List u.Body} {behind : Context} → HasBody c bodies h x bs behind → Type 0
HasProper g.not_written = Unit {0}
HasProper (g.written behind x y is) = Proper is

abbrev Bodied : (c : Context) (bodies : List u.Body) (h : d.Function) (x : Option p.Stmt) → List u.Body × Context → Type 0
Bodied c bodies h x q = (has : HasBody c bodies h x q.0 q.1) × HasProper has

a_bodied : (c : Context) (bodies : List u.Body) (h : d.Function) (x : Option p.Stmt) → Holds (Bodied c bodies h x) (with_stmt c bodies h x)
a_bodied c bodies h None = (g.not_written, tt)
a_bodied c bodies h (Some x) = after_holds (IsProper c x) (Bodied c bodies h (Some x)) (body c x) _ (a_body c x) (λ r is. (g.written r.1 x r.0 is.0, is.1))

-- ---- functions

abbrev pub ProperFunction : Table Bool → List Bool → Context → Functions → d.Function → Context × Functions → Type 0
ProperFunction bodied taken c fs h r = (is : IsFunction bodied taken c fs h r.0 r.1) × HasProper is.body

pub a_function : (bodied : Table Bool) (taken : List Bool) (c : Context) (fs : Functions) (h : d.Function) → Holds (ProperFunction bodied taken c fs h) (function c fs bodied taken h)
unfolding function finished
a_function bodied taken c fs h =
    after_holds (IsHeader c bodied fs.bodies taken h) (ProperFunction bodied taken c fs h) (header c bodied fs.bodies taken h) _ (a_header c bodied fs.bodies taken h) (λ within is.
    after_holds (Bodied within fs.bodies h h.body) (ProperFunction bodied taken c fs h) (with_stmt within fs.bodies h h.body) _ (a_bodied within fs.bodies h h.body) (λ q has.
    (record { header = within; is = is; body = has.0; parts = refl }, has.1)))

-- ---- marks of a function

-- before the body
abbrev pub params_marked : d.Function → Marks
params_marked h = vars_walked h.params (inside (marked (type_addressed h.result) no_marks))

abbrev pub before_body : d.Function → Marks
before_body h = marked (contract_addressed h.contract) (params_marked h)

abbrev pub all_marks : d.Function → Marks
all_marks h = function_walked h no_marks

walked_is : (h : d.Function) (x : p.Stmt) → h.body ≡ Some x → all_marks h ≡ left (body_by (block_of x) x (before_body h))
unfolding function_walked
walked_is h x e = ap (λ o. left (body_walked o (before_body h))) e

pub body_upto : (h : d.Function) (x : p.Stmt) → h.body ≡ Some x → Upto (body_by (block_of x) x (before_body h)) (all_marks h)
body_upto h x e =
    let k = body_by (block_of x) x (before_body h) in
    subst (Upto k) (sym (walked_is h x e)) (record { flags = λ n h. h; outer = λ y h. h })

pub taken_is : (h : d.Function) (x : p.Stmt) → h.body ≡ Some x → taken_locals h ≡ (all_marks h).taken
unfolding taken_locals
taken_is h x e = ap (λ o. locals_by o h) e

-- ---- names of the file

-- the names of the file that are marked in a function are those of the whole file
abbrev pub Covers : (taken : Table Bool) → d.Decl → Type 0
Covers taken (d.function h) = (y : List ℕ) → is_free (all_marks h).outer y ≡ false → is_free taken y ≡ false
Covers taken (d.struct_decl x) = Unit {0}
Covers taken (d.enum_decl x) = Unit {0}
Covers taken (d.typedef_decl v) = Unit {0}
Covers taken (d.globals vs) = Unit {0}
Covers taken (d.logic_decl l) = Unit {0}

abbrev pub CoversAll : (taken : Table Bool) → List d.Decl → Type 0
CoversAll taken [] = Unit {0}
CoversAll taken (x ∷ xs) = Covers taken x × CoversAll taken xs

any_first : (y : List ℕ) (xs ys : Names) → is_among xs y ≡ true → is_among (xs ++ ys) y ≡ true
any_first y [] ys h = absurd (false≢true h)
any_first y (x ∷ xs) ys h = by (bytes_eq y x) h (any_first y xs ys) where
  by : (b : Bool) → (b || is_among xs y) ≡ true → (is_among xs y ≡ true → is_among (xs ++ ys) y ≡ true) → (b || is_among (xs ++ ys) y) ≡ true
  by true k rest = refl
  by false k rest = rest k

any_second : (y : List ℕ) (xs ys : Names) → is_among ys y ≡ true → is_among (xs ++ ys) y ≡ true
any_second y [] ys h = h
any_second y (x ∷ xs) ys h = by (bytes_eq y x) (any_second y xs ys h) where
  by : (b : Bool) → is_among (xs ++ ys) y ≡ true → (b || is_among (xs ++ ys) y) ≡ true
  by true rest = refl
  by false rest = rest

not_false : (b : Bool) → not b ≡ false → b ≡ true
not_false true h = refl
not_false false h = absurd (false≢true (sym h))

one_function : (h : d.Function) (y : List ℕ) → is_free (all_marks h).outer y ≡ false → is_among (free_in_decl (d.function h)) y ≡ true
unfolding taken_names
one_function h y e =
    let law = outer_names_are_free (d.function h ∷ []) y in
    let all = not_false (is_among (free_in_decl (d.function h) ++ []) y) (sym law ∙ e) in
    ap (λ ns. is_among ns y) (sym (append-nil (free_in_decl (d.function h)))) ∙ all

covers_one : (taken : Table Bool) (x : d.Decl) → ((y : List ℕ) → is_among (free_in_decl x) y ≡ true → is_free taken y ≡ false) → Covers taken x
covers_one taken (d.function h) all = λ y e. all y (one_function h y e)
covers_one taken (d.struct_decl x) all = tt
covers_one taken (d.enum_decl x) all = tt
covers_one taken (d.typedef_decl v) all = tt
covers_one taken (d.globals vs) all = tt
covers_one taken (d.logic_decl l) all = tt

covers_from : (taken : Table Bool) (xs : List d.Decl) → ((y : List ℕ) → is_among (free_in_decls xs) y ≡ true → is_free taken y ≡ false) → CoversAll taken xs
covers_from taken [] all = tt
covers_from taken (x ∷ xs) all = (
  covers_one taken x (λ y e. all y (any_first y (free_in_decl x) (free_in_decls xs) e)),
  covers_from taken xs (λ y e. all y (any_second y (free_in_decl x) (free_in_decls xs) e)),
)

pub covers_file : (ps : List d.Decl) → CoversAll (taken_names ps) ps
covers_file ps = covers_from (taken_names ps) ps (λ y e. outer_names_are_free ps y ∙ ap not e)
