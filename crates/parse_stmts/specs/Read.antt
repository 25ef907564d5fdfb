-- The reader of statements (C11 6.8) as functions on token lists: what is read, and the tokens after it. `starts` are the lines on which statements
-- began so far; a reader gives them with those of what it read.
use Rattle.std.specs.Prelude.{ℕ, zero, suc, ◌-◌, ◌==◌, Bool, true, false, List, [], ◌∷◌, ◌++◌, length, codes, Option, Some, None, if◌then◌else◌}
use Rattle.c_syntax.specs.declared.token.Token.{Token}
use Rattle.c_syntax.specs.declared.token.Punct.TheVariants as p
use Rattle.c_syntax.specs.declared.token.Word.TheVariants as w
use Rattle.c_syntax.specs.Expr as e
use Rattle.c_syntax.specs.Stmt as s
use Rattle.c_syntax.specs.Contract.{LoopAnnot}
use Rattle.c_grammar.specs.Tokens.{Names, first_line}
use Rattle.c_grammar.specs.Annots.{loop_of}
use Rattle.c_grammar.specs.Reading.{Reader, ◌>>=◌, punct_at, word_at, keyword_at}
use Rattle.c_grammar.specs.declared.limits.TheConstants.{MOST_WITHIN}
use Rattle.parse_types.specs.Read.{starts_type}
use Rattle.parse_leaf_stmts.specs.declared.forms.Form.{Form}
use Rattle.parse_leaf_stmts.specs.declared.forms.Form.TheVariants as form
use Rattle.parse_leaf_stmts.specs.Read.{form_of, test_at, locals_at, plain_at, assertion_at, loop_annot_at, case_at, default_at, do_end_at, head_at, is_switch}

-- a reader with the lines on which statements begin
abbrev pub Starting : Type 0 → Type 0
Starting X = List ℕ → Reader (X × List ℕ)

-- what reads the statements inside one
abbrev pub Inside : Type 0
Inside = (loops breaks : Bool) → Starting s.Stmt

-- ---- lists of statements

abbrev pub beside : List ℕ → Option (s.Stmt × List Token) → Option ((s.Stmt × List ℕ) × List Token)
beside starts read = read >>= λ a. Some ((a.0, starts), a.1)

abbrev pub case_by : (case default : Option (ℕ × List Token)) → Names → (room : ℕ) → List ℕ → Option ((s.Stmt × List ℕ) × List Token) → Option ((s.Stmt × List ℕ) × List Token)
case_by (Some x) y types room starts other = beside starts (case_at types room x.0 x.1)
case_by None (Some y) types room starts other = beside starts (default_at y.0 y.1)
case_by None None types room starts other = other

abbrev pub local_by : (declares : Bool) → Names → (room : ℕ) → List ℕ → List Token → Option ((s.Stmt × List ℕ) × List Token) → Option ((s.Stmt × List ℕ) × List Token)
local_by true types room starts ts other = beside (starts ++ first_line ts ∷ []) (locals_at types room ts)
local_by false types room starts ts other = other

-- what stands in the braces of a block, or in those of a `switch`
unfoldable pub item : Names → (room : ℕ) → (cases : Bool) → Starting s.Stmt → Starting s.Stmt
item types room true inner starts ts = case_by (word_at w.Case ts) (word_at w.Default ts) types room starts (inner starts ts)
item types room false inner starts ts = local_by (starts_type types ts) types room starts ts (inner starts ts)

-- ends at a brace, or goes on
abbrev pub stmts_until : Option (ℕ × List Token) → Starting s.Stmt → List ℕ → List Token → (List ℕ → Reader (s.Stmts × ℕ × List ℕ)) → Option ((s.Stmts × ℕ × List ℕ) × List Token)
stmts_until (Some end) one starts ts go = Some ((s.stop, end.0, starts), end.1)
stmts_until None one starts ts go = one starts ts >>= λ a. go a.0.1 a.1 >>= λ b. Some ((s.more a.0.0 b.0.0, b.0.1, b.0.2), b.1)

-- items up to a closing brace, at most so many, with the line of the brace
unfoldable pub stmts : Starting s.Stmt → (turns : ℕ) → List ℕ → Reader (s.Stmts × ℕ × List ℕ)
stmts one zero starts ts = None
stmts one (suc turns) starts ts = stmts_until (punct_at p.CloseBrace ts) one starts ts (stmts one turns)

-- a block behind its opening brace (C11 6.8.2)
unfoldable pub braces : Starting s.Stmt → (line : ℕ) → Starting s.Stmt
braces one line starts ts = stmts one (length ts) starts ts >>= λ b. Some ((s.block line b.0.0, b.0.2), b.1)

-- ---- statements with statements in them, over a reader of those with room for one form less

abbrev pub body_by : Option (ℕ × List Token) → Starting s.Stmt → Starting s.Stmt → Starting s.Stmt
body_by (Some x) one inner starts ts = braces one x.0 (starts ++ x.0 ∷ []) x.1
body_by None one inner starts ts = inner starts ts

-- the body of an `if`, an `else` or a loop
unfoldable pub body : Names → (room : ℕ) → Starting s.Stmt → Starting s.Stmt
body types room inner starts ts = body_by (punct_at p.OpenBrace ts) (item types room false inner) inner starts ts

abbrev pub otherwise_by : Option (ℕ × List Token) → Names → (room : ℕ) → Starting s.Stmt → Starting (Option s.Stmt)
otherwise_by (Some x) types room inner starts ts = body types room inner starts x.1 >>= λ b. Some ((Some b.0.0, b.0.1), b.1)
otherwise_by None types room inner starts ts = Some ((None, starts), ts)

-- an `else` and its body, if they come next
unfoldable pub otherwise : Names → (room : ℕ) → Starting s.Stmt → Starting (Option s.Stmt)
otherwise types room inner starts ts = otherwise_by (word_at w.Else ts) types room inner starts ts

-- what comes behind `if` (C11 6.8.4.1)
unfoldable pub choice : Names → (room : ℕ) → Starting s.Stmt → (line : ℕ) → Starting s.Stmt
choice types room inner line starts ts =
    test_at types room ts >>= λ e. body types room inner starts e.1 >>= λ a. otherwise types room inner a.0.1 a.1 >>= λ b.
    Some ((s.if_of line e.0 a.0.0 b.0.0, b.0.1), b.1)

-- what comes behind `while` (C11 6.8.5.1)
unfoldable pub while_of : Names → (room : ℕ) → Starting s.Stmt → LoopAnnot → (line : ℕ) → Starting s.Stmt
while_of types room inner annot line starts ts =
    test_at types room ts >>= λ e. body types room inner starts e.1 >>= λ a. Some ((s.while_of line annot e.0 a.0.0, a.0.1), a.1)

-- what comes behind `do` (C11 6.8.5.2)
unfoldable pub do_of : Names → (room : ℕ) → Starting s.Stmt → LoopAnnot → (line : ℕ) → Starting s.Stmt
do_of types room inner annot line starts ts =
    body types room inner starts ts >>= λ a. do_end_at types room a.1 >>= λ e. Some ((s.do_of line annot a.0.0 e.0, a.0.1), e.1)

-- what comes behind `for` (C11 6.8.5.3)
unfoldable pub for_of : Names → (room : ℕ) → Starting s.Stmt → LoopAnnot → (line : ℕ) → Starting s.Stmt
for_of types room inner annot line starts ts =
    head_at types room ts >>= λ h. body types room inner starts h.1 >>= λ a. Some ((s.for_of line annot h.0.0 h.0.1 h.0.2 a.0.0, a.0.1), a.1)

abbrev pub looped_by : Form → Names → (room : ℕ) → Starting s.Stmt → LoopAnnot → (line : ℕ) → Starting s.Stmt
looped_by form.While types room inner annot line starts ts = while_of types room inner annot line starts ts
looped_by form.Do types room inner annot line starts ts = do_of types room inner annot line starts ts
looped_by form.For types room inner annot line starts ts = for_of types room inner annot line starts ts
looped_by _ types room inner annot line starts ts = None

-- a loop behind its annotation
unfoldable pub looped : Names → (room : ℕ) → Starting s.Stmt → LoopAnnot → Starting s.Stmt
looped types room inner annot starts [] = None
looped types room inner annot starts (t ∷ ts) = looped_by (form_of t.kind) types room inner annot t.line starts ts

abbrev pub switch_if : (fits : Bool) → s.Stmt → List ℕ → Reader (s.Stmt × List ℕ)
switch_if true a starts ts = Some ((a, starts), ts)
switch_if false a starts ts = None

-- what comes behind `switch` (C11 6.8.4.2)
unfoldable pub switch_of : Names → (room : ℕ) → Starting s.Stmt → (line : ℕ) → Starting s.Stmt
switch_of types room inner line starts ts =
    test_at types room ts >>= λ e. punct_at p.OpenBrace e.1 >>= λ x. stmts (item types room true inner) (length x.1) starts x.1 >>= λ b.
    switch_if (is_switch b.0.0) (s.switch line e.0 b.0.0) b.0.2 b.1

-- where one more form may open
abbrev pub opened : {X : Type 0} → (room : ℕ) → Option X → Option X
opened room read = if room == 0 then None else read

abbrev pub annotated_by : Option (ℕ × List Token) → Names → (end room : ℕ) → Inside → Starting s.Stmt
annotated_by (Some x) types end room inner starts ts = beside starts (assertion_at types room ts)
annotated_by None types end room inner starts ts =
    opened room (loop_annot_at types room end ts >>= λ a. looped types (room - 1) (inner true true) a.0 starts a.1)

-- what comes behind the opening of an annotation
unfoldable pub annotated : Names → (end room : ℕ) → Inside → Starting s.Stmt
annotated types end room inner starts ts = annotated_by (keyword_at (codes "assert") ts) types end room inner starts ts

abbrev pub stmt_by : Names → (end room : ℕ) → Inside → (loops breaks : Bool) → (line : ℕ) → Form → List ℕ → (ts all : List Token) → Option ((s.Stmt × List ℕ) × List Token)
stmt_by types end room inner loops breaks line form.Block starts ts all = opened room (braces (item types (room - 1) false (inner loops breaks)) line starts ts)
stmt_by types end room inner loops breaks line form.If starts ts all = opened room (choice types (room - 1) (inner loops breaks) line starts ts)
stmt_by types end room inner loops breaks line form.While starts ts all = opened room (looped types (room - 1) (inner true true) (loop_of []) starts all)
stmt_by types end room inner loops breaks line form.Do starts ts all = opened room (looped types (room - 1) (inner true true) (loop_of []) starts all)
stmt_by types end room inner loops breaks line form.For starts ts all = opened room (looped types (room - 1) (inner true true) (loop_of []) starts all)
stmt_by types end room inner loops breaks line form.Switch starts ts all = opened room (switch_of types (room - 1) (inner loops true) line starts ts)
stmt_by types end room inner loops breaks line form.Annotated starts ts all = annotated types end room inner starts ts
stmt_by types end room inner loops breaks line f starts ts all = beside starts (plain_at types room loops breaks all)

-- a statement whose first line is one of the `starts` already, where `inner` reads those in it
abbrev pub started : Names → (end room : ℕ) → Inside → (loops breaks : Bool) → Starting s.Stmt
started types end room inner loops breaks starts [] = None
started types end room inner loops breaks starts (t ∷ ts) = stmt_by types end room inner loops breaks t.line (form_of t.kind) starts ts (t ∷ ts)

-- a statement, where `inner` reads those in it
abbrev pub stmt_of : Names → (end room : ℕ) → Inside → (loops breaks : Bool) → Starting s.Stmt
stmt_of types end room inner loops breaks starts [] = None
stmt_of types end room inner loops breaks starts (t ∷ ts) = started types end room inner loops breaks (starts ++ t.line ∷ []) (t ∷ ts)

-- A statement in which so many more forms may open. `end` is the number of all tokens: a place is counted from it.
unfoldable pub stmt : Names → (end room : ℕ) → Inside
stmt types end zero loops breaks starts ts = stmt_of types end 0 (λ loops breaks starts ts. None) loops breaks starts ts
stmt types end (suc room) loops breaks starts ts = stmt_of types end (suc room) (stmt types end room) loops breaks starts ts

-- ---- the body of a function

-- its statements, the lines of its braces, and the lines on which its statements begin, in order
pub record Body : Type 0 where
  pub stmts : s.Stmts
  pub line : ℕ
  pub end : ℕ
  pub starts : List ℕ

abbrev pub body_of : (line : ℕ) → s.Stmts × ℕ × List ℕ → Body
body_of line b = record { stmts = b.0; line = line; end = b.1; starts = b.2 }

unfoldable pub block_at : Names → (end : ℕ) → Reader Body
block_at types end ts =
    punct_at p.OpenBrace ts >>= λ x. stmts (item types MOST_WITHIN false (stmt types end MOST_WITHIN false false)) (length x.1) [] x.1 >>= λ b.
    Some (body_of x.0 b.0, b.1)
