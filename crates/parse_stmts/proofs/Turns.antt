-- One turn of the loop over the statements of a block, and a statement by what may stand in it.
use Rattle.std.proofs.Common.{◌≡◌, ℕ, zero, suc, ◌+◌, ◌-◌, ◌==◌, ◌≤◌, Bool, true, false, List, [], ◌∷◌, ◌++◌, codes, Option, Some, None, Result, Ok, Err, refl, sym, ap, ◌∙◌, add-one, arith}
use Rattle.std.proofs.lemmas.Bool.Decides.{nat_tests}
use Rattle.std.specs.Borrow.{Bor}
use Rattle.c_syntax.specs.declared.token.Token.{Token}
use Rattle.c_syntax.specs.declared.stmt.Stmt.{Stmt}
use Rattle.c_syntax.specs.View.{view_stmt}
use Rattle.c_syntax.specs.declared.token.Punct.TheVariants as p
use Rattle.c_syntax.specs.Stmt as tree
use Rattle.c_grammar.specs.declared.fault.Fault.{Fault}
use Rattle.c_grammar.specs.declared.fault.Fault.TheVariants.{Syntax, NoMemory}
use Rattle.c_grammar.specs.Tokens.{Names, first_line}
use Rattle.parse_types.specs.Read.{starts_type}
use Rattle.c_grammar.specs.Reading.{◌>>=◌, punct_at, keyword_at}
use Rattle.c_grammar.specs.Views.{Gives}
use Rattle.parse_leaf_stmts.specs.declared.forms.Form.{Form}
use Rattle.parse_leaf_stmts.specs.declared.forms.Form.TheVariants as form
use Rattle.c_grammar.specs.Annots.{loop_of}
use Rattle.parse_leaf_stmts.specs.Read.{form_of, assertion_at, loop_annot_at, plain_at, locals_at}
use Rattle.parse_stmts.specs.Read.{Starting, Inside, beside, item, braces, choice, looped, switch_of, opened, annotated, annotated_by, local_by, started, stmt_by, stmt_of, stmt, stmts}
use Rattle.parse_stmts.specs.Views.{stmt_with, before, with_stmts}

-- ---- a statement by what may stand in it

-- with no room, nothing is read by what reads the statements in it
none_inside : (types : Names) (end : ℕ) (inner inner' : Inside) (loops breaks : Bool) (line : ℕ) (f : Form) (starts : List ℕ) (ts all : List Token)
    → stmt_by types end 0 inner loops breaks line f starts ts all ≡ stmt_by types end 0 inner' loops breaks line f starts ts all
unfolding annotated
none_inside types end inner inner' loops breaks line form.Annotated starts ts all =
    elim (keyword_at (codes "assert") ts) as (λ o. annotated_by o types end 0 inner starts ts ≡ annotated_by o types end 0 inner' starts ts) [
      | Some x ↦ refl
      | None ↦ refl
    ]
none_inside types end inner inner' loops breaks line _ starts ts all = refl

pub stmt_is : (types : Names) (end room : ℕ) (loops breaks : Bool) (starts : List ℕ) (ts : List Token)
    → stmt types end room loops breaks starts ts ≡ stmt_of types end room (stmt types end (room - 1)) loops breaks starts ts
unfolding stmt
stmt_is types end zero loops breaks starts [] = refl
stmt_is types end zero loops breaks starts (t ∷ ts) =
    none_inside types end (λ loops breaks starts ts. None) (stmt types end (0 - 1)) loops breaks t.line (form_of t.kind) (starts ++ t.line ∷ []) ts (t ∷ ts)
stmt_is types end (suc room) loops breaks starts ts =
    let less : room ≡ suc room - 1 = omega arith in
    ap (λ n. stmt_of types end (suc room) (stmt types end n) loops breaks starts ts) less

-- behind its line
pub stmt_starts : (types : Names) (end room : ℕ) (loops breaks : Bool) (starts starts' : List ℕ) (ts : List Token) (t : Token) (rest : List Token) → ts ≡ t ∷ rest → starts' ≡ starts ++ t.line ∷ []
    → stmt types end room loops breaks starts ts ≡ started types end room (stmt types end (room - 1)) loops breaks starts' ts
stmt_starts types end room loops breaks starts starts' ts t rest is pushed =
    ap (stmt types end room loops breaks starts) is
    ∙ stmt_is types end room loops breaks starts (t ∷ rest)
    ∙ ap (λ starts. started types end room (stmt types end (room - 1)) loops breaks starts (t ∷ rest)) (sym pushed)
    ∙ ap (started types end room (stmt types end (room - 1)) loops breaks starts') (sym is)

-- a declaration in a block
pub item_local : (types : Names) (room : ℕ) (among : Bool) (inner : Starting tree.Stmt) (starts : List ℕ) (ts : List Token) → among ≡ false → starts_type types ts ≡ true
    → item types room among inner starts ts ≡ beside (starts ++ first_line ts ∷ []) (locals_at types room ts)
unfolding item
item_local types room among inner starts ts block declares =
    ap (λ among. item types room among inner starts ts) block ∙ ap (λ b. local_by b types room starts ts (inner starts ts)) declares

pub beside_reads : (found : Result (Stmt × Bor (List Token)) Fault) (starts starts' : List ℕ) (given : Option (tree.Stmt × List Token)) → starts' ≡ starts → Gives view_stmt found given
    → Gives (stmt_with starts') found (beside starts given)
beside_reads (Ok x) starts starts' given same h = ap (beside starts) h ∙ ap (λ starts. Some ((view_stmt x.0, starts), x.1.now)) (sym same)
beside_reads (Err Syntax) starts starts' given same h = ap (beside starts) h
beside_reads (Err NoMemory) starts starts' given same h = tt

-- ---- a statement where at least one more form may open

abbrev pub deep_annotated : Option (ℕ × List Token) → Names → (end room : ℕ) → Inside → Starting tree.Stmt
deep_annotated (Some x) types end room inner starts ts = beside starts (assertion_at types (suc room) ts)
deep_annotated None types end room inner starts ts = loop_annot_at types (suc room) end ts >>= λ a. looped types room (inner true true) a.0 starts a.1

abbrev pub deep_by : Names → (end room : ℕ) → Inside → (loops breaks : Bool) → (line : ℕ) → Form → List ℕ → (ts all : List Token) → Option ((tree.Stmt × List ℕ) × List Token)
deep_by types end room inner loops breaks line form.Block starts ts all = braces (item types room false (inner loops breaks)) line starts ts
deep_by types end room inner loops breaks line form.If starts ts all = choice types room (inner loops breaks) line starts ts
deep_by types end room inner loops breaks line form.While starts ts all = looped types room (inner true true) (loop_of []) starts all
deep_by types end room inner loops breaks line form.Do starts ts all = looped types room (inner true true) (loop_of []) starts all
deep_by types end room inner loops breaks line form.For starts ts all = looped types room (inner true true) (loop_of []) starts all
deep_by types end room inner loops breaks line form.Switch starts ts all = switch_of types room (inner loops true) line starts ts
deep_by types end room inner loops breaks line form.Annotated starts ts all = deep_annotated (keyword_at (codes "assert") ts) types end room inner starts ts
deep_by types end room inner loops breaks line f starts ts all = beside starts (plain_at types (suc room) loops breaks all)

opens : {X : Type 0} (room : ℕ) (f : ℕ → Option X) → opened (suc room) (f (suc room - 1)) ≡ f room
opens room f =
    let some : (suc room == 0) ≡ false = grind (arith, nat_tests) in
    let less : suc room - 1 ≡ room = omega arith in
    rw (some, less) refl

pub deep_is : (types : Names) (end room : ℕ) (inner : Inside) (loops breaks : Bool) (line : ℕ) (f : Form) (starts : List ℕ) (ts all : List Token)
    → stmt_by types end (suc room) inner loops breaks line f starts ts all ≡ deep_by types end room inner loops breaks line f starts ts all
unfolding annotated
deep_is types end room inner loops breaks line form.Block starts ts all = opens room (λ n. braces (item types n false (inner loops breaks)) line starts ts)
deep_is types end room inner loops breaks line form.If starts ts all = opens room (λ n. choice types n (inner loops breaks) line starts ts)
deep_is types end room inner loops breaks line form.While starts ts all = opens room (λ n. looped types n (inner true true) (loop_of []) starts all)
deep_is types end room inner loops breaks line form.Do starts ts all = opens room (λ n. looped types n (inner true true) (loop_of []) starts all)
deep_is types end room inner loops breaks line form.For starts ts all = opens room (λ n. looped types n (inner true true) (loop_of []) starts all)
deep_is types end room inner loops breaks line form.Switch starts ts all = opens room (λ n. switch_of types n (inner loops true) line starts ts)
deep_is types end room inner loops breaks line form.Annotated starts ts all =
    elim (keyword_at (codes "assert") ts) as (λ o. annotated_by o types end (suc room) inner starts ts ≡ deep_annotated o types end room inner starts ts) [
      | Some x ↦ refl
      | None ↦ opens room (λ n. loop_annot_at types (suc room) end ts >>= λ a. looped types n (inner true true) a.0 starts a.1)
    ]
deep_is types end room inner loops breaks line _ starts ts all = refl

-- ---- a turn of the loop

pub stmts_out : (one : Starting tree.Stmt) (turns : ℕ) (starts : List ℕ) (ts : List Token) → turns ≡ 0 → stmts one turns starts ts ≡ None
unfolding stmts
stmts_out one turns starts ts e = rw e refl

before_end : (ss : List tree.Stmt) → before ss tree.stop ≡ tree.stmts_of ss
before_end [] = refl
before_end (a ∷ ss) = ap (tree.more a) (before_end ss)

before_more : (ss : List tree.Stmt) (a : tree.Stmt) (rest : tree.Stmts) → before (ss ++ a ∷ []) rest ≡ before ss (tree.more a rest)
before_more [] a rest = refl
before_more (b ∷ ss) a rest = ap (tree.more b) (before_more ss a rest)

with_stmts_more : (ss : List tree.Stmt) (a : tree.Stmt) (given : Option ((tree.Stmts × ℕ × List ℕ) × List Token))
    → with_stmts (ss ++ a ∷ []) given ≡ with_stmts ss (given >>= λ b. Some ((tree.more a b.0.0, b.0.1, b.0.2), b.1))
with_stmts_more ss a None = refl
with_stmts_more ss a (Some b) = ap (λ (all : tree.Stmts). Some ((all, b.0.1, b.0.2), b.1)) (before_more ss a b.0.0)

pub stmts_end : (one : Starting tree.Stmt) (turns : ℕ) (ss : List tree.Stmt) (starts : List ℕ) (ts : List Token) (line : ℕ) (rest : List Token)
    → 1 ≤ turns → punct_at p.CloseBrace ts ≡ Some (line, rest) → with_stmts ss (stmts one turns starts ts) ≡ Some ((tree.stmts_of ss, line, starts), rest)
unfolding stmts
stmts_end one zero ss starts ts line rest le e = absurd (omega arith)
stmts_end one (suc turns) ss starts ts line rest le e = rw e (ap (λ (all : tree.Stmts). Some ((all, line, starts), rest)) (before_end ss))

pub stmts_go : (one : Starting tree.Stmt) (turns turns' : ℕ) (starts : List ℕ) (ts : List Token) → turns ≡ turns' + 1 → punct_at p.CloseBrace ts ≡ None
    → stmts one turns starts ts ≡ (one starts ts >>= λ a. stmts one turns' a.0.1 a.1 >>= λ b. Some ((tree.more a.0.0 b.0.0, b.0.1, b.0.2), b.1))
unfolding stmts
stmts_go one turns turns' starts ts e none = rw (e, add-one, none) refl

pub stmts_turn : (one : Starting tree.Stmt) (turns turns' : ℕ) (ss : List tree.Stmt) (a : tree.Stmt) (starts starts' : List ℕ) (ts rest : List Token)
    → turns ≡ turns' + 1 → punct_at p.CloseBrace ts ≡ None → one starts ts ≡ Some ((a, starts'), rest)
    → with_stmts (ss ++ a ∷ []) (stmts one turns' starts' rest) ≡ with_stmts ss (stmts one turns starts ts)
stmts_turn one turns turns' ss a starts starts' ts rest e none read =
    with_stmts_more ss a (stmts one turns' starts' rest)
    ∙ sym (ap (with_stmts ss)
    (stmts_go one turns turns' starts ts e none
    ∙ ap (λ x. x >>= λ a. stmts one turns' a.0.1 a.1 >>= λ b. Some ((tree.more a.0.0 b.0.0, b.0.1, b.0.2), b.1)) read))

pub stmts_fault : {X Z : Type 0} (see : X → tree.Stmt × List ℕ) (see' : Z → tree.Stmts × ℕ × List ℕ) (one : Starting tree.Stmt) (turns turns' : ℕ) (ss : List tree.Stmt) (starts : List ℕ) (ts : List Token) (e : Fault)
    → turns ≡ turns' + 1 → punct_at p.CloseBrace ts ≡ None
    → Gives see (Err e) (one starts ts) → Gives see' (Err e) (with_stmts ss (stmts one turns starts ts))
stmts_fault see see' one turns turns' ss starts ts Syntax eq none h = rw (stmts_go one turns turns' starts ts eq none, h) refl
stmts_fault see see' one turns turns' ss starts ts NoMemory eq none h = tt
