-- Readers of predicates (ACSL 2.2), as functions on token lists.
use Rattle.std.specs.Prelude.{ℕ, zero, suc, ◌-◌, ◌==◌, Bool, false, List, [], ◌∷◌, ◌++◌, length, Option, Some, None, if◌then◌else◌}
use Rattle.c_syntax.specs.declared.token.Token.{Token}
use Rattle.c_syntax.specs.declared.token.TokenKind.{TokenKind}
use Rattle.c_syntax.specs.declared.token.TokenKind.TheVariants as k
use Rattle.c_syntax.specs.declared.token.Punct.{Punct}
use Rattle.c_syntax.specs.declared.token.Punct.TheVariants as p
use Rattle.c_syntax.specs.declared.token.Word.TheVariants as w
use denote.Enum.Bare.{sameb}
use Rattle.c_syntax.specs.contracts.expr.BinOp.{the_type as binop_type}
use Rattle.c_syntax.specs.declared.expr.BinOp.{BinOp}
use Rattle.c_syntax.specs.declared.expr.BinOp.TheVariants as o
use Rattle.c_syntax.specs.Expr as e
use Rattle.c_syntax.specs.Term as t
use Rattle.c_syntax.specs.Pred as r
use Rattle.c_grammar.specs.Tokens.{Names}
use Rattle.c_grammar.specs.Operators.{is_chain}
use Rattle.c_grammar.specs.Preds.{connected}
use Rattle.c_grammar.specs.Reading.{Reader, ◌>>=◌, nothing, punct_at, new_name_at, unless_type, levels}
use Rattle.c_grammar.specs.ListReaders.{with_items, more_separated}
use Rattle.parse_terms.specs.Next.{begins_chain}
use Rattle.parse_terms.specs.Read.{term_at, chain_term_at, some_terms_at, pointer_at}
pub use Rattle.parse_preds.specs.Next.{ends_atom, ends_pred, comparison_at, connective_at}
pub use Rattle.parse_preds.specs.Binders.{logic_type_at, typed_at, binders_at}

-- what is read with one form more open
abbrev pub under : {X : Type 0} → (ℕ → Reader X) → (room : ℕ) → Reader X
under read room ts = if room == 0 then None else read (room - 1) ts

-- what stands before a closing parenthesis
abbrev pub enclosed : {X : Type 0} → Reader X → Reader X
enclosed inside ts = inside ts >>= λ x. punct_at p.CloseParen x.1 >>= λ c. Some (x.0, c.1)

-- what stands in parentheses
abbrev pub bracketed : {X : Type 0} → Reader X → Reader X
bracketed inside ts = punct_at p.OpenParen ts >>= λ x. enclosed inside x.1

-- ---- chains of comparisons

-- terms of a chain, and comparisons
abbrev pub Tail : Type 0
Tail = List t.Term × List BinOp

-- with these before those that were read
abbrev pub with_tail : List t.Term → List BinOp → Option (Tail × List Token) → Option (Tail × List Token)
with_tail terms ops None = None
with_tail terms ops (Some x) = Some ((terms ++ x.0.0, ops ++ x.0.1), x.1)

abbrev pub compared_more : Option ((BinOp × ℕ) × List Token) → List Token → Reader t.Term → Reader Tail → Option (Tail × List Token)
compared_more None ts read go = Some (([], []), ts)
compared_more (Some x) ts read go = read x.1 >>= λ b. with_tail (b.0 ∷ []) (x.0.0 ∷ []) (go b.1)

-- {cmp term}, at most so many
unfoldable pub tail_at : Reader t.Term → (turns : ℕ) → Reader Tail
tail_at read zero ts = Some (([], []), ts)
tail_at read (suc turns) ts = compared_more (comparison_at ts) ts read (tail_at read turns)

-- a single `!=`
abbrev pub is_unequal : List BinOp → Bool
is_unequal [] = false
is_unequal (op ∷ []) = sameb binop_type op o.NotEqual
is_unequal (op ∷ next ∷ ops) = false

abbrev pub chained : (line : ℕ) → Tail → List Token → Option (r.Pred × List Token)
chained line tail ts = if is_chain tail.1 then Some (r.chain line tail.0 tail.1, ts) else None

-- the chain from its first term on
abbrev pub tail_from : Names → (room : ℕ) → t.Term → Reader Tail
tail_from types room a ts = with_tail (a ∷ []) [] (tail_at (chain_term_at types room) (length ts) ts)

-- term cmp term {cmp term}
unfoldable pub chain_at : Names → (room : ℕ) → Reader r.Pred
chain_at types room ts =
    chain_term_at types room ts >>= λ a. comparison_at a.1 >>= λ c.
    tail_from types room a.0 a.1 >>= λ tail. chained c.0.1 tail.0 tail.1

-- ---- atoms

-- the pointers from the first two on
abbrev pub pointers_from : Names → (room : ℕ) → t.Term → t.Term → Reader (List t.Term)
pointers_from types room a b ts = with_items (a ∷ b ∷ []) (more_separated (pointer_at types room) (length ts) ts)

-- ptr "," ptr {"," ptr}
unfoldable pub pointers_at : Names → (room : ℕ) → Reader (List t.Term)
pointers_at types room ts =
    pointer_at types room ts >>= λ a. punct_at p.Comma a.1 >>= λ c.
    pointer_at types room c.1 >>= λ b. pointers_from types room a.0 b.0 b.1

abbrev pub seen_as : {X Y : Type 0} → (X → Y) → Option (X × List Token) → Option (Y × List Token)
seen_as make read = read >>= λ x. Some (make x.0, x.1)

abbrev pub named_by : Names → (room : ℕ) → List ℕ → (line : ℕ) → Option (ℕ × List Token) → Reader r.Pred
named_by types room x line None ts = Some (r.call line x [], ts)
named_by types room x line (Some found) ts = seen_as (r.call line x) (enclosed (under (some_terms_at types) room) found.1)

-- a name, with or without arguments
abbrev pub named : Names → (room : ℕ) → List ℕ → (line : ℕ) → Reader r.Pred
named types room x line ts = unless_type types x line >>= λ line. named_by types room x line (punct_at p.OpenParen ts) ts

-- what is closed by itself and begins with no term, where `inside` reads predicates in it
abbrev pub closed_by : Names → (room : ℕ) → (inside : Reader r.Pred) → (line : ℕ) → TokenKind → Reader r.Pred
closed_by types room inside line (k.Word w.True) ts = Some (r.always line, ts)
closed_by types room inside line (k.Word w.False) ts = Some (r.never line, ts)
closed_by types room inside line (k.Word w.Valid) ts = seen_as (r.valid line) (bracketed (under (pointer_at types) room) ts)
closed_by types room inside line (k.Word w.ValidRead) ts = seen_as (r.valid_read line) (bracketed (under (pointer_at types) room) ts)
closed_by types room inside line (k.Word w.Separated) ts = seen_as (r.separated line) (bracketed (under (pointers_at types) room) ts)
closed_by types room inside line (k.Word w.Old) ts = seen_as (r.old line) (bracketed inside ts)
closed_by types room inside line (k.Name x) ts = named types room x line ts
closed_by types room inside line (k.Punct p.OpenParen) ts = enclosed inside ts
closed_by types room inside line _ ts = None

abbrev pub closed : Names → (room : ℕ) → (inside : Reader r.Pred) → Reader r.Pred
closed types room inside [] = None
closed types room inside (t ∷ ts) = closed_by types room inside t.line t.kind ts

unfoldable pub atom_at : Names → (room : ℕ) → (inside : Reader r.Pred) → Reader r.Pred
atom_at types room inside ts = if begins_chain types ts then chain_at types room ts else closed types room inside ts

-- ---- predicates

-- an operand, what `==>` joins, and a whole predicate
pub data Form : Type 0 where
  an_operand : Form
  an_implied : Form
  a_whole : Form

-- the body of a quantifier or of `\let`, which reaches as far as it can
abbrev pub body_at : (go : Reader r.Pred) → Reader r.Pred
body_at go ts = go ts >>= λ a. if ends_pred a.1 then Some (a.0, a.1) else None

-- binders ";"
abbrev pub bound_at : Names → Reader (List e.VarDecl)
bound_at types ts = binders_at types ts >>= λ xs. punct_at p.Semicolon xs.1 >>= λ s. Some (xs.0, s.1)

-- NAME "=" term ";"
abbrev pub value_at : Names → (room : ℕ) → Reader (List ℕ × t.Term)
value_at types room ts =
    new_name_at types ts >>= λ x. punct_at p.Assign x.1 >>= λ q. term_at types room q.1 >>= λ v. punct_at p.Semicolon v.1 >>= λ s. Some ((x.0.0, v.0), s.1)

abbrev pub quantified : Names → (go : Reader r.Pred) → (List e.VarDecl → r.Pred → r.Pred) → Reader r.Pred
quantified types go make ts = bound_at types ts >>= λ xs. seen_as (make xs.0) (body_at go xs.1)

abbrev pub let_at : Names → (room : ℕ) → (go : Reader r.Pred) → (line : ℕ) → Reader r.Pred
let_at types room go line ts = value_at types room ts >>= λ v. seen_as (r.let_in line v.0.0 v.0.1) (body_at go v.1)

-- an operand by its first token, where `below` reads what has one form more open, and `go` what reaches to the end
abbrev pub operand_by : Names → (room : ℕ) → (below : Form → Reader r.Pred) → (go : Reader r.Pred) → (line : ℕ) → TokenKind → (ts all : List Token) → Option (r.Pred × List Token)
operand_by types room below go line (k.Punct p.Not) ts all = seen_as (r.not_of line) (below an_operand ts)
operand_by types room below go line (k.Word w.Forall) ts all = quantified types go (r.for_all line) ts
operand_by types room below go line (k.Word w.Exists) ts all = quantified types go (r.for_some line) ts
operand_by types room below go line (k.Word w.Let) ts all = let_at types room go line ts
operand_by types room below go line _ ts all = atom_at types room (below a_whole) all

abbrev pub operand_over : Names → (room : ℕ) → (below : Form → Reader r.Pred) → (go : Reader r.Pred) → Reader r.Pred
operand_over types room below go [] = None
operand_over types room below go (t ∷ ts) = operand_by types room below go t.line t.kind ts (t ∷ ts)

-- `&&`, `^^` and `||`
abbrev pub joined_over : Reader r.Pred → Reader r.Pred
joined_over operand ts = levels connected connective_at 3 operand ts

abbrev pub implies_by : Option (ℕ × List Token) → (below : Reader r.Pred) → r.Pred → Reader r.Pred
implies_by None below a ts = Some (a, ts)
implies_by (Some x) below a ts = seen_as (r.implies x.0 a) (below x.1)

-- joined ["==>" implied]
abbrev pub implied_over : (below : Form → Reader r.Pred) → (operand : Reader r.Pred) → Reader r.Pred
implied_over below operand ts = joined_over operand ts >>= λ a. implies_by (punct_at p.Implies a.1) (below an_implied) a.0 a.1

-- `<==>`, the one operator of its level
abbrev pub iff_at : (n : ℕ) → Reader (Punct × ℕ)
iff_at zero ts = None
iff_at (suc n) ts = punct_at p.Iff ts >>= λ x. Some ((p.Iff, x.0), x.1)

abbrev pub iff_of : Punct → (line : ℕ) → r.Pred → r.Pred → r.Pred
iff_of q line a b = r.iff line a b

-- implied {"<==>" implied}
abbrev pub iff_over : (implied : Reader r.Pred) → Reader r.Pred
iff_over implied ts = levels iff_of iff_at 1 implied ts

-- pred ":" pred
abbrev pub arms_at : (below : Reader r.Pred) → Reader (r.Pred × r.Pred)
arms_at below ts = below ts >>= λ b. punct_at p.Colon b.1 >>= λ c. below c.1 >>= λ d. Some ((b.0, d.0), d.1)

abbrev pub cond_by : Option (ℕ × List Token) → (below : Reader r.Pred) → r.Pred → Reader r.Pred
cond_by None below a ts = Some (a, ts)
cond_by (Some x) below a ts = seen_as (λ (arms : r.Pred × r.Pred). r.cond x.0 a arms.0 arms.1) (arms_at below x.1)

-- iff ["?" pred ":" pred]
abbrev pub whole_over : (below : Form → Reader r.Pred) → (implied : Reader r.Pred) → Reader r.Pred
whole_over below implied ts = iff_over implied ts >>= λ a. cond_by (punct_at p.Question a.1) (below a_whole) a.0 a.1

abbrev pub form_over : Names → (room : ℕ) → (below : Form → Reader r.Pred) → (go : Reader r.Pred) → Form → Reader r.Pred
form_over types room below go an_operand = operand_over types room below go
form_over types room below go an_implied = implied_over below (operand_over types room below go)
form_over types room below go a_whole = whole_over below (implied_over below (operand_over types room below go))

-- a form, with at most so many quantifiers and `\let` around each part
unfoldable pub turned : Names → (room : ℕ) → (below : (turns : ℕ) → Form → Reader r.Pred) → (turns : ℕ) → Form → Reader r.Pred
turned types room below zero form = form_over types room (below zero) nothing form
turned types room below (suc turns) form = form_over types room (below (suc turns)) (turned types room below turns a_whole) form

abbrev pub none_below : (turns : ℕ) → Form → Reader r.Pred
none_below turns form = nothing

-- a form in which so many more forms may open
unfoldable pub form_at : Names → (room turns : ℕ) → Form → Reader r.Pred
form_at types zero = turned types 0 none_below
form_at types (suc room) = turned types (suc room) (form_at types room)

-- a predicate in which so many more forms may open
unfoldable pub pred_at : Names → (room : ℕ) → Reader r.Pred
pred_at types room ts = form_at types room (length ts) a_whole ts

-- ---- in the words of the program

-- what is read with one form more open, and what reaches to the end
abbrev pub below_at : Names → (room turns : ℕ) → Form → Reader r.Pred
below_at types room turns form = under (λ room. form_at types room turns form) room

abbrev pub go_at : Names → (room turns : ℕ) → Reader r.Pred
go_at types room turns ts = if turns == 0 then None else form_at types room (turns - 1) a_whole ts
