-- Readers of parts of predicates (ACSL 2.2). A quantifier and `\let` reach as far to the right as they can, so what stands before their body is
-- read for itself: a part goes up to its end, or up to the first quantifier or `\let` that stands open at its right end, with the binders.
use Rattle.std.specs.Prelude.{ℕ, zero, suc, ◌-◌, List, [], ◌∷◌, length, Option, Some, None, map}
use Rattle.c_syntax.specs.declared.token.Token.{Token}
use Rattle.c_syntax.specs.declared.token.TokenKind.{TokenKind}
use Rattle.c_syntax.specs.declared.token.TokenKind.TheVariants as k
use Rattle.c_syntax.specs.declared.token.Punct.TheVariants as p
use Rattle.c_syntax.specs.declared.token.Word.TheVariants as w
use Rattle.c_syntax.specs.Expr as e
use Rattle.c_syntax.specs.Term as t
use Rattle.c_syntax.specs.Pred as r
use Rattle.c_grammar.specs.Tokens.{Names}
use Rattle.c_grammar.specs.Preds.{connected}
use Rattle.c_grammar.specs.Reading.{Reader, ◌>>=◌, punct_at}
use Rattle.c_syntax.specs.View.{view_pred, view_term, view_var}
use Rattle.parse_preds.specs.declared.parts.Frame.{Frame}
use Rattle.parse_preds.specs.declared.parts.Frame.TheVariants as f
use Rattle.parse_preds.specs.declared.parts.Part as made
use Rattle.parse_preds.specs.declared.parts.Part.TheVariants as c
use Rattle.parse_preds.specs.Next.{connective_at}
use Rattle.parse_preds.specs.Read.{Form, an_operand, an_implied, a_whole, seen_as, atom_at, bound_at, value_at, body_at, arms_at, iff_at, iff_of, below_at, go_at}
use Rattle.parse_preds.specs.Views.{view_connective}

-- a predicate at its end, or what stands around the one that comes next
pub data Part : Type 0 where
  ended : r.Pred → Part
  open_before : (r.Pred → r.Pred) → Part

-- with this around it
abbrev pub within : (r.Pred → r.Pred) → Part → Part
within make (ended a) = ended (make a)
within make (open_before around) = open_before (λ a. make (around a))

-- goes on behind a predicate at its end
abbrev pub on_from : (next : r.Pred → Reader Part) → Part → Reader Part
on_from next (ended a) ts = next a ts
on_from next (open_before around) ts = Some (open_before around, ts)

-- ---- operands

-- an operand by its first token, where `below` reads what has one form more open
abbrev pub operand_part_by : Names → (room : ℕ) → (below : Form → Reader r.Pred) → (line : ℕ) → TokenKind → (ts all : List Token) → Option (Part × List Token)
operand_part_by types room below line (k.Punct p.Not) ts all = seen_as (λ (a : r.Pred). ended (r.not_of line a)) (below an_operand ts)
operand_part_by types room below line (k.Word w.Forall) ts all = seen_as (λ (xs : List e.VarDecl). open_before (r.for_all line xs)) (bound_at types ts)
operand_part_by types room below line (k.Word w.Exists) ts all = seen_as (λ (xs : List e.VarDecl). open_before (r.for_some line xs)) (bound_at types ts)
operand_part_by types room below line (k.Word w.Let) ts all = seen_as (λ (x : List ℕ × t.Term). open_before (r.let_in line x.0 x.1)) (value_at types room ts)
operand_part_by types room below line _ ts all = seen_as ended (atom_at types room (below a_whole) all)

-- {"!"} atom, or a quantifier or `\let` up to its body
abbrev pub operand_part : Names → (room : ℕ) → (below : Form → Reader r.Pred) → Reader Part
operand_part types room below [] = None
operand_part types room below (t ∷ ts) = operand_part_by types room below t.line t.kind ts (t ∷ ts)

-- ---- levels of operators, each grouped to the left

-- goes on after an operator, or stops before what is none; behind an operand that is open nothing more is read
abbrev pub linked_part : {O : Type 0} → (O → ℕ → r.Pred → r.Pred → r.Pred) → Option ((O × ℕ) × List Token) → r.Pred → List Token → Reader Part → (r.Pred → Reader Part) → Option (Part × List Token)
linked_part make None a ts operand go = Some (ended a, ts)
linked_part make (Some x) a ts operand go = operand x.1 >>= λ b. on_from go (within (make x.0.0 x.0.1 a) b.0) b.1

-- more operands of one level, at most so many, up to one that is open
unfoldable pub chain_part : {O : Type 0} → (make : O → ℕ → r.Pred → r.Pred → r.Pred) → (operator : Reader (O × ℕ)) → (operand : Reader Part) → (turns : ℕ) → r.Pred → Reader Part
chain_part make operator operand zero a ts = Some (ended a, ts)
chain_part make operator operand (suc turns) a ts = linked_part make (operator ts) a ts operand (chain_part make operator operand turns)

-- operators up to the level, over these operands, up to one that is open
unfoldable pub levels_part : {O : Type 0} → (make : O → ℕ → r.Pred → r.Pred → r.Pred) → (operator : ℕ → Reader (O × ℕ)) → (n : ℕ) → Reader Part → Reader Part
levels_part make operator zero operand ts = operand ts
levels_part make operator (suc n) operand ts =
    levels_part make operator n operand ts >>= λ x. on_from (λ a ts. chain_part make (operator (suc n)) (levels_part make operator n operand) (length ts) a ts) x.0 x.1

-- ---- forms

-- the right side of `==>`, which is a form of its own and so is read to its end
abbrev pub implies_part : Option (ℕ × List Token) → (below : Reader r.Pred) → r.Pred → Reader Part
implies_part None below a ts = Some (ended a, ts)
implies_part (Some x) below a ts = seen_as (λ (b : r.Pred). ended (r.implies x.0 a b)) (below x.1)

-- joined ["==>" implied]
abbrev pub implied_part : (below : Form → Reader r.Pred) → (operand : Reader Part) → Reader Part
implied_part below operand ts = levels_part connected connective_at 3 operand ts >>= λ x. on_from (λ a ts. implies_part (punct_at p.Implies ts) (below an_implied) a ts) x.0 x.1

-- implied {"<==>" implied}
abbrev pub iff_part : (implied : Reader Part) → Reader Part
iff_part implied ts = levels_part iff_of iff_at 1 implied ts

-- the arms of a conditional, which are forms of their own
abbrev pub cond_part : Option (ℕ × List Token) → (below : Reader r.Pred) → r.Pred → Reader Part
cond_part None below a ts = Some (ended a, ts)
cond_part (Some x) below a ts = seen_as (λ (arms : r.Pred × r.Pred). ended (r.cond x.0 a arms.0 arms.1)) (arms_at below x.1)

-- iff ["?" pred ":" pred]
abbrev pub whole_part : (below : Form → Reader r.Pred) → (implied : Reader Part) → Reader Part
whole_part below implied ts = iff_part implied ts >>= λ x. on_from (λ a ts. cond_part (punct_at p.Question ts) (below a_whole) a ts) x.0 x.1

-- the part that a form begins with, where `below` reads what has one form more open
abbrev pub part_over : Names → (room : ℕ) → (below : Form → Reader r.Pred) → Form → Reader Part
part_over types room below an_operand = operand_part types room below
part_over types room below an_implied = implied_part below (operand_part types room below)
part_over types room below a_whole = whole_part below (implied_part below (operand_part types room below))

-- ---- the rest of the form

-- a part with what comes after it, where `go` reads what reaches to the end
abbrev pub end_of : (go : Reader r.Pred) → Part → Reader r.Pred
end_of go (ended a) ts = Some (a, ts)
end_of go (open_before around) ts = seen_as around (body_at go ts)

-- what is read of a form where its first part was read
abbrev pub finished : (go : Reader r.Pred) → Option (Part × List Token) → Option (r.Pred × List Token)
finished go read = read >>= λ x. end_of go x.0 x.1

-- ---- in the words of the program

-- the part that an operand begins with, in which so many more forms may open, with at most so many quantifiers and `\let` around what they hold
unfoldable pub operand_at : Names → (room turns : ℕ) → Reader Part
operand_at types room turns = operand_part types room (below_at types room turns)

-- the part that `==>` and what it joins begin with
unfoldable pub implied_at : Names → (room turns : ℕ) → Reader Part
implied_at types room turns = implied_part (below_at types room turns) (operand_at types room turns)

-- the part that a whole predicate begins with
unfoldable pub whole_at : Names → (room turns : ℕ) → Reader Part
whole_at types room turns = whole_part (below_at types room turns) (implied_at types room turns)

-- the part that a form begins with
abbrev pub part_at : Names → (room turns : ℕ) → Form → Reader Part
part_at types room turns an_operand = operand_at types room turns
part_at types room turns an_implied = implied_at types room turns
part_at types room turns a_whole = whole_at types room turns

-- connectives up to the level, over operands
abbrev pub joined_at : Names → (room turns level : ℕ) → Reader Part
joined_at types room turns level = levels_part connected connective_at level (operand_at types room turns)

-- more operands of a level, behind the first
abbrev pub joined_from : Names → (room turns level : ℕ) → r.Pred → Reader Part
joined_from types room turns level a ts = chain_part connected (connective_at level) (joined_at types room turns (level - 1)) (length ts) a ts

-- more of what `<==>` joins, behind the first
abbrev pub iff_from : Names → (room turns : ℕ) → r.Pred → Reader Part
iff_from types room turns a ts = chain_part iff_of (iff_at 1) (implied_at types room turns) (length ts) a ts

-- what stands around the body that comes next, with all that reaches to the end
abbrev pub behind : Names → (room turns : ℕ) → (around : r.Pred → r.Pred) → Reader r.Pred
behind types room turns around ts = seen_as around (body_at (go_at types room turns) ts)

-- ---- what the program holds of a part

-- a quantifier, a `\let`, or an operator with its left side, around the predicate that comes next
abbrev pub view_frame : Frame → r.Pred → r.Pred
view_frame (f.Forall line binders) a = r.for_all line (map view_var binders) a
view_frame (f.Exists line binders) a = r.for_some line (map view_var binders) a
view_frame (f.Let line name value) a = r.let_in line name (view_term value) a
view_frame (f.Connected connective line left) a = connected (view_connective connective) line (view_pred left) a
view_frame (f.Equivalent line left) a = r.iff line (view_pred left) a

-- all of these around a predicate, the first one next to it
unfoldable pub around : List Frame → r.Pred → r.Pred
around [] a = a
around (x ∷ xs) a = around xs (view_frame x a)

-- open parts around a predicate, the last one next to it
unfoldable pub around_all : List (List Frame) → r.Pred → r.Pred
around_all [] a = a
around_all (x ∷ xs) a = around x (around_all xs a)

-- a part, as readers of parts have it
abbrev pub view_part : made.Part → Part
view_part (c.Closed a) = ended (view_pred a)
view_part (c.Open frames) = open_before (around frames)
