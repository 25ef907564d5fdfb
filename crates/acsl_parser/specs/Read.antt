-- Readers of contracts, annotations of loops, assertions and definitions (ACSL 2.3, 2.4, 2.5, 2.6), as functions on token lists.
-- Each reads what stands inside an annotation, up to what ends it. `end` is the number of all tokens of the text, from which places are counted.
use Rattle.std.specs.Prelude.{ℕ, ◌-◌, Bool, List, [], ◌∷◌, length, codes, Option, Some, None, if◌then◌else◌}
use Rattle.std.specs.Str.{bytes_eq}
use Rattle.c_syntax.specs.declared.token.Token.{Token}
use Rattle.c_syntax.specs.declared.token.Punct.TheVariants as p
use Rattle.c_syntax.specs.declared.token.Word.TheVariants as w
use Rattle.c_syntax.specs.Expr as e
use Rattle.c_syntax.specs.Term as t
use Rattle.c_syntax.specs.Pred as r
use Rattle.c_syntax.specs.Decl as d
use Rattle.c_syntax.specs.Contract.{AssignsClause, Behavior, Contract, LoopAnnot}
use Rattle.c_syntax.specs.declared.annot.Names.{Names as Behaviors}
use Rattle.c_grammar.specs.Tokens.{Names}
use Rattle.c_grammar.specs.Annots.{Item, requires_item, ensures_item, assumes_item, invariant_item, assigns_item, loop_assigns_item, decreases_item, variant_item, clause_at, measure_at, may_stand, Ending, complete_ending, disjoint_ending, behaviors_at}
use Rattle.c_grammar.specs.Annots as g
use Rattle.c_grammar.specs.Reading.{Reader, ◌>>=◌, punct_at, word_at, name_at, new_name_at, keyword_at}
use Rattle.c_grammar.specs.declared.limits.TheConstants.{DEEPEST}
use Rattle.c_grammar.specs.ListReaders.{separated_at}
use Rattle.parse_terms.specs.Read.{term_at, entry_at}
use Rattle.parse_preds.specs.Read.{pred_at, typed_at}
use Rattle.parse_clauses.specs.declared.items.Part.{Part}
use Rattle.parse_clauses.specs.declared.items.Part.TheVariants as part
use Rattle.acsl_parser.specs.declared.words.ClauseWord.{ClauseWord}
use Rattle.acsl_parser.specs.declared.words.ClauseWord.TheVariants as cw
use Rattle.acsl_parser.specs.declared.words.LoopWord.{LoopWord}
use Rattle.acsl_parser.specs.declared.words.LoopWord.TheVariants as lw
use Rattle.acsl_parser.specs.declared.words.EndWord.{EndWord}
use Rattle.acsl_parser.specs.declared.words.EndWord.TheVariants as ew
use Rattle.acsl_parser.specs.declared.words.LogicWord.{LogicWord}
use Rattle.acsl_parser.specs.declared.words.LogicWord.TheVariants as gw
use Rattle.acsl_parser.specs.Lists.{repeat, is_some, worded}
use Rattle.parse_clauses.specs.Sorts.{Sorted, sorted_of, is_in, behavior_of, loop_made, contract_made}

-- ---- the words that begin a part

-- of clauses
unfoldable pub clause_word : List ℕ → Option ClauseWord
clause_word x =
    if bytes_eq x (codes "requires") then Some cw.Requires
    else if bytes_eq x (codes "ensures") then Some cw.Ensures
    else if bytes_eq x (codes "assumes") then Some cw.Assumes
    else if bytes_eq x (codes "assigns") then Some cw.Assigns
    else if bytes_eq x (codes "decreases") then Some cw.Decreases
    else if bytes_eq x (codes "loop") then Some cw.Loop
    else None

-- behind `loop`
unfoldable pub loop_word : List ℕ → Option LoopWord
loop_word x =
    if bytes_eq x (codes "invariant") then Some lw.Invariant
    else if bytes_eq x (codes "assigns") then Some lw.Assigns
    else if bytes_eq x (codes "variant") then Some lw.Variant
    else None

-- before `behaviors`
unfoldable pub end_word : List ℕ → Option EndWord
end_word x =
    if bytes_eq x (codes "complete") then Some ew.Complete
    else if bytes_eq x (codes "disjoint") then Some ew.Disjoint
    else None

-- of definitions
unfoldable pub logic_word : List ℕ → Option LogicWord
logic_word x =
    if bytes_eq x (codes "predicate") then Some gw.Predicate
    else if bytes_eq x (codes "logic") then Some gw.Logic
    else None

-- ---- clauses

-- what is read, and a semicolon
abbrev pub ended : {X : Type 0} → Reader X → Reader X
ended read ts = read ts >>= λ x. punct_at p.Semicolon x.1 >>= λ s. Some (x.0, s.1)

-- pred ";"
unfoldable pub pred_ended : Names → (room : ℕ) → Reader r.Pred
pred_ended types room ts = ended (pred_at types room) ts

-- term ";"
unfoldable pub term_ended : Names → (room : ℕ) → Reader t.Term
term_ended types room ts = ended (term_at types room) ts

abbrev pub entries_by : Names → (room : ℕ) → Option (ℕ × List Token) → Reader (List t.Term)
entries_by types room (Some n) ts = Some ([], n.1)
entries_by types room None ts = separated_at (entry_at types room) ts

-- "\nothing" | entry {"," entry}
unfoldable pub entries_at : Names → (room : ℕ) → Reader (List t.Term)
entries_at types room ts = entries_by types room (word_at w.Nothing ts) ts

abbrev pub from_by : Names → (room : ℕ) → Option (ℕ × List Token) → Reader (List ℕ)
from_by types room None ts = Some ([], ts)
from_by types room (Some f) ts = entries_at types room f.1 >>= λ es. Some (f.0 ∷ [], es.1)

-- ["\from" entries]: the line of the word
unfoldable pub from_at : Names → (room : ℕ) → Reader (List ℕ)
from_at types room ts = from_by types room (word_at w.From ts) ts

-- behind `assigns`: entries ["\from" entries] ";"
unfoldable pub assigns_at : Names → (room place line : ℕ) → Reader AssignsClause
assigns_at types room place line ts =
    entries_at types room ts >>= λ es. from_at types room es.1 >>= λ ls. punct_at p.Semicolon ls.1 >>= λ s. Some (g.assigns_at place line es.0 ls.0, s.1)

-- behind `loop` and its word
abbrev pub loop_item_by : Names → (room place line : ℕ) → LoopWord → Reader Item
loop_item_by types room place line lw.Invariant ts = pred_ended types room ts >>= λ a. Some (invariant_item (clause_at place line a.0), a.1)
loop_item_by types room place line lw.Assigns ts = assigns_at types room place line ts >>= λ a. Some (loop_assigns_item a.0, a.1)
loop_item_by types room place line lw.Variant ts = term_ended types room ts >>= λ a. Some (variant_item (measure_at place line a.0), a.1)

-- behind `loop`; place and line are those of this word
unfoldable pub loop_item_at : Names → (room place line : ℕ) → Reader Item
loop_item_at types room place line ts = worded loop_word ts >>= λ x. loop_item_by types room place line x.0.0 x.1

-- behind its word
abbrev pub item_by : Names → (room place line : ℕ) → ClauseWord → Reader Item
item_by types room place line cw.Requires ts = pred_ended types room ts >>= λ a. Some (requires_item (clause_at place line a.0), a.1)
item_by types room place line cw.Ensures ts = pred_ended types room ts >>= λ a. Some (ensures_item (clause_at place line a.0), a.1)
item_by types room place line cw.Assumes ts = pred_ended types room ts >>= λ a. Some (assumes_item (clause_at place line a.0), a.1)
item_by types room place line cw.Assigns ts = assigns_at types room place line ts >>= λ a. Some (assigns_item a.0, a.1)
item_by types room place line cw.Decreases ts = term_ended types room ts >>= λ a. Some (decreases_item (measure_at place line a.0), a.1)
item_by types room place line cw.Loop ts = loop_item_at types room place line ts

-- a clause, of a loop or not
unfoldable pub item_at : Names → (room end : ℕ) → Reader Item
item_at types room end ts = worded clause_word ts >>= λ x. item_by types room (end - length ts) x.0.1 x.0.0 x.1

-- whether a clause starts here
unfoldable pub starts_item : List Token → Bool
starts_item ts = is_some (worded clause_word ts)

unfoldable pub items_at : Names → (room end : ℕ) → Reader (List Item)
items_at types room end ts = repeat starts_item (item_at types room end) (length ts) ts

-- clauses that may stand together in this part
unfoldable pub part_at : Part → Names → (room end : ℕ) → Reader Sorted
part_at which types room end ts = items_at types room end ts >>= λ items. if may_stand (is_in which) items.0 then Some (sorted_of items.0, items.1) else None

-- ---- contracts (ACSL 2.3)

-- "behavior" NAME ":" {clause}
unfoldable pub behavior_at : Names → (end : ℕ) → Reader Behavior
behavior_at types end ts =
    keyword_at (codes "behavior") ts >>= λ b. new_name_at types b.1 >>= λ x. punct_at p.Colon x.1 >>= λ c. part_at part.Behavior types DEEPEST end c.1 >>= λ s.
    Some (behavior_of (end - length ts) x.0 s.0, s.1)

-- whether a behavior starts here
unfoldable pub starts_behavior : List Token → Bool
starts_behavior ts = is_some (keyword_at (codes "behavior") ts)

unfoldable pub all_behaviors_at : Names → (end : ℕ) → Reader (List Behavior)
all_behaviors_at types end ts = repeat starts_behavior (behavior_at types end) (length ts) ts

-- a name, without its line
unfoldable pub plain_name_at : Reader (List ℕ)
plain_name_at ts = name_at ts >>= λ x. Some (x.0.0, x.1)

abbrev pub names_by : Option (ℕ × List Token) → Reader (List (List ℕ))
names_by (Some s) ts = Some ([], s.1)
names_by None ts = ended (separated_at plain_name_at) ts

-- [NAME {"," NAME}] ";"
unfoldable pub names_at : Reader (List (List ℕ))
names_at ts = names_by (punct_at p.Semicolon ts) ts

abbrev pub ending_of : EndWord → Behaviors → Ending
ending_of ew.Complete names = complete_ending names
ending_of ew.Disjoint names = disjoint_ending names

-- ("complete" | "disjoint") "behaviors" [NAME {"," NAME}] ";"
unfoldable pub ending_at : (end : ℕ) → Reader Ending
ending_at end ts =
    worded end_word ts >>= λ x. keyword_at (codes "behaviors") x.1 >>= λ b. names_at b.1 >>= λ xs. Some (ending_of x.0.0 (behaviors_at (end - length ts) x.0.1 xs.0), xs.1)

-- whether an ending starts here
unfoldable pub starts_ending : List Token → Bool
starts_ending ts = is_some (worded end_word ts)

unfoldable pub all_endings_at : (end : ℕ) → Reader (List Ending)
all_endings_at end ts = repeat starts_ending (ending_at end) (length ts) ts

-- {clause} {behavior} {ending}
unfoldable pub contract_at : Names → (end : ℕ) → Reader Contract
contract_at types end ts =
    part_at part.Contract types DEEPEST end ts >>= λ s. all_behaviors_at types end s.1 >>= λ bs. all_endings_at end bs.1 >>= λ es. Some (contract_made s.0 bs.0 es.0, es.1)

-- ---- loops and assertions (ACSL 2.4)

-- {"loop" clause}
unfoldable pub loop_at : Names → (room end : ℕ) → Reader LoopAnnot
loop_at types room end ts = part_at part.Loop types room end ts >>= λ s. Some (loop_made s.0, s.1)

-- "assert" pred ";", with the line of the word
unfoldable pub assert_at : Names → (room : ℕ) → Reader (r.Pred × ℕ)
assert_at types room ts = keyword_at (codes "assert") ts >>= λ x. pred_ended types room x.1 >>= λ a. Some ((a.0, x.0), a.1)

-- ---- definitions (ACSL 2.6.1)

abbrev pub params_by : Names → Option (ℕ × List Token) → Reader (List e.VarDecl)
params_by types None ts = Some ([], ts)
params_by types (Some o) ts = separated_at (typed_at types) o.1 >>= λ vs. punct_at p.CloseParen vs.1 >>= λ c. Some (vs.0, c.1)

-- ["(" ltype NAME {"," ltype NAME} ")"]
unfoldable pub params_at : Names → Reader (List e.VarDecl)
params_at types ts = params_by types (punct_at p.OpenParen ts) ts

abbrev pub predicate_of : List ℕ × ℕ → List e.VarDecl → r.Pred → d.LogicDecl
predicate_of x params a = record { name = x.0; result = None; params = params; body = d.pred a; line = x.1 }

abbrev pub function_of : e.VarDecl → List e.VarDecl → t.Term → d.LogicDecl
function_of v params a = record { name = v.name; result = Some v.ty; params = params; body = d.term a; line = v.line }

-- behind `predicate`: NAME [params] "=" pred ";"
unfoldable pub predicate_at : Names → Reader d.LogicDecl
predicate_at types ts =
    new_name_at types ts >>= λ x. params_at types x.1 >>= λ vs. punct_at p.Assign vs.1 >>= λ a. pred_ended types DEEPEST a.1 >>= λ b. Some (predicate_of x.0 vs.0 b.0, b.1)

-- behind `logic`: ltype NAME [params] "=" term ";"
unfoldable pub function_at : Names → Reader d.LogicDecl
function_at types ts =
    typed_at types ts >>= λ x. params_at types x.1 >>= λ vs. punct_at p.Assign vs.1 >>= λ a. term_ended types DEEPEST a.1 >>= λ b. Some (function_of x.0 vs.0 b.0, b.1)

abbrev pub logic_by : Names → LogicWord → Reader d.LogicDecl
logic_by types gw.Predicate ts = predicate_at types ts
logic_by types gw.Logic ts = function_at types ts

-- one definition
unfoldable pub logic_at : Names → Reader d.LogicDecl
logic_at types ts = worded logic_word ts >>= λ x. logic_by types x.0.0 x.1

-- whether a definition starts here
unfoldable pub starts_logic : List Token → Bool
starts_logic ts = is_some (worded logic_word ts)

-- one definition or more
unfoldable pub logics_at : Names → Reader (List d.LogicDecl)
logics_at types ts = if starts_logic ts then repeat starts_logic (logic_at types) (length ts) ts else None
