-- Contracts, annotations of loops, assertions and definitions (ACSL 2.3, 2.4, 2.5, 2.6) as relations between whole token lists and plain trees.
-- Each clause has the line and the place of its first token; `at` is the place of the first token of a part.
use Rattle.std.specs.Prelude.{◌≡◌, ℕ, ◌+◌, Bool, true, false, ◌&&◌, List, [], ◌∷◌, ◌++◌, length, codes, Option, Some, None}
use Rattle.std.specs.List.{list_all}
use Rattle.c_syntax.specs.declared.annot.Names.{Names as Behaviors}
use Rattle.c_syntax.specs.declared.token.Token.{Token}
use Rattle.c_syntax.specs.declared.token.Punct.TheVariants as p
use Rattle.c_syntax.specs.declared.token.Word.TheVariants as w
use Rattle.c_syntax.specs.Expr as e
use Rattle.c_syntax.specs.Term as t
use Rattle.c_syntax.specs.Pred as r
use Rattle.c_syntax.specs.Contract.{Clause, Measure, AssignsClause, Behavior, Contract, LoopAnnot}
use Rattle.c_syntax.specs.Decl as d
use Rattle.c_grammar.specs.Tokens.{Names, is_type, punct, word, name}
use Rattle.c_grammar.specs.Lists.{Separated}
use Rattle.c_grammar.specs.Terms.{anywhere, SpellsTerm, SpellsEntry}
use Rattle.c_grammar.specs.Preds.{SpellsPred, SpellsLogicType, SpellsTyped}
use Rattle.c_grammar.specs.declared.limits.TheConstants.{DEEPEST}

-- ---- sets (ACSL 2.3.4)

-- "\nothing" | entry {"," entry}
pub data SpellsEntries (types : Names) (room : ℕ) : List Token → List t.Term → Type 0 where
  nothing : {line : ℕ} → SpellsEntries types room (word w.Nothing line ∷ []) []
  entries : {all : List Token} {ts : List t.Term} → Separated (SpellsEntry types room) all ts → SpellsEntries types room all ts

-- ["\from" entries], with its line; what the entries are makes no difference
pub data SpellsFrom (types : Names) (room : ℕ) : List Token → List ℕ → Type 0 where
  none : SpellsFrom types room [] []
  from : {line : ℕ} {rest : List Token} {ts : List t.Term} → SpellsEntries types room rest ts → SpellsFrom types room (word w.From line ∷ rest) (line ∷ [])

-- ---- clauses

-- a clause of a contract, a behavior or a loop
pub data Item : Type 0 where
  requires_item : (c : Clause) → Item
  ensures_item : (c : Clause) → Item
  assumes_item : (c : Clause) → Item
  invariant_item : (c : Clause) → Item
  assigns_item : (a : AssignsClause) → Item
  loop_assigns_item : (a : AssignsClause) → Item
  decreases_item : (m : Measure) → Item
  variant_item : (m : Measure) → Item

abbrev pub clause_at : (place line : ℕ) → r.Pred → Clause
clause_at place line a = record { pred = a; line = line; place = place }

abbrev pub measure_at : (place line : ℕ) → t.Term → Measure
measure_at place line a = record { term = a; line = line; place = place }

abbrev pub assigns_at : (place line : ℕ) → List t.Term → List ℕ → AssignsClause
assigns_at place line ts lines = record { set = Some ts; from = lines; line = line; place = place }

-- KEYWORD pred ";"
pub data SpellsClause (types : Names) (room at : ℕ) (keyword : List ℕ) : List Token → Clause → Type 0 where
  clause : {line : ℕ} {trails : Bool} (line' : ℕ) {inside all : List Token} {a : r.Pred}
      → SpellsPred types room trails inside a
      → all ≡ name keyword line ∷ (inside ++ punct p.Semicolon line' ∷ []) → SpellsClause types room at keyword all (clause_at at line a)

-- "assigns" entries ["\from" entries] ";"
pub data SpellsAssigns (types : Names) (room at : ℕ) : List Token → AssignsClause → Type 0 where
  assigns : {line : ℕ} (line' : ℕ) {first second all : List Token} {ts : List t.Term} {lines : List ℕ}
      → SpellsEntries types room first ts → SpellsFrom types room second lines
      → all ≡ name (codes "assigns") line ∷ (first ++ (second ++ punct p.Semicolon line' ∷ [])) → SpellsAssigns types room at all (assigns_at at line ts lines)

-- KEYWORD term ";"
pub data SpellsMeasure (types : Names) (room at : ℕ) (keyword : List ℕ) : List Token → Measure → Type 0 where
  measure : {line : ℕ} (line' : ℕ) {inside all : List Token} {a : t.Term}
      → SpellsTerm types anywhere room inside a
      → all ≡ name keyword line ∷ (inside ++ punct p.Semicolon line' ∷ []) → SpellsMeasure types room at keyword all (measure_at at line a)

-- with the line and the place of the word `loop` before it
abbrev pub clause_from : (place line : ℕ) → Clause → Clause
clause_from place line c = record { pred = c.pred; line = line; place = place }

abbrev pub measure_from : (place line : ℕ) → Measure → Measure
measure_from place line m = record { term = m.term; line = line; place = place }

abbrev pub assigns_from : (place line : ℕ) → AssignsClause → AssignsClause
assigns_from place line a = record { set = a.set; from = a.from; line = line; place = place }

pub data SpellsItem (types : Names) (room at : ℕ) : List Token → Item → Type 0 where
  requires : {all : List Token} {c : Clause} → SpellsClause types room at (codes "requires") all c → SpellsItem types room at all (requires_item c)
  ensures : {all : List Token} {c : Clause} → SpellsClause types room at (codes "ensures") all c → SpellsItem types room at all (ensures_item c)
  assumes : {all : List Token} {c : Clause} → SpellsClause types room at (codes "assumes") all c → SpellsItem types room at all (assumes_item c)
  assigns : {all : List Token} {a : AssignsClause} → SpellsAssigns types room at all a → SpellsItem types room at all (assigns_item a)
  decreases : {all : List Token} {m : Measure} → SpellsMeasure types room at (codes "decreases") all m → SpellsItem types room at all (decreases_item m)
  -- of loops: "loop" and a clause
  invariant : {line : ℕ} {rest : List Token} {c c' : Clause} → SpellsClause types room at (codes "invariant") rest c → c' ≡ clause_from at line c
      → SpellsItem types room at (name (codes "loop") line ∷ rest) (invariant_item c')
  loop_assigns : {line : ℕ} {rest : List Token} {a a' : AssignsClause} → SpellsAssigns types room at rest a → a' ≡ assigns_from at line a
      → SpellsItem types room at (name (codes "loop") line ∷ rest) (loop_assigns_item a')
  variant : {line : ℕ} {rest : List Token} {m m' : Measure} → SpellsMeasure types room at (codes "variant") rest m → m' ≡ measure_from at line m
      → SpellsItem types room at (name (codes "loop") line ∷ rest) (variant_item m')

pub data SpellsItems (types : Names) (room : ℕ) : (at : ℕ) → List Token → List Item → Type 0 where
  none : {at : ℕ} → SpellsItems types room at [] []
  more : {at : ℕ} {first rest all : List Token} {item : Item} {items : List Item}
      → SpellsItem types room at first item → SpellsItems types room (at + length first) rest items
      → all ≡ first ++ rest → SpellsItems types room at all (item ∷ items)

-- ---- which clauses stand where

-- the clauses of each sort, in order
abbrev pub requires_of : List Item → List Clause
requires_of [] = []
requires_of (requires_item c ∷ items) = c ∷ requires_of items
requires_of (item ∷ items) = requires_of items

abbrev pub ensures_of : List Item → List Clause
ensures_of [] = []
ensures_of (ensures_item c ∷ items) = c ∷ ensures_of items
ensures_of (item ∷ items) = ensures_of items

abbrev pub assumes_of : List Item → List Clause
assumes_of [] = []
assumes_of (assumes_item c ∷ items) = c ∷ assumes_of items
assumes_of (item ∷ items) = assumes_of items

abbrev pub invariants_of : List Item → List Clause
invariants_of [] = []
invariants_of (invariant_item c ∷ items) = c ∷ invariants_of items
invariants_of (item ∷ items) = invariants_of items

abbrev pub assigns_of : List Item → List AssignsClause
assigns_of [] = []
assigns_of (assigns_item a ∷ items) = a ∷ assigns_of items
assigns_of (loop_assigns_item a ∷ items) = a ∷ assigns_of items
assigns_of (item ∷ items) = assigns_of items

abbrev pub decreases_of : List Item → List Measure
decreases_of [] = []
decreases_of (decreases_item m ∷ items) = m ∷ decreases_of items
decreases_of (item ∷ items) = decreases_of items

abbrev pub variants_of : List Item → List Measure
variants_of [] = []
variants_of (variant_item m ∷ items) = m ∷ variants_of items
variants_of (item ∷ items) = variants_of items

abbrev pub is_at_most_one : {X : Type 0} → List X → Bool
is_at_most_one [] = true
is_at_most_one (x ∷ []) = true
is_at_most_one (x ∷ y ∷ xs) = false

-- where there is no clause
abbrev pub no_assigns : AssignsClause
no_assigns = record { set = None; from = []; line = 0; place = 0 }

abbrev pub assigns_or_none : List AssignsClause → AssignsClause
assigns_or_none [] = no_assigns
assigns_or_none (a ∷ rest) = a

abbrev pub first_of : {X : Type 0} → List X → Option X
first_of [] = None
first_of (x ∷ xs) = Some x

abbrev pub is_in_contract : Item → Bool
is_in_contract (requires_item c) = true
is_in_contract (ensures_item c) = true
is_in_contract (assigns_item a) = true
is_in_contract (decreases_item m) = true
is_in_contract item = false

abbrev pub is_in_behavior : Item → Bool
is_in_behavior (requires_item c) = true
is_in_behavior (ensures_item c) = true
is_in_behavior (assumes_item c) = true
is_in_behavior (assigns_item a) = true
is_in_behavior item = false

abbrev pub is_in_loop : Item → Bool
is_in_loop (invariant_item c) = true
is_in_loop (loop_assigns_item a) = true
is_in_loop (variant_item m) = true
is_in_loop item = false

-- Whether these clauses may stand together: only of this place, and at most one `assigns`, one `decreases` and one `variant`.
abbrev pub may_stand : (Item → Bool) → List Item → Bool
may_stand is_in items = list_all is_in items && (is_at_most_one (assigns_of items) && (is_at_most_one (decreases_of items) && is_at_most_one (variants_of items)))

-- ---- contracts (ACSL 2.3)

-- "behavior" NAME ":" {clause}
pub data SpellsBehavior (types : Names) (at : ℕ) : List Token → Behavior → Type 0 where
  behavior : (line line'' : ℕ) {line' : ℕ} {x : List ℕ} {inside all : List Token} {items : List Item} {b : Behavior}
      → is_type types x ≡ false → SpellsItems types DEEPEST (at + 3) inside items → may_stand is_in_behavior items ≡ true
      → all ≡ name (codes "behavior") line ∷ name x line' ∷ punct p.Colon line'' ∷ inside
      → b ≡ record {
        name = x;
        assumes = assumes_of items;
        requires_ = requires_of items;
        assigns = assigns_or_none (assigns_of items);
        ensures_ = ensures_of items;
        line = line';
        place = at;
      }
      → SpellsBehavior types at all b

pub data SpellsBehaviors (types : Names) : (at : ℕ) → List Token → List Behavior → Type 0 where
  none : {at : ℕ} → SpellsBehaviors types at [] []
  more : {at : ℕ} {first rest all : List Token} {b : Behavior} {bs : List Behavior}
      → SpellsBehavior types at first b → SpellsBehaviors types (at + length first) rest bs
      → all ≡ first ++ rest → SpellsBehaviors types at all (b ∷ bs)

-- NAME
pub data SpellsName : List Token → List ℕ → Type 0 where
  name_of : {line : ℕ} {x : List ℕ} → SpellsName (name x line ∷ []) x

-- [NAME {"," NAME}]
pub data SpellsNames : List Token → List (List ℕ) → Type 0 where
  none : SpellsNames [] []
  some : {all : List Token} {xs : List (List ℕ)} → Separated SpellsName all xs → SpellsNames all xs

pub data Ending : Type 0 where
  complete_ending : (names : Behaviors) → Ending
  disjoint_ending : (names : Behaviors) → Ending

abbrev pub behaviors_at : (place line : ℕ) → List (List ℕ) → Behaviors
behaviors_at place line xs = record { names = xs; line = line; place = place }

-- ("complete" | "disjoint") "behaviors" [NAME {"," NAME}] ";" (ACSL 2.3.3)
pub data SpellsEnding (at : ℕ) : List Token → Ending → Type 0 where
  complete : {line : ℕ} (line' line'' : ℕ) {inside all : List Token} {xs : List (List ℕ)}
      → SpellsNames inside xs
      → all ≡ name (codes "complete") line ∷ name (codes "behaviors") line' ∷ (inside ++ punct p.Semicolon line'' ∷ []) → SpellsEnding at all (complete_ending (behaviors_at at line xs))
  disjoint : {line : ℕ} (line' line'' : ℕ) {inside all : List Token} {xs : List (List ℕ)}
      → SpellsNames inside xs
      → all ≡ name (codes "disjoint") line ∷ name (codes "behaviors") line' ∷ (inside ++ punct p.Semicolon line'' ∷ []) → SpellsEnding at all (disjoint_ending (behaviors_at at line xs))

pub data SpellsEndings : (at : ℕ) → List Token → List Ending → Type 0 where
  none : {at : ℕ} → SpellsEndings at [] []
  more : {at : ℕ} {first rest all : List Token} {x : Ending} {xs : List Ending}
      → SpellsEnding at first x → SpellsEndings (at + length first) rest xs
      → all ≡ first ++ rest → SpellsEndings at all (x ∷ xs)

abbrev pub complete_of : List Ending → List Behaviors
complete_of [] = []
complete_of (complete_ending names ∷ rest) = names ∷ complete_of rest
complete_of (disjoint_ending names ∷ rest) = complete_of rest

abbrev pub disjoint_of : List Ending → List Behaviors
disjoint_of [] = []
disjoint_of (complete_ending names ∷ rest) = disjoint_of rest
disjoint_of (disjoint_ending names ∷ rest) = names ∷ disjoint_of rest

abbrev pub contract_of : List Item → List Behavior → List Ending → Contract
contract_of items behaviors endings = record {
  requires_ = requires_of items;
  assigns = assigns_or_none (assigns_of items);
  ensures_ = ensures_of items;
  decreases_ = first_of (decreases_of items);
  behaviors = behaviors;
  complete = complete_of endings;
  disjoint = disjoint_of endings;
}

-- {clause} {behavior} {ending}
pub data SpellsContract (types : Names) (at : ℕ) : List Token → Contract → Type 0 where
  contract : {first second third all : List Token} {items : List Item} {behaviors : List Behavior} {endings : List Ending} {c : Contract}
      → SpellsItems types DEEPEST at first items → may_stand is_in_contract items ≡ true
      → SpellsBehaviors types (at + length first) second behaviors
      → SpellsEndings (at + length first + length second) third endings
      → all ≡ first ++ (second ++ third) → c ≡ contract_of items behaviors endings → SpellsContract types at all c

-- ---- loops (ACSL 2.4.2, 2.5.1)

abbrev pub loop_of : List Item → LoopAnnot
loop_of items = record { invariants = invariants_of items; assigns = assigns_or_none (assigns_of items); variant = first_of (variants_of items) }

-- {"loop" clause}, in any order
pub data SpellsLoop (types : Names) (room at : ℕ) : List Token → LoopAnnot → Type 0 where
  loop : {all : List Token} {items : List Item} {annot : LoopAnnot}
      → SpellsItems types room at all items → may_stand is_in_loop items ≡ true → annot ≡ loop_of items → SpellsLoop types room at all annot

-- ---- assertions (ACSL 2.4.1)

-- "assert" pred ";", with the line of the word
pub data SpellsAssert (types : Names) (room : ℕ) : List Token → (a : r.Pred) (line : ℕ) → Type 0 where
  assert : {line : ℕ} {trails : Bool} (line' : ℕ) {inside all : List Token} {a : r.Pred}
      → SpellsPred types room trails inside a
      → all ≡ name (codes "assert") line ∷ (inside ++ punct p.Semicolon line' ∷ []) → SpellsAssert types room all a line

-- ---- definitions (ACSL 2.6.1)

-- ["(" ltype NAME {"," ltype NAME} ")"]
pub data SpellsLogicParams (types : Names) : List Token → List e.VarDecl → Type 0 where
  none : SpellsLogicParams types [] []
  some : (line line' : ℕ) {inside all : List Token} {xs : List e.VarDecl}
      → Separated (SpellsTyped types) inside xs
      → all ≡ punct p.OpenParen line ∷ (inside ++ punct p.CloseParen line' ∷ []) → SpellsLogicParams types all xs

pub data SpellsLogic (types : Names) : List Token → d.LogicDecl → Type 0 where
  -- "predicate" NAME [params] "=" pred ";"
  predicate : (line line'' line''' : ℕ) {line' : ℕ} {trails : Bool} {x : List ℕ} {params body all : List Token} {xs : List e.VarDecl} {a : r.Pred}
      → is_type types x ≡ false → SpellsLogicParams types params xs → SpellsPred types DEEPEST trails body a
      → all ≡ name (codes "predicate") line ∷ name x line' ∷ (params ++ punct p.Assign line'' ∷ (body ++ punct p.Semicolon line''' ∷ []))
      → SpellsLogic types all (record { name = x; result = None; params = xs; body = d.pred a; line = line' })
  -- "logic" ltype NAME [params] "=" term ";"
  logic : (line line'' line''' : ℕ) {line' : ℕ} {x : List ℕ} {result params body all : List Token} {type : e.CType} {xs : List e.VarDecl} {a : t.Term}
      → SpellsLogicType types result type → is_type types x ≡ false → SpellsLogicParams types params xs → SpellsTerm types anywhere DEEPEST body a
      → all ≡ name (codes "logic") line ∷ (result ++ name x line' ∷ (params ++ punct p.Assign line'' ∷ (body ++ punct p.Semicolon line''' ∷ [])))
      → SpellsLogic types all (record { name = x; result = Some type; params = xs; body = d.term a; line = line' })
