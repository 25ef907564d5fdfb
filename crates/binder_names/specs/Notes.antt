-- The annotations of a body in the order of the text, as they are spelled and as a run has them (ACSL 2.4): assertions, and those of loops.
use Rattle.std.specs.Prelude.{List, [], ◌∷◌, ◌++◌}
use Rattle.c_syntax.specs.Pred.{Pred}
use Rattle.c_syntax.specs.Contract as spelled
use Rattle.typed_unit.specs.Stmt as s
use Rattle.c_runs.specs.Program as r

pub data Note : Type 0 where
  of_loop : (invariants : List Pred) → Note
  of_assertion : (p : Pred) → Note

abbrev pub preds_of : List spelled.Clause → List Pred
preds_of [] = []
preds_of (c ∷ cs) = c.pred ∷ preds_of cs

-- Statements are typed, and have their annotations as they are spelled.
abbrev mutual
  pub notes_of : s.Stmt → List Note
  notes_of (s.empty line) = []
  notes_of (s.expr line v) = []
  notes_of (s.block line body) = all_notes body
  notes_of (s.locals line vars) = []
  notes_of (s.if_else line test x y) = notes_of x ++ notes_of y
  notes_of (s.loop_of line l turns body) = of_loop (preds_of l.invariants) ∷ notes_of body
  notes_of (s.switch line v body) = all_notes body
  notes_of (s.case_of line z) = []
  notes_of (s.default line) = []
  notes_of (s.break line) = []
  notes_of (s.continue line) = []
  notes_of (s.return_of line v) = []
  notes_of (s.assert line p) = of_assertion p ∷ []

  pub all_notes : s.Stmts → List Note
  all_notes s.stop = []
  all_notes (s.more x xs) = notes_of x ++ all_notes xs

-- ---- as a run has them

pub data Claimed : Type 0 where
  at_loop : (invariants : List r.Claim) → Claimed
  at_assertion : (c : r.Claim) → Claimed

abbrev mutual
  pub claimed_in : r.Stmt → List Claimed
  claimed_in (r.evaluate e) = []
  claimed_in (r.block xs ss) = all_claimed ss
  claimed_in (r.initial x l e) = []
  claimed_in (r.choose e a b) = claimed_in a ++ claimed_in b
  claimed_in (r.loop l before body step behind) = at_loop l.invariants ∷ claimed_in body
  claimed_in (r.switch e ss) = all_claimed ss
  claimed_in (r.case_of z) = []
  claimed_in r.default = []
  claimed_in r.break = []
  claimed_in r.continue = []
  claimed_in (r.return_of e) = []
  claimed_in (r.assert c) = at_assertion c ∷ []

  pub all_claimed : r.Stmts → List Claimed
  all_claimed r.stop = []
  all_claimed (r.more a ss) = claimed_in a ++ all_claimed ss
