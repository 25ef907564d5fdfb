-- Contracts and the annotations of loops as plain values (ACSL 2.3, 2.4.2, 2.5). Each clause has the line of its keyword
-- and the place of its first token among those of the text.
use Rattle.std.specs.Prelude.{ℕ, List, Option}
use Rattle.c_syntax.specs.declared.annot.Names.{Names}
use Rattle.c_syntax.specs.Term.{Term}
use Rattle.c_syntax.specs.Pred.{Pred}

pub record Clause : Type 0 where
  pub pred : Pred
  pub line : ℕ
  pub place : ℕ

-- of `decreases`, and of `loop variant`
pub record Measure : Type 0 where
  pub term : Term
  pub line : ℕ
  pub place : ℕ

-- no set: no clause; the lines of the parts with `\from`
pub record AssignsClause : Type 0 where
  pub set : Option (List Term)
  pub from : List ℕ
  pub line : ℕ
  pub place : ℕ

pub record Behavior : Type 0 where
  pub name : List ℕ
  pub assumes : List Clause
  pub requires_ : List Clause
  pub assigns : AssignsClause
  pub ensures_ : List Clause
  pub line : ℕ
  pub place : ℕ

pub record Contract : Type 0 where
  pub requires_ : List Clause
  pub assigns : AssignsClause
  pub ensures_ : List Clause
  pub decreases_ : Option Measure
  pub behaviors : List Behavior
  pub complete : List Names
  pub disjoint : List Names

pub record LoopAnnot : Type 0 where
  pub invariants : List Clause
  pub assigns : AssignsClause
  pub variant : Option Measure
