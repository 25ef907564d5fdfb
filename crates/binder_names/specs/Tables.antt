-- The table of a file's annotations with their binders, and the law that all of them are names of C. Where two annotations are the same tree, at
-- the same places, the first one counts.
use Rattle.std.specs.Prelude.{◌≡◌, ℕ, Bool, true, if◌then◌else◌, List, [], ◌∷◌, ◌++◌, Option, Some, None}
use Rattle.std.specs.List.{list_all}
use Rattle.c_syntax.specs.Pred.{Pred}
use Rattle.c_syntax.specs.Contract as spelled
use Rattle.typed_unit.specs.Stmt as s
use Rattle.typed_unit.specs.Unit as u
use Rattle.acsl_trees.specs.Tree.{Tree}
use Rattle.c_runs.specs.Program.{Claim, Behavior, Contract, Function, Stmts}
use Rattle.acsl_encode.specs.Binders.{Spelled}
use Rattle.plain_annotations.specs.Names.{are_c_names}
use Rattle.binder_names.specs.Binders.{Known, binders_of, known_behind}
use Rattle.binder_names.specs.Trees.{same_tree}
use Rattle.binder_names.specs.Notes.{Note, of_loop, of_assertion, preds_of, notes_of, Claimed, at_loop, at_assertion, all_claimed}

-- an annotation as a tree, with its binders
pub record Named : Type 0 where
  pub tree : Tree
  pub binders : Spelled

module _ (known : List Known) where
  -- ---- side by side, in the order of the text

  abbrev pub named_as : Pred → Tree → Named
  named_as a t = record { tree = t; binders = binders_of known a }

  abbrev pub claims_named : List Pred → List Claim → List Named
  claims_named (a ∷ ps) (c ∷ cs) = named_as a c.what ∷ claims_named ps cs
  claims_named ps cs = []

  abbrev pub trees_named : List Pred → List Tree → List Named
  trees_named (a ∷ ps) (t ∷ ts) = named_as a t ∷ trees_named ps ts
  trees_named ps ts = []

  abbrev pub behavior_named : spelled.Behavior → Behavior → List Named
  behavior_named b c =
      trees_named (preds_of b.assumes) c.assumes ++ (claims_named (preds_of b.requires_) c.requires ++ claims_named (preds_of b.ensures_) c.ensures)

  abbrev pub behaviors_named : List spelled.Behavior → List Behavior → List Named
  behaviors_named (b ∷ bs) (c ∷ cs) = behavior_named b c ++ behaviors_named bs cs
  behaviors_named bs cs = []

  abbrev pub contract_named : spelled.Contract → Contract → List Named
  contract_named k c =
      claims_named (preds_of k.requires_) c.plain.requires ++ (claims_named (preds_of k.ensures_) c.plain.ensures ++ behaviors_named k.behaviors c.behaviors)

  abbrev pub note_named : Note → Claimed → List Named
  note_named (of_loop ps) (at_loop cs) = claims_named ps cs
  note_named (of_assertion a) (at_assertion c) = named_as a c.what ∷ []
  note_named (of_loop ps) (at_assertion c) = []
  note_named (of_assertion a) (at_loop cs) = []

  abbrev pub notes_named : List Note → List Claimed → List Named
  notes_named (n ∷ ns) (d ∷ ds) = note_named n d ++ notes_named ns ds
  notes_named ns ds = []

  -- ---- functions

  abbrev pub contract_of : spelled.Contract → Option (Function Stmts) → List Named
  contract_of k (Some f) = contract_named k f.contract
  contract_of k None = []

  abbrev pub body_of : s.Stmt → Option (Function Stmts) → List Named
  body_of x (Some f) = notes_named (notes_of x) (all_claimed f.body)
  body_of x None = []

  -- functions by their numbers
  module _ (functions : (number : ℕ) → Option (Function Stmts)) where
    abbrev pub decl_named : u.Annotated → List Named
    decl_named (u.of_function n params k has_body) = contract_of k (functions n)
    decl_named (u.of_logic l) = []

    -- each declaration's contract beside that of the function, which is spelled at one of them
    abbrev pub decls_named : List u.Part → List Named
    decls_named [] = []
    decls_named (x ∷ xs) = decl_named x.decl ++ decls_named xs

    abbrev pub bodies_named : List u.Body → List Named
    bodies_named [] = []
    bodies_named (b ∷ bs) = body_of b.stmt (functions b.function) ++ bodies_named bs

-- ---- files

-- of a typed file, and its functions as they run
abbrev pub table_of : u.Typed → (functions : (number : ℕ) → Option (Function Stmts)) → List Named
table_of t fs = decls_named (known_behind [] t.parts) fs t.parts ++ bodies_named (known_behind [] t.parts) fs t.bodies

-- ---- look-up

abbrev pub named_in : List Named → Tree → Spelled
named_in [] a = []
named_in (x ∷ xs) a = if same_tree x.tree a then x.binders else named_in xs a

-- ---- the law

-- all binders have names of C
abbrev pub has_names : Named → Bool
has_names x = are_c_names x.binders

abbrev pub is_named_table : List Named → Bool
is_named_table xs = list_all has_names xs

-- Then each annotation is given names of C.
abbrev pub NamesFit : Type 0
NamesFit = (xs : List Named) → is_named_table xs ≡ true → (a : Tree) → are_c_names (named_in xs a) ≡ true
