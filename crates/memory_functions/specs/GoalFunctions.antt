-- A function with memory as a word: what behaviors say of each other is asked at its entry, then its parameters' blocks are made, its body is run, and its
-- promises are asked where it returns.
use Rattle.std.specs.Prelude.{◌≡◌, ◌<◌, ℕ, zero, suc, nat_lt, Bool, true, false, not, ◌&&◌, ◌||◌, if◌then◌else◌, pos, List, [], ◌∷◌, ◌++◌, map, length, Option, Some, None, slice_get}
use Rattle.wp_base.specs.declared.kinds.CellKind.{CellKind}
use Rattle.typed_prog.specs.declared.operators.Variable.TheVariants as variables
use Rattle.acsl_trees.specs.Tree as acsl
use Rattle.acsl_encode.specs.Encode.{all_of}
use Rattle.qed_terms.specs.Meaning as sense
use Rattle.qed_terms.specs.Tree.{Tree, num, false_tree, not_of, and_of}
use Rattle.c_runs.specs.Program.{Variable, Claim, Behavior, Together, Function, Facts}
use Rattle.c_runs.specs.Operators.{noreturn}
use Rattle.c_runs.specs.Claims as broken
use Rattle.c_runs.specs.Claims.{in_order}
use Rattle.c_runs.specs.Tree.{Steps}
use Rattle.program_steps.specs.Stops.{undefined_place, broken_place}
use Rattle.program_steps.specs.Temporaries.{no_temporaries}
use Rattle.value_terms.specs.Readings.{as_pointer}
use Rattle.memory_steps.specs.Forms.{Check}
use Rattle.memory_steps.specs.Step.{Step, skip, halt, seq, ask, block, scope, remember}
use Rattle.memory_words.specs.Places.{value, offset}
use Rattle.memory_words.specs.Shapes.{FileCells, Shape, sizes, kind_of}
use Rattle.memory_words.specs.Readings.{Texts, Standpoint, InScope, leaf, term_of_kind, entry_reading, return_reading}
use Rattle.memory_words.specs.Points.{Open, Force, of_function, Point}
use Rattle.memory_words.specs.Regions.{any_of}
use Rattle.memory_words.specs.Sets.{claim_tree, assumed_tree, under}
use Rattle.memory_words.specs.Words.{Others, check, ask_one, store_cell, block_opened, scope_ends, slots_of, has_home, open_scope, steps}

abbrev pub is_param : (params x : ℕ) → Bool
is_param n x = nat_lt x n

-- the numbers of the first variables
abbrev pub numbers_from : (first count : ℕ) → List ℕ
numbers_from n zero = []
numbers_from n (suc k) = n ∷ numbers_from (suc n) k

abbrev pub none_in : InScope
none_in x = false

-- each two of them aren't true at once
abbrev pub not_both : Tree → List Tree → List Tree
not_both f [] = []
not_both f (g ∷ gs) = not_of (and_of (f ∷ g ∷ [])) ∷ not_both f gs

abbrev pub no_two : List Tree → List Tree
no_two [] = []
no_two (f ∷ fs) = not_both f fs ++ no_two fs

module _ (m : sense.World) (p : Facts) (s : Shape) (cells : FileCells) (texts : Texts) (params : ℕ) where
  -- ---- annotations; the function's entry is the state that is remembered

  abbrev pub behavior_tree : Behavior → Tree
  behavior_tree b = assumed_tree (entry_reading p s cells texts 1 (is_param params)) b.assumes

  abbrev pub named_tree : Option Behavior → Tree
  named_tree (Some b) = behavior_tree b
  named_tree None = false_tree

  abbrev pub named_trees : List Behavior → List ℕ → List Tree
  named_trees bs [] = map behavior_tree bs
  named_trees bs (n ∷ ns) = map (λ i. named_tree (slice_get bs i)) (n ∷ ns)

  abbrev pub together_check : List Behavior → Together → Check
  together_check bs t =
      if t.is_complete then check m (sizes p s) (any_of (named_trees bs t.numbers)) (broken_place broken.complete t.line)
      else check m (sizes p s) (all_of (no_two (named_trees bs t.numbers))) (broken_place broken.disjoint t.line)

  abbrev pub ensure_check : (is_plain : Bool) → Behavior → Claim → Check
  ensure_check plain b c =
      check m (sizes p s) (under plain (behavior_tree b) (claim_tree (return_reading p s cells texts 1 (is_param params)) c.what)) (broken_place broken.ensures c.line)

  abbrev pub ensure_checks : (is_plain : Bool) → Behavior → List Check
  ensure_checks plain b = map (ensure_check plain b) b.ensures

  abbrev pub all_ensured : List Behavior → List Check
  all_ensured [] = []
  all_ensured (b ∷ bs) = ensure_checks false b ++ all_ensured bs

  -- ---- parameters with blocks: each is made with its value at entry

  abbrev pub param_made : (number : ℕ) → Option Variable → Step
  param_made x None = skip
  param_made x (Some v) =
      if v.is_plain then skip
      else seq (block_opened m p s cells x v)
      (store_cell m (sizes p s) (kind_of v) (λ l. as_pointer (leaf p s cells l (value (variables.Local x))) (num (pos 0)))
      (term_of_kind (kind_of v) (leaf p s cells 1 (value (variables.Local x))) (leaf p s cells 1 (offset (variables.Local x)))))

  abbrev pub params_made : List ℕ → Step
  params_made [] = skip
  params_made (x ∷ xs) = seq (param_made x (slice_get s.variables x)) (params_made xs)

  abbrev pub all_params : List ℕ
  all_params = numbers_from 0 params

  -- the parameters' blocks, which are made where the function's entry is the last state that is remembered
  abbrev pub param_scope : Open
  param_scope = open_scope s cells all_params

  abbrev pub param_scopes : (has_blocks : Bool) → List Open
  param_scopes true = param_scope ∷ []
  param_scopes false = []

  -- ---- the body

  abbrev pub body_point : (number : ℕ) → Point
  body_point n = record {
    self = n;
    stands = record { here = 0; in_scope = is_param params; entry = 1; is_param = is_param params; loop_entry = None; loop_scope = none_in };
    scopes = param_scopes (has_home s.variables all_params);
    outs = [];
    force = of_function;
  }

  -- the end of a body that gives a result isn't come to
  abbrev pub ending : Option CellKind → (line : ℕ) → Step
  ending None l = skip
  ending (Some k) l = seq (ask_one m (sizes p s) false_tree (undefined_place noreturn l)) halt

  abbrev pub in_params : (has_blocks : Bool) → Step → Step
  in_params true inner = scope (slots_of m (sizes p s) all_params) (seq (params_made all_params) (seq inner (scope_ends m p s cells param_scope)))
  in_params false inner = inner

  abbrev pub function_word : Others → (number : ℕ) → Function Steps → Step
  function_word others n f =
      remember
      (seq (ask (map (together_check f.contract.behaviors) (in_order f.contract.together)))
      (seq (block (in_params (has_home s.variables all_params)
      (seq (steps m p s cells texts f.contract others (body_point n) f.body no_temporaries) (ending f.result f.end))))
      (ask (ensure_checks true f.contract.plain ++ all_ensured f.contract.behaviors))))
