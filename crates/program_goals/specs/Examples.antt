-- The goals of two small functions, worked out by hand: they hold the texts, of which the laws know the meaning alone.
use Rattle.std.specs.Prelude.{◌≡◌, ℕ, zero, suc, true, false, pos, negsuc, List, [], ◌∷◌, ◌++◌, codes, Option, Some, None}
use Rattle.wp_base.specs.declared.kinds.CellKind.TheVariants as cell
use Rattle.wp_base.specs.declared.kinds.Kind.TheVariants as kind
use Rattle.c_kinds.specs.declared.models.Machdep.TheVariants as model
use Rattle.typed_prog.specs.declared.types.CoreType.{CoreType}
use Rattle.typed_prog.specs.declared.operators.Arithmetic.TheVariants as ar
use Rattle.typed_prog.specs.declared.operators.Comparison.{Comparison}
use Rattle.typed_prog.specs.declared.operators.Comparison.TheVariants as cmp
use Rattle.typed_prog.specs.declared.operators.Op.{Op}
use Rattle.typed_prog.specs.declared.operators.Op.TheVariants as op
use Rattle.typed_prog.specs.declared.operators.Path.{Path}
use Rattle.typed_prog.specs.declared.operators.Root.TheVariants as root
use Rattle.typed_prog.specs.declared.operators.Variable.{Variable}
use Rattle.typed_prog.specs.declared.operators.Variable.TheVariants as variables
use Rattle.typed_prog.specs.Types.{of_kind}
use Rattle.typed_prog.specs.Tree as t
use Rattle.acsl_trees.specs.declared.heads.Content.TheVariants as content
use Rattle.acsl_trees.specs.declared.heads.Head.TheVariants as head
use Rattle.acsl_trees.specs.Tree as acsl
use Rattle.qed_terms.specs.declared.head.Head.TheVariants as h
use Rattle.qed_terms.specs.declared.head.TermOp.TheVariants as term
use Rattle.qed_terms.specs.Setting.{Setting}
use Rattle.qed_terms.specs.Tree.{Tree, node, two, num, var, true_tree, false_tree, equal, at_most, less, not_of, and_of, or_of, imp_of}
use Rattle.c_runs.specs.Program as program
use Rattle.c_runs.specs.Program.{Claim, Behavior, Contract, Loop, Function, Facts, Program}
use Rattle.c_runs.specs.Operators.{overflow}
use Rattle.c_runs.specs.Claims as broken
use Rattle.c_runs.specs.Tree.{place, Steps, start, store, call, branch, repeat, around, exit, give, scope, end, then_}
use Rattle.walk_steps.specs.Forms.{Place}
use Rattle.walk_steps.specs.Walk.{Goal}
use Rattle.program_steps.specs.Stops.{undefined_place, broken_place, kept_place}
use Rattle.program_steps.specs.Terms.{Texts}
use Rattle.program_goals.specs.Words.{Written}
use Rattle.program_goals.specs.Programs.{goals_of}

-- ---- the program

-- int g;
-- /*@ requires y < 100; assigns \nothing; ensures 0 <= \result; */ int h(int y);
-- /*@ requires 0 <= x; assigns g; ensures \result == x; */
-- int f(int x) {
--     int i = 0;
--     /*@ loop invariant i <= x; loop assigns i, g; loop variant x - i; */
--     while (i < x) { g = h(i); i = i + 1; }
--     return i;
-- }

abbrev int : CoreType
int = of_kind kind.Int

abbrev scalar : program.Variable
scalar = record { layout = record { count = 1; cells = cell.Of kind.Int ∷ []; writable = true }; is_plain = true; has_value = true }

abbrev path : Variable → Path
path x = record { root = root.Variable x; steps = []; line = 5 }

abbrev read : Variable → t.Value
read x = t.typed (t.apply (op.Read (path x)) t.stop) int 5

abbrev binary : Op → t.Value → t.Value → t.Value
binary o a b = t.typed (t.apply o (t.more a (t.more b t.stop))) int 5

abbrev number : ℕ → t.Value
number n = t.typed (t.constant (pos n)) int 5

abbrev g : Variable
g = variables.Global 0

abbrev x : Variable
x = variables.Local 0

abbrev i : Variable
i = variables.Local 1

abbrev held : Variable → acsl.Tree
held y = acsl.one (head.Read (content.Integer kind.Int) None) (acsl.leaf (head.Variable y))

abbrev spelled : ℕ → acsl.Tree
spelled n = acsl.leaf (head.Number (pos n))

abbrev region : Variable → acsl.Tree
region y = acsl.one (head.Region (content.Integer kind.Int)) (acsl.leaf (head.Variable y))

abbrev claim_at : ℕ → Comparison → acsl.Tree → acsl.Tree → Claim
claim_at line c a b = record { what = acsl.two (head.Compare c) a b; line = line }

abbrev contract : (requires ensures : Claim) → (assigns : List acsl.Tree) → Contract
contract r e as_ = record {
  plain = record { assumes = []; requires = r ∷ []; ensures = e ∷ []; assigns = Some as_ };
  decreases = None;
  behaviors = [];
  together = [];
}

abbrev turns : Loop
turns = record {
  invariants = claim_at 3 cmp.AtMost (held i) (held x) ∷ [];
  assigns = Some (region i ∷ region g ∷ []);
  line = 3;
  variant = Some (record { what = acsl.two (head.Arithmetic ar.Sub) (held x) (held i); line = 3 });
  declared = 2;
}

abbrev turn : Steps
turn =
    then_ (call [] (place [] int 4 (path g) t.stop) 1 4 (t.more (read i) t.stop))
    (then_ (store [] int 4 (path i) (t.more (binary (op.Arithmetic ar.Add) (read i) (number 1)) t.stop)) end)

abbrev body : Steps
body =
    then_ (scope (1 ∷ [])
    (then_ (start [] 1 (number 0))
    (then_ (around (then_ (repeat turns (then_ (branch [] (binary (op.Compare cmp.Less) (read i) (read x)) turn (then_ (exit 0) end)) end)) end))
    (then_ (give [] (Some (read i))) end)))) end

abbrev f : Function Steps
f = record {
  params = 1;
  variables = scalar ∷ scalar ∷ [];
  result = Some (cell.Of kind.Int);
  contract = contract (claim_at 2 cmp.AtMost (spelled 0) (held x)) (claim_at 2 cmp.Equal (acsl.leaf head.Result) (held x)) (region g ∷ []);
  body = body;
  end = 6;
}

abbrev called : Function Steps
called = record {
  params = 1;
  variables = scalar ∷ [];
  result = Some (cell.Of kind.Int);
  contract = contract (claim_at 1 cmp.Less (held x) (spelled 100)) (claim_at 1 cmp.AtMost (spelled 0) (acsl.leaf head.Result)) [];
  body = end;
  end = 1;
}

abbrev functions : ℕ → Option (Function Steps)
functions zero = Some f
functions (suc zero) = Some called
functions (suc (suc n)) = None

abbrev small : Program Steps
small = record {
  facts = record { model = model.X86_64; globals = scalar ∷ []; structs = []; definitions = []; in_cluster = λ m n. false };
  functions = functions;
}

abbrev names : Texts
names = record { binders = λ a. []; called = λ n. None }

abbrev written : Written
written = record {
  temporaries = 0;
  temp_kind = λ n. kind.Int;
  bases = codes "g" ∷ codes "g:i" ∷ codes "x" ∷ codes "x:i" ∷ codes "i" ∷ codes "i:i" ∷ codes "\\result" ∷ codes "%" ∷ [];
}

abbrev plain : Setting
plain = record { long_bits = 64; logic = [] }

-- ---- its goals

abbrev name : List ℕ → Tree
name y = var y

abbrev in_range : Tree → List Tree
in_range u = at_most (num (negsuc 2147483647)) u ∷ at_most u (num (pos 2147483647)) ∷ []

abbrev x_term : Tree
x_term = name (codes "x")

-- at the head
abbrev i_term : Tree
i_term = name (codes "i#1")

abbrev next : Tree
next = node (h.Term term.Add) (two i_term (num (pos 1)))

abbrev less_by : Tree → Tree
less_by u = node (h.Term term.Sub) (two x_term u)

abbrev answer : Tree
answer = name (codes "%#1")

abbrev entered : List Tree
entered = in_range (name (codes "g")) ++ (in_range x_term ++ (at_most (num (pos 0)) x_term ∷ []))

abbrev at_head : List Tree
at_head = entered ++ (at_most (num (pos 0)) x_term ∷ (in_range (name (codes "g#1")) ++ (in_range i_term ++ (at_most i_term x_term ∷ []))))

abbrev in_turn : List Tree
in_turn = at_head ++ (less i_term x_term ∷ [])

abbrev behind_call : List Tree
behind_call = in_turn ++ (less i_term (num (pos 100)) ∷ (in_range answer ++ (at_most (num (pos 0)) answer ∷ [])))

abbrev stays_in : Tree
stays_in = and_of (in_range next)

abbrev goal : (number : ℕ) → Place → List Tree → Tree → Goal
goal n at known claim = record { number = n; place = at; known = known; claim = claim }

abbrev expected : List Goal
expected =
    goal 0 (broken_place broken.invariant 3) entered (at_most (num (pos 0)) x_term)
    ∷ goal 1 (broken_place broken.requires 4) in_turn (less i_term (num (pos 100)))
    ∷ goal 2 (undefined_place overflow 5) behind_call stays_in
    ∷ goal 3 (kept_place 3) (behind_call ++ (stays_in ∷ [])) (at_most next x_term)
    ∷ goal 4 (broken_place broken.variant_positive 3) (behind_call ++ (stays_in ∷ at_most next x_term ∷ [])) (at_most (num (pos 0)) (less_by i_term))
    ∷ goal 5 (broken_place broken.variant_less 3) (behind_call ++ (stays_in ∷ at_most next x_term ∷ at_most (num (pos 0)) (less_by i_term) ∷ [])) (less (less_by next) (less_by i_term))
    ∷ goal 6 (broken_place broken.ensures 2) (at_head ++ (not_of (less i_term x_term) ∷ [])) (equal i_term x_term)
    ∷ []

-- ---- behaviors, and a function that calls itself

-- /*@ decreases n;
--     behavior a: assumes n <= 0; assigns \nothing; ensures \result == 0;
--     behavior b: assumes 0 < n; assigns g;
--     complete behaviors; disjoint behaviors; */
-- int k(int n) {
--     if (0 < n) g = k(n - 1);
--     return 0;
-- }

abbrev behaving : Contract
behaving = record {
  plain = record { assumes = []; requires = []; ensures = []; assigns = None };
  decreases = Some (record { what = held x; line = 1 });
  behaviors =
      record {
        assumes = acsl.two (head.Compare cmp.AtMost) (held x) (spelled 0) ∷ [];
        requires = [];
        ensures = claim_at 2 cmp.Equal (acsl.leaf head.Result) (spelled 0) ∷ [];
        assigns = Some [];
      }
      ∷ record { assumes = acsl.two (head.Compare cmp.Less) (spelled 0) (held x) ∷ []; requires = []; ensures = []; assigns = Some (region g ∷ []) } ∷ [];
  together = record { is_complete = true; numbers = []; line = 4 } ∷ record { is_complete = false; numbers = []; line = 4 } ∷ [];
}

abbrev k : Function Steps
k = record {
  params = 1;
  variables = scalar ∷ [];
  result = Some (cell.Of kind.Int);
  contract = behaving;
  body =
      then_ (branch [] (binary (op.Compare cmp.Less) (number 0) (read x))
      (then_ (call [] (place [] int 6 (path g) t.stop) 0 6 (t.more (binary (op.Arithmetic ar.Sub) (read x) (number 1)) t.stop)) end) end)
      (then_ (give [] (Some (number 0))) end);
  end = 8;
}

abbrev itself : ℕ → Option (Function Steps)
itself zero = Some k
itself (suc n) = None

abbrev recursive : Program Steps
recursive = record {
  facts = record { model = model.X86_64; globals = scalar ∷ []; structs = []; definitions = []; in_cluster = λ m n. true };
  functions = itself;
}

abbrev written_k : Written
written_k = record {
  temporaries = 0;
  temp_kind = λ n. kind.Int;
  bases = codes "g" ∷ codes "g:i" ∷ codes "n" ∷ codes "n:i" ∷ codes "\\result" ∷ codes "%" ∷ [];
}

abbrev n_term : Tree
n_term = name (codes "n")

abbrev given : Tree
given = node (h.Term term.Sub) (two n_term (num (pos 1)))

-- what the behaviors assume, of a number
abbrev first_of : Tree → Tree
first_of u = at_most u (num (pos 0))

abbrev second_of : Tree → Tree
second_of u = less (num (pos 0)) u

-- some clause of the function that is called lies in this one
abbrev lies_in : (first second : Tree) → Tree
lies_in f s = or_of (and_of (first_of given ∷ f ∷ []) ∷ and_of (second_of given ∷ s ∷ []) ∷ [])

abbrev begun : List Tree
begun = in_range (name (codes "g")) ++ in_range n_term

abbrev both_or : List Tree
both_or = or_of (first_of n_term ∷ second_of n_term ∷ []) ∷ []

abbrev in_body : List Tree
in_body = begun ++ (both_or ++ (not_of (and_of (first_of n_term ∷ second_of n_term ∷ [])) ∷ []))

abbrev goes_lower : Tree
goes_lower = and_of (at_most (num (pos 0)) n_term ∷ less given n_term ∷ [])

abbrev all_lie : Tree
all_lie = and_of (imp_of (first_of n_term) (lies_in true_tree false_tree) ∷ imp_of (second_of n_term) (lies_in true_tree true_tree) ∷ [])

abbrev before_call : List Tree
before_call = less (num (pos 0)) n_term ∷ and_of (in_range given) ∷ goes_lower ∷ all_lie ∷ []

abbrev after_call : List Tree
after_call =
    before_call ++ (in_range (name (codes "g#1")) ++ (imp_of (first_of given) (equal (name (codes "g#1")) (name (codes "g"))) ∷ (in_range answer
    ++ (imp_of (first_of given) (equal answer (num (pos 0))) ∷ []))))

abbrev no_leave : Tree
no_leave = imp_of (first_of n_term) false_tree

abbrev joined : Tree
joined =
    or_of (and_of (after_call ++ (no_leave ∷ equal (name (codes "g#2")) answer ∷ []))
    ∷ and_of (not_of (less (num (pos 0)) n_term) ∷ equal (name (codes "g#2")) (name (codes "g")) ∷ []) ∷ [])

abbrev expected_k : List Goal
expected_k =
    goal 0 (broken_place broken.complete 4) begun (or_of (first_of n_term ∷ second_of n_term ∷ []))
    ∷ goal 1 (broken_place broken.disjoint 4) (begun ++ both_or) (not_of (and_of (first_of n_term ∷ second_of n_term ∷ [])))
    ∷ goal 2 (undefined_place overflow 5) (in_body ++ (less (num (pos 0)) n_term ∷ [])) (and_of (in_range given))
    ∷ goal 3 (broken_place broken.decreases 6) (in_body ++ (less (num (pos 0)) n_term ∷ and_of (in_range given) ∷ [])) goes_lower
    ∷ goal 4 (broken_place broken.assigns 6) (in_body ++ (less (num (pos 0)) n_term ∷ and_of (in_range given) ∷ goes_lower ∷ [])) all_lie
    ∷ goal 5 (broken_place broken.assigns 6) (in_body ++ after_call) no_leave
    ∷ goal 6 (broken_place broken.ensures 2) (in_body ++ (joined ∷ [])) (imp_of (first_of n_term) (equal (num (pos 0)) (num (pos 0))))
    ∷ []

pub record ExampleGoals : Type 0 where
  pub turning : goals_of plain small names 0 f written ≡ expected
  pub behaving : goals_of plain recursive names 0 k written_k ≡ expected_k
