-- What the rule on calls keeps, and what fixes the values of calls.
use Rattle.std.specs.Prelude.{◌≡◌, ℕ, true, int_le, if◌then◌else◌, List, slice_get, Some}
use Rattle.qed_terms.specs.declared.head.Head.{Head}
use Rattle.qed_terms.specs.Meaning.{Value, Values, value, meaning}
use Rattle.qed_terms.specs.Setting.{Logic, Setting, are_arguments, argument_at, bound, world_of, is_regular}
use Rattle.qed_terms.specs.Tree.{Tree, Trees, node}
use Rattle.qed_calls.specs.Calls.{call_rule}

-- in each regular setting, what the rule makes of a call means what the call means
abbrev pub CallsKeepMeaning : Type 0
CallsKeepMeaning =
    (s : Setting) (head : Head) (ts : Trees) (w : Tree) → is_regular s ≡ true → call_rule s.logic head ts ≡ Some w
    → (env : Values) → meaning (world_of s) env w ≡ meaning (world_of s) env (node head ts)

-- In a regular setting a function has, over values of its parameters' sorts, the value of its base case where its number is at most the
-- cut, and else that of its step. In both, calls have their values in the setting, so these equations fix the function (ACSL 2.6.3).
abbrev pub CallsAreFixed : Type 0
CallsAreFixed =
    (s : Setting) (place : ℕ) (f : Logic) → is_regular s ≡ true → slice_get s.logic place ≡ Some f → (vs : List Value) → are_arguments f.params vs ≡ true
    → (world_of s).apps f.name vs ≡ value (world_of s) (bound f.params vs) (if int_le (argument_at vs f.number) f.cut then f.base else f.step)
