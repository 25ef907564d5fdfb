-- What variables hold, in the words of the code.
use Rattle.std.proofs.Common.{◌≡◌, ◌<◌, ◌≤◌, ℕ, zero, suc, ◌*◌, Bool, true, false, pos, List, [], ◌∷◌, map, length, get_or, slice_get, refl, sym, ap, ◌∙◌, arith}
use Rattle.std.specs.Prelude.{Option, Some, None, if◌then◌else◌}
use Rattle.std.specs.Option.{option_map, is_some}
use Rattle.std.proofs.lemmas.Bool.{false≢true}
use Rattle.std.proofs.lemmas.Option.{slice_get-map}
use Rattle.wp_base.specs.declared.kinds.Kind.{Kind}
use Rattle.wp_base.specs.declared.kinds.Kind.TheVariants as kind
use Rattle.wp_base.specs.declared.kinds.CellKind.{CellKind}
use Rattle.wp_base.specs.declared.kinds.CellKind.TheVariants as cell
use Rattle.qed_terms.specs.declared.term.Term.{Term}
use Rattle.qed_terms.specs.Tree.{Tree, node, num, head_of}
use Rattle.qed_terms.specs.View.{term_tree}
use Rattle.plain_states.specs.Slots.{double}
use Rattle.plain_states.specs.Scopes.{kind_in, kind_of}
use Rattle.c_runs.specs.Program as program
use Rattle.plain_states.proofs.Lists.{double_is}
use Rattle.core_trees.specs.declared.variables.FunctionVariable.{FunctionVariable}
use Rattle.core_trees.specs.View.{view_variable, view_variables}
use Rattle.walk_steps.specs.State.{at_or}
use Rattle.program_steps.specs.Leaves.{as_integer, is_integer_head}
use Rattle.program_steps.specs.Terms.{held_in}
use Rattle.acsl_encode.specs.Readings.{whole, any_integer, absent}
use Rattle.annotation_words.specs.Seen.{slot_term, of_kind, of_local, argument, is_known}
use Rattle.annotation_words.specs.View.{slot_with}

-- ---- slots

integer_by : (t : Tree) → as_integer t ≡ (if is_integer_head (head_of t) then t else num (pos 0))
integer_by (node head ts) = refl

pub integer_kept : (t : Tree) (b : Bool) → b ≡ is_integer_head (head_of t) → b ≡ true → t ≡ as_integer t
integer_kept t b e h = sym (integer_by t ∙ ap (λ c. if c then t else num (pos 0)) (sym e ∙ h))

pub integer_lost : (t : Tree) (b : Bool) → b ≡ is_integer_head (head_of t) → b ≡ false → num (pos 0) ≡ as_integer t
integer_lost t b e h = sym (integer_by t ∙ ap (λ c. if c then t else num (pos 0)) (sym e ∙ h))

at_some : (xs : List Term) (i : ℕ) (x : Term) → i < length xs → x ≡ get_or xs i x → term_tree x ≡ at_or (num (pos 0)) (map term_tree xs) i
at_some [] i x h e = absurd (omega (arith, h))
at_some (y ∷ ys) zero x h e = ap term_tree e
at_some (y ∷ ys) (suc i) x h e = at_some ys i x (omega (arith, h)) e

at_none : (xs : List Term) (i : ℕ) → length xs ≤ i → num (pos 0) ≡ at_or (num (pos 0)) (map term_tree xs) i
at_none [] i h = refl
at_none (y ∷ ys) zero h = absurd (omega (arith, h))
at_none (y ∷ ys) (suc i) h = at_none ys i (omega (arith, h))

pub slot_found : (xs : List Term) (i : ℕ) (x t : Term) → i < length xs → x ≡ get_or xs i x → term_tree t ≡ as_integer (term_tree x)
    → term_tree t ≡ slot_term (map term_tree xs) i
slot_found xs i x t h e made = made ∙ ap as_integer (at_some xs i x h e)

pub slot_missing : (xs : List Term) (i : ℕ) → length xs ≤ i → num (pos 0) ≡ slot_term (map term_tree xs) i
slot_missing xs i h = ap as_integer (at_none xs i h)

pub doubled : (n : ℕ) → n * 2 ≡ double n
doubled n = let h = double_is n in omega (arith, h)

-- ---- variables

pub first_kind : (ks : List CellKind) (c : CellKind) (k : Kind) → (length ks ≡ 0 → ⊥) → c ≡ get_or ks 0 c → k ≡ kind_in (c ∷ []) → k ≡ kind_in ks
first_kind [] c k some is e = absurd (some refl)
first_kind (cell.Of l ∷ ks) c k some is e = e ∙ ap (λ d. kind_in (d ∷ [])) is
first_kind (cell.Ptr ∷ ks) c k some is e = e ∙ ap (λ d. kind_in (d ∷ [])) is

pub no_cell : (ks : List CellKind) → length ks ≡ 0 → kind.Int ≡ kind_in ks
no_cell [] none = refl
no_cell (c ∷ ks) none = absurd (omega (arith, none))

seen_variable : (vs : List FunctionVariable) (n : ℕ) → slice_get (view_variables vs) n ≡ option_map view_variable (slice_get vs n)
seen_variable vs n = slice_get-map view_variable vs n

module _ (vs : List FunctionVariable) (n : ℕ) where
  pub file_missing : (t : Tree) → None ≡ slice_get vs n → absent ≡ of_kind (slice_get (view_variables vs) n) t
  file_missing t e = ap (λ o. of_kind (option_map view_variable o) t) e ∙ ap (λ o. of_kind o t) (sym (seen_variable vs n))

  pub file_found : (v : FunctionVariable) (k : Kind) (t u : Tree) → Some v ≡ slice_get vs n → k ≡ kind_of (view_variable v) → u ≡ t
      → whole k u ≡ of_kind (slice_get (view_variables vs) n) t
  file_found v k t u e of is =
      (λ i. whole (of i) (is i)) ∙ ap (λ o. of_kind (option_map view_variable o) t) e ∙ ap (λ o. of_kind o t) (sym (seen_variable vs n))

  pub local_missing : (t : Tree) → None ≡ slice_get vs n → absent ≡ of_local (slice_get (view_variables vs) n) t
  local_missing t e = ap (λ o. of_local (option_map view_variable o) t) e ∙ ap (λ o. of_local o t) (sym (seen_variable vs n))

  pub local_found : (v : FunctionVariable) (k : Option Kind) (t u : Tree) → Some v ≡ slice_get vs n
      → ((x : Tree) → slot_with k x ≡ held_in (view_variable v) x) → u ≡ t → slot_with k u ≡ of_local (slice_get (view_variables vs) n) t
  local_found v k t u e of is =
      ap (slot_with k) is ∙ of t ∙ ap (λ o. of_local (option_map view_variable o) t) e ∙ ap (λ o. of_local o t) (sym (seen_variable vs n))

  module _ (ts : List Term) where
    not_given : None ≡ slice_get ts n → None ≡ slice_get (map term_tree ts) n
    not_given e = ap (option_map term_tree) e ∙ sym (slice_get-map term_tree ts n)

    argument_at : (t : Term) → Some t ≡ slice_get ts n → Some (term_tree t) ≡ slice_get (map term_tree ts) n
    argument_at t e = ap (option_map term_tree) e ∙ sym (slice_get-map term_tree ts n)

    pub argument_missing : None ≡ slice_get ts n → absent ≡ argument (slice_get (view_variables vs) n) (slice_get (map term_tree ts) n)
    argument_missing e = ap (argument (slice_get (view_variables vs) n)) (not_given e)

    pub argument_unknown : (t : Term) → Some t ≡ slice_get ts n → None ≡ slice_get vs n
        → absent ≡ argument (slice_get (view_variables vs) n) (slice_get (map term_tree ts) n)
    argument_unknown t e none = file_missing (term_tree t) none ∙ ap (argument (slice_get (view_variables vs) n)) (argument_at t e)

    pub argument_found : (t : Term) (v : FunctionVariable) (k : Kind) (u : Term) → Some t ≡ slice_get ts n → Some v ≡ slice_get vs n
        → k ≡ kind_of (view_variable v) → u ≡ t → whole k (term_tree u) ≡ argument (slice_get (view_variables vs) n) (slice_get (map term_tree ts) n)
    argument_found t v k u e is of same =
        file_found v k (term_tree t) (term_tree u) is of (ap term_tree same) ∙ ap (argument (slice_get (view_variables vs) n)) (argument_at t e)

pub ruleset variable_laws = (file_missing, file_found, local_missing, local_found, argument_missing, argument_unknown, argument_found)

-- ---- which variables there are

known_of_kind : (o : Option program.Variable) (t : Tree) → is_known (of_kind o t) ≡ is_some o
known_of_kind (Some v) t = refl
known_of_kind None t = refl

known_held : (v : program.Variable) (t : Tree) → is_known (held_in v t) ≡ true
known_held v t = by v.has_value where
  by : (b : Bool) → is_known (if b then whole (kind_of v) t else any_integer t) ≡ true
  by true = refl
  by false = refl

known_of_local : (o : Option program.Variable) (t : Tree) → is_known (of_local o t) ≡ is_some o
known_of_local (Some v) t = known_held v t
known_of_local None t = refl

same_there : {X Y : Type 0} (f : X → Y) (o : Option X) → is_some (option_map f o) ≡ is_some o
same_there f (Some x) = refl
same_there f None = refl

there : {X Y : Type 0} (f : X → Y) (xs : List X) (n : ℕ) → is_some (slice_get (map f xs) n) ≡ is_some (slice_get xs n)
there f xs n = ap is_some (slice_get-map f xs n) ∙ same_there f (slice_get xs n)

pub file_known : (vs : List FunctionVariable) (n : ℕ) (t : Tree) (b : Bool) → b ≡ is_some (slice_get vs n)
    → is_known (of_kind (slice_get (view_variables vs) n) t) ≡ b
file_known vs n t b e = known_of_kind (slice_get (view_variables vs) n) t ∙ there view_variable vs n ∙ sym e

pub local_known : (vs : List FunctionVariable) (n : ℕ) (t : Tree) (b : Bool) → b ≡ is_some (slice_get vs n)
    → is_known (of_local (slice_get (view_variables vs) n) t) ≡ b
local_known vs n t b e = known_of_local (slice_get (view_variables vs) n) t ∙ there view_variable vs n ∙ sym e

known_given : (v : Option program.Variable) (o : Option Tree) → is_some o ≡ true → is_known (argument v o) ≡ is_some v
known_given v (Some t) e = known_of_kind v t
known_given v None e = absurd (false≢true e)

known_not_given : (v : Option program.Variable) (o : Option Tree) → is_some o ≡ false → is_known (argument v o) ≡ false
known_not_given v (Some t) e = absurd (false≢true (sym e))
known_not_given v None e = refl

pub argument_known : (vs : List FunctionVariable) (ts : List Term) (n : ℕ) (a b : Bool) → a ≡ is_some (slice_get ts n) → a ≡ true
    → b ≡ is_some (slice_get vs n) → is_known (argument (slice_get (view_variables vs) n) (slice_get (map term_tree ts) n)) ≡ b
argument_known vs ts n a b e h is =
    known_given (slice_get (view_variables vs) n) (slice_get (map term_tree ts) n) (there term_tree ts n ∙ sym e ∙ h) ∙ there view_variable vs n ∙ sym is

pub argument_not_known : (vs : List FunctionVariable) (ts : List Term) (n : ℕ) (a : Bool) → a ≡ is_some (slice_get ts n) → a ≡ false
    → is_known (argument (slice_get (view_variables vs) n) (slice_get (map term_tree ts) n)) ≡ false
argument_not_known vs ts n a e h =
    known_not_given (slice_get (view_variables vs) n) (slice_get (map term_tree ts) n) (there term_tree ts n ∙ sym e ∙ h)

pub ruleset known_laws = (file_known, local_known, argument_known, argument_not_known)
