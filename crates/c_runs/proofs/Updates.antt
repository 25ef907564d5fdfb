-- An update is an assignment of the new value, but for the value that it gives.
use Rattle.std.proofs.Common.{◌≡◌, ℕ, false, List, [], ◌∷◌, refl, sym, ap, ◌∙◌}
use Rattle.typed_prog.specs.declared.types.CoreType.{CoreType}
use Rattle.typed_prog.specs.declared.operators.Path.{Path}
use Rattle.typed_prog.specs.declared.operators.Change.{Change}
use Rattle.typed_prog.specs.declared.operators.Change.TheVariants as change
use Rattle.typed_prog.specs.declared.operators.Op.TheVariants as op
use Rattle.typed_prog.specs.Types.{of_kind}
use Rattle.typed_prog.specs.Tree as tree
use Rattle.c_runs.specs.Told.{Value, first}
use Rattle.c_runs.specs.Program.{Facts, Variable}
use Rattle.c_runs.specs.States.{World, Here}
use Rattle.c_runs.specs.Operators.{Val, is, wrong, then_val}
use Rattle.c_runs.specs.Values.{applied, converted, Temps, Vals, are, wrongs, push_val, with_vals, value, values}
use Rattle.c_runs.specs.Calls.{Eval, gives, stops, Act, nought}
use Rattle.c_runs.specs.Effects.{changed, changed_value, Written, wrote, unwritten, write, wrote_act, assign_act}
use Rattle.c_runs.specs.Run.{no_temps, first_operand, other_operands, old_value, updating, with_act, with_acts, giving, postfix_act}

-- ---- the new value

-- a conversion is always defined
converts : (p : Facts) (xs : List Variable) (w : World) (type : CoreType) (l : ℕ) (vs : List Value) → applied p xs w type l op.Convert vs ≡ is (converted p type (first vs))
unfolding applied
converts p xs w type l vs = refl

one_val : (x : Val) (go : List Value → Val) → with_vals (push_val x (are [])) go ≡ then_val x (λ v. go (v ∷ []))
one_val (is v) go = refl
one_val (wrong u l) go = refl

two_vals : (x y : Val) (go : List Value → Val) → with_vals (push_val x (push_val y (are []))) go ≡ then_val x (λ v. then_val y (λ u. go (v ∷ u ∷ [])))
two_vals (is v) (is u) go = refl
two_vals (is v) (wrong u l) go = refl
two_vals (wrong u l) (is v) go = refl
two_vals (wrong u l) (wrong u' l') go = refl

-- the first operand is converted, and so is the result
integer_changed : (x y : Val) (inside both outside : List Value → Val) (c : List Value → Value) → ((vs : List Value) → inside vs ≡ is (c vs))
    → with_vals (push_val (with_vals (push_val (with_vals (push_val x (are [])) inside) (push_val y (are []))) both) (are [])) outside
    ≡ then_val x (λ v. then_val y (λ u. then_val (then_val (inside (v ∷ [])) (λ x. both (x ∷ u ∷ []))) (λ x. outside (x ∷ []))))
integer_changed (wrong u l) (is v) inside both outside c h = refl
integer_changed (wrong u l) (wrong u' l') inside both outside c h = refl
integer_changed (is v) (wrong u l) inside both outside c h = rw (h (v ∷ [])) refl
integer_changed (is v) (is u) inside both outside c h = rw (h (v ∷ [])) (one_val (both (c (v ∷ []) ∷ u ∷ [])) outside)

pub value_changed : (p : Facts) (xs : List Variable) (tm : Temps) (d : Value) (w : World) (by : Change) (type : CoreType) (l : ℕ) (a b : tree.Value)
    → value p xs tm d w (changed by type l a b) ≡ then_val (value p xs tm d w a) (λ v. then_val (value p xs tm d w b) (λ u. changed_value p xs w by type l v u))
value_changed p xs tm d w (change.Integer o k) type l a b =
    integer_changed (value p xs tm d w a) (value p xs tm d w b) (applied p xs w (of_kind k) l op.Convert) (applied p xs w (of_kind k) l (op.Arithmetic o)) (applied p xs w type l op.Convert)
    (λ vs. converted p (of_kind k) (first vs)) (converts p xs w (of_kind k) l)
value_changed p xs tm d w (change.Pointer minus size) type l a b =
    two_vals (value p xs tm d w a) (value p xs tm d w b) (applied p xs w type l (op.Offset minus false size false))

-- ---- the assignment

pub giving_giving : (u v : Value) (e : Eval) → giving u (giving v e) ≡ giving u e
giving_giving u v (gives z w) = refl
giving_giving u v (stops s) = refl

module _ (p : Facts) (xs : List Variable) (here : Here) (type : CoreType) (l : ℕ) (path : Path) where
  abbrev assign : Vals → Act
  assign = assign_act p xs here l type path

  -- the value v is given, and z stored
  abbrev stores : Value → Vals → World → Value → Eval
  stores v others w z = with_acts others (λ vs. giving v (wrote_act z (write p xs here l type path w vs z)))

  giving_stored : (v : Value) (x : Val) (others : Vals) (w : World) → giving v (assign (push_val x others) w) ≡ with_act x (stores v others w)
  giving_stored v (is z) (are vs) w = refl
  giving_stored v (is z) (wrongs u k) w = refl
  giving_stored v (wrong u k) others w = refl

  -- what an assignment gives is what is stored
  pub assign_gives : (z : Value) (others : Vals) (w : World) → giving z (assign (push_val (is z) others) w) ≡ assign (push_val (is z) others) w
  assign_gives z (wrongs u k) w = refl
  assign_gives z (are vs) w = by_write (write p xs here l type path w vs z)
    where
      by_write : (r : Written) → giving z (wrote_act z r) ≡ wrote_act z r
      by_write (wrote w) = refl
      by_write (unwritten s) = refl

  -- with this other operand
  pub giving_changed : (v : Value) (y : Val) (go : Value → Val) (others : Vals) (w : World)
      → giving v (assign (push_val (then_val y go) others) w) ≡ with_act y (λ u. with_act (go u) (stores v others w))
  giving_changed v (is u) go others w = giving_stored v (go u) others w
  giving_changed v (wrong u k) go others w = refl

  module _ (calls : (function line : ℕ) → Vals → Act) (by : Change) (es : tree.Values) (d : Value) (w : World) where
    abbrev old : Val
    old = value p xs no_temps d w (old_value path type l (other_operands es))

    -- the value of a postfix update is the old one
    pub postfix_gives : (v : Value) → old ≡ is v
        → giving v (assign (push_val (then_val (value p xs no_temps d w (first_operand es)) (λ u. changed_value p xs w by type l v u)) (values p xs no_temps d w (other_operands es))) w)
        ≡ postfix_act p xs here calls type l path by es d w
    postfix_gives v h = rw h (giving_changed v (value p xs no_temps d w (first_operand es)) (λ u. changed_value p xs w by type l v u) (values p xs no_temps d w (other_operands es)) w)

    -- without a value it stores as an assignment does
    pub postfix_stores : giving nought (assign (values p xs no_temps d w (updating path by type l es)) w) ≡ giving nought (postfix_act p xs here calls type l path by es d w)
    postfix_stores = by_old old refl
      where
        new_value : (x : Val) → old ≡ x → value p xs no_temps d w (changed by type l (old_value path type l (other_operands es)) (first_operand es))
            ≡ then_val x (λ v. then_val (value p xs no_temps d w (first_operand es)) (λ u. changed_value p xs w by type l v u))
        new_value x h = value_changed p xs no_temps d w by type l (old_value path type l (other_operands es)) (first_operand es)
            ∙ ap (λ x. then_val x (λ v. then_val (value p xs no_temps d w (first_operand es)) (λ u. changed_value p xs w by type l v u))) h

        by_old : (x : Val) → old ≡ x → giving nought (assign (values p xs no_temps d w (updating path by type l es)) w) ≡ giving nought (postfix_act p xs here calls type l path by es d w)
        by_old (is v) h =
            ap (λ x. giving nought (assign (push_val x (values p xs no_temps d w (other_operands es))) w)) (new_value (is v) h)
            ∙ sym (giving_giving nought v (assign (push_val (then_val (value p xs no_temps d w (first_operand es)) (λ u. changed_value p xs w by type l v u)) (values p xs no_temps d w (other_operands es))) w))
            ∙ ap (giving nought) (postfix_gives v h)
        by_old (wrong u k) h = ap (λ x. giving nought (assign (push_val x (values p xs no_temps d w (other_operands es))) w)) (new_value (wrong u k) h) ∙ rw h refl
