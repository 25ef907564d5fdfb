-- The operators on constants give constants (C11 6.5.3.3, 6.5.5 to 6.5.15).
use Rattle.std.proofs.Common.{◌≡◌, ℕ, ℤ, pos, Bool, true, false, ◌&&◌, ◌||◌, if◌then◌else◌, List, [], ◌∷◌, Option, Some, None, Ok, refl, sym, ap, subst, ◌∙◌}
use Rattle.std.specs.Option.{is_some, option_map, option_and_then}
use Rattle.wp_base.specs.declared.kinds.Kind.{Kind}
use Rattle.wp_base.specs.declared.kinds.Kind.TheVariants as kind
use Rattle.c_syntax.specs.declared.expr.UnOp.{UnOp}
use Rattle.c_syntax.specs.declared.expr.UnOp.TheVariants as un
use Rattle.c_syntax.specs.declared.expr.BinOp.{BinOp}
use Rattle.c_syntax.specs.declared.expr.BinOp.TheVariants as bin
use Rattle.c_kinds.specs.declared.models.Machdep.{Machdep}
use Rattle.c_kinds.specs.Models.{convert}
use Rattle.c_kinds.specs.Conversions.{promote, common}
use Rattle.c_kinds.specs.Numbers as n
use Rattle.c_machine.specs.declared.rules.Constant.{Constant}
use Rattle.c_machine.specs.Constants.{value_in}
use Rattle.c_machine.specs.Rules.{constant, converted as value_converted, on_both, unary_of, binary_of, choose as value_chosen, chosen, cast_to}
use Rattle.c_answers.specs.Answers.{wrong}
use Rattle.typed_prog.specs.declared.operators.Arithmetic.{Arithmetic}
use Rattle.typed_prog.specs.declared.operators.Arithmetic.TheVariants as ar
use Rattle.typed_prog.specs.declared.operators.Comparison.{Comparison}
use Rattle.typed_prog.specs.declared.operators.Comparison.TheVariants as cmp
use Rattle.typed_prog.specs.declared.operators.Connective.{Connective}
use Rattle.typed_prog.specs.declared.operators.Connective.TheVariants as con
use Rattle.typed_prog.specs.declared.operators.Op.{Op}
use Rattle.typed_prog.specs.declared.operators.Op.TheVariants as op
use Rattle.typed_prog.specs.Types.{of_kind, is_pointer}
use Rattle.typed_prog.specs.Tree as t
use Rattle.c_operands.specs.Operands.{Operand, Rvalue, valued}
use Rattle.c_operands.specs.Conversions.{kind_of_value, folded, converted}
use Rattle.c_rules.specs.Integers as i
use Rattle.c_rules.specs.Integers.{constant_in, known_of_one, known_of_two, of_one, of_two}
use Rattle.c_rules.specs.Operators as r
use Rattle.c_places.specs.Casts.{known_by, to_kind_by, cast_value, cast}
use Rattle.c_exprs.specs.Typing.{unary}
use Rattle.c_folded.specs.Evaluated.{State, computed, compared, connected, applied}
use Rattle.c_folded.specs.Folded.{IsConstant, IsFolded}
use Rattle.c_folded.proofs.Operands.{some_is, IsKnown, valued_known, known_is, converted_known, folded_known, integer_no_pointer}
use Rattle.c_well_typed.proofs.Fitting.{Holds, after_holds}

both_constant : (a b : Bool) → a ≡ true → b ≡ true → (a && b) ≡ true
both_constant a b h k = λ i. h i && k i

-- ---- one operand

one_known : (m : Machdep) (line : ℕ) (o : Op) (how : UnOp) (k : Kind) (c d : Constant) (x : Rvalue) (f : ℤ → Option ℤ) → IsKnown m c x → unary_of m how c ≡ Some d
    → d ≡ constant k (option_and_then f (value_converted m k c.value)) → ((s : State) (u : Option ℤ) → applied m s o k (u ∷ []) ≡ option_and_then f u)
    → IsFolded m d (of_one m line o how k x)
one_known m line o how k c d x f is gives shape does =
    let known : known_of_one m how (constant_in x) ≡ option_and_then f (value_converted m k c.value) = ap (known_of_one m how) (known_is m c x is) ∙ ap (option_and_then value_in) gives ∙ ap (λ (e : Constant). e.value) shape in
    let inner = converted_known m c k x.value is.1 in
    subst (λ (e : Constant). IsFolded m e (of_one m line o how k x)) (sym shape)
    (subst (λ z. IsFolded m (constant k (option_and_then f (value_converted m k c.value))) (folded k line (t.apply o (t.more (converted m k x.value) t.stop)) x.is_constant z)) (sym known)
    (folded_known m k line (t.apply o (t.more (converted m k x.value) t.stop)) x.is_constant _ is.0 refl (λ s. does s _ ∙ ap (option_and_then f) (inner.evaluates s))))

promoted_known : (m : Machdep) (line : ℕ) (o : Op) (how : UnOp) (c d : Constant) (x : Rvalue) (f : ℤ → Option ℤ) → IsKnown m c x → unary_of m how c ≡ Some d
    → d ≡ constant (promote c.kind) (option_and_then f (value_converted m (promote c.kind) c.value))
    → ((s : State) (u : Option ℤ) → applied m s o (promote c.kind) (u ∷ []) ≡ option_and_then f u) → Holds (IsFolded m d) (i.promoted m line o how x)
promoted_known m line o how c d x f is gives shape does =
    subst (λ k. Holds (IsFolded m d) (i.promoted_by m line o how x k)) (sym is.1.of_kind) (one_known m line o how (promote c.kind) c d x f is gives shape does)

minus_known : (m : Machdep) (line : ℕ) (c d : Constant) (x : Rvalue) → IsKnown m c x → unary_of m un.Minus c ≡ Some d → Holds (IsFolded m d) (i.promoted m line op.Negate un.Minus x)
unfolding unary_of
minus_known m line c d x is gives = promoted_known m line op.Negate un.Minus c d x (n.negated m (promote c.kind)) is gives (some_is _ d gives) (λ s u. refl)

complement_known : (m : Machdep) (line : ℕ) (c d : Constant) (x : Rvalue) → IsKnown m c x → unary_of m un.BitNot c ≡ Some d → Holds (IsFolded m d) (i.promoted m line op.Complement un.BitNot x)
unfolding unary_of
complement_known m line c d x is gives = promoted_known m line op.Complement un.BitNot c d x (n.complement m (promote c.kind)) is gives (some_is _ d gives) (λ s u. refl)

plus_known : (m : Machdep) (line : ℕ) (c d : Constant) (x : Rvalue) → IsKnown m c x → unary_of m un.Plus c ≡ Some d → Holds (IsFolded m d) (i.plus m line x)
unfolding unary_of
plus_known m line c d x is gives =
    subst (λ k. Holds (IsFolded m d) (i.plus_by m line x k)) (sym is.1.of_kind)
    (is.0, subst (λ (e : Constant). IsConstant m e (converted m (promote c.kind) x.value)) (sym (some_is _ d gives)) (converted_known m c (promote c.kind) x.value is.1))

mapped_is : (f : ℤ → ℤ) (u : Option ℤ) → option_and_then (λ z. Some (f z)) u ≡ option_map f u
mapped_is f None = refl
mapped_is f (Some z) = refl

negation_is : (m : Machdep) (c d : Constant) → unary_of m un.Not c ≡ Some d → d ≡ constant kind.Int (option_map (λ z. n.equal z (pos 0)) c.value)
unfolding unary_of
negation_is m c d gives = some_is _ d gives

negation_known : (m : Machdep) (line : ℕ) (c d : Constant) (x : Rvalue) → IsKnown m c x → unary_of m un.Not c ≡ Some d → IsFolded m d (r.negation m line x)
negation_known m line c d x is gives =
    let shape : d ≡ constant kind.Int (option_map (λ z. n.equal z (pos 0)) c.value) = negation_is m c d gives in
    let known : known_of_one m un.Not (constant_in x) ≡ option_map (λ z. n.equal z (pos 0)) c.value = ap (known_of_one m un.Not) (known_is m c x is) ∙ ap (option_and_then value_in) gives ∙ ap (λ (e : Constant). e.value) shape in
    subst (λ (e : Constant). IsFolded m e (r.negation m line x)) (sym shape)
    (subst (λ z. IsFolded m (constant kind.Int (option_map (λ z. n.equal z (pos 0)) c.value)) (folded kind.Int line (t.apply op.Not (t.more x.value t.stop)) x.is_constant z)) (sym known)
    (folded_known m kind.Int line (t.apply op.Not (t.more x.value t.stop)) x.is_constant _ is.0 refl
    (λ s. ap (option_and_then (λ z. Some (n.equal z (pos 0)))) (is.1.evaluates s) ∙ mapped_is (λ z. n.equal z (pos 0)) c.value)))

-- a constant is an integer, and so a scalar
scalar_known : (m : Machdep) (line : ℕ) (c : Constant) (x : Rvalue) → IsKnown m c x → Holds (IsKnown m c) (r.scalar line x)
scalar_known m line c x is = subst (λ k. Holds (IsKnown m c) (if is_some k || is_pointer (t.type_of x.value) then Ok x else wrong line)) (sym is.1.of_kind) is

pub unary_known : (m : Machdep) (line : ℕ) (o : UnOp) (c d : Constant) (x : Operand) → IsFolded m c x → unary_of m o c ≡ Some d → Holds (IsFolded m d) (unary m line o x)
unfolding unary unary_of r.minus r.complement r.unary_plus r.not_of
unary_known m line un.AddressOf c d x is gives = absurd cc
unary_known m line un.Deref c d x is gives = absurd cc
unary_known m line un.Plus c d x is gives = after_holds (IsKnown m c) (IsFolded m d) (valued line x) _ (valued_known m line c x is) (λ y known. plus_known m line c d y known gives)
unary_known m line un.Minus c d x is gives = after_holds (IsKnown m c) (IsFolded m d) (valued line x) _ (valued_known m line c x is) (λ y known. minus_known m line c d y known gives)
unary_known m line un.BitNot c d x is gives = after_holds (IsKnown m c) (IsFolded m d) (valued line x) _ (valued_known m line c x is) (λ y known. complement_known m line c d y known gives)
unary_known m line un.Not c d x is gives =
    after_holds (IsKnown m c) (IsFolded m d) (valued line x) _ (valued_known m line c x is) (λ y known.
    after_holds (IsKnown m c) (IsFolded m d) (r.scalar line y) _ (scalar_known m line c y known) (λ z still. negation_known m line c d z still gives))

-- ---- two operands

two_known : (m : Machdep) (line : ℕ) (o : Op) (how : BinOp) (k j l : Kind) (c d : Constant) (x y : Rvalue) (f : ℤ → ℤ → Option ℤ) → IsKnown m c x → IsKnown m d y
    → binary_of m how c d ≡ constant k (on_both f (value_converted m j c.value) (value_converted m l d.value))
    → ((s : State) (u w : Option ℤ) → applied m s o k (u ∷ w ∷ []) ≡ on_both f u w) → IsFolded m (binary_of m how c d) (of_two m line o how k j l x y)
two_known m line o how k j l c d x y f is is' shape does =
    let node : t.ValueNode = t.apply o (t.more (converted m j x.value) (t.more (converted m l y.value) t.stop)) in
    let result : Option ℤ = on_both f (value_converted m j c.value) (value_converted m l d.value) in
    let known : known_of_two m how (constant_in x) (constant_in y) ≡ result = (λ i. known_of_two m how (known_is m c x is i) (known_is m d y is' i)) ∙ ap value_in shape in
    let first = converted_known m c j x.value is.1 in let second = converted_known m d l y.value is'.1 in
    subst (λ (e : Constant). IsFolded m e (of_two m line o how k j l x y)) (sym shape)
    (subst (λ z. IsFolded m (constant k result) (folded k line node (x.is_constant && y.is_constant) z)) (sym known)
    (folded_known m k line node (x.is_constant && y.is_constant) result (both_constant x.is_constant y.is_constant is.0 is'.0) refl
    (λ s. does s _ _ ∙ (λ i. on_both f (first.evaluates s i) (second.evaluates s i)))))

arithmetic_known : (m : Machdep) (line : ℕ) (o : Arithmetic) (how : BinOp) (c d : Constant) (x y : Rvalue) → IsKnown m c x → IsKnown m d y
    → binary_of m how c d ≡ constant (common m c.kind d.kind) (on_both (computed m o (common m c.kind d.kind)) (value_converted m (common m c.kind d.kind) c.value) (value_converted m (common m c.kind d.kind) d.value))
    → Holds (IsFolded m (binary_of m how c d)) (i.arithmetic m line o how x y)
arithmetic_known m line o how c d x y is is' shape =
    let k : Kind = common m c.kind d.kind in
    subst (λ j. Holds (IsFolded m (binary_of m how c d)) (i.arithmetic_by m line o how x y j (kind_of_value y.value))) (sym is.1.of_kind)
    (subst (λ j. Holds (IsFolded m (binary_of m how c d)) (i.arithmetic_by m line o how x y (Some c.kind) j)) (sym is'.1.of_kind)
    (two_known m line (op.Arithmetic o) how k k k c d x y (computed m o k) is is' shape (λ s u w. refl)))

shift_known : (m : Machdep) (line : ℕ) (o : Arithmetic) (how : BinOp) (c d : Constant) (x y : Rvalue) → IsKnown m c x → IsKnown m d y
    → binary_of m how c d ≡ constant (promote c.kind) (on_both (computed m o (promote c.kind)) (value_converted m (promote c.kind) c.value) (value_converted m (promote d.kind) d.value))
    → Holds (IsFolded m (binary_of m how c d)) (i.shift m line o how x y)
shift_known m line o how c d x y is is' shape =
    subst (λ j. Holds (IsFolded m (binary_of m how c d)) (i.shift_by m line o how x y j (kind_of_value y.value))) (sym is.1.of_kind)
    (subst (λ j. Holds (IsFolded m (binary_of m how c d)) (i.shift_by m line o how x y (Some c.kind) j)) (sym is'.1.of_kind)
    (two_known m line (op.Arithmetic o) how (promote c.kind) (promote c.kind) (promote d.kind) c d x y (computed m o (promote c.kind)) is is' shape (λ s u w. refl)))

compared_known : (m : Machdep) (line : ℕ) (o : Comparison) (how : BinOp) (c d : Constant) (x y : Rvalue) → IsKnown m c x → IsKnown m d y
    → binary_of m how c d ≡ constant kind.Int (on_both (λ a b. Some (compared o a b)) (value_converted m (common m c.kind d.kind) c.value) (value_converted m (common m c.kind d.kind) d.value))
    → IsFolded m (binary_of m how c d) (i.compared m line o how x y c.kind d.kind)
compared_known m line o how c d x y is is' shape =
    let k : Kind = common m c.kind d.kind in two_known m line (op.Compare o) how kind.Int k k c d x y (λ a b. Some (compared o a b)) is is' shape (λ s u w. refl)

order_known : (m : Machdep) (line : ℕ) (o : Comparison) (how : BinOp) (c d : Constant) (x y : Rvalue) → IsKnown m c x → IsKnown m d y
    → binary_of m how c d ≡ constant kind.Int (on_both (λ a b. Some (compared o a b)) (value_converted m (common m c.kind d.kind) c.value) (value_converted m (common m c.kind d.kind) d.value))
    → Holds (IsFolded m (binary_of m how c d)) (r.order m line o how x y)
unfolding r.order
order_known m line o how c d x y is is' shape =
    subst (λ j. Holds (IsFolded m (binary_of m how c d)) (r.order_by m line o how x y j (kind_of_value y.value))) (sym is.1.of_kind)
    (subst (λ j. Holds (IsFolded m (binary_of m how c d)) (r.order_by m line o how x y (Some c.kind) j)) (sym is'.1.of_kind) (compared_known m line o how c d x y is is' shape))

equality_known : (m : Machdep) (line : ℕ) (o : Comparison) (how : BinOp) (c d : Constant) (x y : Rvalue) → IsKnown m c x → IsKnown m d y
    → binary_of m how c d ≡ constant kind.Int (on_both (λ a b. Some (compared o a b)) (value_converted m (common m c.kind d.kind) c.value) (value_converted m (common m c.kind d.kind) d.value))
    → Holds (IsFolded m (binary_of m how c d)) (r.equality m line o how x y)
unfolding r.equality
equality_known m line o how c d x y is is' shape =
    subst (λ j. Holds (IsFolded m (binary_of m how c d)) (r.equality_by m line o how x y j (kind_of_value y.value))) (sym is.1.of_kind)
    (subst (λ j. Holds (IsFolded m (binary_of m how c d)) (r.equality_by m line o how x y (Some c.kind) j)) (sym is'.1.of_kind) (compared_known m line o how c d x y is is' shape))

sum_known : (m : Machdep) (sizes : List ℕ) (line : ℕ) (c d : Constant) (x y : Rvalue) → IsKnown m c x → IsKnown m d y
    → binary_of m bin.Add c d ≡ constant (common m c.kind d.kind) (on_both (computed m ar.Add (common m c.kind d.kind)) (value_converted m (common m c.kind d.kind) c.value) (value_converted m (common m c.kind d.kind) d.value))
    → Holds (IsFolded m (binary_of m bin.Add c d)) (r.sum m sizes line x y)
unfolding r.sum
sum_known m sizes line c d x y is is' shape =
    subst (λ p. Holds (IsFolded m (binary_of m bin.Add c d)) (r.sum_by m sizes line x y p (is_pointer (t.type_of y.value)))) (sym (integer_no_pointer (t.type_of x.value) c.kind is.1.of_kind))
    (subst (λ p. Holds (IsFolded m (binary_of m bin.Add c d)) (r.sum_by m sizes line x y false p)) (sym (integer_no_pointer (t.type_of y.value) d.kind is'.1.of_kind))
    (arithmetic_known m line ar.Add bin.Add c d x y is is' shape))

difference_known : (m : Machdep) (sizes : List ℕ) (line : ℕ) (c d : Constant) (x y : Rvalue) → IsKnown m c x → IsKnown m d y
    → binary_of m bin.Sub c d ≡ constant (common m c.kind d.kind) (on_both (computed m ar.Sub (common m c.kind d.kind)) (value_converted m (common m c.kind d.kind) c.value) (value_converted m (common m c.kind d.kind) d.value))
    → Holds (IsFolded m (binary_of m bin.Sub c d)) (r.difference m sizes line x y)
unfolding r.difference
difference_known m sizes line c d x y is is' shape =
    subst (λ p. Holds (IsFolded m (binary_of m bin.Sub c d)) (r.difference_by m sizes line x y p (is_pointer (t.type_of y.value)))) (sym (integer_no_pointer (t.type_of x.value) c.kind is.1.of_kind))
    (arithmetic_known m line ar.Sub bin.Sub c d x y is is' shape)

-- ---- `&&`, `||` and `?:`

connected_known : (m : Machdep) (line : ℕ) (o : Connective) (how : BinOp) (c d : Constant) (x y : Rvalue) → IsKnown m c x → IsKnown m d y
    → binary_of m how c d ≡ constant kind.Int (connected o c.value d.value) → IsFolded m (binary_of m how c d) (r.connected m line o how x y)
connected_known m line o how c d x y is is' shape =
    let node : t.ValueNode = t.logic o x.value y.value in let result : Option ℤ = connected o c.value d.value in
    let known : known_of_two m how (constant_in x) (constant_in y) ≡ result = (λ i. known_of_two m how (known_is m c x is i) (known_is m d y is' i)) ∙ ap value_in shape in
    subst (λ (e : Constant). IsFolded m e (r.connected m line o how x y)) (sym shape)
    (subst (λ z. IsFolded m (constant kind.Int result) (folded kind.Int line node (x.is_constant && y.is_constant) z)) (sym known)
    (folded_known m kind.Int line node (x.is_constant && y.is_constant) result (both_constant x.is_constant y.is_constant is.0 is'.0) refl
    (λ s i. connected o (is.1.evaluates s i) (is'.1.evaluates s i))))

logic_known : (m : Machdep) (line : ℕ) (o : Connective) (how : BinOp) (c d : Constant) (x y : Rvalue) → IsKnown m c x → IsKnown m d y
    → binary_of m how c d ≡ constant kind.Int (connected o c.value d.value) → Holds (IsFolded m (binary_of m how c d)) (r.logic m line o how x y)
unfolding r.logic
logic_known m line o how c d x y is is' shape =
    after_holds (IsKnown m c) (IsFolded m (binary_of m how c d)) (r.scalar line x) _ (scalar_known m line c x is) (λ a ka.
    after_holds (IsKnown m d) (IsFolded m (binary_of m how c d)) (r.scalar line y) _ (scalar_known m line d y is') (λ b kb. connected_known m line o how c d a b ka kb shape))

arms_known : (m : Machdep) (line : ℕ) (c d e : Constant) (x y z : Rvalue) → IsKnown m c x → IsKnown m d y → IsKnown m e z
    → chosen m c d e ≡ constant (common m d.kind e.kind) (value_chosen c.value (value_converted m (common m d.kind e.kind) d.value) (value_converted m (common m d.kind e.kind) e.value))
    → IsFolded m (chosen m c d e) (r.integer_arms m line x y z (common m d.kind e.kind))
arms_known m line c d e x y z is is' is'' shape =
    let k : Kind = common m d.kind e.kind in let node : t.ValueNode = t.choose x.value (converted m k y.value) (converted m k z.value) in
    let result : Option ℤ = value_chosen c.value (value_converted m k d.value) (value_converted m k e.value) in
    let known : r.known_of_three m (constant_in x) (constant_in y) (constant_in z) ≡ result =
    (λ i. r.known_of_three m (known_is m c x is i) (known_is m d y is' i) (known_is m e z is'' i)) ∙ ap value_in shape in
    let first = converted_known m d k y.value is'.1 in let second = converted_known m e k z.value is''.1 in
    subst (λ (a : Constant). IsFolded m a (r.integer_arms m line x y z k)) (sym shape)
    (subst (λ u. IsFolded m (constant k result) (folded k line node (x.is_constant && y.is_constant && z.is_constant) u)) (sym known)
    (folded_known m k line node (x.is_constant && y.is_constant && z.is_constant) result
    (λ i. is.0 i && is'.0 i && is''.0 i) refl
    (λ s i. value_chosen (is.1.evaluates s i) (first.evaluates s i) (second.evaluates s i))))

conditional_values_known : (m : Machdep) (line : ℕ) (c d e : Constant) (x y z : Rvalue) → IsKnown m c x → IsKnown m d y → IsKnown m e z
    → Holds (IsFolded m (chosen m c d e)) (r.conditional_values m line x y z)
unfolding r.conditional_values chosen
conditional_values_known m line c d e x y z is is' is'' =
    after_holds (IsKnown m c) (IsFolded m (chosen m c d e)) (r.scalar line x) _ (scalar_known m line c x is) (λ a ka.
    subst (λ j. Holds (IsFolded m (chosen m c d e)) (r.arms_by m line a y z j (kind_of_value z.value))) (sym is'.1.of_kind)
    (subst (λ j. Holds (IsFolded m (chosen m c d e)) (r.arms_by m line a y z (Some d.kind) j)) (sym is''.1.of_kind)
    (arms_known m line c d e a y z ka is' is'' refl)))

pub conditional_known : (m : Machdep) (line : ℕ) (c d e : Constant) (x y z : Operand) → IsFolded m c x → IsFolded m d y → IsFolded m e z
    → Holds (IsFolded m (chosen m c d e)) (r.conditional m line x y z)
unfolding r.conditional
conditional_known m line c d e x y z is is' is'' =
    after_holds (IsKnown m c) (IsFolded m (chosen m c d e)) (valued line x) _ (valued_known m line c x is) (λ a ka.
    after_holds (IsKnown m d) (IsFolded m (chosen m c d e)) (valued line y) _ (valued_known m line d y is') (λ b kb.
    after_holds (IsKnown m e) (IsFolded m (chosen m c d e)) (valued line z) _ (valued_known m line e z is'') (λ u ku. conditional_values_known m line c d e a b u ka kb ku)))

-- ---- all operators of two operands

values_known : (m : Machdep) (sizes : List ℕ) (line : ℕ) (how : BinOp) (c d : Constant) (x y : Rvalue) → IsKnown m c x → IsKnown m d y
    → Holds (IsFolded m (binary_of m how c d)) (r.binary_values m sizes line how x y)
unfolding binary_of
values_known m sizes line bin.Mul c d x y is is' = arithmetic_known m line ar.Mul bin.Mul c d x y is is' refl
values_known m sizes line bin.Div c d x y is is' = arithmetic_known m line ar.Div bin.Div c d x y is is' refl
values_known m sizes line bin.Rem c d x y is is' = arithmetic_known m line ar.Rem bin.Rem c d x y is is' refl
values_known m sizes line bin.Add c d x y is is' = sum_known m sizes line c d x y is is' refl
values_known m sizes line bin.Sub c d x y is is' = difference_known m sizes line c d x y is is' refl
values_known m sizes line bin.Shl c d x y is is' = shift_known m line ar.Shl bin.Shl c d x y is is' refl
values_known m sizes line bin.Shr c d x y is is' = shift_known m line ar.Shr bin.Shr c d x y is is' refl
values_known m sizes line bin.Less c d x y is is' = order_known m line cmp.Less bin.Less c d x y is is' refl
values_known m sizes line bin.AtMost c d x y is is' = order_known m line cmp.AtMost bin.AtMost c d x y is is' refl
values_known m sizes line bin.Greater c d x y is is' = order_known m line cmp.Greater bin.Greater c d x y is is' refl
values_known m sizes line bin.AtLeast c d x y is is' = order_known m line cmp.AtLeast bin.AtLeast c d x y is is' refl
values_known m sizes line bin.Equal c d x y is is' = equality_known m line cmp.Equal bin.Equal c d x y is is' refl
values_known m sizes line bin.NotEqual c d x y is is' = equality_known m line cmp.NotEqual bin.NotEqual c d x y is is' refl
values_known m sizes line bin.BitAnd c d x y is is' = arithmetic_known m line ar.And bin.BitAnd c d x y is is' refl
values_known m sizes line bin.BitXor c d x y is is' = arithmetic_known m line ar.Xor bin.BitXor c d x y is is' refl
values_known m sizes line bin.BitOr c d x y is is' = arithmetic_known m line ar.Or bin.BitOr c d x y is is' refl
values_known m sizes line bin.And c d x y is is' = logic_known m line con.And bin.And c d x y is is' refl
values_known m sizes line bin.Or c d x y is is' = logic_known m line con.Or bin.Or c d x y is is' refl

pub binary_known : (m : Machdep) (sizes : List ℕ) (line : ℕ) (how : BinOp) (c d : Constant) (x y : Operand) → IsFolded m c x → IsFolded m d y
    → Holds (IsFolded m (binary_of m how c d)) (r.binary m sizes line how x y)
unfolding r.binary
binary_known m sizes line how c d x y is is' =
    after_holds (IsKnown m c) (IsFolded m (binary_of m how c d)) (valued line x) _ (valued_known m line c x is) (λ a ka.
    after_holds (IsKnown m d) (IsFolded m (binary_of m how c d)) (valued line y) _ (valued_known m line d y is') (λ b kb. values_known m sizes line how c d a b ka kb))

-- ---- casts

cast_value_known : (m : Machdep) (line : ℕ) (k : Kind) (c : Constant) (x : Rvalue) → IsKnown m c x → Holds (IsFolded m (cast_to m k c)) (cast_value m line (of_kind k) x)
cast_value_known m line k c x is =
    let node : t.ValueNode = t.apply op.Cast (t.more x.value t.stop) in
    subst (λ j. Holds (IsFolded m (cast_to m k c)) (to_kind_by m line k x j)) (sym is.1.of_kind)
    (subst (λ z. IsFolded m (cast_to m k c) (folded k line node x.is_constant z)) (sym (ap (known_by m k) (known_is m c x is)))
    (folded_known m k line node x.is_constant (value_converted m k c.value) is.0 refl
    (λ s. ap (option_and_then (λ z. Some (convert m k z))) (is.1.evaluates s) ∙ mapped_is (convert m k) c.value)))

pub cast_known : (m : Machdep) (line : ℕ) (k : Kind) (c : Constant) (x : Operand) → IsFolded m c x → Holds (IsFolded m (cast_to m k c)) (cast m line (of_kind k) x)
unfolding cast
cast_known m line k c x is = after_holds (IsKnown m c) (IsFolded m (cast_to m k c)) (valued line x) _ (valued_known m line c x is) (λ y known. cast_value_known m line k c y known)
