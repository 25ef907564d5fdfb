-- What the function gives, the rules derive.
use Rattle.std.proofs.Common.{◌≡◌, ◌≢◌, ℕ, ℤ, pos, ◌*ℤ◌, Bool, true, false, List, Option, Some, None, refl, sym, ap, ◌∙◌, subst}
use Rattle.std.specs.Prelude.{int_le, if◌then◌else◌}
use Rattle.std.specs.Option.{option_map, option_and_then}
use Rattle.std.specs.Ordering.{int_eq}
use Rattle.std.proofs.lemmas.Bool.{true≢false}
use Rattle.std.proofs.lemmas.Bool.Decides.{Decides-int_eq}
use Rattle.c_kinds.proofs.Converting.{test_le}
use Rattle.wp_base.specs.declared.kinds.Kind.{Kind}
use Rattle.wp_base.specs.declared.kinds.Kind.TheVariants as kind
use Rattle.c_syntax.specs.declared.expr.UnOp.{UnOp}
use Rattle.c_syntax.specs.declared.expr.UnOp.TheVariants as un
use Rattle.c_syntax.specs.declared.expr.BinOp.{BinOp}
use Rattle.c_syntax.specs.declared.expr.BinOp.TheVariants as bin
use Rattle.c_syntax.specs.declared.token.Token.{Token}
use Rattle.c_syntax.specs.declared.token.TokenKind.{TokenKind}
use Rattle.c_syntax.specs.declared.token.TokenKind.TheVariants as token
use Rattle.c_syntax.specs.Expr as e
use Rattle.c_kinds.specs.declared.models.Machdep.{Machdep}
use Rattle.c_kinds.specs.Models.{holds, convert, size_kind}
use Rattle.c_kinds.specs.Conversions.{promote, common}
use Rattle.c_kinds.specs.Numbers as n
use Rattle.c_machine.specs.declared.rules.Constant.{Constant}
use Rattle.c_machine.specs.Literals.{kinds_for, first_holding, literal, token_constant, char_constant}
use Rattle.c_machine.specs.Rules.{constant, converted, on_both, unary_of, operate, shift, binary_of, is_true, and_value, or_value, choose, chosen, cast_to, bytes, pointer_bytes, elements, array_bytes}
use Rattle.c_machine.specs.Constants.{unary, binary, conditional, cast, size_constant, kind_of, constant_of, bytes_of}
use Rattle.c_machine.specs.Evaluates as r
use Rattle.c_machine.specs.Evaluates.{IsConstant, Evaluates, Takes, is_arithmetic, is_comparison, is_shift, is_logic}
use Rattle.c_machine.proofs.Given.{arithmetic_is, comparison_is, shift_is}

-- what the rules derive of an expression that is this constant
record Described (m : Machdep) (a : e.Expr) (c : Constant) : Type 0 where
  described_kind : IsConstant m a c.kind
  described_value : (z : ℤ) → c.value ≡ Some z → Evaluates m a c.kind z

some_is : {X : Type 0} (x y : X) → Some x ≡ Some y → y ≡ x
some_is x y h = cc

-- a constant that is given is this one
described : (m : Machdep) (a : e.Expr) (c d : Constant) → Some d ≡ Some c → Described m a d → Described m a c
described m a c d is x = subst (Described m a) (sym (some_is d c is)) x

-- ---- where a value comes from

record Mapped (f : ℤ → ℤ) (v : Option ℤ) (z : ℤ) : Type 0 where
  from : ℤ
  was : v ≡ Some from
  maps : f from ≡ z

mapped : (f : ℤ → ℤ) (v : Option ℤ) (z : ℤ) → option_map f v ≡ Some z → Mapped f v z
mapped f None z h = absurd cc
mapped f (Some y) z h = record { from = y; was = refl; maps = cc }

record Then (f : ℤ → Option ℤ) (v : Option ℤ) (z : ℤ) : Type 0 where
  from : ℤ
  was : v ≡ Some from
  gives : f from ≡ Some z

then_of : (f : ℤ → Option ℤ) (v : Option ℤ) (z : ℤ) → option_and_then f v ≡ Some z → Then f v z
then_of f None z h = absurd cc
then_of f (Some y) z h = record { from = y; was = refl; gives = h }

-- of a value that is converted first
record Converts (m : Machdep) (k : Kind) (f : ℤ → Option ℤ) (v : Option ℤ) (z : ℤ) : Type 0 where
  from : ℤ
  was : v ≡ Some from
  gives : f (convert m k from) ≡ Some z

converts : (m : Machdep) (k : Kind) (f : ℤ → Option ℤ) (v : Option ℤ) (z : ℤ) → option_and_then f (converted m k v) ≡ Some z → Converts m k f v z
converts m k f None z h = absurd cc
converts m k f (Some y) z h = record { from = y; was = refl; gives = h }

record Both (m : Machdep) (k l : Kind) (f : ℤ → ℤ → Option ℤ) (v w : Option ℤ) (z : ℤ) : Type 0 where
  first : ℤ
  second : ℤ
  first_was : v ≡ Some first
  second_was : w ≡ Some second
  gives : f (convert m k first) (convert m l second) ≡ Some z

both : (m : Machdep) (k l : Kind) (f : ℤ → ℤ → Option ℤ) (v w : Option ℤ) (z : ℤ) → on_both f (converted m k v) (converted m l w) ≡ Some z → Both m k l f v w z
both m k l f None w z h = absurd cc
both m k l f (Some x) None z h = absurd cc
both m k l f (Some x) (Some y) z h = record { first = x; second = y; first_was = refl; second_was = refl; gives = h }

-- ---- leaves

literal_from : (m : Machdep) (z : ℤ) (ks : List Kind) (c : Constant) → literal m z ks ≡ Some c → (first_holding m z ks ≡ Some c.kind) × (c.value ≡ Some z)
unfolding literal
literal_from m z ks c h = by_kind (first_holding m z ks) h
  where
    by_kind : (o : Option Kind) → option_map (λ k. constant k (Some z)) o ≡ Some c → (o ≡ Some c.kind) × (c.value ≡ Some z)
    by_kind None h = absurd cc
    by_kind (Some k) h = let is = some_is (constant k (Some z)) c h in (ap (λ (d : Constant). Some d.kind) (sym is), ap (λ (d : Constant). d.value) is)

token_found : (m : Machdep) (line : ℕ) (t : Token) (k : TokenKind) (c : Constant) → t.kind ≡ k → token_constant m k ≡ Some c → Described m (e.number line t) c
token_found m line t (token.Number z b s) c is h =
    let from = literal_from m z (kinds_for b s) c h in
    record { described_kind = r.number z b s is from.0; described_value = λ y v. subst (Evaluates m (e.number line t) c.kind) (some_is y z (sym v ∙ from.1)) (r.number_value b s is from.0) }
token_found m line t (token.Name x) c is h = absurd cc
token_found m line t (token.Word w) c is h = absurd cc
token_found m line t (token.Char z) c is h = absurd cc
token_found m line t (token.Punct p) c is h = absurd cc
token_found m line t token.AnnotOpen c is h = absurd cc
token_found m line t token.AnnotClose c is h = absurd cc

char_found : (m : Machdep) (line : ℕ) (z : ℤ) (c : Constant) → char_constant m z ≡ Some c → Described m (e.char line z) c
unfolding literal
char_found m line z c h = by_test (holds m kind.Int z) refl h
  where
    by_test : (b : Bool) → holds m kind.Int z ≡ b → option_map (λ k. constant k (Some z)) (if b then Some kind.Int else None) ≡ Some c → Described m (e.char line z) c
    by_test true is h =
        described m (e.char line z) c (constant kind.Int (Some z)) h
        (record { described_kind = r.character is; described_value = λ y v. subst (Evaluates m (e.char line z) kind.Int) (sym (some_is z y v)) (r.character_value is) })
    by_test false is h = absurd cc

-- ---- operators

unary_found : (m : Machdep) (line : ℕ) (op : UnOp) (a : e.Expr) (o : Option Constant) → ((c : Constant) → o ≡ Some c → Described m a c) → (c : Constant) → unary m op o ≡ Some c → Described m (e.unary line op a) c
unfolding unary_of
unary_found m line op a None below c h = absurd cc
unary_found m line un.AddressOf a (Some d) below c h = absurd cc
unary_found m line un.Deref a (Some d) below c h = absurd cc
unary_found m line un.Plus a (Some d) below c h =
    let x = below d refl in
    described m (e.unary line un.Plus a) c (constant (promote d.kind) (converted m (promote d.kind) d.value)) h (record {
      described_kind = r.plus x.described_kind;
      described_value = λ z v.
          let y = mapped (convert m (promote d.kind)) d.value z v in
          subst (Evaluates m (e.unary line un.Plus a) (promote d.kind)) y.maps (r.plus_value (x.described_value y.from y.was));
    })
unary_found m line un.Minus a (Some d) below c h =
    let x = below d refl in
    described m (e.unary line un.Minus a) c (constant (promote d.kind) (option_and_then (n.negated m (promote d.kind)) (converted m (promote d.kind) d.value))) h (record {
      described_kind = r.minus x.described_kind;
      described_value = λ z v. let y = converts m (promote d.kind) (n.negated m (promote d.kind)) d.value z v in r.minus_value y.from (x.described_value y.from y.was) y.gives;
    })
unary_found m line un.BitNot a (Some d) below c h =
    let x = below d refl in
    described m (e.unary line un.BitNot a) c (constant (promote d.kind) (option_and_then (n.complement m (promote d.kind)) (converted m (promote d.kind) d.value))) h (record {
      described_kind = r.complement x.described_kind;
      described_value = λ z v. let y = converts m (promote d.kind) (n.complement m (promote d.kind)) d.value z v in r.complement_value y.from (x.described_value y.from y.was) y.gives;
    })
unary_found m line un.Not a (Some d) below c h =
    let x = below d refl in
    described m (e.unary line un.Not a) c (constant kind.Int (option_map (λ z. n.equal z (pos 0)) d.value)) h (record {
      described_kind = r.negation x.described_kind;
      described_value = λ z v.
          let y = mapped (λ z. n.equal z (pos 0)) d.value z v in
          subst (Evaluates m (e.unary line un.Not a) kind.Int) y.maps (r.negation_value d.kind (x.described_value y.from y.was));
    })

arithmetic_found : (m : Machdep) (line : ℕ) (op : BinOp) (a b : e.Expr) (c d : Constant) → is_arithmetic op ≡ true → Described m a c → Described m b d → Described m (e.binary line op a b) (binary_of m op c d)
arithmetic_found m line op a b c d sort x y =
    let k : Kind = common m c.kind d.kind in
    subst (Described m (e.binary line op a b)) (sym (arithmetic_is m op c d sort)) (record {
      described_kind = r.arithmetic sort x.described_kind y.described_kind;
      described_value = λ z v.
          let p = both m (common m c.kind d.kind) (common m c.kind d.kind) (operate m op (common m c.kind d.kind)) c.value d.value z v in
          r.arithmetic_value p.first p.second sort (x.described_value p.first p.first_was) (y.described_value p.second p.second_was) p.gives;
    })

comparison_found : (m : Machdep) (line : ℕ) (op : BinOp) (a b : e.Expr) (c d : Constant) → is_comparison op ≡ true → Described m a c → Described m b d → Described m (e.binary line op a b) (binary_of m op c d)
comparison_found m line op a b c d sort x y =
    subst (Described m (e.binary line op a b)) (sym (comparison_is m op c d sort)) (record {
      described_kind = r.comparison sort x.described_kind y.described_kind;
      described_value = λ z v.
          let p = both m (common m c.kind d.kind) (common m c.kind d.kind) (operate m op (common m c.kind d.kind)) c.value d.value z v in
          r.comparison_value c.kind d.kind p.first p.second sort (x.described_value p.first p.first_was) (y.described_value p.second p.second_was) p.gives;
    })

shift_found : (m : Machdep) (line : ℕ) (op : BinOp) (a b : e.Expr) (c d : Constant) → is_shift op ≡ true → Described m a c → Described m b d → Described m (e.binary line op a b) (binary_of m op c d)
shift_found m line op a b c d sort x y =
    subst (Described m (e.binary line op a b)) (sym (shift_is m op c d sort)) (record {
      described_kind = r.shifted sort x.described_kind y.described_kind;
      described_value = λ z v.
          let p = both m (promote c.kind) (promote d.kind) (shift m op (promote c.kind)) c.value d.value z v in
          r.shift_value d.kind p.first p.second sort (x.described_value p.first p.first_was) (y.described_value p.second p.second_was) p.gives;
    })

-- a number is 0 where the test says so
zero_is : (y : ℤ) → int_eq y (pos 0) ≡ true → y ≡ pos 0
zero_is y h = (Decides-int_eq y (pos 0)).0 h

nonzero_is : (y : ℤ) → int_eq y (pos 0) ≡ false → y ≢ pos 0
nonzero_is y h is = true≢false (sym ((Decides-int_eq y (pos 0)).1 is) ∙ h)

and_found : (m : Machdep) (line : ℕ) (a b : e.Expr) (c d : Constant) → Described m a c → Described m b d → Described m (e.binary line bin.And a b) (binary_of m bin.And c d)
unfolding binary_of
and_found m line a b c d x y = record { described_kind = r.logic refl x.described_kind y.described_kind; described_value = λ z v. by_first c.value z refl v }
  where
    by_test : (u : ℤ) (z : ℤ) (t : Bool) → int_eq u (pos 0) ≡ t → c.value ≡ Some u → (if t then Some (pos 0) else option_map is_true d.value) ≡ Some z → Evaluates m (e.binary line bin.And a b) kind.Int z
    by_test u z true is was v = subst (Evaluates m (e.binary line bin.And a b) kind.Int) (sym (some_is (pos 0) z v)) (r.and_short c.kind d.kind (x.described_value (pos 0) (was ∙ ap Some (zero_is u is))) y.described_kind)
    by_test u z false is was v =
        let w = mapped is_true d.value z v in
        subst (Evaluates m (e.binary line bin.And a b) kind.Int) w.maps (r.and_long c.kind d.kind u (x.described_value u was) (nonzero_is u is) (y.described_value w.from w.was))

    by_first : (o : Option ℤ) (z : ℤ) → c.value ≡ o → and_value o d.value ≡ Some z → Evaluates m (e.binary line bin.And a b) kind.Int z
    by_first None z was v = absurd cc
    by_first (Some u) z was v = by_test u z (int_eq u (pos 0)) refl was v

or_found : (m : Machdep) (line : ℕ) (a b : e.Expr) (c d : Constant) → Described m a c → Described m b d → Described m (e.binary line bin.Or a b) (binary_of m bin.Or c d)
unfolding binary_of
or_found m line a b c d x y = record { described_kind = r.logic refl x.described_kind y.described_kind; described_value = λ z v. by_first c.value z refl v }
  where
    by_test : (u : ℤ) (z : ℤ) (t : Bool) → int_eq u (pos 0) ≡ t → c.value ≡ Some u → (if t then option_map is_true d.value else Some (pos 1)) ≡ Some z → Evaluates m (e.binary line bin.Or a b) kind.Int z
    by_test u z true is was v =
        let w = mapped is_true d.value z v in
        subst (Evaluates m (e.binary line bin.Or a b) kind.Int) w.maps (r.or_long c.kind d.kind (x.described_value (pos 0) (was ∙ ap Some (zero_is u is))) (y.described_value w.from w.was))
    by_test u z false is was v = subst (Evaluates m (e.binary line bin.Or a b) kind.Int) (sym (some_is (pos 1) z v)) (r.or_short c.kind d.kind u (x.described_value u was) (nonzero_is u is) y.described_kind)

    by_first : (o : Option ℤ) (z : ℤ) → c.value ≡ o → or_value o d.value ≡ Some z → Evaluates m (e.binary line bin.Or a b) kind.Int z
    by_first None z was v = absurd cc
    by_first (Some u) z was v = by_test u z (int_eq u (pos 0)) refl was v

of_both_found : (m : Machdep) (line : ℕ) (op : BinOp) (a b : e.Expr) (c d : Constant) → Described m a c → Described m b d → Described m (e.binary line op a b) (binary_of m op c d)
of_both_found m line bin.Mul a b c d x y = arithmetic_found m line bin.Mul a b c d refl x y
of_both_found m line bin.Div a b c d x y = arithmetic_found m line bin.Div a b c d refl x y
of_both_found m line bin.Rem a b c d x y = arithmetic_found m line bin.Rem a b c d refl x y
of_both_found m line bin.Add a b c d x y = arithmetic_found m line bin.Add a b c d refl x y
of_both_found m line bin.Sub a b c d x y = arithmetic_found m line bin.Sub a b c d refl x y
of_both_found m line bin.BitAnd a b c d x y = arithmetic_found m line bin.BitAnd a b c d refl x y
of_both_found m line bin.BitXor a b c d x y = arithmetic_found m line bin.BitXor a b c d refl x y
of_both_found m line bin.BitOr a b c d x y = arithmetic_found m line bin.BitOr a b c d refl x y
of_both_found m line bin.Less a b c d x y = comparison_found m line bin.Less a b c d refl x y
of_both_found m line bin.AtMost a b c d x y = comparison_found m line bin.AtMost a b c d refl x y
of_both_found m line bin.Greater a b c d x y = comparison_found m line bin.Greater a b c d refl x y
of_both_found m line bin.AtLeast a b c d x y = comparison_found m line bin.AtLeast a b c d refl x y
of_both_found m line bin.Equal a b c d x y = comparison_found m line bin.Equal a b c d refl x y
of_both_found m line bin.NotEqual a b c d x y = comparison_found m line bin.NotEqual a b c d refl x y
of_both_found m line bin.Shl a b c d x y = shift_found m line bin.Shl a b c d refl x y
of_both_found m line bin.Shr a b c d x y = shift_found m line bin.Shr a b c d refl x y
of_both_found m line bin.And a b c d x y = and_found m line a b c d x y
of_both_found m line bin.Or a b c d x y = or_found m line a b c d x y

binary_found : (m : Machdep) (line : ℕ) (op : BinOp) (a b : e.Expr) (o p : Option Constant) → ((c : Constant) → o ≡ Some c → Described m a c) → ((c : Constant) → p ≡ Some c → Described m b c)
    → (c : Constant) → binary m op o p ≡ Some c → Described m (e.binary line op a b) c
binary_found m line op a b None p x y c h = absurd cc
binary_found m line op a b (Some c') None x y c h = absurd cc
binary_found m line op a b (Some c') (Some d) x y c h = described m (e.binary line op a b) c (binary_of m op c' d) h (of_both_found m line op a b c' d (x c' refl) (y d refl))

chosen_found : (m : Machdep) (line : ℕ) (test a b : e.Expr) (t c d : Constant) → Described m test t → Described m a c → Described m b d → Described m (e.cond line test a b) (chosen m t c d)
unfolding chosen
chosen_found m line test a b t c d w x y = record { described_kind = r.conditional w.described_kind x.described_kind y.described_kind; described_value = λ z v. by_first t.value z refl v }
  where
    by_test : (u : ℤ) (z : ℤ) (s : Bool) → int_eq u (pos 0) ≡ s → t.value ≡ Some u → (if s then converted m (common m c.kind d.kind) d.value else converted m (common m c.kind d.kind) c.value) ≡ Some z
        → Evaluates m (e.cond line test a b) (common m c.kind d.kind) z
    by_test u z true is was v =
        let p = mapped (convert m (common m c.kind d.kind)) d.value z v in
        subst (Evaluates m (e.cond line test a b) (common m c.kind d.kind)) p.maps (r.second_chosen t.kind (w.described_value (pos 0) (was ∙ ap Some (zero_is u is))) x.described_kind (y.described_value p.from p.was))
    by_test u z false is was v =
        let p = mapped (convert m (common m c.kind d.kind)) c.value z v in
        subst (Evaluates m (e.cond line test a b) (common m c.kind d.kind)) p.maps (r.first_chosen t.kind u (w.described_value u was) (nonzero_is u is) (x.described_value p.from p.was) y.described_kind)

    by_first : (o : Option ℤ) (z : ℤ) → t.value ≡ o → choose o (converted m (common m c.kind d.kind) c.value) (converted m (common m c.kind d.kind) d.value) ≡ Some z
        → Evaluates m (e.cond line test a b) (common m c.kind d.kind) z
    by_first None z was v = absurd cc
    by_first (Some u) z was v = by_test u z (int_eq u (pos 0)) refl was v

conditional_found : (m : Machdep) (line : ℕ) (test a b : e.Expr) (o p q : Option Constant) → ((c : Constant) → o ≡ Some c → Described m test c) → ((c : Constant) → p ≡ Some c → Described m a c)
    → ((c : Constant) → q ≡ Some c → Described m b c) → (c : Constant) → conditional m o p q ≡ Some c → Described m (e.cond line test a b) c
conditional_found m line test a b None p q w x y c h = absurd cc
conditional_found m line test a b (Some t) None q w x y c h = absurd cc
conditional_found m line test a b (Some t) (Some c') None w x y c h = absurd cc
conditional_found m line test a b (Some t) (Some c') (Some d) w x y c h = described m (e.cond line test a b) c (chosen m t c' d) h (chosen_found m line test a b t c' d (w t refl) (x c' refl) (y d refl))

cast_found : (m : Machdep) (line : ℕ) (t : e.CType) (a : e.Expr) (k : Option Kind) (o : Option Constant) → kind_of t ≡ k → ((c : Constant) → o ≡ Some c → Described m a c)
    → (c : Constant) → cast m k o ≡ Some c → Described m (e.cast line t a) c
cast_found m line t a None o to x c h = absurd cc
cast_found m line t a (Some k) None to x c h = absurd cc
cast_found m line t a (Some k) (Some d) to x c h =
    described m (e.cast line t a) c (cast_to m k d) h (record {
      described_kind = r.cast to (x d refl).described_kind;
      described_value = λ z v.
          let y = mapped (convert m k) d.value z v in
          subst (Evaluates m (e.cast line t a) k) y.maps (r.cast_value d.kind to ((x d refl).described_value y.from y.was));
    })

size_found : (m : Machdep) (line : ℕ) (t : e.CType) (o : Option ℤ) → ((z : ℤ) → o ≡ Some z → Takes m t z) → (c : Constant) → size_constant m o ≡ Some c → Described m (e.sizeof line t) c
size_found m line t None x c h = absurd cc
size_found m line t (Some z) x c h =
    described m (e.sizeof line t) c (constant (size_kind m) (Some z)) h
    (record { described_kind = r.size (x z refl); described_value = λ y v. subst (Evaluates m (e.sizeof line t) (size_kind m)) (sym (some_is z y v)) (r.size_value (x z refl)) })

array_found : (m : Machdep) (t : e.CType) (a : e.Expr) (o : Option ℤ) (p : Option Constant) → ((z : ℤ) → o ≡ Some z → Takes m t z) → ((c : Constant) → p ≡ Some c → Described m a c)
    → (z : ℤ) → array_bytes m o p ≡ Some z → Takes m (e.array t a) z
unfolding array_bytes
array_found m t a None p x y z h = absurd cc
array_found m t a (Some s) None x y z h = absurd cc
array_found m t a (Some s) (Some c) x y z h =
    let f = then_of (elements m s) c.value z h in
    by_test f.from (int_le (pos 1) f.from) refl f.was f.gives
  where
    by_test : (count : ℤ) (b : Bool) → int_le (pos 1) count ≡ b → c.value ≡ Some count → (if b then n.held m (size_kind m) (s *ℤ count) else None) ≡ Some z → Takes m (e.array t a) z
    by_test count true some was held = r.of_array c.kind s count (x s refl) ((y c refl).described_value count was) (test_le (pos 1) count some) held
    by_test count false some was held = absurd cc

-- ---- the whole

mutual
  found : (m : Machdep) (a : e.Expr) (c : Constant) → constant_of m a ≡ Some c → Described m a c
  found m (e.number line t) c h = token_found m line t t.kind c refl h
  found m (e.char line z) c h = char_found m line z c h
  found m (e.unary line op a) c h = unary_found m line op a (constant_of m a) (found m a) c h
  found m (e.binary line op a b) c h = binary_found m line op a b (constant_of m a) (constant_of m b) (found m a) (found m b) c h
  found m (e.cond line test a b) c h = conditional_found m line test a b (constant_of m test) (constant_of m a) (constant_of m b) (found m test) (found m a) (found m b) c h
  found m (e.cast line t a) c h = cast_found m line t a (kind_of t) (constant_of m a) refl (found m a) c h
  found m (e.sizeof line t) c h = size_found m line t (bytes_of m t) (found_bytes m t) c h
  found m (e.name line x) c h = absurd cc
  found m (e.assign line op a b) c h = absurd cc
  found m (e.step line up prefix a) c h = absurd cc
  found m (e.call line f args) c h = absurd cc
  found m (e.index line a b) c h = absurd cc
  found m (e.field line a f arrow) c h = absurd cc

  found_bytes : (m : Machdep) (t : e.CType) (z : ℤ) → bytes_of m t ≡ Some z → Takes m t z
  found_bytes m (e.kind k) z h = subst (Takes m (e.kind k)) (sym (some_is (bytes m k) z h)) r.of_kind
  found_bytes m (e.pointer t) z h = subst (Takes m (e.pointer t)) (sym (some_is (pointer_bytes m) z h)) r.of_pointer
  found_bytes m (e.array t a) z h = array_found m t a (bytes_of m t) (constant_of m a) (found_bytes m t) (found m a) z h
  found_bytes m (e.constant t) z h = r.of_const (found_bytes m t z h)
  found_bytes m e.void z h = absurd cc
  found_bytes m e.integer z h = absurd cc
  found_bytes m (e.struct_of x) z h = absurd cc
  found_bytes m (e.enum_of x) z h = absurd cc
  found_bytes m (e.named x) z h = absurd cc

pub constant_found : (m : Machdep) (a : e.Expr) (c : Constant) → constant_of m a ≡ Some c → IsConstant m a c.kind
constant_found m a c h = (found m a c h).described_kind

pub value_found : (m : Machdep) (a : e.Expr) (k : Kind) (z : ℤ) → constant_of m a ≡ Some (constant k (Some z)) → Evaluates m a k z
value_found m a k z h = (found m a (constant k (Some z)) h).described_value z refl
