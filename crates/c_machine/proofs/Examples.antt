-- Constants by example: what the definition gives.
use Rattle.std.proofs.Common.{◌≡◌, ℕ, pos, negsuc, Some, None, [], ◌∷◌, refl}
use Rattle.wp_base.specs.declared.kinds.Kind.TheVariants as kind
use Rattle.c_syntax.specs.declared.expr.UnOp.TheVariants as un
use Rattle.c_syntax.specs.declared.expr.BinOp.{BinOp}
use Rattle.c_syntax.specs.declared.expr.BinOp.TheVariants as bin
use Rattle.c_syntax.specs.declared.token.TokenKind.TheVariants as token
use Rattle.c_syntax.specs.Expr as e
use Rattle.c_kinds.specs.Numbers as n
use Rattle.c_machine.specs.Literals.{literal}
use Rattle.c_machine.specs.Rules.{constant, unary_of, binary_of, chosen, array_bytes}
use Rattle.c_machine.specs.Constants.{constant_of}
use Rattle.c_syntax.specs.declared.token.Base.TheVariants as base
use Rattle.c_syntax.specs.declared.token.Suffix.TheVariants as suffix
use Rattle.c_kinds.specs.declared.models.Machdep.TheVariants as model
use Rattle.c_machine.specs.Constants.{eval_const}

abbrev number : ℕ → e.Expr
number a = e.number 1 (record { kind = token.Number (pos a) base.Decimal suffix.None; line = 1 })

abbrev hexadecimal : ℕ → e.Expr
hexadecimal a = e.number 1 (record { kind = token.Number (pos a) base.Hexadecimal suffix.None; line = 1 })

abbrev two : BinOp → e.Expr → e.Expr → e.Expr
two op a b = e.binary 1 op a b

-- a name, which is no constant
abbrev name : e.Expr
name = e.name 1 (120 ∷ [])

abbrev zero : e.Expr
zero = number 0

by_zero : eval_const model.X86_64 (two bin.Div (number 1) zero) ≡ None
unfolding eval_const literal unary_of binary_of chosen array_bytes n.held n.result_of n.negated n.difference n.quotient n.left_shift
by_zero = refl

to_the_sign : eval_const model.X86_64 (two bin.Shl (number 1) (number 31)) ≡ None
unfolding eval_const literal unary_of binary_of chosen array_bytes n.held n.result_of n.negated n.difference n.quotient n.left_shift
to_the_sign = refl

least_int : eval_const model.X86_64 (two bin.Sub (e.unary 1 un.Minus (number 2147483647)) (number 1)) ≡ Some (negsuc 2147483647)
unfolding eval_const literal unary_of binary_of chosen array_bytes n.held n.result_of n.negated n.difference n.quotient n.left_shift
least_int = refl

long_of_each : (eval_const model.X86_64 (e.sizeof 1 (e.kind kind.Long)) ≡ Some (pos 8)) × (eval_const model.X86_32 (e.sizeof 1 (e.kind kind.Long)) ≡ Some (pos 4))
unfolding eval_const literal unary_of binary_of chosen array_bytes n.held n.result_of n.negated n.difference n.quotient n.left_shift
long_of_each = (refl, refl)

size_of_an_array : constant_of model.X86_32 (e.sizeof 1 (e.array (e.kind kind.Short) (number 3))) ≡ Some (constant kind.UInt (Some (pos 6)))
unfolding eval_const literal unary_of binary_of chosen array_bytes n.held n.result_of n.negated n.difference n.quotient n.left_shift
size_of_an_array = refl

past_int : (constant_of model.X86_64 (number 2147483648) ≡ Some (constant kind.Long (Some (pos 2147483648)))) × (constant_of model.X86_32 (number 2147483648) ≡ Some (constant kind.LLong (Some (pos 2147483648))))
unfolding eval_const literal unary_of binary_of chosen array_bytes n.held n.result_of n.negated n.difference n.quotient n.left_shift
past_int = (refl, refl)

hexadecimal_is_unsigned : constant_of model.X86_64 (hexadecimal 4294967295) ≡ Some (constant kind.UInt (Some (pos 4294967295)))
unfolding eval_const literal unary_of binary_of chosen array_bytes n.held n.result_of n.negated n.difference n.quotient n.left_shift
hexadecimal_is_unsigned = refl

held_by_none : constant_of model.X86_64 (number 9223372036854775808) ≡ None
unfolding eval_const literal unary_of binary_of chosen array_bytes n.held n.result_of n.negated n.difference n.quotient n.left_shift
held_by_none = refl

not_evaluated : eval_const model.X86_64 (two bin.And zero (two bin.Div (number 1) zero)) ≡ Some (pos 0)
unfolding eval_const literal unary_of binary_of chosen array_bytes n.held n.result_of n.negated n.difference n.quotient n.left_shift
not_evaluated = refl

name_not_evaluated : constant_of model.X86_64 (two bin.Or (number 1) name) ≡ None
unfolding eval_const literal unary_of binary_of chosen array_bytes n.held n.result_of n.negated n.difference n.quotient n.left_shift
name_not_evaluated = refl

other_arm : constant_of model.X86_64 (e.cond 1 zero (two bin.Div (number 1) zero) (e.cast 1 (e.constant (e.kind kind.UInt)) (number 2))) ≡ Some (constant kind.UInt (Some (pos 2)))
unfolding eval_const literal unary_of binary_of chosen array_bytes n.held n.result_of n.negated n.difference n.quotient n.left_shift
other_arm = refl

null_is_no_constant : constant_of model.X86_64 (e.cast 1 (e.pointer (e.kind kind.Int)) zero) ≡ None
unfolding eval_const literal unary_of binary_of chosen array_bytes n.held n.result_of n.negated n.difference n.quotient n.left_shift
null_is_no_constant = refl
