-- Kinds by example: what the definitions give.
use Rattle.std.proofs.Common.{◌≡◌, Some, None, pos, negsuc, refl}
use Rattle.wp_base.specs.declared.kinds.Kind.TheVariants as kind
use Rattle.c_kinds.specs.declared.models.Machdep.TheVariants as model
use Rattle.c_kinds.specs.Models.{convert, high}
use Rattle.c_kinds.specs.Conversions.{promote, common}
use Rattle.c_kinds.specs.Numbers.{held, result_of, sum, quotient, remainder, left_shift, right_shift, and_bits, complement}

short_is_promoted : promote kind.UShort ≡ kind.Int
short_is_promoted = refl

long_holds_unsigned : common model.X86_64 kind.Long kind.UInt ≡ kind.Long
long_holds_unsigned = refl

long_is_no_wider : common model.X86_32 kind.Long kind.UInt ≡ kind.ULong
long_is_no_wider = refl

char_wraps : convert model.X86_64 kind.SChar (pos 200) ≡ negsuc 55
char_wraps = refl

truth_of_two : convert model.X86_64 kind.Bool (pos 2) ≡ pos 1
truth_of_two = refl

unsigned_of_minus_one : convert model.X86_64 kind.UInt (negsuc 0) ≡ pos 4294967295
unsigned_of_minus_one = refl

long_of_each : high model.X86_32 kind.Long ≡ high model.X86_64 kind.Int
long_of_each = refl

-- ---- operators

unsigned_sum_wraps : sum model.X86_64 kind.UInt (pos 4294967295) (pos 1) ≡ Some (pos 0)
unfolding sum result_of
unsigned_sum_wraps = refl

sum_overflows : sum model.X86_64 kind.Int (pos 2147483647) (pos 1) ≡ None
unfolding sum result_of held
sum_overflows = refl

least_by_minus_one : quotient model.X86_64 kind.Int (negsuc 2147483647) (negsuc 0) ≡ None
unfolding quotient
least_by_minus_one = refl

what_remains_has_the_sign_of_the_dividend : remainder model.X86_64 kind.Int (negsuc 6) (pos 4) ≡ Some (negsuc 2)
unfolding remainder
what_remains_has_the_sign_of_the_dividend = refl

one_to_the_sign : left_shift model.X86_64 kind.Int (pos 1) (pos 31) ≡ None
unfolding left_shift result_of held
one_to_the_sign = refl

rounded_down : right_shift model.X86_64 kind.Int (negsuc 6) (pos 1) ≡ Some (negsuc 3)
unfolding right_shift
rounded_down = refl

low_byte : and_bits model.X86_64 kind.Int (negsuc 0) (pos 255) ≡ Some (pos 255)
unfolding and_bits
low_byte = refl

all_ones : complement model.X86_64 kind.UInt (pos 0) ≡ Some (pos 4294967295)
unfolding complement
all_ones = refl
