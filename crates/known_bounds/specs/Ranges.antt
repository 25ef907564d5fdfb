-- Ranges of integers: which numbers lie in one, and orders of two numbers.
use Rattle.std.specs.Prelude.{◌≡◌, ℤ, ◌≤ℤ◌, ◌<ℤ◌, Bool, true, false, Option, Some, None, ⊤, IfSome, IsSomeAnd}
use Rattle.known_bounds.specs.declared.ranges.Range.{Range}

-- not below this end; not above it
abbrev pub IsFrom : Option ℤ → ℤ → Type 0
IsFrom None z = ⊤
IsFrom (Some a) z = a ≤ℤ z

abbrev pub IsUpTo : Option ℤ → ℤ → Type 0
IsUpTo None z = ⊤
IsUpTo (Some a) z = z ≤ℤ a

abbrev pub IsIn : Range → ℤ → Type 0
IsIn r z = IsFrom r.low z × IsUpTo r.high z

-- the one number below the other; or below it or the same
abbrev pub IsOrdered : (is_strict : Bool) → ℤ → ℤ → Type 0
IsOrdered true a b = a <ℤ b
IsOrdered false a b = a ≤ℤ b

-- where there is an end, it comes from two others
abbrev pub EndOf : (ℤ → ℤ → ℤ) → (left right made : Option ℤ) → Type 0
EndOf f left right made = IfSome made (λ c. IsSomeAnd left (λ a. IsSomeAnd right (λ b. c ≡ f a b)))
