-- Bytes that are UTF-8, and bytes that aren't.
use Rattle.std.proofs.Common.{◌≡◌, ℕ, Bool, true, false, List, refl}
use Rattle.std.specs.Str.{IsUtf8, is_utf8}
use Rattle.std.proofs.lemmas.Str.{IsUtf8-from_is_utf8, is_utf8-from_IsUtf8}

pub is_utf8_true : (bytes : List ℕ) → IsUtf8 bytes → is_utf8 bytes ≡ true
is_utf8_true bytes h = is_utf8-from_IsUtf8 bytes h

pub is_utf8_false : (bytes : List ℕ) → (IsUtf8 bytes → ⊥) → is_utf8 bytes ≡ false
is_utf8_false bytes h = by (is_utf8 bytes) refl
  where
    by : (b : Bool) → is_utf8 bytes ≡ b → b ≡ false
    by false e = refl
    by true e = absurd (h (IsUtf8-from_is_utf8 bytes e))
