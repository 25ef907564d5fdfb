-- One read or write more.
use Rattle.std.proofs.Common.{◌≡◌, ℕ, ◌+◌, ◌-◌, ◌<◌, ◌≤◌, min, List, [], ◌++◌, length, take, drop, Option, None, Some, IfSome, unwrap_or, slice_get, sym, ap, ◌∙◌, arith, length-append, take-append-drop}
use Rattle.std.proofs.Math.Seq.{take-add}
use Rattle.std.proofs.lemmas.List.{take_rest, length-take, drop-drop, drop_all}
use Rattle.std.proofs.KnownBytes.{Appends-trans, Consumes-trans}
use Rattle.std.specs.Io.KnownBytes.{Appends, Consumes, IsAtEnd}
use Rattle.wp_io.specs.Memory.{rest_of}
use Rattle.wp_io.specs.Reads.{TakesMore, TakesAtMost}

-- a text has at least the bytes that are taken from it
longer : (old new : Option (List ℕ)) (bytes : List ℕ) (limit : ℕ) → Consumes old new bytes → limit < length bytes → IfSome old (λ text. limit < length text)
longer None new bytes limit taken more = tt
longer (Some text) None bytes limit taken more = absurd taken
longer (Some text) (Some rest) bytes limit taken more = omega (arith, ap length taken, length-append bytes rest)

module _ (first mid last : Option (List ℕ)) (text piece : List ℕ) (count limit : ℕ) where
  -- a read that passes the limit
  pub takes_more : Consumes first mid text → Consumes mid last (take count piece) → count ≤ length piece → limit < length text + count → TakesMore first last limit
  takes_more before now within more =
      let bytes = text ++ take count piece in
      let taken : Consumes first last bytes = Consumes-trans first mid last text (take count piece) before now in
      let more : limit < length bytes = omega (arith, length-append text (take count piece), length-take count piece) in
      record { bytes = bytes; taken = taken; more = more; longer = longer first last bytes limit taken more }

  -- a read that doesn't
  pub takes_at_most : Consumes first mid text → Consumes mid last (take count piece) → length text + count ≤ limit → TakesAtMost first last limit
  takes_at_most before now within = record {
    bytes = text ++ take count piece;
    taken = Consumes-trans first mid last text (take count piece) before now;
    within = omega (arith, length-append text (take count piece), length-take count piece);
  }

-- a write of some of the bytes that are left
pub appends_more : (first mid last : Option (List ℕ)) (bytes : List ℕ) (at count : ℕ) → Appends first mid (take at bytes) → Appends mid last (take count (take (length bytes - at) (drop at bytes))) → Appends first last (take (at + count) bytes)
appends_more first mid last bytes at count before now =
    rw (take-add at count bytes) (Appends-trans first mid last _ _ before (rw (take_rest bytes at) at now))

-- a read of the first bytes that are left of the open text
pub reads_piece : (texts : List (List ℕ)) (current : Option ℕ) (at count most : ℕ) (rest piece : List ℕ) → rest_of texts current at ≡ Some rest → 0 < most → count ≡ min most (min (length piece) (length rest)) → take count piece ≡ take count rest
    → Consumes (rest_of texts current at) (rest_of texts current (at + count)) (take count piece) × (count ≡ 0 → 0 < length piece → IsAtEnd (rest_of texts current (at + count)))
reads_piece texts None at count most rest piece is gives counted same = absurd cc
reads_piece texts (Some number) at count most rest piece is gives counted same =
    let text = unwrap_or (slice_get texts number) [] in
    let left : drop at text ≡ rest = cc in
    let after : drop (at + count) text ≡ drop count rest = sym (drop-drop count at text) ∙ ap (drop count) left in (
      rw (same, after) (left ∙ sym (take-append-drop count rest)),
      λ none room. after ∙ drop_all count rest (omega arith),
    )
