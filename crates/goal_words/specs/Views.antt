-- What a reader of the program finds, beside what the reader on lists finds.
use Rattle.std.specs.Prelude.{◌≡◌, ℕ, List, Option, Some, None}
use Rattle.std.specs.Borrow.{Bor}

abbrev pub Finds : {X : Type 0} → Option (X × Bor (List ℕ)) → Option (X × List ℕ) → Type 0
Finds (Some x) given = given ≡ Some (x.0, x.1.now)
Finds None given = given ≡ None

abbrev pub FindsWord : Option (Bor (List ℕ) × Bor (List ℕ)) → Option (List ℕ × List ℕ) → Type 0
FindsWord (Some x) given = given ≡ Some (x.0.now, x.1.now)
FindsWord None given = given ≡ None

abbrev pub FindsRest : Option (Bor (List ℕ)) → Option (List ℕ) → Type 0
FindsRest (Some x) given = given ≡ Some x.now
FindsRest None given = given ≡ None
