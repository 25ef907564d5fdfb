-- What reading does to the open file, and what it leaves alone.
use Rattle.std.specs.Prelude.{◌≡◌, ℕ, ◌<◌, ◌≤◌, Bool, List, length, Option, IfSome}
use Rattle.std.specs.Io.KnownBytes.{Consumes, IsAtEnd}

-- the names that may be opened, and what each name holds, are the same
pub record SameNames (may_open may_open' : List ℕ → Bool) (holds holds' : List ℕ → Option (List ℕ)) : Type 0 where
  pub tests : may_open' ≡ may_open
  pub texts : holds' ≡ holds

-- a file is open as before, and as much of it is left
pub record SameOpen (was_open now_open : Bool) (old new : Option (List ℕ)) : Type 0 where
  pub is_open : now_open ≡ was_open
  pub left : new ≡ old

-- these bytes were taken, and nothing is left
pub record TakesAll (old new : Option (List ℕ)) (bytes : List ℕ) : Type 0 where
  pub taken : Consumes old new bytes
  pub end : IsAtEnd new

-- more bytes than the limit were taken, so there were more
pub record TakesMore (old new : Option (List ℕ)) (limit : ℕ) : Type 0 where
  pub bytes : List ℕ
  pub taken : Consumes old new bytes
  pub more : limit < length bytes
  pub longer : IfSome old (λ text. limit < length text)

-- at most as many bytes as the limit were taken
pub record TakesAtMost (old new : Option (List ℕ)) (limit : ℕ) : Type 0 where
  pub bytes : List ℕ
  pub taken : Consumes old new bytes
  pub within : length bytes ≤ limit
