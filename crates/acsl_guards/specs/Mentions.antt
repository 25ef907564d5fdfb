-- What stands anywhere in a term (ACSL 2.2).
use Rattle.std.specs.Prelude.{ℕ, Bool, false, ◌||◌, List, map, Option, Some, None}
use Rattle.std.specs.List.{list_any}
use Rattle.std.specs.Str.{bytes_eq}
use Rattle.c_syntax.specs.Expr as e
use Rattle.c_syntax.specs.Term as t

abbrev pub Names : Type 0
Names = List (List ℕ)

abbrev pub names_of : List e.VarDecl → Names
names_of vs = map (λ v. v.name) vs

abbrev pub is_among : Names → List ℕ → Bool
is_among xs x = list_any (bytes_eq x) xs

-- the plain name that a term is
abbrev pub name_of : t.Term → Option (List ℕ)
name_of (t.name line x) = Some x
name_of a = None

-- whether the term is a plain name, one of these
abbrev pub is_one_of : Names → t.Term → Bool
is_one_of xs (t.name line x) = is_among xs x
is_one_of xs a = false

-- whether it is this name
abbrev pub is_name : List ℕ → t.Term → Bool
is_name x (t.name line y) = bytes_eq x y
is_name x a = false

-- whether it is a call of this function
abbrev pub is_call : List ℕ → t.Term → Bool
is_call f (t.call line g args) = bytes_eq f g
is_call f a = false

abbrev mutual
  -- whether the term itself, or one in it, passes a test
  pub some_part : (t.Term → Bool) → t.Term → Bool
  some_part q (t.number line token) = q (t.number line token)
  some_part q (t.char line z) = q (t.char line z)
  some_part q (t.name line x) = q (t.name line x)
  some_part q (t.unary line o a) = q (t.unary line o a) || some_part q a
  some_part q (t.binary line o a b) = q (t.binary line o a b) || (some_part q a || some_part q b)
  some_part q (t.cond line test a b) = q (t.cond line test a b) || (some_part q test || (some_part q a || some_part q b))
  some_part q (t.call line f args) = q (t.call line f args) || some_part_of q args
  some_part q (t.index line a b) = q (t.index line a b) || (some_part q a || some_part q b)
  some_part q (t.field line a f arrow) = q (t.field line a f arrow) || some_part q a
  some_part q (t.cast line type a) = q (t.cast line type a) || some_part q a
  some_part q (t.result line) = q (t.result line)
  some_part q (t.old line a) = q (t.old line a) || some_part q a
  some_part q (t.at_label line a label) = q (t.at_label line a label) || some_part q a
  some_part q (t.null line) = q (t.null line)
  some_part q (t.range line a b) = q (t.range line a b) || (some_part q a || some_part q b)

  pub some_part_of : (t.Term → Bool) → t.Terms → Bool
  some_part_of q t.stop = false
  some_part_of q (t.more a rest) = some_part q a || some_part_of q rest

-- one of these names stands in it; the name of a function that is called isn't one
abbrev pub holds_one : Names → t.Term → Bool
holds_one xs a = some_part (is_one_of xs) a

abbrev pub mentions : List ℕ → t.Term → Bool
mentions x a = some_part (is_name x) a

-- a call of this function stands in it
abbrev pub calls : List ℕ → t.Term → Bool
calls f a = some_part (is_call f) a
