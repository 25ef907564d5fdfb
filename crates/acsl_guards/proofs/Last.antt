-- The last item of a list, seen through a function.
use Rattle.std.proofs.Common.{◌≡◌, ◌-◌, List, map, length, Option, option_map, sym, ap, ◌∙◌}
use Rattle.std.specs.List.{slice_get}
use Rattle.std.proofs.lemmas.List.{length-map}
use Rattle.std.proofs.lemmas.Option.{slice_get-map}
use Rattle.c_syntax.specs.declared.annot.Term.{Term}
use Rattle.c_syntax.specs.declared.decl.VarDecl.{VarDecl}
use Rattle.c_syntax.specs.View.{view_term, view_var}
use Rattle.acsl_guards.specs.Recursive.{last_of}

module _ {X Y : Type 0} (view : X → Y) where
  seen : (xs : List X) (o : Option X) → o ≡ slice_get xs (length xs - 1) → option_map view o ≡ last_of (map view xs)
  seen xs o is = ap (option_map view) is ∙ sym (slice_get-map view xs (length xs - 1)) ∙ ap (λ n. slice_get (map view xs) (n - 1)) (sym (length-map xs view))

pub var_seen : (xs : List VarDecl) (o : Option VarDecl) → o ≡ slice_get xs (length xs - 1) → option_map view_var o ≡ last_of (map view_var xs)
var_seen xs o is = seen view_var xs o is

pub term_seen : (xs : List Term) (o : Option Term) → o ≡ slice_get xs (length xs - 1) → option_map view_term o ≡ last_of (map view_term xs)
term_seen xs o is = seen view_term xs o is
