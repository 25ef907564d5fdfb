-- Calls of logic functions have all that they are given.
use Rattle.std.proofs.Common.{◌≡◌, Bool, true, false, ◌&&◌, if◌then◌else◌, List, [], ◌∷◌, Option, Some, None, option_map, is_some, refl}
use Rattle.std.specs.List.{list_all}
use Rattle.std.proofs.lemmas.Bool.{and_parts}
use Rattle.wp_base.specs.declared.kinds.Kind.{Kind}
use Rattle.wp_base.specs.declared.kinds.CellKind.{CellKind}
use Rattle.wp_base.specs.declared.kinds.CellKind.TheVariants as cell
use Rattle.c_kinds.specs.declared.models.Machdep.{Machdep}
use Rattle.c_kinds.specs.Conversions.{holds_all}
use Rattle.typed_prog.specs.declared.operators.Variable.TheVariants as variables
use Rattle.acsl_trees.specs.declared.operands.TermType.{TermType}
use Rattle.acsl_trees.specs.declared.operands.TermType.TheVariants as type
use Rattle.acsl_trees.specs.Tree.{Trees, stop, more}
use Rattle.acsl_names.specs.declared.names.Definition.{Definition}
use Rattle.qed_terms.specs.Tree.{Tree as Term}
use Rattle.acsl_encode.specs.Readings.{Named, one, two, Global, integer_global, pointer_global, Called, Terms, Slot, whole, any_integer, pointer, home, absent, Seen, Reading}
use Rattle.acsl_encode.specs.Encode as encode
use Rattle.acsl_encode.specs.Encode.{put, all_put, memory_of, global_of, integer_of, pointer_in, as_integer, as_pointer}
use Rattle.acsl_well_typed.specs.WellTyped as typed
use Rattle.acsl_well_typed.specs.WellTyped.{What, an_integer, a_pointer, all_taken, result_gives}
use Rattle.annotations_encoded.specs.Sights.{site_of, sight_of, has_memory, Sights, sights_of}
use Rattle.annotations_encoded.specs.Shapes.{IsInteger}
use Rattle.annotations_encoded.specs.Serving.{gives_integer, are_params, holds_kind, is_pointer_site, has_global, may_call}
use Rattle.annotations_encoded.proofs.Terms.{IsThere, by_integer, by_pointer, there_one}
use Rattle.annotations_encoded.proofs.Kids.{AllAre}

pub put_there : {X : Type 0} (o o' : Option (List X)) → IsThere o → IsThere o' → IsThere (put o o')
put_there (Some xs) (Some ys) h e = tt
put_there (Some xs) None h e = absurd e
put_there None o' h e = absurd h

mapped_there : {X Y : Type 0} (f : X → Y) (o : Option X) → is_some o ≡ true → IsThere (option_map f o)
mapped_there f (Some x) e = tt
mapped_there f None e = absurd cc

-- ---- arguments

module _ (g : Sights) where
  pub arguments_there : (ts : List TermType) (ps : List Named) (us : List What) (ks : Trees) (xs : List Terms) → are_params ts ps ≡ true
      → all_taken ts us ≡ true → AllAre g us ks xs → IsThere (encode.arguments ps xs)
  arguments_there [] [] [] stop [] p e a = tt
  arguments_there [] [] [] ks xs p e a = absurd a
  arguments_there (type.Integer ∷ ts) (one y ∷ ps) (an_integer ∷ us) (more t ks) (x ∷ xs) p e a =
      put_there (encode.argument (one y) x) (encode.arguments ps xs) (by_integer (λ o. IsThere (option_map (λ u. u ∷ []) o)) x a.0.0 (λ u. tt))
      (arguments_there ts ps us ks xs p e a.1)
  arguments_there (type.Integer ∷ ts) (one y ∷ ps) (an_integer ∷ us) ks xs p e a = absurd a
  arguments_there (type.Pointer c ∷ ts) (two b o ∷ ps) (a_pointer ∷ us) (more t ks) (x ∷ xs) p e a =
      put_there (encode.argument (two b o) x) (encode.arguments ps xs) (by_pointer (λ o. IsThere (option_map encode.two_parts o)) x a.0.0 (λ u. tt))
      (arguments_there ts ps us ks xs p e a.1)
  arguments_there (type.Pointer c ∷ ts) (two b o ∷ ps) (a_pointer ∷ us) ks xs p e a = absurd a
  arguments_there ts ps us ks xs p e a = absurd cc

-- ---- memories and variables of the file

memory_there : (s : Seen) (k : CellKind) → has_memory s k ≡ true → IsThere (memory_of s k)
memory_there s (cell.Of k) e = mapped_there (λ m. m ∷ []) (s.numbers k) e
memory_there s cell.Ptr e = mapped_there encode.two_parts s.pointers e

memories_there : (s : Seen) (ks : List CellKind) → list_all (has_memory s) ks ≡ true → IsThere (all_put (memory_of s) ks)
memories_there s [] e = tt
memories_there s (k ∷ ks) e =
    let b = and_parts (has_memory s k) (list_all (has_memory s) ks) e in
    put_there (memory_of s k) (all_put (memory_of s) ks) (memory_there s k b.0) (memories_there s ks b.1)

integer_if : (c : Bool) (t : Term) → c ≡ true → IsThere (if c then Some (t ∷ []) else None)
integer_if true t e = tt
integer_if false t e = absurd cc

integer_there : (m : Machdep) (k : Kind) (o : Slot) → holds_kind m k (site_of o) ≡ true → IsThere (integer_of m k o)
integer_there m k (whole l t) e = integer_if (holds_all m k l) t e
integer_there m k (any_integer t) e = absurd cc
integer_there m k (pointer b o) e = absurd cc
integer_there m k (home b) e = absurd cc
integer_there m k absent e = absurd cc

pointer_held : (o : Slot) → is_pointer_site (site_of o) ≡ true → IsThere (pointer_in o)
pointer_held (whole l t) e = absurd cc
pointer_held (any_integer t) e = absurd cc
pointer_held (pointer b o) e = tt
pointer_held (home b) e = absurd cc
pointer_held absent e = absurd cc

global_there : (m : Machdep) (s : Seen) (x : Global) → has_global m (sight_of s) x ≡ true → IsThere (global_of m s x)
global_there m s (integer_global n k x) e = integer_there m k (s.variable (variables.Global n)) e
global_there m s (pointer_global n b o) e = pointer_held (s.variable (variables.Global n)) e

globals_there : (m : Machdep) (s : Seen) (xs : List Global) → list_all (has_global m (sight_of s)) xs ≡ true → IsThere (all_put (global_of m s) xs)
globals_there m s [] e = tt
globals_there m s (x ∷ xs) e =
    let b = and_parts (has_global m (sight_of s) x) (list_all (has_global m (sight_of s)) xs) e in
    put_there (global_of m s x) (all_put (global_of m s) xs) (global_there m s x b.0) (globals_there m s xs b.1)

-- ---- calls

result_integer : (o : Option TermType) (w : What) → gives_integer o ≡ true → result_gives o ≡ Some w → w ≡ an_integer
result_integer None w e f = cc
result_integer (Some type.Integer) w e f = cc
result_integer (Some (type.Pointer t)) w e f = absurd cc
result_integer (Some type.Unknown) w e f = absurd cc

-- where a definition's arguments are of its parameters, it gives what its result says
taken_all : (b : Bool) (o : Option What) (w : What) → (if b then o else None) ≡ Some w → (b ≡ true) × (o ≡ Some w)
taken_all true o w e = (refl, e)
taken_all false o w e = absurd cc

pub call_given : (r : Reading) (d : Option Definition) (c : Option Called) (us : List What) (w : What) (ks : Trees) (xs : List Terms) → typed.called d us ≡ Some w
    → may_call (sights_of r) d c ≡ true → AllAre (sights_of r) us ks xs → (w ≡ an_integer) × IsInteger (encode.called r c xs)
call_given r (Some d) (Some c) us w ks xs e s a =
    let g = sights_of r in
    let t = taken_all (all_taken d.params us) (result_gives d.result) w e in
    let p = and_parts (gives_integer d.result)
    (are_params d.params c.params && (list_all g.here.has_kind c.memories && list_all (has_global g.model g.here) c.globals)) s in
    let q = and_parts (are_params d.params c.params) (list_all g.here.has_kind c.memories && list_all (has_global g.model g.here) c.globals) p.1 in
    let m = and_parts (list_all g.here.has_kind c.memories) (list_all (has_global g.model g.here) c.globals) q.1 in (
      result_integer d.result w p.0 t.1,
      there_one IsInteger (λ ts. encode.unbounded (encode.app c.name ts)) (encode.all_given r c xs)
          (put_there (encode.arguments c.params xs) (put (all_put (memory_of r.here) c.memories) (all_put (global_of r.common.model r.here) c.globals))
          (arguments_there g d.params c.params us ks xs q.0 t.0 a)
          (put_there (all_put (memory_of r.here) c.memories) (all_put (global_of r.common.model r.here) c.globals) (memories_there r.here c.memories m.0)
          (globals_there r.common.model r.here c.globals m.1)))
          (λ ts. tt),
    )
call_given r (Some d) None us w ks xs e s a = absurd cc
call_given r None c us w ks xs e s a = absurd cc
