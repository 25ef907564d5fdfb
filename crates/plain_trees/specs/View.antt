-- What annotations may name, and what nodes are, as they are in memory.
use Rattle.std.specs.Prelude.{ℕ, nat_lt, Bool, true, false, List, [], ◌∷◌, Option, None, slice_index_or}
use Rattle.typed_prog.specs.declared.operators.Variable.{Variable}
use Rattle.typed_prog.specs.declared.operators.Variable.TheVariants as variables
use Rattle.acsl_trees.specs.declared.heads.Head.{Head}
use Rattle.acsl_trees.specs.declared.heads.Head.TheVariants as h
use Rattle.acsl_trees.specs.declared.heads.Content.{Content}
use Rattle.acsl_trees.specs.declared.heads.Content.TheVariants as content
use Rattle.acsl_trees.specs.Tree.{Tree, Trees, node, stop}
use Rattle.plain_annotations.specs.Plain as plain
use Rattle.plain_trees.specs.declared.nodes.Place.{Place}
use Rattle.plain_trees.specs.declared.roles.Role.{Role}
use Rattle.plain_trees.specs.declared.roles.Role.TheVariants as role

-- so many variables of the file, and so many of a function
abbrev pub is_below : (globals own : ℕ) → Variable → Bool
is_below n k (variables.Global x) = nat_lt x n
is_below n k (variables.Local x) = nat_lt x k

-- with how many integers each logic function takes that may be called, by their numbers
abbrev pub view_place : Place → (takes : List (Option ℕ)) → plain.Place
view_place p takes = record { variables = is_below p.globals p.own; has_result = p.has_result; params = λ f. slice_index_or takes f None }

abbrev pub role_of : Head → Role
role_of (h.Variable x) = role.Variable x
role_of (h.Link c) = role.Link
role_of (h.Read c l) = role.Read
role_of h.Let = role.Binder
role_of (h.Every g) = role.Binder
role_of (h.Some g) = role.Binder
role_of head = role.Other

abbrev pub is_link : Role → Bool
is_link role.Link = true
is_link (role.Variable x) = false
is_link role.Read = false
is_link role.Binder = false
is_link role.Other = false

abbrev pub is_read : Role → Bool
is_read role.Read = true
is_read (role.Variable x) = false
is_read role.Link = false
is_read role.Binder = false
is_read role.Other = false

abbrev pub is_binder : Role → Bool
is_binder role.Binder = true
is_binder (role.Variable x) = false
is_binder role.Link = false
is_binder role.Read = false
is_binder role.Other = false

abbrev pub names : (Variable → Bool) → Role → Bool
names vs (role.Variable x) = vs x
names vs role.Link = false
names vs role.Read = false
names vs role.Binder = false
names vs role.Other = false

-- an object that is read holds an integer, and is a variable itself
abbrev pub reads : (Variable → Bool) → Content → Trees → Bool
reads vs (content.Integer k) ks = plain.reads_variable vs ks
reads vs content.Pointer ks = false
reads vs (content.Struct n) ks = false

-- ---- sets

abbrev pub is_integer : Content → Bool
is_integer (content.Integer k) = true
is_integer content.Pointer = false
is_integer (content.Struct n) = false

abbrev pub is_integers : Head → Bool
is_integers (h.Region c) = is_integer c
is_integers head = false

-- a variable itself
abbrev pub is_alone : (Variable → Bool) → Tree → Bool
is_alone vs (node (h.Variable x) stop) = vs x
is_alone vs t = false

abbrev pub has_one : (Variable → Bool) → List Tree → Bool
has_one vs (t ∷ []) = is_alone vs t
has_one vs ts = false
