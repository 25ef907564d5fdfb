-- A `List` inside a type that leads back to itself: it holds its items in order, as the vector in it does.
use mathlib.Core.Path.{◌≡◌, refl, sym}
use mathlib.Core.List.{List, []}
use mathlib.Core.Former.{Former, this, list, via, children}
use base.Stored.{code_map}
use denote.RattleType.{RattleType}
use denote.HoleLaws.{Alike}
use denote.HolePlaces.{Recodes, struct_places, laid}
use denote.Hole.Carrier.{listed, list-listed}
use denote.Hole.Fix.{over}
use denote.Param.Weighed.{Weighed, w_list}
use denote.Model.Placed.{view_places}
use Rattle.std.specs.formers.vec.Vec as vec
use Rattle.std.specs.declared.alloc.Global.{Global}
use Rattle.std.specs.contracts.alloc.Global as heap
use Rattle.std.specs.contracts.impls.GlobalAllocator.TheImpl.{ghosts}
use Rattle.wp_base.specs.declared.list.List.TheInside.{Inside}
use Rattle.wp_base.specs.declared.list.List.TheView.{view, invariant}
use Rattle.wp_base.specs.contracts.list.List as outer
use Rattle.wp_base.specs.contracts.list.List.TheInside as inner

abbrev pub the_former : Former {0} → Former {0}
the_former item = list item

abbrev pub the_weighed : {item : Former {0}} → Weighed item → Weighed (the_former item)
the_weighed weighed = w_list weighed

abbrev pub the_empty : List ⊥
the_empty = []

abbrev pub the_items : (Item : Type 0) → List Item → List Item
the_items Item items = items

pub the_items_listed : (Item : Type 0) (items : List Item) → listed _ (children (the_former this) Item items) ≡ the_items Item items
the_items_listed Item items = list-listed Item items

-- the one field is the vector, whose items are those of the list
abbrev field : Former {0}
field = via (vec.the_former this Global) Inside (λ Item fields. fields.items) (λ Item v. record { items = v }) (λ Item fields. refl) (λ Item v. refl)

module _ (From To : RattleType) (along : From.Denot → To.Denot) where
  pub the_places : Alike From To along → Alike (outer.the_row From) (outer.the_row To) ((the_former this).map From.Denot To.Denot along)
  the_places alike = view_places field (list this) view (λ X Y k u. refl) (λ X u. refl) From.Denot To.Denot along (outer.the_row From).coded (outer.the_row To).coded
      (invariant From.Denot) (invariant To.Denot) (λ u p q. refl) (λ u p q. refl) (λ u e. tt) (λ u e. tt)
      (over (inner.the_row From)) (over (inner.the_row To))
      (struct_places (inner.the_type From) (inner.the_type To) (vec.mapped along, tt) _ (λ fields. refl) refl (laid _ _ _ (vec.the_places heap.the_row ghosts From To along alike), tt))

  pub the_codes_placed : Recodes From To along → Recodes (outer.the_row From) (outer.the_row To) ((the_former this).map From.Denot To.Denot along)
  the_codes_placed same items = sym (code_map From.coded.code To.coded.code along (λ item. sym (same item)) items)
