-- A `Boxed` inside a type that leads back to itself: it holds one value, that of the box in it.
use mathlib.Core.Path.{refl}
use mathlib.Core.Former.{Former, this, const, pair, via}
use base.Stored.{gnil}
use base.Fml.{ftrue}
use denote.RattleType.{RattleType}
use denote.Memory.{part_of}
use denote.RawPtr.{Ptr}
use denote.Sharing.{nothing}
use denote.HoleLaws.{Alike}
use denote.HolePlaces.{Recodes, struct_places, laid, one_value}
use denote.Hole.Fix.{over}
use denote.Param.Weighed.{Weighed}
use denote.Model.Placed.{view_places}
use Rattle.std.specs.declared.boxed.Box.{Box}
use Rattle.std.specs.contracts.boxed.Box as box
use Rattle.std.specs.declared.alloc.Global.{Global}
use Rattle.std.specs.contracts.alloc.Global as heap
use Rattle.std.specs.contracts.impls.GlobalAllocator.TheImpl.{ghosts}
use Rattle.wp_base.specs.declared.boxed.Boxed.TheInside.{Inside}
use Rattle.wp_base.specs.declared.boxed.Boxed.TheView.{view, invariant}
use Rattle.wp_base.specs.contracts.boxed.Boxed as outer
use Rattle.wp_base.specs.contracts.boxed.Boxed.TheInside as inner

abbrev pub the_former : Former {0} → Former {0}
the_former item = item

abbrev pub the_weighed : {item : Former {0}} → Weighed item → Weighed (the_former item)
the_weighed weighed = weighed

-- the one field is the box: where it lies, its allocator, and its value
abbrev field : Former {0}
field = via (pair (const (Ptr × Global)) this) Inside (λ Item fields. ((fields.inner.ptr, fields.inner.alloc), fields.inner.value))
    (λ Item parts. record { inner = record { ptr = parts.0.0; alloc = parts.0.1; value = parts.1 } }) (λ Item fields. refl) (λ Item parts. refl)

abbrev put_in : {Old New : Type 0} → Box Old Global → New → Box New Global
put_in b new = record { ptr = b.ptr; alloc = b.alloc; value = new }

abbrev box_row : RattleType → RattleType
box_row Row = box.the_row Row heap.the_row ghosts

module _ (From To : RattleType) (along : From.Denot → To.Denot) where
  box_places : Alike From To along → Alike (box_row From) (box_row To) (λ b. put_in b (along b.value))
  unfolding part_of
  box_places alike = record {
    mir_same = λ i. (box_row (one_value From (alike.mir_same i) (λ _. ftrue) (λ _ _. nothing) gnil)).mir;
    own_same = λ b i. (box_row (one_value From (alike.mir_same i) (alike.own_same b.value i) (alike.shr_same b.value i) gnil)).own_val (put_in b tt);
    shr_same = λ b i. (box_row (one_value From (alike.mir_same i) (alike.own_same b.value i) (alike.shr_same b.value i) gnil)).shr_at (put_in b tt);
  }

  pub the_places : Alike From To along → Alike (outer.the_row From) (outer.the_row To) ((the_former this).map From.Denot To.Denot along)
  the_places alike = view_places field this view (λ X Y k u. refl) (λ X u. refl) From.Denot To.Denot along (outer.the_row From).coded (outer.the_row To).coded
      (invariant From.Denot) (invariant To.Denot) (λ u p q. refl) (λ u p q. refl) (λ u e. tt) (λ u e. tt)
      (over (inner.the_row From)) (over (inner.the_row To))
      (struct_places (inner.the_type From) (inner.the_type To) ((λ b. put_in b (along b.value)), tt) _ (λ fields. refl) refl (laid _ _ _ (box_places alike), tt))

  pub the_codes_placed : Recodes From To along → Recodes (outer.the_row From) (outer.the_row To) ((the_former this).map From.Denot To.Denot along)
  the_codes_placed same value = same value
