-- Calls.
use Rattle.std.proofs.Common.{◌≡◌, ℕ, suc, List, ap, ◌∙◌}
use Rattle.typed_prog.specs.declared.types.CoreType.{CoreType}
use Rattle.typed_prog.specs.declared.tree.Value.{Value}
use Rattle.typed_prog.specs.View.{view_value}
use Rattle.c_runs.specs.Core as c
use Rattle.core_trees.specs.declared.statements.Core.{Core}
use Rattle.core_trees.specs.View.{view_cores}
use Rattle.c_runs.specs.Plans.{Mades, Sent, called_sent, sent_value, temp_of}
use Rattle.normal_steps.specs.declared.puts.Put.{Put}
use Rattle.normal_steps.specs.declared.puts.Put.TheVariants as put
use Rattle.normal_steps.specs.Into.{MadeInto, MadesInto, SentInto, view_put}
use Rattle.normal_steps.proofs.Joins.{join_twice}

pub called_done : (old new : List Core) (l f n : ℕ) (y : Mades) (arguments : List Value) → MadesInto old new y arguments n → SentInto old new (called_sent l f y) (put.Called f l arguments) n
called_done old new l f n y arguments h = record { pushed = h.pushed; put_is = ap (λ es k. c.call (c.temporary k) f l es) h.values_are; next_is = h.next_is }

pub sent_value_done : (old mid new : List Core) (type : CoreType) (l : ℕ) (x : Sent) (sent : Put) (w : Value) (slot n' : ℕ) → SentInto old mid x sent slot → view_cores new ≡ c.join (view_cores mid) (c.one (view_put sent slot))
    → view_value w ≡ temp_of type l slot → n' ≡ suc slot → MadeInto old new (sent_value type l x) w n'
sent_value_done old mid new type l x sent w slot n' h p v k =
    let at : view_put sent slot ≡ x.put x.next_temp = ap (λ f. f slot) h.put_is ∙ ap x.put h.next_is in
    record {
      pushed = join_twice (view_cores old) (view_cores mid) (view_cores new) x.before (c.one (x.put x.next_temp)) h.pushed (p ∙ ap (λ s. c.join (view_cores mid) (c.one s)) at);
      value_is = v ∙ ap (temp_of type l) h.next_is;
      next_is = k ∙ ap suc h.next_is;
    }
