use Rattle.std.specs.Prelude.{replicate}
use Rattle.std.proofs.Common.{refl, ap, sym, subst, ◌∙◌}
use Rattle.heap_model.specs.declared.heap.Heap.{Heap}
use Rattle.heap_model.specs.Heap.{IsHeap}
use Rattle.locked_heap.specs.Locked.{OpensAs}
use Rattle.locked_heap.specs.Progress.{at_begin}
use Rattle.heap_record.specs.Recorded.{Recorded}
use Rattle.heap_record.proofs.Leading.{events_lead_to_start}
use Rattle.locked_heap.proofs.Opened.{all_have_come_at_opening, is_parted_at_opening}
use Rattle.locked_heap.proofs.locked.Locked.new.Goals as goal

pub new-requires : goal.new-requires
new-requires g c = rw (c.requires.heap, c.requires.opening) c.requires.given.opens

pub invariant_of-result : goal.invariant_of-result
invariant_of-result g c =
    let given = g.N.Handed.given in
    let machine = c.args.machine in
    let begin = c.in_ok-vec.ensures.items_if_clones_equal (λ y same. same) ∙ ap (λ (h : Heap). replicate h.seats at_begin) (c.heap.ensures.heap ∙ c.requires.heap) in
    let limits = subst IsHeap (sym c.requires.heap) c.requires.given.limits in
    record {
      run = rw c.new.ensures (record {
        given_right = c.requires.given;
        of_heap = c.requires.heap;
        led = events_lead_to_start (OpensAs given) machine.heap machine.state _ limits (rw (c.requires.heap, c.requires.opening) c.requires.given.opens) refl c.requires.opening;
        plain = refl;
      });
      come = all_have_come_at_opening given c.new.result.machine.state c.new.result.history c.in_ok-vec.field-0.items c.requires.given (ap (λ (r : Recorded). r.machine.state) c.new.ensures ∙ c.requires.opening)
          (ap (λ (r : Recorded). r.history) c.new.ensures) begin;
      parted = is_parted_at_opening given c.new.result.history c.in_ok-vec.field-0.items c.requires.given begin;
      patient = c.requires.patience;
    }
