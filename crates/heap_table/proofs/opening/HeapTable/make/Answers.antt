use Rattle.std.proofs.Common.{suc, ◌≡◌, ℕ, ◌+◌, ap, ◌∙◌, sym, subst, arith}
use Rattle.heap_model.specs.declared.heap.Heap.{Heap}
use Rattle.heap_table.specs.Handing.{with_handed}
use Rattle.heap_table.specs.Known.{opening_known}
use Rattle.heap_table.specs.Opened.{EachOpens, IsOpened}
use Rattle.heap_table.proofs.OpeningHolders.{AreOpened, are_opened_with_next}
use Rattle.heap_table.proofs.opening.HeapTable.make.Goals as goal

pub next_seat-requires-clause-opens : goal.next_seat-requires-clause-opens
next_seat-requires-clause-opens g c = subst EachOpens (sym c.loop-number.invariant.0) c.loop-number.invariant.3

pub loop-number-preserved : goal.loop-number-preserved
loop-number-preserved g c =
    let i = c.loop-number.invariant in
    let n : ℕ = c.loop-number.number in
    let new = c.in_ok-holder.ensures.handed in
    let table = ap (λ v. v.table) new in
    let opened = subst (λ (h : Heap). IsOpened c.loop-number.collector.table h c.in_ok-holder.holder) i.0 c.in_ok-holder.ensures.seat in
    let more = are_opened_with_next c.loop-number.collector.table c.args.heap n c.loop-number.holders.items c.in_ok-holder.holder i.4 opened c.in_ok-holder.ensures.number in
    let one : suc n ≡ n + 1 = omega arith in (
      ap (λ v. v.heap) new ∙ i.0,
      ap (λ v. v.known) new ∙ ap with_handed i.1 ∙ ap (λ (k : ℕ). record (opening_known c.args.heap) { handed = k }) one,
      ap (λ v. v.turns) new ∙ i.2,
      i.3,
      subst (λ t. AreOpened t c.args.heap (n + 1) c.push.new.self.items) (sym table) (subst (λ l. AreOpened c.loop-number.collector.table c.args.heap (n + 1) l) (sym c.in_ok-push.ensures.items) more),
    )
