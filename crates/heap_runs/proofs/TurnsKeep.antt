-- What turns of a table's collector leave as it was.
use Rattle.std.proofs.Common.{◌≡◌, ℕ, zero, suc, refl, sym, ap, subst, ◌∙◌}
use Rattle.heap_table.specs.Known.{CollectorKnown}
use Rattle.heap_record.specs.LastCycle.{MakesInRoom}
use Rattle.collector_turns.specs.Collector.{CollectorValue}
use Rattle.collector_turns.specs.Turning.{TakesTurn, MakesRoom}

-- the heap, the seats that were folded in, and the phase of the last of them are as before
pub record KeepsFolded (old new : CollectorValue) : Type 0 where
  pub heap_stays : new.holder.heap ≡ old.holder.heap
  pub seats_stay : new.holder.known.seats ≡ old.holder.known.seats
  pub folded_stays : new.holder.known.folded ≡ old.holder.known.folded

-- so it is behind turns, one after another, with room before each
pub turns_keep_folded : (n : ℕ) (old new : CollectorValue) → MakesInRoom MakesRoom TakesTurn n old new → KeepsFolded old new
turns_keep_folded zero old new same = subst (KeepsFolded old) (sym same) (record { heap_stays = refl; seats_stay = refl; folded_stays = refl })
turns_keep_folded (suc n) old new makes =
    let now = makes.0 in
    let ready = makes.1 in
    let kept = turns_keep_folded n old now makes.3 in
    let room : ready ≡ _ = makes.4 in
    let turned = makes.5.turned in
    record {
      heap_stays = turned.heap_stays ∙ ap (λ (v : CollectorValue). v.holder.heap) room ∙ kept.heap_stays;
      seats_stay = ap (λ (k : CollectorKnown). k.seats) turned.known_is ∙ ap (λ (v : CollectorValue). v.holder.known.seats) room ∙ kept.seats_stay;
      folded_stays = ap (λ (k : CollectorKnown). k.folded) turned.known_is ∙ ap (λ (v : CollectorValue). v.holder.known.folded) room ∙ kept.folded_stays;
    }
