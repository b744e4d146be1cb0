-- What the seats have come to after an inner call of a collect.
use Rattle.std.specs.Prelude.{slice_set, slice_get, nat_lt, if◌then◌else◌, Bool, true, false, Option, Some, None}
use Rattle.std.proofs.Common.{◌≡◌, ◌≢◌, ℕ, ◌+◌, ◌*◌, ◌<◌, ◌≤◌, List, [], sym, ap, subst, refl, ◌∙◌, arith}
use Rattle.heap_model.specs.Behind.{behind_of}
use Rattle.heap_model.specs.declared.calls.collect.CollectReply.{CollectReply}
use Rattle.heap_model.specs.declared.calls.collect.CollectReply.TheVariants as notes
use Rattle.heap_model.specs.declared.calls.collect.Inner.{Inner}
use Rattle.heap_model.specs.declared.calls.collect.Inner.TheVariants as inners
use Rattle.heap_model.specs.declared.command.Command.TheVariants.{Collect}
use Rattle.heap_model.specs.declared.entry.Entry.{Entry}
use Rattle.heap_model.specs.declared.heap.Heap.{Heap}
use Rattle.core_machine.specs.declared.table.address.Address.TheVariants as addresses
use Rattle.core_machine.specs.machine.InnerCalls.{inner_entries, seat_after_inner}
use Rattle.core_machine.specs.machine.Machine.{seat_at}
use Rattle.heap_model.specs.declared.behind.Behind.{Behind}
use Rattle.core_machine.specs.declared.seat.looks.Looks.{Looks}
use Rattle.core_machine.specs.seat.Looks.{seen_phase, found_behind, first_of}
use Rattle.core_machine.specs.seat.Seat.{Seat}
use Rattle.core_machine.specs.table.Layout.{at}
use Rattle.core_rule.proofs.parties.OneSeat.{others_same_after_inner}
use Rattle.locked_heap.specs.declared.progress.Progress.{Progress}
use Rattle.locked_heap.specs.Given.{Given, script_of}
use Rattle.heap_model.specs.PhasePlan.{cycle_phases}
use Rattle.heap_model.specs.account.PhaseCounts.{phase}
use Rattle.core_rule.specs.runs.Laws.{StandsFor}
use Rattle.core_rule.proofs.parties.Standing.{phase_word_is_phase}
use Rattle.locked_heap.specs.Locked.{LockedValue, AllHaveCome, IsNext, IsCollecting, IsQuiet, MayAnswer}
use Rattle.locked_heap.specs.Progress.{progress_at, IsTargetOf, HasCome}
use Rattle.heap_model.specs.runs.Endings.{IsPaid}
use Rattle.heap_record.specs.Recorded.{Recorded, MakesInner}
use Rattle.heap_model.specs.runs.Told.{waits_told}
use Rattle.locked_heap.proofs.Coming.{StaysOn, IsFresh, stays_paid, one_more_is_paid, has_come_to_collect, has_come_to_next, all_have_come_with_one, all_have_come_with_find}
use Rattle.locked_heap.proofs.FindsOn.{finds_grow_by_compare}
use Rattle.heap_record.proofs.TellsOne.{waits_of}
use Rattle.locked_heap.proofs.TellsNone.{tells_none_of_empty, tells_none_of_others_inner, tells_none_of_others_note, tells_one_by_note}

-- a seat with a target has looked
looked_some : (first target : Option ℕ) → target ≢ None → IsTargetOf first target → (found : ℕ) → first_of first found ≡ first
looked_some None (Some t) some fits found = absurd fits
looked_some None None some fits found = absurd (some refl)
looked_some (Some p) target some fits found = refl

-- a comparison leaves the first look
compared_first : (b : Bool) (found : Behind) (looks : Looks) → (if b then found_behind found looks else record looks { behind = None }).first ≡ looks.first
compared_first true found looks = refl
compared_first false found looks = refl

-- the seat itself has only found something
inner_on : (heap : Heap) (words : List ℕ) (number : ℕ) (seat : Seat) (inner : Inner) → IsQuiet inner → ((found : ℕ) → first_of seat.looks.first found ≡ seat.looks.first) → StaysOn seat (seat_after_inner heap words number seat inner)
inner_on heap words number seat inners.Look quiet looked = record { left_same = refl; made_same = refl; sets_same = refl; finds = omega arith; first_same = looked (at heap words addresses.Phase) }
inner_on heap words number seat inners.Answer quiet looked = record { left_same = refl; made_same = refl; sets_same = refl; finds = omega arith; first_same = refl }
inner_on heap words number seat (inners.Note reply) quiet looked = absurd quiet
inner_on heap words number seat (inners.Behind other) quiet looked =
    let p = at heap words addresses.Phase in
    let word = at heap words (addresses.Answer other) in
    record {
      left_same = refl;
      made_same = refl;
      sets_same = refl;
      finds = finds_grow_by_compare (nat_lt word p) (behind_of other word p) (seen_phase p seat.looks);
      first_same = compared_first (nat_lt word p) (behind_of other word p) (seen_phase p seat.looks);
    }

module _ (given : Given) (old new : Recorded) (seats : List Progress) (number : ℕ) (all : AllHaveCome given old.history old.machine.state seats) where
  -- one that tells no reply leaves all as far as they were
  pub all_have_come_after_quiet : (inner : Inner) → MakesInner old new number inner → IsCollecting given seats number → IsQuiet inner → AllHaveCome given new.history new.machine.state seats
  all_have_come_after_quiet inner makes collects quiet =
      let heap = old.machine.heap in
      let state = old.machine.state in
      all_have_come_with_find given old.history new.history (inner_entries heap state.words number (seat_at state number).answered inner) state new.machine.state seats number all (others_same_after_inner heap state new.machine.state number inner makes.plays)
      makes.noted (λ other. tells_none_of_others_inner heap state.words other number (seat_at state number).answered inner quiet)
      (subst (λ (s : Seat). StaysOn (seat_at state number) s) (sym makes.plays.seat)
      (inner_on heap state.words number (seat_at state number) inner quiet (looked_some (seat_at state number).looks.first (progress_at seats number).target collects.begun (all.each number collects.next.within).target)))

  -- its first look begins a collect
  pub all_have_come_after_look : (next : Progress) → MakesInner old new number inners.Look → IsNext given seats number Collect → IsFresh (seat_at old.machine.state number) (progress_at seats number)
      → StandsFor old.machine.heap old.machine.state [] old.history → (target : ℕ) → phase old.history ≤ cycle_phases * target → cycle_phases * target < phase old.history + cycle_phases
      → next.target ≡ Some target → next.position ≡ (progress_at seats number).position → next.gone ≡ (progress_at seats number).gone → next.paid ≡ (seat_at old.machine.state number).looks.waits
      → AllHaveCome given new.history new.machine.state (slice_set seats number next)
  all_have_come_after_look next makes is_next fresh s target behind first is position gone paid =
      let heap = old.machine.heap in
      let state = old.machine.state in
      let seat : Seat = seat_at state number in
      let now : Seat = seat_at new.machine.state number in
      let found = at heap state.words addresses.Phase in
      let after : now ≡ seat_after_inner heap state.words number seat inners.Look = makes.plays.seat in
      let word : found ≡ phase old.history = phase_word_is_phase heap state old.history s in
      let looked : now.looks.first ≡ Some (phase old.history) = ap (λ (t : Seat). t.looks.first) after ∙ ap (λ (o : Option ℕ). first_of o found) fresh.first ∙ ap (λ (n : ℕ). Some n) word in
      all_have_come_with_one given old.history new.history state new.machine.state seats number all is_next.within next [] (others_same_after_inner heap state new.machine.state number inners.Look makes.plays) makes.noted
      (λ other apart. tells_none_of_empty other)
      (has_come_to_collect given old.history new.history number seat now (progress_at seats number) (all.each number is_next.within) [] makes.noted next (tells_none_of_empty number) (ap (λ (t : Seat). t.left) after)
      (ap (λ (t : Seat). t.made) after) (ap (λ (t : Seat). t.sets) after) position gone paid (omega (arith, ap (λ (t : Seat). t.looks.waits) after)) (rw (looked, is) (behind, first))
      (record { there = gone ∙ is_next.there; next = ap (λ (n : ℕ). slice_get (script_of given number) n) position ∙ is_next.next }))

  -- one that answers the seat's collect takes it one command further
  pub all_have_come_after_note : (locked : LockedValue) (owed : ℕ) (over : Bool) (came : CollectReply) (next : Progress) → locked ≡ record { recorded = old; seats = seats; owed = owed; over = over } → MakesInner old new number (inners.Note came) → IsNext given seats number Collect
      → MayAnswer given locked number came → next.target ≡ None → next.position ≡ (progress_at seats number).position + 1 → next.gone ≡ (progress_at seats number).gone → next.paid ≡ (seat_at old.machine.state number).looks.waits
      → AllHaveCome given new.history new.machine.state (slice_set seats number next)
  all_have_come_after_note locked owed over came next is makes is_next may fresh position gone paid =
      let heap = old.machine.heap in
      let state = old.machine.state in
      let come = all.each number is_next.within in
      let seat : Seat = seat_at state number in
      let now : Seat = seat_at new.machine.state number in
      let after : now ≡ seat_after_inner heap state.words number seat (inners.Note came) = makes.plays.seat in
      let added : List Entry = inner_entries heap state.words number (seat_at state number).answered (inners.Note came) in
      all_have_come_with_one given old.history new.history state new.machine.state seats number all is_next.within next added (others_same_after_inner heap state new.machine.state number (inners.Note came) makes.plays) makes.noted
      (λ other apart. tells_none_of_others_note heap state.words other number (seat_at state number).answered came apart)
      (has_come_to_next given old.history new.history number (seat_at state number) (seat_at new.machine.state number) (progress_at seats number) come added makes.noted Collect (waits_of came) next is_next.next is_next.there
      (tells_one_by_note heap state.words number (seat_at state number).answered came) (ap (λ (t : Seat). t.left) after) (omega (arith, ap (λ (t : Seat). t.made) after)) (omega (arith, ap (λ (t : Seat). t.sets) after)) position gone
      (earned come came (subst (λ (v : LockedValue). MayAnswer given v number came) is may)) (omega (arith, paid, ap (λ (t : Seat). t.looks.waits) after))
      (record { target = fresh; first = ap (λ (t : Seat). t.looks.first) after }))
    where
      earned : HasCome given old.history number (seat_at old.machine.state number) (progress_at seats number) → (came : CollectReply) → MayAnswer given (record { recorded = old; seats = seats; owed = owed; over = over }) number came
          → IsPaid given.patience (waits_told number old.history + waits_of came) next.paid
      earned come (notes.Cycle cycle) may_answer =
          subst (λ (n : ℕ). IsPaid given.patience n next.paid) (omega arith) (stays_paid given.patience (waits_told number old.history) (progress_at seats number).paid next.paid (omega (arith, paid, come.grown)) come.paid)
      earned come (notes.Waits other answered p) may_answer =
          one_more_is_paid given.patience (waits_told number old.history) (progress_at seats number).paid next.paid (rw paid may_answer) (omega (arith, paid, come.grown)) come.paid
