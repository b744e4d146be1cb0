use Rattle.std.proofs.Common.{◌-◌, ◌≡◌, List, Some, length, refl, sym, ap, subst, ◌∙◌, arith}
use denote.Param.{param}
use Rattle.heap_model.specs.account.Turned.{without_turned}
use Rattle.heap_model.specs.declared.entry.Entry.{Entry}
use Rattle.core_machine.specs.machine.Machine.{State, Turns}
use Rattle.core_machine.specs.machine.Value.{MachineValue, spare_of}
use Rattle.core_rule.proofs.parties.TurnLogs.{TurnFacts}
use Rattle.heap_record.specs.contracts.recorder.Recorder.{the_view}
use Rattle.heap_record.specs.Recorded.{Recorded, AnyEvents, MakesTurn}
use Rattle.heap_record.proofs.Calls.{since, Remembers, recent_behind_is_since, recent_only_grows, noted_list_grows_by_since, history_grows_by_told}
use Rattle.heap_record.proofs.HeapEntries.{AreOfHeap, event_entries_are_of_heap}
use Rattle.heap_record.proofs.Leading.{events_lead_on_by_turn}
use Rattle.heap_record.proofs.MachineTurns.{turn_facts_of_machine, turn_is_made}
use Rattle.heap_record.proofs.recorder.turning.RecorderCollectorCalls.turn.Given.{Over}
use Rattle.heap_record.proofs.recorder.turning.RecorderCollectorCalls.turn.Goals as goal
use Rattle.heap_record.proofs.recorder.turning.RecorderCollectorCalls.turn.Goals.{After-play_turn-turn, After-saturating_add-self-inside}

-- the machine's turn
facts : (g : Over) (c : After-play_turn-turn g) → TurnFacts c.self.inside.machine c.play_turn-turn.new.self c.heap-collector.result.seats
facts g c =
    let law = c.law_every_run.ensures in
    turn_facts_of_machine law.run law.step law.turns (the_view (param 0 g.row.L) g.L.ShowsRecent g.L.Entries c.self.inside) c.play_turn-turn.new.self c.heap-collector.result c.self.invariant.0 c.play_turn-turn.ensures.can c.play_turn-turn.ensures.state c.heap-collector.ensures.heap

-- what the machine showed before
remembers : (g : Over) (c : After-play_turn-turn g) → Remembers c.self.inside.machine c.play_turn-turn.new.self c.heap-collector.result.seats c.recent-before.result.now
remembers g c = record { recent = c.recent-before.ensures.recent; within = c.recent-before.ensures.within; same = c.play_turn-turn.ensures.spent.forgotten }

-- what contracts see once it was noted
abbrev after : (g : Over) → After-saturating_add-self-inside g → Recorded
after g c = record { machine = c.note_since.new.machine; history = without_turned c.note_since.new.list.items; listed = c.note_since.new.list.items; spare = c.note_since.new.spare; turns = c.saturating_add-self-inside.result; last_turn = Some c.play_turn-turn.result }

-- so it is what contracts say of it
makes : (g : Over) (c : After-saturating_add-self-inside g) → Remembers c.self.inside.machine c.play_turn-turn.new.self c.heap-collector.result.seats c.recent-before.result.now → TurnFacts c.self.inside.machine c.play_turn-turn.new.self c.heap-collector.result.seats → MakesTurn (the_view (param 0 g.row.L) g.L.ShowsRecent g.L.Entries c.self.inside) (after g c) c.play_turn-turn.result
makes g c before made =
    let law = c.law_every_run.ensures in
    let turn = c.play_turn-turn.ensures in
    let old : Recorded = the_view (param 0 g.row.L) g.L.ShowsRecent g.L.Entries c.self.inside in
    let two = c.play_turn-turn.new.self in
    let party = c.heap-collector.result.seats in
    let listed = noted_list_grows_by_since old old.machine two party c.recent-before.result.now old.listed c.note_since.new.list.items before c.note_since.ensures.items refl in
    turn_is_made law.run law.turns old (after g c) c.play_turn-turn.result (since old.machine two party) c.self.invariant.0 (record {
      same_heap = ap (λ (m : MachineValue). m.heap) c.note_since.ensures.same ∙ turn.heap;
      noted = history_grows_by_told old c.note_since.new.list.items (since old.machine two party) refl listed (subst AreOfHeap (sym made.told) (event_entries_are_of_heap old.machine.heap old.machine.state Turns));
      listed = listed;
      left = c.note_since.ensures.left ∙ ap (λ (l : List Entry). old.spare - length l) (recent_behind_is_since old.machine two party c.recent-before.result.now before);
      turns_stay = refl;
      last_stays = refl;
    }) made.told turn.can (ap (λ (m : MachineValue). m.state) c.note_since.ensures.same ∙ turn.state) turn.answer c.saturating_add-self-inside.ensures refl

pub note_since-requires-clause-longer : goal.note_since-requires-clause-longer
note_since-requires-clause-longer g c =
    let here = (goal.at.note_since-requires-clause-longer g c).After-play_turn-turn in
    recent_only_grows c.self.inside.machine c.play_turn-turn.new.self c.heap-collector.result.seats c.recent-before.result.now (remembers g here) (facts g here).longer

pub note_since-requires-clause-room : goal.note_since-requires-clause-room
note_since-requires-clause-room g c =
    let here = (goal.at.note_since-requires-clause-room g c).After-play_turn-turn in
    let made = facts g here in
    rw (recent_behind_is_since c.self.inside.machine c.play_turn-turn.new.self c.heap-collector.result.seats c.recent-before.result.now (remembers g here), made.told) (omega (arith, made.few, c.self.invariant.1.listed_room, ap (λ (v : Recorded). v.spare) c.self.view_is, c.requires))

pub invariant_of-self : goal.invariant_of-self
invariant_of-self g c =
    let here = goal.at.invariant_of-self g c in
    let made = facts g here.After-play_turn-turn in
    let old : Recorded = the_view (param 0 g.row.L) g.L.ShowsRecent g.L.Entries c.self.inside in
    let told = c.note_since.ensures in
    let before = remembers g here.After-play_turn-turn in
    let two = c.play_turn-turn.new.self in
    let party = c.heap-collector.result.seats in
    let many = ap (length {A = Entry}) (recent_behind_is_since c.self.inside.machine two party c.recent-before.result.now before ∙ made.told) in
    let now : length c.note_since.new.machine.state.seats ≡ party = ap (λ (m : MachineValue). length m.state.seats) told.same ∙ ap (λ (t : State). length t.seats) c.play_turn-turn.ensures.state ∙ made.last in
    let seats = ap (spare_of c.note_since.new.machine) now in
    let last = ap (spare_of two) made.last in (
      events_lead_on_by_turn AnyEvents old (after g here.After-saturating_add-self-inside) c.self.invariant.0 c.play_turn-turn.result (makes g here.After-saturating_add-self-inside before made) tt,
      record {
        own_room = omega (arith, seats, last, told.more, c.play_turn-turn.ensures.spent.own, made.many, many, c.self.invariant.1.own_room, told.left);
        listed_room = omega (arith, c.self.invariant.1.listed_room, told.left, told.capacity, told.len);
      },
    )

pub returns : goal.returns
returns g c =
    let here = goal.at.returns g c in
    let made : MakesTurn c.args.self.now (after g here.After-saturating_add-self-inside) c.play_turn-turn.result
    = subst (λ (v : Recorded). MakesTurn v (after g here.After-saturating_add-self-inside) c.play_turn-turn.result) c.self.view_is (makes g here.After-saturating_add-self-inside (remembers g here.After-play_turn-turn) (facts g here.After-play_turn-turn)) in
    record { turns = made.turned; turned = made }
