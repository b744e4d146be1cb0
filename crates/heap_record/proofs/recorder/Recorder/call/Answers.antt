use Rattle.std.proofs.Common.{◌-◌, List, length, refl, ap, subst, ◌∙◌, arith}
use denote.Param.{param}
use Rattle.heap_model.specs.account.Turned.{without_turned}
use Rattle.heap_model.specs.declared.entry.Entry.{Entry}
use Rattle.core_machine.specs.machine.Value.{MachineValue}
use Rattle.heap_record.specs.contracts.recorder.Recorder.{the_view}
use Rattle.heap_record.specs.Recorded.{Recorded, AnyEvents, MakesCall}
use Rattle.heap_record.proofs.Calls.{since, AddsTold, Remembers, recent_behind_is_since, recent_only_grows, noted_list_grows_by_since, history_grows_by_told, collector_room_stays, made_entries_are_of_heap, CallFacts, call_facts, call_is_made}
use Rattle.heap_record.proofs.Leading.{events_lead_on_by_call}
use Rattle.heap_record.proofs.recorder.Recorder.call.Given.{Over}
use Rattle.heap_record.proofs.recorder.Recorder.call.Goals as goal
use Rattle.heap_record.proofs.recorder.Recorder.call.Goals.{After-play_call-reply, After-note_since}

-- the machine's call
facts : (g : Over) (c : After-play_call-reply g) → CallFacts (the_view (param 0 g.row.L) g.L.ShowsRecent g.L.Entries c.self.inside) c.room.new.self c.play_call-reply.new.self c.args.seat c.args.command.now c.play_call-reply.result
facts g c =
    let calls = c.play_call-reply.ensures in
    call_facts c.law_every_run.ensures.run c.seat_laws.ensures.short (the_view (param 0 g.row.L) g.L.ShowsRecent g.L.Entries c.self.inside) c.room.new.self c.play_call-reply.new.self c.args.seat c.args.command.now c.play_call-reply.result c.self.invariant.0
    c.room.ensures.same c.room.ensures.others calls.steps calls.counts calls.answer calls.array calls.leave calls.refused calls.spent

-- what the machine showed before
remembers : (g : Over) (c : After-play_call-reply g) → Remembers c.room.new.self c.play_call-reply.new.self c.args.seat c.recent-before.result.now
remembers g c = record { recent = c.recent-before.ensures.recent; within = c.recent-before.ensures.within; same = c.play_call-reply.ensures.spent.forgotten }

-- what contracts see once it was noted
abbrev after : (g : Over) → After-note_since g → Recorded
after g c = record (the_view (param 0 g.row.L) g.L.ShowsRecent g.L.Entries c.self.inside) { machine = c.note_since.new.machine; history = without_turned c.note_since.new.list.items; listed = c.note_since.new.list.items; spare = c.note_since.new.spare }

-- it was noted
noted : (g : Over) (c : After-note_since g) → Remembers c.room.new.self c.play_call-reply.new.self c.args.seat c.recent-before.result.now → CallFacts (the_view (param 0 g.row.L) g.L.ShowsRecent g.L.Entries c.self.inside) c.room.new.self c.play_call-reply.new.self c.args.seat c.args.command.now c.play_call-reply.result
    → AddsTold (the_view (param 0 g.row.L) g.L.ShowsRecent g.L.Entries c.self.inside) (after g c) (since c.room.new.self c.play_call-reply.new.self c.args.seat)
noted g c before made =
    let old : Recorded = the_view (param 0 g.row.L) g.L.ShowsRecent g.L.Entries c.self.inside in
    let one = c.room.new.self in
    let two = c.play_call-reply.new.self in
    let listed = noted_list_grows_by_since old one two c.args.seat c.recent-before.result.now c.reserve.new.self.items c.note_since.new.list.items before c.note_since.ensures.items c.reserve.ensures.items in
    record {
      same_heap = ap (λ (m : MachineValue). m.heap) c.note_since.ensures.same ∙ c.play_call-reply.ensures.heap ∙ ap (λ (m : MachineValue). m.heap) c.room.ensures.same;
      noted = history_grows_by_told old c.note_since.new.list.items (since one two c.args.seat) refl listed (made_entries_are_of_heap old.machine.heap old.machine.state two.state (since one two c.args.seat) c.args.seat c.args.command.now c.play_call-reply.result made.made);
      listed = listed;
      left = c.note_since.ensures.left ∙ ap (λ (l : List Entry). old.spare - length l) (recent_behind_is_since one two c.args.seat c.recent-before.result.now before);
      turns_stay = refl;
      last_stays = refl;
    }

-- so it is what contracts say of it
makes : (g : Over) (c : After-note_since g) → Remembers c.room.new.self c.play_call-reply.new.self c.args.seat c.recent-before.result.now → CallFacts (the_view (param 0 g.row.L) g.L.ShowsRecent g.L.Entries c.self.inside) c.room.new.self c.play_call-reply.new.self c.args.seat c.args.command.now c.play_call-reply.result
    → MakesCall (the_view (param 0 g.row.L) g.L.ShowsRecent g.L.Entries c.self.inside) (after g c) c.args.seat c.args.command.now c.play_call-reply.result
makes g c before made =
    call_is_made (the_view (param 0 g.row.L) g.L.ShowsRecent g.L.Entries c.self.inside) (after g c) c.room.new.self c.play_call-reply.new.self c.args.seat c.args.command.now c.play_call-reply.result made (noted g c before made)
    (ap (λ (m : MachineValue). m.state) c.note_since.ensures.same)

pub note_since-requires-clause-longer : goal.note_since-requires-clause-longer
note_since-requires-clause-longer g c =
    let here = (goal.at.note_since-requires-clause-longer g c).After-play_call-reply in
    recent_only_grows c.room.new.self c.play_call-reply.new.self c.args.seat c.recent-before.result.now (remembers g here) (facts g here).longer

pub note_since-requires-clause-room : goal.note_since-requires-clause-room
note_since-requires-clause-room g c =
    let here = (goal.at.note_since-requires-clause-room g c).After-play_call-reply in
    rw (recent_behind_is_since c.room.new.self c.play_call-reply.new.self c.args.seat c.recent-before.result.now (remembers g here))
    (omega (arith, (facts g here).short, c.need.ensures, c.in_ok-reserve.ensures.ok, c.in_ok-reserve.ensures.len))

pub invariant_of-self-2 : goal.invariant_of-self-2
invariant_of-self-2 g c =
    let here = goal.at.invariant_of-self-2 g c in
    let made = facts g here.After-play_call-reply in
    let after_note = here.After-note_since in
    let told = c.note_since.ensures in
    let own = collector_room_stays (the_view (param 0 g.row.L) g.L.ShowsRecent g.L.Entries c.self.inside) c.play_call-reply.new.self c.note_since.new.machine c.args.seat made.within made.own_room told.same told.others in (
      events_lead_on_by_call AnyEvents (the_view (param 0 g.row.L) g.L.ShowsRecent g.L.Entries c.self.inside) (after g after_note) c.self.invariant.0 c.args.seat c.args.command.now c.play_call-reply.result (makes g after_note (remembers g here.After-play_call-reply) made) tt,
      record {
        own_room = omega (arith, own, c.self.invariant.1.own_room, told.left);
        listed_room = omega (arith, c.self.invariant.1.listed_room, told.left, told.capacity, told.len, c.in_ok-reserve.ensures.capacity, c.in_ok-reserve.ensures.len);
      },
    )

pub returns-clause-makes : goal.returns-clause-makes
returns-clause-makes g c =
    let here = goal.at.returns-clause-makes g c in
    subst (λ (v : Recorded). MakesCall v (after g here.After-note_since) c.args.seat c.args.command.now c.play_call-reply.result) c.self.view_is (makes g here.After-note_since (remembers g here.After-play_call-reply) (facts g here.After-play_call-reply))
