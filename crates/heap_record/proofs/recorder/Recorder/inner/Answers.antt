use Rattle.std.proofs.Common.{◌-◌, List, length, refl, sym, ap, subst, ◌∙◌, arith}
use denote.Param.{param}
use Rattle.heap_model.specs.account.Turned.{without_turned}
use Rattle.heap_model.specs.declared.entry.Entry.{Entry}
use Rattle.core_machine.specs.machine.Machine.{BeginsInner, Can}
use Rattle.core_machine.specs.machine.Value.{MachineValue}
use Rattle.heap_record.specs.contracts.recorder.Recorder.{the_view}
use Rattle.heap_record.specs.Recorded.{Recorded, AnyEvents, MakesInner}
use Rattle.heap_record.proofs.Calls.{since, Remembers, recent_behind_is_since, recent_only_grows, noted_list_grows_by_since, history_grows_by_told, collector_room_stays}
use Rattle.heap_record.proofs.Inners.{InnerFacts, inner_facts, since_is_of_heap, inner_is_made}
use Rattle.heap_record.proofs.Leading.{events_lead_on_by_inner}
use Rattle.heap_record.proofs.recorder.Recorder.inner.Given.{Over}
use Rattle.heap_record.proofs.recorder.Recorder.inner.Goals as goal
use Rattle.heap_record.proofs.recorder.Recorder.inner.Goals.{After-play_inner, After-note_since}

-- the machine's inner call
facts : (g : Over) (c : After-play_inner g) → InnerFacts (the_view (param 0 g.row.L) g.L.ShowsRecent g.L.Entries c.self.inside) c.room.new.self c.play_inner.new.self c.args.seat c.args.inner
facts g c = inner_facts (the_view (param 0 g.row.L) g.L.ShowsRecent g.L.Entries c.self.inside) c.room.new.self c.play_inner.new.self c.args.seat c.args.inner c.room.ensures.same c.room.ensures.others c.play_inner.ensures.plays c.play_inner.ensures.spent

-- what the machine showed before
remembers : (g : Over) (c : After-play_inner g) → Remembers c.room.new.self c.play_inner.new.self c.args.seat c.recent-before.result.now
remembers g c = record { recent = c.recent-before.ensures.recent; within = c.recent-before.ensures.within; same = c.play_inner.ensures.spent.forgotten }

-- what contracts see once it was noted
abbrev after : (g : Over) → After-note_since g → Recorded
after g c = record (the_view (param 0 g.row.L) g.L.ShowsRecent g.L.Entries c.self.inside) { machine = c.note_since.new.machine; history = without_turned c.note_since.new.list.items; listed = c.note_since.new.list.items; spare = c.note_since.new.spare }

-- so it is what contracts say of it
makes : (g : Over) (c : After-note_since g) → Remembers c.room.new.self c.play_inner.new.self c.args.seat c.recent-before.result.now → InnerFacts (the_view (param 0 g.row.L) g.L.ShowsRecent g.L.Entries c.self.inside) c.room.new.self c.play_inner.new.self c.args.seat c.args.inner → MakesInner (the_view (param 0 g.row.L) g.L.ShowsRecent g.L.Entries c.self.inside) (after g c) c.args.seat c.args.inner
makes g c before made =
    let old : Recorded = the_view (param 0 g.row.L) g.L.ShowsRecent g.L.Entries c.self.inside in
    let listed = noted_list_grows_by_since old c.room.new.self c.play_inner.new.self c.args.seat c.recent-before.result.now c.reserve.new.self.items c.note_since.new.list.items before c.note_since.ensures.items c.reserve.ensures.items in
    inner_is_made old (after g c) c.room.new.self c.play_inner.new.self c.args.seat c.args.inner made (record {
      same_heap = ap (λ (m : MachineValue). m.heap) c.note_since.ensures.same ∙ c.play_inner.ensures.heap ∙ ap (λ (m : MachineValue). m.heap) c.room.ensures.same;
      noted = history_grows_by_told old c.note_since.new.list.items (since c.room.new.self c.play_inner.new.self c.args.seat) refl listed (since_is_of_heap old c.room.new.self c.play_inner.new.self c.args.seat c.args.inner made);
      listed = listed;
      left = c.note_since.ensures.left ∙ ap (λ (l : List Entry). old.spare - length l) (recent_behind_is_since c.room.new.self c.play_inner.new.self c.args.seat c.recent-before.result.now before);
      turns_stay = refl;
      last_stays = refl;
    }) (ap (λ (m : MachineValue). m.state) c.note_since.ensures.same)

pub play_inner-requires-clause-can : goal.play_inner-requires-clause-can
play_inner-requires-clause-can g c =
    rw c.room.ensures.same (subst (λ (v : Recorded). Can v.machine.heap v.machine.state (BeginsInner c.args.seat c.args.inner)) (sym c.self.view_is) c.requires.can)

pub note_since-requires-clause-longer : goal.note_since-requires-clause-longer
note_since-requires-clause-longer g c =
    let here = (goal.at.note_since-requires-clause-longer g c).After-play_inner in
    recent_only_grows c.room.new.self c.play_inner.new.self c.args.seat c.recent-before.result.now (remembers g here) (facts g here).longer

pub note_since-requires-clause-room : goal.note_since-requires-clause-room
note_since-requires-clause-room g c =
    let here = (goal.at.note_since-requires-clause-room g c).After-play_inner in
    rw (recent_behind_is_since c.room.new.self c.play_inner.new.self c.args.seat c.recent-before.result.now (remembers g here))
    (omega (arith, (facts g here).few, c.in_ok-reserve.ensures.ok, c.in_ok-reserve.ensures.len))

pub invariant_of-self-2 : goal.invariant_of-self-2
invariant_of-self-2 g c =
    let here = goal.at.invariant_of-self-2 g c in
    let made = facts g here.After-play_inner in
    let told = c.note_since.ensures in
    let own = collector_room_stays (the_view (param 0 g.row.L) g.L.ShowsRecent g.L.Entries c.self.inside) c.play_inner.new.self c.note_since.new.machine c.args.seat made.within made.own_room told.same told.others in (
      events_lead_on_by_inner AnyEvents (the_view (param 0 g.row.L) g.L.ShowsRecent g.L.Entries c.self.inside) (after g here.After-note_since) c.self.invariant.0 c.args.seat c.args.inner (makes g here.After-note_since (remembers g here.After-play_inner) made) tt,
      record {
        own_room = omega (arith, own, c.self.invariant.1.own_room, told.left);
        listed_room = omega (arith, c.self.invariant.1.listed_room, told.left, told.capacity, told.len, c.in_ok-reserve.ensures.capacity, c.in_ok-reserve.ensures.len);
      },
    )

pub returns-clause-makes : goal.returns-clause-makes
returns-clause-makes g c =
    let here = goal.at.returns-clause-makes g c in
    subst (λ (v : Recorded). MakesInner v (after g here.After-note_since) c.args.seat c.args.inner) c.self.view_is (makes g here.After-note_since (remembers g here.After-play_inner) (facts g here.After-play_inner))
