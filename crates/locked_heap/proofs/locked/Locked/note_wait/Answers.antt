use Rattle.std.proofs.Common.{◌≡◌, Some, refl, sym, ap, subst, ◌∙◌, arith}
use Rattle.std.proofs.lemmas.Result.{on_ok_weaker}
use Rattle.heap_model.specs.Behind.{as_collect_reply}
use Rattle.heap_model.specs.declared.behind.Behind.{Behind}
use Rattle.heap_model.specs.declared.calls.collect.CollectReply.{CollectReply}
use Rattle.core_machine.specs.declared.seat.looks.Looks.{Looks}
use Rattle.core_machine.specs.machine.Machine.{seat_at}
use Rattle.core_machine.specs.seat.Looks.{MayNote}
use Rattle.locked_heap.specs.Locked.{LockedValue, MayAnswer, TellsAnswer}
use Rattle.locked_heap.proofs.GivenRuns.{seat_count_is_heaps}
use Rattle.locked_heap.proofs.Owing.{owes_no_more_untold}
use Rattle.locked_heap.proofs.Parting.{comes_no_further}
use Rattle.locked_heap.proofs.locked.Locked.note_wait.Goals as goal

-- the one found is the one told
same_found : (one two : Behind) → Some one ≡ Some two → one ≡ two
same_found one two is = cc is

pub looks-requires : goal.looks-requires
looks-requires g c = omega (arith, c.requires.within, seat_count_is_heaps g.N.Handed.given c.self.inside.recorder c.self.invariant.run c.law_every_run.ensures.run)

pub returns-in_default-clause-answers : goal.returns-in_default-clause-answers
returns-in_default-clause-answers g c _ found is =
    absurd (c.in_default.not-Some found (ap (λ (l : Looks). l.behind) c.looks.ensures ∙ ap (λ (v : LockedValue). (seat_at v.recorded.machine.state c.args.seat).looks.behind) c.self.view_is ∙ is))

pub returns-in_default-clause-further : goal.returns-in_default-clause-further
returns-in_default-clause-further g c = comes_no_further c.args.self.now c.args.self.now c.args.seat refl refl

pub returns-in_default-clause-owed : goal.returns-in_default-clause-owed
returns-in_default-clause-owed g c = let locked = c.args.self.now in owes_no_more_untold locked locked locked refl refl refl

pub was_patient-requires : goal.was_patient-requires
was_patient-requires g c = c.requires.within

pub returns-then-not-was_patient-clause-answers : goal.returns-then-not-was_patient-clause-answers
returns-then-not-was_patient-clause-answers g c patient found is = absurd (cc (c.was_patient.ensures.1 patient, c.if-not-was_patient.true))

pub returns-then-not-was_patient-clause-further : goal.returns-then-not-was_patient-clause-further
returns-then-not-was_patient-clause-further g c = comes_no_further c.args.self.now c.args.self.now c.args.seat refl refl

pub returns-then-not-was_patient-clause-owed : goal.returns-then-not-was_patient-clause-owed
returns-then-not-was_patient-clause-owed g c = let locked = c.args.self.now in owes_no_more_untold locked locked locked refl refl refl

pub note-requires-clause-next : goal.note-requires-clause-next
note-requires-clause-next g c = c.requires

pub note-requires-clause-found : goal.note-requires-clause-found
note-requires-clause-found g c =
    subst (λ (r : CollectReply). MayNote (seat_at c.args.self.now.recorded.machine.state c.args.seat).looks r) (sym c.from.ensures)
    (ap (λ (v : LockedValue). (seat_at v.recorded.machine.state c.args.seat).looks.behind) (sym c.self.view_is) ∙ ap (λ (l : Looks). l.behind) (sym c.looks.ensures) ∙ c.in-Some.is)

pub note-requires-clause-may : goal.note-requires-clause-may
note-requires-clause-may g c = subst (λ (r : CollectReply). MayAnswer g.N.Handed.given c.args.self.now c.args.seat r) (sym c.from.ensures) (c.was_patient.ensures.0 c.if-not-was_patient.false)

pub returns-clause-answers : goal.returns-clause-answers
returns-clause-answers g c =
    on_ok_weaker c.note.result (λ tells _ found is. subst (λ (r : CollectReply). TellsAnswer c.args.self.now c.note.new.self c.args.seat r) (c.from.ensures ∙ ap as_collect_reply (same_found c.in-Some.found found
    (sym c.in-Some.is ∙ ap (λ (l : Looks). l.behind) c.looks.ensures ∙ ap (λ (v : LockedValue). (seat_at v.recorded.machine.state c.args.seat).looks.behind) c.self.view_is ∙ is))) tells) c.note.ensures.answers

pub returns-clause-further : goal.returns-clause-further
returns-clause-further g c = c.note.ensures.further

pub returns-clause-owed : goal.returns-clause-owed
returns-clause-owed g c = c.note.ensures.owed
