use Rattle.std.proofs.Common.{refl, sym, subst}
use Rattle.heap_table.specs.CollectorHeld.{CollectorHeld}
use Rattle.heap_table.specs.Folded.{AllFolded}
use Rattle.heap_table.specs.Views.{known_by}
use Rattle.heap_table.proofs.Histories.{read_words_are_known, shown_words_are_known, shown_have_one_history, closed_has_one_history, read_words_are_last}
use Rattle.heap_table.proofs.collector.CollectorHolder.close_into.Goals as goal

pub read_all-requires-clause-folded : goal.read_all-requires-clause-folded
read_all-requires-clause-folded g c = subst (λ (v : CollectorHeld). AllFolded v.heap v.known.seats) (sym c.self.view_is) c.requires.folded

pub of-requires : goal.of-requires
of-requires g c =
    let i = c.self.invariant in
    read_words_are_last c.self.inside.heap (known_by c.self.inside.token.me.0) _ _
    (read_words_are_known c.self.inside.heap (known_by c.self.inside.token.me.0) _ _ c.read_all.ensures.known c.read_all.ensures.ends c.read_all.ensures.whole) c.read_all.ensures.whole i.folded_is

pub returns-clause-words : goal.returns-clause-words
returns-clause-words g c =
    rw c.of.ensures
    (shown_words_are_known _ _ _ c.self.view_is
    (read_words_are_known c.self.inside.heap (known_by c.self.inside.token.me.0) _ _ c.read_all.ensures.known c.read_all.ensures.ends c.read_all.ensures.whole))

pub returns-clause-history : goal.returns-clause-history
returns-clause-history g c =
    let i = c.self.invariant in
    rw c.of.ensures
    (shown_have_one_history _ _ _ c.self.view_is
    (closed_has_one_history c.self.inside.heap (known_by c.self.inside.token.me.0) _ c.self.inside.seat_slots.items _ _ _ c.read_all.ensures.known i.seats_are i.a_slot_each c.read_all.ensures.ends c.read_all.ensures.whole refl refl))
