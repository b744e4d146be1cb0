-- What the collector's log has more after a turn.
use Rattle.std.proofs.Common.{◌≡◌, ℕ, ◌+◌, ◌≤◌, List, [], ◌++◌, length, drop, filter, None, refl, sym, ap, ◌∙◌, length-append, arith}
use Rattle.std.proofs.Math.Seq.{drop-append_seam}
use Rattle.std.proofs.lemmas.List.Elements.{filter-append}
use Rattle.core_rule.proofs.Terms.{Entry, phase, State, Turns, Can, state_after, entries, MachineValue, log_of, StandsFor, EachEventKeeps, EachTurnComesTo}
use Rattle.heap_model.specs.account.Noting.{is_collectors}
use Rattle.heap_model.specs.calls.CollectorCalls.{CollectorState}
use Rattle.heap_model.proofs.call_lemmas.TurnLogs.{few_added}
use Rattle.core_rule.proofs.parties.Collectors.{all_are_collectors}
use Rattle.core_rule.proofs.parties.Logs.{last_log_is_collectors}

-- the log has the turn's entries more, and these are one at most
pub record TurnFacts (one two : MachineValue) (party : ℕ) : Type 0 where
  pub last : length one.state.seats ≡ party
  pub longer : length (log_of one party) ≤ length (log_of two party)
  pub told : drop (length (log_of one party)) (log_of two party) ≡ entries one.heap one.state Turns
  pub few : length (entries one.heap one.state Turns) ≤ 1
  pub many : length (log_of two (length one.state.seats)) ≡ length (log_of one (length one.state.seats)) + length (entries one.heap one.state Turns)

pub turn_facts : EachEventKeeps → EachTurnComesTo → (one two : MachineValue) (told : List Entry) (party : ℕ) → StandsFor one.heap one.state [] told → Can one.heap one.state Turns
    → two.state ≡ state_after one.heap one.state Turns → party ≡ length one.state.seats → TurnFacts one two party
turn_facts keeps each one two told party s can after is =
    let added = entries one.heap one.state Turns in
    let next = keeps one.heap one.state s.book Turns s.stands can in
    let old : CollectorState = record { log = one.state.collector.log; spare = 0; phase = phase s.book.history; turns = 0; last_turn = None } in
    let new : CollectorState = record { log = two.state.collector.log; spare = 0; phase = phase (s.book.history ++ added); turns = 0; last_turn = None } in
    let log_is : two.state.collector.log ≡ filter is_collectors (s.book.history ++ added)
    = ap (λ (t : State). t.collector.log) after ∙ next.stands.rule.collector_stands.log ∙ ap (filter is_collectors) next.grown in
    let comes = each one.heap one.state s.book old new s.stands can (record { log_told = s.stands.rule.collector_stands.log; phase_told = refl }) (record { log_told = log_is; phase_told = refl }) in
    let more : two.state.collector.log ≡ one.state.collector.log ++ added
    = log_is ∙ filter-append is_collectors s.book.history added ∙ ap (λ es. filter is_collectors s.book.history ++ es) (all_are_collectors added comes.0) ∙ ap (λ es. es ++ added) (sym s.stands.rule.collector_stands.log) in
    let one_log = last_log_is_collectors one party is in
    let two_log = last_log_is_collectors two party (is ∙ ap (λ (t : State). length t.seats) (sym after)) in
    let logs : log_of two party ≡ log_of one party ++ added = two_log ∙ more ∙ ap (λ es. es ++ added) (sym one_log) in
    let many = ap (length {A = Entry}) more ∙ length-append one.state.collector.log added in
    record {
      last = sym is;
      longer = omega (arith, ap (length {A = Entry}) logs, length-append (log_of one party) added);
      told = rw logs (drop-append_seam (log_of one party) added);
      few = omega (arith, few_added old new _ comes.1, many);
      many = rw (last_log_is_collectors two (length one.state.seats) (ap (λ (t : State). length t.seats) (sym after)), last_log_is_collectors one (length one.state.seats) refl) many;
    }
