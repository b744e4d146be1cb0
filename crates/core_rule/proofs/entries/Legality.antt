-- Which entries of the machine may stand after a legal history.
use Rattle.std.proofs.Common.{ℕ, ◌+◌, ◌*◌, ◌≤◌, Bool, List, [], ◌∷◌, ◌++◌, arith, ◌≡◌}
use Rattle.core_rule.proofs.Terms.{Command, Entry, Heap, Id, Reply, KeepsSpace, IsLegal, most_kept, TakesAndGives, MakesOfOwn, graph_of, EndsCycle, Accepts, made_by}
use Rattle.core_rule.proofs.Terms.{fragments_gained, fragments_lost, taken_of, spent_of, opening}
use Rattle.heap_model.specs.declared.entry.Entry.TheVariants as entries
use Rattle.heap_model.specs.account.Phases.{AnswersPhase, BeginsPhase, ShowsPhases, ShowsRightly}
use Rattle.heap_model.specs.account.Refusals.{RefusesRightly, RefusesSpine, ShowsSpace, ShowsSpine}
use Rattle.heap_model.specs.account.Sweep.{Sweeps}
use Rattle.heap_model.proofs.Histories.{AcceptsAll-more, KeepsSpaceAfter-more}

-- a legal history with one more entry that keeps the rules
pub legal_after_entry : (heap : Heap) (play : Bool) (history : List Entry) (entry : Entry) → IsLegal heap play history
    → Accepts (graph_of heap history) entry → KeepsSpace heap play history entry → IsLegal heap play (history ++ entry ∷ [])
legal_after_entry heap play history entry legal accepts keeps = record {
  objects = AcceptsAll-more (opening heap) history entry legal.objects accepts;
  space = KeepsSpaceAfter-more heap {play = play} [] history entry legal.space keeps;
}

-- an entry keeps the rules where it keeps each: of what is taken and made, of what is told, and of phases
keeps_rules : (heap : Heap) (play : Bool) (before : List Entry) (entry : Entry) → TakesAndGives heap before entry → MakesOfOwn before entry
    → RefusesRightly heap play before entry × RefusesSpine heap play before entry × ShowsRightly heap play before entry → AnswersPhase before entry → BeginsPhase heap before entry
    → Sweeps heap before entry × EndsCycle heap before entry → KeepsSpace heap play before entry
keeps_rules heap play before entry takes makes tells answers begins ends = record {
  takes = takes;
  makes = makes;
  refuses = tells.0;
  refuses_spine = tells.1;
  answers = answers;
  begins = begins;
  sweeps = ends.0;
  ends = ends.1;
  shows = tells.2;
}

-- the next phase begins
pub keeps_space_of_advance : (heap : Heap) (play : Bool) (before : List Entry) (p : ℕ) → BeginsPhase heap before (entries.Advance p) → KeepsSpace heap play before (entries.Advance p)
keeps_space_of_advance heap play before p next = keeps_rules heap play before (entries.Advance p) tt tt (tt, tt, tt) tt next (tt, tt)

-- a cycle ends
pub keeps_space_of_end : (heap : Heap) (play : Bool) (before : List Entry) (cycle kept : ℕ) → EndsCycle heap before (entries.Ends cycle kept)
    → KeepsSpace heap play before (entries.Ends cycle kept)
keeps_space_of_end heap play before cycle kept ends = keeps_rules heap play before (entries.Ends cycle kept) tt tt (tt, tt, tt) tt tt (tt, ends)

-- what the collector gives up, and what it swings
pub keeps_space_of_frees : (heap : Heap) (play : Bool) (before : List Entry) (count : ℕ) → Sweeps heap before (entries.Frees count) → KeepsSpace heap play before (entries.Frees count)
keeps_space_of_frees heap play before count frees = keeps_rules heap play before (entries.Frees count) tt tt (tt, tt, tt) tt tt (frees, tt)

pub keeps_space_of_returns : (heap : Heap) (play : Bool) (before : List Entry) (count : ℕ) → Sweeps heap before (entries.Returns count) → KeepsSpace heap play before (entries.Returns count)
keeps_space_of_returns heap play before count returns = keeps_rules heap play before (entries.Returns count) tt tt (tt, tt, tt) tt tt (returns, tt)

pub keeps_space_of_swings : (heap : Heap) (play : Bool) (before : List Entry) (id : Id) → Sweeps heap before (entries.Swings id) → KeepsSpace heap play before (entries.Swings id)
keeps_space_of_swings heap play before id swings = keeps_rules heap play before (entries.Swings id) tt tt (tt, tt, tt) tt tt (swings, tt)

module _ (heap : Heap) (play : Bool) (before : List Entry) (number : ℕ) where
  -- a seat takes what is in no use
  pub keeps_space_of_takes : (count : ℕ) → 1 ≤ count → fragments_gained heap before + count ≤ 16 * heap.groups + fragments_lost before → KeepsSpace heap play before (entries.Takes number count)
  keeps_space_of_takes count some room = keeps_rules heap play before (entries.Takes number count) (some, room) tt (tt, tt, tt) tt tt (tt, tt)

  -- it gives back what it has
  pub keeps_space_of_gives : (count : ℕ) → 1 ≤ count → spent_of number before + count ≤ taken_of number before → KeepsSpace heap play before (entries.GivesBack number count)
  keeps_space_of_gives count some own = keeps_rules heap play before (entries.GivesBack number count) (some, own) tt (tt, tt, tt) tt tt (tt, tt)

  -- it answers the phase that comes after its last answer
  pub keeps_space_of_answers : (p : ℕ) → AnswersPhase before (entries.Answers number p) → KeepsSpace heap play before (entries.Answers number p)
  keeps_space_of_answers p next = keeps_rules heap play before (entries.Answers number p) tt tt (tt, tt, tt) next tt (tt, tt)

  -- it tells a reply, where it has what it makes an object of, and keeps little
  pub keeps_space_of_said : (command : Command) (reply : Reply) → ShowsSpace heap play before number command reply → ShowsSpine heap play before number command reply
      → ShowsPhases heap play before number command reply → spent_of number before + made_by command reply ≤ taken_of number before
      → taken_of number before ≤ spent_of number before + made_by command reply + most_kept command → KeepsSpace heap play before (entries.Said number command reply)
  keeps_space_of_said command reply space spine phases enough little =
      keeps_rules heap play before (entries.Said number command reply) tt (enough, little) (space, spine, phases) tt tt (tt, tt)

  -- so it is with one that makes nothing
  pub keeps_space_of_plain_said : (command : Command) (reply : Reply) → made_by command reply ≡ 0 → ShowsSpace heap play before number command reply → ShowsSpine heap play before number command reply
      → ShowsPhases heap play before number command reply → spent_of number before ≤ taken_of number before → taken_of number before ≤ spent_of number before + most_kept command
      → KeepsSpace heap play before (entries.Said number command reply)
  keeps_space_of_plain_said command reply none space spine phases own little = keeps_space_of_said command reply space spine phases (omega (arith, none, own)) (omega (arith, none, little))
