-- What a line of a seat notes, with the turns of a pace behind it.
use Rattle.std.proofs.Common.{◌≡◌, ℕ, zero, suc, ◌<◌, ◌≤◌, Bool, false, is_some, option_map, [], ◌++◌, length, drop, Option, None, Some, refl, ap, subst, ◌∙◌, arith}
use Rattle.std.proofs.Math.Seq.{drop-append_seam}
use Rattle.heap_model.specs.declared.calls.collector_calls.Turn.{Turn}
use Rattle.heap_model.specs.declared.command.Command.{Command}
use Rattle.heap_record.specs.Recorded.{claimed_by}
use Rattle.slack_pace.specs.Slack as slack
use Rattle.heap_runs.specs.declared.playing.making.Allocating.{Allocating}
use Rattle.heap_runs.specs.PlayHeap.{PlayState, collector_state_of}
use Rattle.heap_runs.specs.Pressed.{MakesCommand}
use Rattle.heap_runs.specs.Playing.{NotesCommand, NotesSlack, NotesPace, NotesSeatLine}
use Rattle.heap_runs.specs.Turning.{AddsTurns}
use Rattle.heap_runs.proofs.TurnFacts.{turns_none}

-- where the last turn waited some turn was made
waits_last : (made : ℕ) (new : PlayState) (last : Option Turn) → last ≡ slack.last_made made (collector_state_of new) → slack.HasWaited last → slack.HasWaited new.last_turn
waits_last zero new last is waited = absurd (subst slack.HasWaited is waited)
waits_last (suc n) new last is waited = subst slack.HasWaited is waited

-- turns that were made once there was room, and noted
pub notes_slack_after_room : (asked : ℕ) (old now new : PlayState) (made answered : ℕ) (last : Option Turn) → now ≡ record old { spare = now.spare } → (adds : AddsTurns now new)
    → answered ≡ asked → made ≤ answered → (made < answered → slack.HasWaited last) → slack.CountsTurns made (collector_state_of now) (collector_state_of new)
    → last ≡ slack.last_made made (collector_state_of new) → NotesSlack asked old new
notes_slack_after_room asked old now new made answered last same adds is most fewer counted answers = record {
  adds = record {
    same_heap = adds.same_heap ∙ ap (λ (s : PlayState). s.heap) same;
    added = adds.added;
    told = adds.told ∙ ap (λ (s : PlayState). s.entries ++ adds.added) same;
    turned = adds.turned;
  };
  made = made;
  most = omega (arith, is, most);
  fewer = λ less. waits_last made new last answers (fewer (omega (arith, is, less)));
  counted = omega (arith, counted, ap (λ (s : PlayState). s.turns) same);
}

-- what is made of a pace is there where the pace is
pub mapped_some_is_some : {A B : Type 0} → (f : A → B) (pace : Option A) → is_some (option_map f pace) ≡ is_some pace
mapped_some_is_some f None = refl
mapped_some_is_some f (Some pace) = refl

-- turns were added, and without a pace nothing
pub record AddsSlack (paced : Bool) (old new : PlayState) : Type 0 where
  pub adds : AddsTurns old new
  pub none : paced ≡ false → adds.added ≡ []

pub pace_adds_slack : (asks : Option (ℕ → ℕ)) (claimed : ℕ) (old new : PlayState) → NotesPace asks claimed old new → AddsSlack (is_some asks) old new
pace_adds_slack None claimed old new none = record { adds = turns_none old new (ap (λ (s : PlayState). s.heap) none) (ap (λ (s : PlayState). s.entries) none); none = λ unpaced. refl }
pace_adds_slack (Some asks) claimed old new notes = record { adds = notes.adds; none = λ unpaced. absurd (cc unpaced) }

module _ (way : Allocating) (old now : PlayState) (number : ℕ) (command : Command) (calls : NotesCommand (MakesCommand way) old now number command) where
  -- the command and no turns
  pub notes_line_without_turns : NotesSeatLine way None old now number command
  notes_line_without_turns = record { now = now; calls = calls; slack = refl }

  -- what was claimed for the command
  pub claimed_is_by_calls : (claimed : ℕ) → claimed ≡ claimed_by (drop (length old.entries) now.entries) → claimed ≡ claimed_by calls.added
  claimed_is_by_calls claimed is = is ∙ ap claimed_by (ap (drop (length old.entries)) calls.told ∙ drop-append_seam old.entries calls.added)

  -- the command and turns
  pub notes_line_with_turns : (asks : ℕ → ℕ) (claimed : ℕ) (new : PlayState) → claimed ≡ claimed_by calls.added → NotesSlack (asks claimed) now new → NotesSeatLine way (Some asks) old new number command
  notes_line_with_turns asks claimed new is notes = record { now = now; calls = calls; slack = subst (λ (n : ℕ). NotesSlack (asks n) now new) is notes }
