-- What stays when a seat's own word is written: the fragments' words, the phase, the colours, and the other seats' standing in a cycle.
use Rattle.std.proofs.Common.{◌≢◌, ℕ, ◌<◌, List, inl, refl, ◌∙◌, arith}
use Rattle.core_rule.proofs.Terms.{Heap, Control, Word, put, Colour, HeapInCycle, Owner}
use Rattle.core_machine.specs.declared.table.address.Address.TheVariants.{Answer, Phase}
use Rattle.core_rule.proofs.words.Addresses.{at-put_apart}
use Rattle.core_rule.proofs.cycle.CycleFrames.{LeavesCycle, coloured_stays}
use Rattle.core_rule.proofs.frames.EntryFrames.{SameFragments}
use Rattle.core_rule.proofs.colours.LeadsFrames.{led_before_ahead_write}
use Rattle.core_rule.proofs.colours.MarkWords.{marks_where_controls_same}
use Rattle.core_rule.proofs.spines.OtherWords.{leaves_places_of_spines, leaves_spines_after_answer}

module _ (heap : Heap) (words : List ℕ) (number n : ℕ) (small : number < 16) where
  abbrev now : List ℕ
  now = put heap words (Answer number) n

  pub same_fragments_after_answer : SameFragments heap words now
  same_fragments_after_answer = record {
    controls = λ group below. at-put_apart heap words (Answer number) (Control group) n (λ e. omega (arith, e, small));
    parts = λ f part. at-put_apart heap words (Answer number) (Word f part) n (λ e. omega (arith, e, small));
    spines = leaves_places_of_spines heap words now (leaves_spines_after_answer heap words n number small);
  }

  pub heap_in_cycle_after_answer : (phase : ℕ) (owner : ℕ → Owner) (colour : ℕ → Colour) (fragments : ℕ → List ℕ)
      → HeapInCycle heap words phase owner colour fragments → HeapInCycle heap now phase owner colour fragments
  heap_in_cycle_after_answer phase owner colour fragments cycle = record {
    word = at-put_apart heap words (Answer number) Phase n (λ e. omega (arith, e)) ∙ cycle.word;
    marks = marks_where_controls_same heap words now colour same_fragments_after_answer.controls cycle.marks;
    coloured = coloured_stays heap words now owner owner colour fragments phase
        (λ marking f source x born leads. inl (led_before_ahead_write heap words (Answer number) n (omega (arith, small)) f source x leads)) (λ f marked born. born) (λ f i k keeps. keeps) cycle.coloured;
  }

  pub leaves_cycle_after_answer : (owner : ℕ → Owner) (colour : ℕ → Colour) (phase r : ℕ) → r ≢ number → LeavesCycle heap words now owner owner colour colour phase r
  leaves_cycle_after_answer owner colour phase r apart = record {
    answer = at-put_apart heap words (Answer number) (Answer r) n (λ e. apart (omega (arith, e)));
    leads = λ marking f source x born leads. inl (led_before_ahead_write heap words (Answer number) n (omega (arith, small)) f source x leads);
    marks = λ f marked. marked;
    births = λ f bears. (bears, refl);
  }
