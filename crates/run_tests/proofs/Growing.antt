-- The small heap of the tests: its entries are plain, and stay legal with one more.
use Rattle.std.proofs.Common.{◌≡◌, ℕ, Bool, true, false, cond, List, [], ◌∷◌, ◌++◌, refl, sym, ap, subst, ◌∙◌, length, length-append, arith, sum_by}
use Rattle.std.specs.List.{AllByRecursion}
use Rattle.std.proofs.lemmas.List.Sums.{sum_by-cons}
use Rattle.heap_model.specs.declared.heap.Heap.{Heap}
use Rattle.heap_model.specs.declared.command.Command.{Command}
use Rattle.heap_model.specs.declared.command.Command.TheVariants as commands
use Rattle.heap_model.specs.declared.command.TurnCommand.{TurnCommand}
use Rattle.heap_model.specs.declared.reply.TurnReply.{TurnReply}
use Rattle.heap_model.specs.account.Phases.{TurnShows}
use Rattle.heap_model.specs.declared.entry.Entry.{Entry}
use Rattle.heap_model.specs.declared.entry.Entry.TheVariants.{Said, Turned}
use Rattle.heap_model.specs.declared.reply.Reply.TheVariants.{Done}
use Rattle.heap_model.specs.account.Account.{KeepsSpace}
use Rattle.heap_model.specs.account.Effects.{effect_of, is_of}
use Rattle.heap_model.specs.account.PhaseCounts.{phase, last_answer}
use Rattle.heap_model.specs.account.Space.{fragments_lost, taken_of, spent_of, words_granted}
use Rattle.heap_model.specs.Needs.{made_by}
use Rattle.heap_model.specs.calls.SeatCalls.{ComesBefore}
use Rattle.heap_model.specs.graph.Graph.{Graph, opening}
use Rattle.heap_model.specs.graph.Growth.{after_entry}
use Rattle.heap_model.specs.graph.Legal.{Accepts}
use Rattle.heap_model.proofs.Histories.{graph_after-more, AcceptsAll-more, KeepsSpaceAfter-more}
use Rattle.core_machine.specs.seat.Commands.{IsRecordCall, IsArrayCall}
use Rattle.run_tests.specs.Growing.{is_plain, IsPlainEntry, IsGrowing}
use Rattle.heap_runs.specs.PlayHeap.{PlayState, IsPlayed, AnswersOnce}

-- plain entries come to nothing
none_summed : (f : Entry → ℕ) → ((number : ℕ) (command : Command) → is_plain command ≡ true → f (Said number command Done) ≡ 0) → ((command : TurnCommand) (reply : TurnReply) → f (Turned command reply) ≡ 0)
    → (told : List Entry) → AllByRecursion IsPlainEntry told → sum_by f told ≡ 0
none_summed f none no_turned [] plain = refl
none_summed f none no_turned (Said number command Done ∷ told) plain = omega (arith, sum_by-cons f (Said number command Done) told, none number command plain.0, none_summed f none no_turned told plain.1)
none_summed f none no_turned (Turned command reply ∷ told) plain = omega (arith, sum_by-cons f (Turned command reply) told, no_turned command reply, none_summed f none no_turned told plain.1)
none_summed f none no_turned (_ ∷ told) plain = absurd plain.0

none_made : (command : Command) → is_plain command ≡ true → made_by command Done ≡ 0
none_made (commands.Num d n) plain = refl
none_made (commands.Nil d) plain = refl
none_made (commands.Copy d r) plain = refl
none_made commands.Leave plain = refl
none_made _ plain = cc plain

either : (b : Bool) (n : ℕ) → n ≡ 0 → cond b n 0 ≡ 0
either true n none = none
either false n none = refl

module _ (told : List Entry) (plain : AllByRecursion IsPlainEntry told) where
  none_lost : fragments_lost told ≡ 0
  none_lost = omega (arith, none_summed (λ e. (effect_of e).given) (λ n c p. refl) (λ c r. refl) told plain, none_summed (λ e. (effect_of e).freed) (λ n c p. refl) (λ c r. refl) told plain)

  none_granted : words_granted told ≡ 0
  none_granted = none_summed (λ e. (effect_of e).words) (λ n c p. refl) (λ c r. refl) told plain

  pub no_phase_has_begun : phase told ≡ 0
  no_phase_has_begun = none_summed (λ e. (effect_of e).phases) (λ n c p. refl) (λ c r. refl) told plain

  none_taken : (number : ℕ) → taken_of number told ≡ 0
  none_taken number = none_summed (λ e. cond (is_of number e) (effect_of e).taken 0) (λ n c p. either (is_of number (Said n c Done)) 0 refl) (λ c r. refl) told plain

  none_spent : (number : ℕ) → spent_of number told ≡ 0
  none_spent number = omega (
    arith,
    none_summed (λ e. cond (is_of number e) (effect_of e).given 0) (λ n c p. either (is_of number (Said n c Done)) 0 refl) (λ c r. refl) told plain,
    none_summed (λ e. cond (is_of number e) (effect_of e).born 0) (λ n c p. either (is_of number (Said n c Done)) (made_by c Done) (none_made c p)) (λ c r. refl) told plain,
  )

pub growing_is_played : (heap : Heap) (told : List Entry) (graph : Graph) → IsGrowing heap told graph → IsPlayed heap told
growing_is_played heap told graph growing = record { legal = growing.legal; none_short = omega (arith, none_lost told growing.plain); words_fit = omega (arith, none_granted told growing.plain) }

keeps_plain : (heap : Heap) (told : List Entry) (number : ℕ) (command : Command) → AllByRecursion IsPlainEntry told → is_plain command ≡ true → KeepsSpace heap true told (Said number command Done)
keeps_plain heap told number (commands.Num d n) all plain =
    record { takes = tt; makes = (omega (arith, none_spent told all number), omega (arith, none_taken told all number)); refuses = tt; refuses_spine = tt; answers = tt; begins = tt; sweeps = tt; ends = tt; shows = tt }
keeps_plain heap told number (commands.Nil d) all plain =
    record { takes = tt; makes = (omega (arith, none_spent told all number), omega (arith, none_taken told all number)); refuses = tt; refuses_spine = tt; answers = tt; begins = tt; sweeps = tt; ends = tt; shows = tt }
keeps_plain heap told number (commands.Copy d r) all plain =
    record { takes = tt; makes = (omega (arith, none_spent told all number), omega (arith, none_taken told all number)); refuses = tt; refuses_spine = tt; answers = tt; begins = tt; sweeps = tt; ends = tt; shows = tt }
keeps_plain heap told number commands.Leave all plain =
    record { takes = tt; makes = (omega (arith, none_spent told all number), omega (arith, none_taken told all number)); refuses = tt; refuses_spine = tt; answers = tt; begins = tt; sweeps = tt; ends = tt; shows = tt }
keeps_plain heap told number _ all plain = cc plain

plain_more : (told : List Entry) (entry : Entry) → AllByRecursion IsPlainEntry told → IsPlainEntry entry → AllByRecursion IsPlainEntry (told ++ entry ∷ [])
plain_more [] entry plain more = (more, tt)
plain_more (first ∷ told) entry plain more = (plain.0, plain_more told entry plain.1 more)

-- it goes on with one more plain command
pub is_growing_after_command : (heap : Heap) (told : List Entry) (graph now : Graph) (number : ℕ) (command : Command) → IsGrowing heap told graph → is_plain command ≡ true → Accepts graph (Said number command Done)
    → now ≡ after_entry graph (Said number command Done) → IsGrowing heap (told ++ Said number command Done ∷ []) now
is_growing_after_command heap told graph now number command growing plain accepts grown =
    let entry = Said number command Done in
    record {
      grown = grown ∙ ap (λ g. after_entry g entry) growing.grown ∙ sym (graph_after-more (opening heap) told entry);
      plain = plain_more told entry growing.plain plain;
      legal = record {
        objects = AcceptsAll-more (opening heap) told entry growing.legal.objects (subst (λ g. Accepts g entry) growing.grown accepts);
        space = KeepsSpaceAfter-more heap [] told entry growing.legal.space (keeps_plain heap told number command growing.plain plain);
      };
    }

-- it goes on with an answer to a command of the collector that shows what is so
pub is_growing_after_turned : (heap : Heap) (told : List Entry) (graph : Graph) (command : TurnCommand) (reply : TurnReply) → IsGrowing heap told graph → TurnShows heap told reply → IsGrowing heap (told ++ Turned command reply ∷ []) graph
is_growing_after_turned heap told graph command reply growing shows =
    let entry = Turned command reply in
    record {
      grown = growing.grown ∙ sym (graph_after-more (opening heap) told entry);
      plain = plain_more told entry growing.plain tt;
      legal = record {
        objects = AcceptsAll-more (opening heap) told entry growing.legal.objects tt;
        space = KeepsSpaceAfter-more heap [] told entry growing.legal.space
            (record { takes = tt; makes = tt; refuses = tt; refuses_spine = tt; answers = tt; begins = tt; sweeps = tt; ends = tt; shows = shows });
      };
    }

comes_plain : (number last : ℕ) (command : Command) → is_plain command ≡ true → ComesBefore number 0 last command Done []
comes_plain number last (commands.Num d n) plain = refl
comes_plain number last (commands.Nil d) plain = refl
comes_plain number last (commands.Copy d r) plain = refl
comes_plain number last commands.Leave plain = refl
comes_plain number last _ plain = cc plain

no_record : (command : Command) → is_plain command ≡ true → IsRecordCall command → ⊥
no_record (commands.New d fields) plain is = cc plain
no_record _ plain is = absurd is

no_array : (command : Command) → is_plain command ≡ true → IsArrayCall command → ⊥
no_array (commands.Array d cells) plain is = cc plain
no_array _ plain is = absurd is

pub growing_answers_once : (old new : PlayState) (number : ℕ) (command : Command) → AllByRecursion IsPlainEntry old.entries → is_plain command ≡ true → new.heap ≡ old.heap
    → new.entries ≡ old.entries ++ Said number command Done ∷ [] → new.spare ≡ old.spare → new.turns ≡ old.turns → new.last_turn ≡ old.last_turn → AnswersOnce old new number command Done
growing_answers_once old new number command all plain heap entries spare turns last = record {
  adds = record {
    heap = heap;
    number = refl;
    unborn = 0;
    had = omega (arith, none_spent old.entries all number, none_taken old.entries all number);
    before = [];
    comes = comes_plain number (last_answer number old.entries) command plain;
    entries = entries;
    spare = omega (arith, spare, ap (length {A = Entry}) entries, length-append old.entries (Said number command Done ∷ []));
    no_more = omega (arith, spare);
  };
  turns_stay = turns;
  last_stays = last;
  left = λ leaves. refl;
  made = λ is. absurd (no_record command plain is);
  array = λ is. absurd (no_array command plain is);
}
