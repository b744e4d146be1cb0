-- What may stand in a play: the entries by which nothing is refused, and what a gather finds while no other makes a step.
use Rattle.std.specs.List.{list_all}
use Rattle.std.proofs.Common.{◌≡◌, ℕ, ◌+◌, ◌*◌, ◌<◌, Bool, true, false, ◌&&◌, List, [], ◌∷◌, ◌++◌, drop, refl, sym, subst, cond, append_assoc, arith}
use Rattle.std.proofs.lemmas.List.{append-nil}
use Rattle.std.proofs.lemmas.List.Sums.{sum_by-cons}
use Rattle.core_rule.proofs.Terms.{Command, Entry, Heap, Id, Reply, KeepsSpace, KeepsSpaceAfter, IsLegal, effect_of, is_of, taken_of, spent_of, total, total_but, AreUsed}
use Rattle.core_rule.proofs.Terms.{GathersRight, Owner}
use Rattle.heap_model.specs.declared.command.Command.TheVariants as commands
use Rattle.heap_model.specs.declared.account.effect.Effect.{Effect}
use Rattle.heap_model.specs.declared.entry.Entry.TheVariants as entries
use Rattle.heap_model.specs.declared.reply.Reply.TheVariants as replies
use Rattle.heap_model.specs.account.Phases.{IsBehind, ShowsPhases}
use Rattle.heap_model.specs.account.Refusals.{FindsSpace, FindsSpine, ShowsSpace, ShowsSpine}
use Rattle.heap_model.proofs.Histories.{KeepsSpaceAfter-more}
use Rattle.core_rule.proofs.counts.FreeSums.{taken_and_free_make_all, all_passed_is_all_free}
use Rattle.core_rule.proofs.entries.Legality.{keeps_space_of_takes, keeps_space_of_gives, keeps_space_of_answers, keeps_space_of_advance, keeps_space_of_end, keeps_space_of_frees, keeps_space_of_returns, keeps_space_of_swings}

-- a reply that refuses nothing for want of space, and waits for nobody
abbrev pub IsPlainReply : Reply → Type 0
IsPlainReply (replies.Full need found) = ⊥
IsPlainReply (replies.SpineFull need used) = ⊥
IsPlainReply (replies.Waits other answer p) = ⊥
IsPlainReply _ = Unit {0}

-- an entry by which nothing is refused
pub data IsPlain : Entry → Type 0 where
  taking : (number count : ℕ) → IsPlain (entries.Takes number count)
  giving : (number count : ℕ) → IsPlain (entries.GivesBack number count)
  answering : (number p : ℕ) → IsPlain (entries.Answers number p)
  advancing : (p : ℕ) → IsPlain (entries.Advance p)
  freeing : (count : ℕ) → IsPlain (entries.Frees count)
  returning : (count : ℕ) → IsPlain (entries.Returns count)
  swinging : (id : Id) → IsPlain (entries.Swings id)
  ending : (cycle kept : ℕ) → IsPlain (entries.Ends cycle kept)
  saying : (number : ℕ) (command : Command) (reply : Reply) → IsPlainReply reply → IsPlain (entries.Said number command reply)

shows_no_space : (heap : Heap) (before : List Entry) (number : ℕ) (command : Command) (reply : Reply) → IsPlainReply reply → ShowsSpace heap true before number command reply
shows_no_space heap before number command (replies.Full need found) plain = absurd plain
shows_no_space heap before number command _ plain = tt

shows_no_spine : (heap : Heap) (before : List Entry) (number : ℕ) (command : Command) (reply : Reply) → IsPlainReply reply → ShowsSpine heap true before number command reply
shows_no_spine heap before number command (replies.SpineFull need used) plain = absurd plain
shows_no_spine heap before number command _ plain = tt

shows_same : (heap : Heap) (before : List Entry) (number : ℕ) (command : Command) (reply : Reply) → IsPlainReply reply → ShowsPhases heap false before number command reply
    → ShowsPhases heap true before number command reply
shows_same heap before number commands.Collect (replies.Waits other answer p) plain shows = absurd plain
shows_same heap before number _ _ plain shows = shows

-- the rules for it are those of a run
pub keeps_space_of_plain : (heap : Heap) (before : List Entry) (entry : Entry) → IsPlain entry → KeepsSpace heap false before entry → KeepsSpace heap true before entry
keeps_space_of_plain heap before _ (taking number count) keeps = keeps_space_of_takes heap true before number count keeps.takes.0 keeps.takes.1
keeps_space_of_plain heap before _ (giving number count) keeps = keeps_space_of_gives heap true before number count keeps.takes.0 keeps.takes.1
keeps_space_of_plain heap before _ (answering number p) keeps = keeps_space_of_answers heap true before number p keeps.answers
keeps_space_of_plain heap before _ (advancing p) keeps = keeps_space_of_advance heap true before p keeps.begins
keeps_space_of_plain heap before _ (freeing count) keeps = keeps_space_of_frees heap true before count keeps.sweeps
keeps_space_of_plain heap before _ (returning count) keeps = keeps_space_of_returns heap true before count keeps.sweeps
keeps_space_of_plain heap before _ (swinging id) keeps = keeps_space_of_swings heap true before id keeps.sweeps
keeps_space_of_plain heap before _ (ending cycle kept) keeps = keeps_space_of_end heap true before cycle kept keeps.ends
keeps_space_of_plain heap before _ (saying number command reply plain) keeps = record {
  takes = tt;
  makes = keeps.makes;
  refuses = shows_no_space heap before number command reply plain;
  refuses_spine = shows_no_spine heap before number command reply plain;
  answers = tt;
  begins = tt;
  sweeps = tt;
  ends = tt;
  shows = shows_same heap before number command reply plain keeps.shows;
}

-- a seat that is noted is behind at that very position
shows_behind : (heap : Heap) (before : List Entry) (number : ℕ) (command : Command) (other answer p : ℕ) → (command ≡ commands.Collect → IsBehind other answer p before)
    → ShowsPhases heap false before number command (replies.Waits other answer p) → ShowsPhases heap true before number command (replies.Waits other answer p)
shows_behind heap before number commands.Collect other answer p behind shows = (shows.0, shows.1, shows.2, behind refl)
shows_behind heap before number _ other answer p behind shows = shows

pub keeps_space_of_waits : (heap : Heap) (before : List Entry) (number : ℕ) (command : Command) (other answer p : ℕ)
    → (ShowsPhases heap false before number command (replies.Waits other answer p) → command ≡ commands.Collect → IsBehind other answer p before)
    → KeepsSpace heap false before (entries.Said number command (replies.Waits other answer p)) → KeepsSpace heap true before (entries.Said number command (replies.Waits other answer p))
keeps_space_of_waits heap before number command other answer p behind keeps = record {
  takes = tt;
  makes = keeps.makes;
  refuses = tt;
  refuses_spine = tt;
  answers = tt;
  begins = tt;
  sweeps = tt;
  ends = tt;
  shows = shows_behind heap before number command other answer p (behind keeps.shows) keeps.shows;
}

-- a seat whose array is refused for want of spine words shows those in use
shows_full : (heap : Heap) (before : List Entry) (number : ℕ) (command : Command) (need shown : ℕ) → ShowsPhases heap false before number command (replies.SpineFull need shown)
    → ShowsPhases heap true before number command (replies.SpineFull need shown)
shows_full heap before number commands.Collect need shown shows = shows
shows_full heap before number _ need shown shows = shows

pub keeps_space_of_spine_refusal : (heap : Heap) (before : List Entry) (number : ℕ) (command : Command) (need shown : ℕ) → FindsSpine heap true before number shown
    → KeepsSpace heap false before (entries.Said number command (replies.SpineFull need shown)) → KeepsSpace heap true before (entries.Said number command (replies.SpineFull need shown))
keeps_space_of_spine_refusal heap before number command need shown finds keeps = record {
  takes = tt;
  makes = keeps.makes;
  refuses = tt;
  refuses_spine = (keeps.refuses_spine.0, keeps.refuses_spine.1, finds);
  answers = tt;
  begins = tt;
  sweeps = tt;
  ends = tt;
  shows = shows_full heap before number command need shown keeps.shows;
}

-- each entry of a legal history keeps the rules after those before it
pub keeps_space_of_each_entry : (heap : Heap) (play : Bool) (before history rest : List Entry) (entry : Entry) → KeepsSpaceAfter heap play before (history ++ entry ∷ rest)
    → KeepsSpace heap play (before ++ history) entry
keeps_space_of_each_entry heap play before [] rest entry kept = subst (λ es. KeepsSpace heap play es entry) (sym (append-nil before)) kept.0
keeps_space_of_each_entry heap play before (first ∷ history) rest entry kept =
    subst (λ es. KeepsSpace heap play es entry) (append_assoc before (first ∷ []) history) (keeps_space_of_each_entry heap play (before ++ first ∷ []) history rest entry kept.1)

-- each entry may stand in a play where it may in a run
abbrev pub MayPlay : Heap → List Entry → List Entry → Type 0
MayPlay heap before [] = Unit {0}
MayPlay heap before (entry ∷ rest) = (KeepsSpace heap false before entry → KeepsSpace heap true before entry) × MayPlay heap (before ++ entry ∷ []) rest

-- a play's history with such entries
pub legal_play_grows : (heap : Heap) (before added : List Entry) → MayPlay heap before added → IsLegal heap true before → IsLegal heap false (before ++ added) → IsLegal heap true (before ++ added)
legal_play_grows heap before added may play run = record { objects = run.objects; space = space_more before added may play.space run.space }
  where
    space_more : (before added : List Entry) → MayPlay heap before added → KeepsSpaceAfter heap true [] before → KeepsSpaceAfter heap false [] (before ++ added)
        → KeepsSpaceAfter heap true [] (before ++ added)
    space_more before [] may play run = subst (KeepsSpaceAfter heap true []) (sym (append-nil before)) play
    space_more before (entry ∷ rest) may play run =
        subst (KeepsSpaceAfter heap true []) (append_assoc before (entry ∷ []) rest)
        (space_more (before ++ entry ∷ []) rest may.1
        (KeepsSpaceAfter-more heap {play = true} [] before entry play (may.0 (keeps_space_of_each_entry heap false [] before rest entry run)))
        (subst (KeepsSpaceAfter heap false []) (sym (append_assoc before (entry ∷ []) rest)) run))

-- where all entries are the seat's, the others did nothing, and nothing was freed
others_nothing : (number : ℕ) (summand : Effect → ℕ) (since : List Entry) → list_all (is_of number) since ≡ true → total_but number summand since ≡ 0
others_nothing number summand [] own = refl
others_nothing number summand (entry ∷ since) own = rw (sum_by-cons (λ e. cond (is_of number e) 0 (summand (effect_of e))) entry since) (by_test (is_of number entry) (list_all (is_of number) since) own (others_nothing number summand since))
  where
    by_test : (b rest : Bool) → (b && rest) ≡ true → (rest ≡ true → total_but number summand since ≡ 0) → cond b 0 (summand (effect_of entry)) + total_but number summand since ≡ 0
    by_test true rest both more = omega (arith, more both)
    by_test false rest both more = cc

-- a seat's own entry frees nothing
own_frees : (number : ℕ) (entry : Entry) → is_of number entry ≡ true → (effect_of entry).freed ≡ 0
own_frees number (entries.Frees count) own = cc
own_frees number _ own = refl

none_freed : (number : ℕ) (since : List Entry) → list_all (is_of number) since ≡ true → total (λ e. e.freed) since ≡ 0
none_freed number [] own = refl
none_freed number (entry ∷ since) own = rw (sum_by-cons (λ e. (effect_of e).freed) entry since) (by_test (is_of number entry) (list_all (is_of number) since) own (own_frees number entry) (none_freed number since))
  where
    by_test : (b rest : Bool) → (b && rest) ≡ true → (b ≡ true → (effect_of entry).freed ≡ 0) → (rest ≡ true → total (λ e. e.freed) since ≡ 0) → (effect_of entry).freed + total (λ e. e.freed) since ≡ 0
    by_test true rest both first more = omega (arith, first refl, more both)
    by_test false rest both first more = cc

-- after a gather over all groups that found too little, with no step of others since, what was found is what is there
pub finds_space_in_play : (heap : Heap) (owner : ℕ → Owner) (history : List Entry) (number begun cursor given reserve : ℕ) → cursor < heap.groups
    → AreUsed heap owner history → reserve + spent_of number history ≡ taken_of number history
    → list_all (is_of number) (drop begun history) ≡ true
    → GathersRight heap owner number (drop begun history) cursor heap.groups given
    → FindsSpace heap true history number (reserve + given)
finds_space_in_play heap owner history number begun cursor given reserve within used own alone gathers =
    let all = taken_and_free_make_all (16 * heap.groups) owner in
    let passed = all_passed_is_all_free heap owner cursor within in
    let freed = none_freed number (drop begun history) alone in
    let gave = others_nothing number (λ e. e.given) (drop begun history) alone in
    let took = others_nothing number (λ e. e.taken) (drop begun history) alone in
    omega (arith, all, passed, freed, gave, took, used, own, gathers.passed, gathers.returned)
