-- A script that was answered and whose seats have left was played.
use Rattle.std.proofs.Common.{◌≡◌, true, ℕ, ◌+◌, ◌*◌, ◌<◌, List, [], ◌∷◌, ◌++◌, length, take, drop, Some, refl, sym, ap, subst, ◌∙◌, append_assoc, arith}
use Rattle.std.specs.List.{flat_map, range_with_len}
use Rattle.std.proofs.lemmas.List.{take_at, drop_at}
use Rattle.heap_model.specs.declared.heap.Heap.{Heap}
use Rattle.heap_model.specs.declared.entry.Entry.{Entry}
use Rattle.heap_model.specs.declared.entry.Entry.TheVariants.{Ends}
use Rattle.heap_model.specs.account.Account.{IsLegal}
use Rattle.heap_model.specs.account.PhaseCounts.{has_left}
use Rattle.heap_model.specs.account.Windows.{begins_cycle, up_to_cycle}
use Rattle.heap_model.specs.calls.SeatCalls.{leave_entries}
use Rattle.core_rule.specs.sweep_exact.SweepLaws.{EachLastCycleEmpties}
use Rattle.heap_model.specs.account.Space.{fragments_gained, fragments_lost, fragments_used, words_used, words_granted, words_returned}
use Rattle.script_text.specs.declared.script.Form.TheVariants as forms
use Rattle.script_text.specs.declared.script.Line.{Line}
use Rattle.script_text.specs.declared.script.Script.{Script}
use Rattle.reply_text.specs.declared.history.History.{History}
use Rattle.reply_text.specs.declared.history.SpaceMark.{SpaceMark}
use Rattle.log_merge.specs.Legal.{ShowsUse, ShowsCounts}
use Rattle.core_rule.proofs.parties.LeftStill.{left_stays_left, up_to_last_in_later}
use Rattle.heap_runs.specs.Play.{IsLastCycle, IsPlayThat}
use Rattle.heap_runs.specs.PlayHeap.{PlayState, IsPlayed}
use Rattle.heap_runs.specs.Playing.{HaveLeft, NotesLastCycle}
use Rattle.heap_runs.proofs.Bounds.{returned_within}

-- no fragment and no spine word is in use where the last cycle began after every seat had left
none_used : EachLastCycleEmpties → (heap : Heap) (told turned : List Entry) → IsPlayed heap (told ++ turned) → ((number : ℕ) → number < heap.seats → has_left number told ≡ true) → IsLastCycle turned
    → (fragments_lost (told ++ turned) ≡ fragments_gained heap (told ++ turned)) × (words_returned (told ++ turned) ≡ words_granted (told ++ turned))
none_used empties heap told turned played gone cycle =
    let last = cycle.last in
    let ending : List Entry = Ends last.cycle last.kept ∷ [] in
    let before : List Entry = told ++ cycle.under_way in
    let all : told ++ turned ≡ (before ++ last.steps) ++ ending
    = ap (λ es. told ++ es) (cycle.both ∙ ap (λ es. cycle.under_way ++ es) last.ends) ∙ sym (append_assoc told cycle.under_way (last.steps ++ ending)) ∙ sym (append_assoc before last.steps ending) in
    let left : (number : ℕ) → number < heap.seats → has_left number (up_to_cycle (before ++ last.steps)) ≡ true
    = λ number under. ap (has_left number) (up_to_last_in_later begins_cycle before last.steps last.begins)
    ∙ left_stays_left number before (up_to_cycle last.steps) (left_stays_left number told cycle.under_way (gone number under)) in
    let empty = empties heap true (before ++ last.steps) last.cycle last.kept (subst (IsLegal heap true) all played.legal) left in
    (omega (arith, ap (fragments_used heap) all, empty.0, played.none_short), omega (arith, ap words_used all, empty.1, returned_within heap (told ++ turned) played.legal))

-- the whole play: the script was answered, the seats have left, and a last cycle was made
pub script_is_played_whole : EachLastCycleEmpties → (Answered : List Line → List Entry → Type 0) (script : Script) (middle gone last : PlayState) (entries : List Entry) (mark : SpaceMark) (used : ℕ) (told : History)
    → Answered script.lines middle.entries → HaveLeft script.heap middle gone script.heap.seats → NotesLastCycle gone last → IsPlayed script.heap last.entries → entries ≡ last.entries
    → mark.before ≡ length middle.entries → ShowsUse script.heap middle.entries mark.used → mark.total ≡ 16 * script.heap.groups → mark.spine + words_returned middle.entries ≡ words_granted middle.entries → mark.budget ≡ script.heap.spine
    → ShowsUse script.heap last.entries used → told ≡ record { version = script.version; form = forms.Play; heap = script.heap; entries = entries; mark = Some mark; end_used = used } → IsPlayThat Answered script told
script_is_played_whole empties Answered script middle gone last entries mark used told answered left notes played listed before in_use total spine budget at_end is =
    let leaving : List Entry = flat_map (λ number. leave_entries number (left.left number)) (range_with_len 0 script.heap.seats) in
    let front = middle.entries in
    let all : entries ≡ front ++ (leaving ++ notes.turned) = listed ∙ notes.told ∙ ap (λ es. es ++ notes.turned) left.leaves ∙ append_assoc front leaving notes.turned in
    let front_is : take mark.before entries ≡ front = rw all (take_at front _ mark.before (sym before)) in
    let behind_is = ap (drop mark.before) all ∙ drop_at front _ mark.before (sym before) in
    let empty = none_used empties script.heap gone.entries notes.turned (subst (IsPlayed script.heap) notes.told played) left.gone notes.cycle in
    let told_is : entries ≡ gone.entries ++ notes.turned = listed ∙ notes.told in
    let shown : ShowsCounts script.heap front mark = record { used = in_use; total = total; spine = spine; budget = budget } in
    rw is (record {
      version = refl;
      form = refl;
      heap = refl;
      legal = record {
        entries = subst (IsLegal script.heap true) (sym listed) played.legal;
        mark = rw front_is shown;
        end_used = subst (λ es. ShowsUse script.heap es used) (sym listed) at_end;
      };
      none_used = omega (arith, at_end, ap fragments_lost notes.told, ap (fragments_gained script.heap) notes.told, empty.0);
      all_returned = ap words_returned told_is ∙ empty.1 ∙ sym (ap words_granted told_is);
      parted = record {
        answered = rw front_is answered;
        leaving = leaving;
        turned = notes.turned;
        leaves = (left.left, refl);
        cycle = notes.cycle;
        behind_is = behind_is;
      };
    })
