-- What is owed after a leave, an inner call or a turn: these claim nothing.
use Rattle.std.proofs.Common.{◌≡◌, ℕ, ◌+◌, ◌-◌, ◌^◌, ◌<◌, min, ◌==◌, if◌then◌else◌, Bool, true, false, List, [], ◌∷◌, ◌++◌, length, drop, refl, sym, ap, subst, ◌∙◌, append_assoc, arith}
use Rattle.std.specs.List.{AllByRecursion}
use Rattle.std.specs.Prelude.{Result, Ok, Err, OnErr}
use Rattle.std.proofs.Math.Seq.{drop-append_seam}
use Rattle.std.proofs.lemmas.List.{append-nil}
use Rattle.std.proofs.lemmas.List.Sums.{sum_by-append, sum_by-cons}
use Rattle.heap_model.specs.account.Effects.{effect_of}
use Rattle.heap_model.specs.account.Noting.{is_collectors}
use Rattle.heap_model.specs.account.Space.{total}
use Rattle.heap_model.specs.declared.calls.collect.Inner.{Inner}
use Rattle.heap_model.specs.declared.calls.collect.Inner.TheVariants as inners
use Rattle.heap_model.specs.declared.calls.collector_calls.Turn.{Turn}
use Rattle.heap_model.specs.declared.command.Command.{Command}
use Rattle.heap_model.specs.declared.command.Command.TheVariants.{Leave}
use Rattle.heap_model.specs.declared.entry.Entry.{Entry}
use Rattle.heap_model.specs.declared.entry.Entry.TheVariants as entries
use Rattle.heap_model.specs.declared.heap.Heap.{Heap}
use Rattle.heap_model.specs.declared.reply.Reply.{Reply}
use Rattle.core_machine.specs.declared.table.address.Address.TheVariants as addresses
use Rattle.core_machine.specs.machine.InnerCalls.{inner_entries}
use Rattle.core_machine.specs.machine.Machine.{seat_at, Turns}
use Rattle.core_machine.specs.machine.Machine as machines
use Rattle.core_machine.specs.table.Layout.{at}
use Rattle.locked_heap.specs.Locked.{LockedValue, OwesMore, OwesNoMore}
use Rattle.heap_record.specs.Recorded.{Recorded, StandsStill, MakesCall, MakesInner, MakesTurn, claimed_by}

abbrev claimed : List Entry → ℕ
claimed told = total (λ e. e.taken) told

both_claim : (front behind : List Entry) → claimed front ≡ 0 → claimed behind ≡ 0 → claimed (front ++ behind) ≡ 0
both_claim front behind none more = omega (arith, sum_by-append (λ e. (effect_of e).taken) front behind, none, more)

-- the collector's entries claim nothing
collectors_claim : (told : List Entry) → AllByRecursion (λ entry. is_collectors entry ≡ true) told → claimed told ≡ 0
collectors_claim [] own = refl
collectors_claim (entries.Said number command reply ∷ told) own = absurd (cc own.0)
collectors_claim (entries.Takes number count ∷ told) own = absurd (cc own.0)
collectors_claim (entry ∷ told) own = omega (arith, sum_by-cons (λ e. (effect_of e).taken) entry told, collectors_claim told own.1)

-- nor does what an inner call tells
answer_claims : (said : Bool) (entry : Entry) → (effect_of entry).taken ≡ 0 → claimed (if said then [] else entry ∷ []) ≡ 0
answer_claims true entry none = refl
answer_claims false entry none = omega (arith, sum_by-cons (λ e. (effect_of e).taken) entry [], none)

inner_claims : (heap : Heap) (words : List ℕ) (number answered : ℕ) (inner : Inner) → claimed (inner_entries heap words number answered inner) ≡ 0
inner_claims heap words number answered inners.Look = refl
inner_claims heap words number answered inners.Answer = answer_claims (at heap words addresses.Phase == answered) (entries.Answers number (at heap words addresses.Phase)) refl
inner_claims heap words number answered (inners.Behind other) = refl
inner_claims heap words number answered (inners.Note reply) = refl

-- nor what a leave tells
gives_claim : (none : Bool) (number unborn : ℕ) → claimed (if none then [] else entries.GivesBack number unborn ∷ []) ≡ 0
gives_claim true number unborn = refl
gives_claim false number unborn = refl

-- what a call claimed is owed more
pub owed_grows_by_claimed : (old new : Recorded) (told : List Entry) (taken was owed number : ℕ) (command : Command) (reply : Reply) → MakesCall old new number command reply → told ≡ drop (length old.listed) new.listed
    → taken ≡ claimed_by told → owed ≡ min (was + taken) (2 ^ 64 - 1) → owed ≡ min (was + total (λ e. e.taken) (drop (length old.history) new.history)) (2 ^ 64 - 1)
owed_grows_by_claimed old new told taken was owed number command reply makes is counted owed_is =
    let added : List Entry = makes.call.before ++ entries.Said number command reply ∷ [] in
    let told_is : told ≡ added = is ∙ ap (drop (length old.listed)) makes.listed ∙ drop-append_seam old.listed added in
    let since : drop (length old.history) new.history ≡ added = ap (drop (length old.history)) makes.noted ∙ drop-append_seam old.history added in
    omega (arith, owed_is, counted, ap claimed told_is, ap claimed since)

-- where nothing was told nothing more is owed
pub owes_no_more_untold : (was old new : LockedValue) → was ≡ old → new.recorded.history ≡ was.recorded.history → new.owed ≡ was.owed → OwesNoMore old new
owes_no_more_untold was old new is same owed =
    subst (λ (v : LockedValue). OwesNoMore v new) is (record { added = []; grown = same ∙ sym (append-nil was.recorded.history); none_claimed = refl; owed_stays = owed })

-- nor after more that claims nothing
pub owes_no_more_in_turn : (old now new : LockedValue) → OwesNoMore old now → OwesNoMore now new → OwesNoMore old new
owes_no_more_in_turn old now new one two = record {
  added = one.added ++ two.added;
  grown = two.grown ∙ ap (λ (l : List Entry). l ++ two.added) one.grown ∙ append_assoc old.recorded.history one.added two.added;
  none_claimed = both_claim one.added two.added one.none_claimed two.none_claimed;
  owed_stays = two.owed_stays ∙ one.owed_stays;
}

-- nor after an inner call, a turn or a leave
pub owes_no_more_after_inner : (was old new : LockedValue) (number : ℕ) (inner : Inner) → was ≡ old → MakesInner was.recorded new.recorded number inner → new.owed ≡ was.owed → OwesNoMore old new
owes_no_more_after_inner was old new number inner is makes owed =
    let heap = was.recorded.machine.heap in
    let state = was.recorded.machine.state in
    let answered = (seat_at state number).answered in
    subst (λ (v : LockedValue). OwesNoMore v new) is
    (record { added = inner_entries heap state.words number answered inner; grown = makes.noted; none_claimed = inner_claims heap state.words number answered inner; owed_stays = owed })

pub owes_no_more_after_turn : (was old new : LockedValue) (ready : Recorded) (turn : Turn) → was ≡ old → StandsStill was.recorded ready → MakesTurn ready new.recorded turn → new.owed ≡ was.owed → OwesNoMore old new
owes_no_more_after_turn was old new ready turn is still makes owed =
    let added : List Entry = machines.entries ready.machine.heap ready.machine.state Turns in
    subst (λ (v : LockedValue). OwesNoMore v new) is
    (record { added = added; grown = makes.noted ∙ ap (λ (l : List Entry). l ++ added) still.history_stays; none_claimed = collectors_claim added makes.own; owed_stays = owed })

pub owes_no_more_after_leave : (was old new : LockedValue) (number : ℕ) (reply : Reply) → was ≡ old → MakesCall was.recorded new.recorded number Leave reply → new.owed ≡ was.owed → OwesNoMore old new
owes_no_more_after_leave was old new number reply is makes owed =
    let unborn = length (seat_at was.recorded.machine.state number).reserve in
    let before = makes.call.comes (λ poll. cc poll) in
    let said = entries.Said number Leave reply in
    subst (λ (v : LockedValue). OwesNoMore v new) is (record {
      added = makes.call.before ++ said ∷ [];
      grown = makes.noted;
      none_claimed = both_claim makes.call.before (said ∷ []) (ap claimed before ∙ gives_claim (unborn == 0) number unborn) refl;
      owed_stays = owed;
    })

-- whatever was answered
pub on_err_always : {T E : Type 0} (result : Result T E) (P : Type 0) → P → OnErr result P
on_err_always (Ok value) P holds = tt
on_err_always (Err fault) P holds = holds

-- so what is owed is more by nothing
pub owes_more_by_nothing : (old new : LockedValue) → OwesNoMore old new → old.owed < 2 ^ 64 → OwesMore old new
owes_more_by_nothing old new none small =
    let told = ap claimed (ap (drop (length old.recorded.history)) none.grown ∙ drop-append_seam old.recorded.history none.added) ∙ none.none_claimed in
    omega (arith, told, none.owed_stays, small)
