-- How many entries a seat's call adds.
use Rattle.std.proofs.Common.{◌≡◌, ℕ, ◌*◌, ◌≤◌, Bool, true, false, cond, eqb, List, [], ◌∷◌, ◌++◌, length, sum, ap, ◌⊎◌, inl, inr, refl, subst, arith, length-append}
use Rattle.std.specs.List.{All}
use Rattle.std.proofs.lemmas.List.{length-map}
use Rattle.std.proofs.lemmas.List.Elements.{All-nil, All-cons, All-head, All-tail}
use Rattle.std.proofs.lemmas.List.Sums.{sum_by-cons}
use Rattle.heap_model.specs.declared.command.Command.TheVariants as commands
use Rattle.heap_model.specs.declared.reply.Reply.{Reply}
use Rattle.heap_model.specs.declared.reply.Reply.TheVariants as replies
use Rattle.heap_model.specs.declared.entry.Entry.{Entry}
use Rattle.heap_model.specs.declared.entry.Entry.TheVariants.{Said, Takes, GivesBack}
use Rattle.heap_model.specs.Needs.{record_fragments, array_fragments}
use Rattle.heap_model.specs.calls.SeatCalls.{IsGroupCount, GathersEnough, takes_of, gives_of, ClaimsBefore, ArrayBefore, AnswersBefore}
use Rattle.heap_model.specs.calls.SeatLaws.{EachCallIsShort, EachCallLeavesRoom}

-- a list is empty or has a last element
last_cases : (xs : List ℕ) → (xs ≡ []) ⊎ ((earlier : List ℕ) × (last : ℕ) × (xs ≡ earlier ++ last ∷ []))
last_cases [] = inl refl
last_cases (x ∷ xs) = elim (last_cases xs) [
  | inl none ↦ inr ([], x, ap (λ ys. x ∷ ys) none)
  | inr (earlier, last, is) ↦ inr (x ∷ earlier, last, ap (λ ys. x ∷ ys) is)
]

-- what holds of each element holds of each in the front
front : (P : ℕ → Type 0) (xs ys : List ℕ) → All P (xs ++ ys) → All P xs
front P [] ys all = All-nil P
front P (x ∷ xs) ys all = All-cons P x xs (All-head P x (xs ++ ys) all) (front P xs ys (All-tail P x (xs ++ ys) all))

-- there are no more claims than claimed fragments
claims_few : (counts : List ℕ) → All IsGroupCount counts → length counts ≤ sum counts
claims_few [] of_groups = omega arith
claims_few (count ∷ counts) of_groups =
    let some = (All-head IsGroupCount count counts of_groups).0 in
    omega (arith, sum_by-cons (λ x. x) count counts, some, claims_few counts (All-tail IsGroupCount count counts of_groups))

-- before the last claim fewer fragments were claimed than are needed
enough_few : (unborn need : ℕ) (counts : List ℕ) → GathersEnough unborn need counts → length counts ≤ need
enough_few unborn need counts gathers = elim (last_cases counts) [
  | inl none ↦ omega (arith, ap length none)
  | inr (earlier, last, is) ↦
      let before = front IsGroupCount earlier (last ∷ []) (subst (All IsGroupCount) is gathers.of_groups) in
      omega (arith, ap length is, length-append earlier (last ∷ []), claims_few earlier before, gathers.needed earlier last is)
]

claims_short : (number unborn need : ℕ) (reply : Reply) (before : List Entry) → ClaimsBefore number unborn need reply before → length before ≤ 2 * need
claims_short number unborn need (replies.Made id) before (counts, gathers, is) =
    omega (arith, ap length is, length-map counts (Takes number), enough_few unborn need counts gathers)
claims_short number unborn need (replies.Full shown found) before (counts, _, gathers, is) =
    omega (arith, ap length is, length-append (takes_of number counts) (gives_of number counts), length-map counts (Takes number), length-map counts (GivesBack number), claims_few counts gathers.of_groups, gathers.all_found, gathers.too_few)
claims_short number unborn need reply before none = absurd none

array_short : (number unborn need : ℕ) (reply : Reply) (before : List Entry) → ArrayBefore number unborn need reply before → length before ≤ 2 * need
array_short number unborn need (replies.SpineFull shown used) before none = omega (arith, ap length none)
array_short number unborn need reply before comes = claims_short number unborn need reply before comes

answers_short : (number last : ℕ) (reply : Reply) (before : List Entry) → AnswersBefore number last reply before → length before ≤ 1
answers_short number last (replies.Phase p) before comes = elim comes [ inl told ↦ omega (arith, ap length told.1) | inr answered ↦ omega (arith, ap length answered.1) ]
answers_short number last reply before none = absurd none

gives_short : (none : Bool) (entry : Entry) → length (cond none [] (entry ∷ [])) ≤ 1
gives_short true entry = omega arith
gives_short false entry = omega arith

pub each_call_is_short : EachCallIsShort
each_call_is_short number unborn last (commands.New d fields) reply before comes = omega (arith, claims_short number unborn (record_fragments fields) reply before comes)
each_call_is_short number unborn last (commands.Array d cells) reply before comes = omega (arith, array_short number unborn (array_fragments cells) reply before comes)
each_call_is_short number unborn last commands.Poll reply before comes = omega (arith, answers_short number last reply before comes)
each_call_is_short number unborn last commands.Leave reply before comes = omega (arith, ap length comes, gives_short (eqb unborn 0) (GivesBack number unborn))
each_call_is_short number unborn last commands.Collect reply before comes = absurd comes
each_call_is_short number unborn last command reply before comes = omega (arith, ap length comes)

pub each_call_leaves_room : EachCallLeavesRoom
each_call_leaves_room old new command reply adds =
    let said = Said old.number command reply in
    omega (
      arith,
      adds.spare,
      ap length adds.entries,
      length-append old.mine (adds.before ++ said ∷ []),
      length-append adds.before (said ∷ []),
      each_call_is_short old.number adds.unborn _ command reply adds.before adds.comes,
    )
