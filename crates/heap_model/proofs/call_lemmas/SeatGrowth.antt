-- What a call changes of what a seat's own entries tell.
use Rattle.std.proofs.Common.{◌≡◌, ◌≢◌, ℕ, ◌+◌, ◌≤◌, Bool, true, false, cond, eqb, List, [], ◌∷◌, ◌++◌, length, set, ap, sym, refl, ◌∙◌, subst, ◌⊎◌, inl, inr, arith, length-append, length-set}
use Rattle.std.proofs.lemmas.Bool.{cases_eq, cases_lt}
use Rattle.std.proofs.lemmas.List.{get_or-set_same, get_or-set_other, get_or_past}
use Rattle.std.proofs.lemmas.List.Sums.{fold-append}
use Rattle.heap_model.specs.declared.graph.cell.Cell.{Cell}
use Rattle.heap_model.specs.declared.command.Command.{Command}
use Rattle.heap_model.specs.declared.command.Command.TheVariants as commands
use Rattle.heap_model.specs.declared.entry.Entry.{Entry}
use Rattle.heap_model.specs.declared.entry.Entry.TheVariants.{Said, GivesBack}
use Rattle.heap_model.specs.declared.id.Id.TheVariants.{Board, Made}
use Rattle.heap_model.specs.declared.id.Value.{Value}
use Rattle.heap_model.specs.declared.id.Value.TheVariants.{Nil, Number, Object}
use Rattle.heap_model.specs.declared.reply.Reply.{Reply}
use Rattle.heap_model.specs.declared.reply.Reply.TheVariants as replies
use Rattle.heap_model.specs.graph.Changes.{add, count_set, set_cell, with_register, with_object_cell, with_graph_seat, write}
use Rattle.heap_model.specs.graph.Growth.{after_entry, after_reply, graph_after}
use Rattle.heap_model.specs.Needs.{array_fragments, record_fragments}
use Rattle.heap_model.specs.graph.Objects.{absent_graph_seat, graph_seat, register_value}
use Rattle.heap_model.specs.calls.SeatCalls.{AnswersBefore, ArrayBefore, ClaimsBefore, ComesBefore, gives_of, takes_of}
use Rattle.heap_model.specs.calls.SeatLaws.{most_made, most_stamped, EachCallCounts, EachCallGrows, EachCallSparesOthers, CountsAsBefore}
use Rattle.heap_model.specs.calls.SeatState.{own_graph, own_graph_seat}
use Rattle.heap_model.specs.graph.Graph.{fresh, Node, GraphSeat, Graph, opening}

-- entries that no reply is among change no graph
quiet_takes : (g : Graph) (number : ℕ) (counts : List ℕ) → graph_after g (takes_of number counts) ≡ g
quiet_takes g number [] = refl
quiet_takes g number (count ∷ counts) = quiet_takes g number counts

quiet_gives : (g : Graph) (number : ℕ) (counts : List ℕ) → graph_after g (gives_of number counts) ≡ g
quiet_gives g number [] = refl
quiet_gives g number (count ∷ counts) = quiet_gives g number counts

quiet_claims : (g : Graph) (number unborn need : ℕ) (reply : Reply) (before : List Entry) → ClaimsBefore number unborn need reply before → graph_after g before ≡ g
quiet_claims g number unborn need (replies.Made id) before (counts, _, is) = ap (graph_after g) is ∙ quiet_takes g number counts
quiet_claims g number unborn need (replies.Full shown found) before (counts, _, _, is) =
    ap (graph_after g) is ∙ fold-append after_entry g (takes_of number counts) (gives_of number counts) ∙ ap (λ h. graph_after h (gives_of number counts)) (quiet_takes g number counts) ∙ quiet_gives g number counts
quiet_claims g number unborn need reply before none = absurd none

quiet_array : (g : Graph) (number unborn need : ℕ) (reply : Reply) (before : List Entry) → ArrayBefore number unborn need reply before → graph_after g before ≡ g
quiet_array g number unborn need (replies.SpineFull shown used) before none = ap (graph_after g) none
quiet_array g number unborn need reply before comes = quiet_claims g number unborn need reply before comes

quiet_answers : (g : Graph) (number last : ℕ) (reply : Reply) (before : List Entry) → AnswersBefore number last reply before → graph_after g before ≡ g
quiet_answers g number last (replies.Phase p) before comes = elim comes [ inl told ↦ ap (graph_after g) told.1 | inr answered ↦ ap (graph_after g) answered.1 ]
quiet_answers g number last reply before none = absurd none

quiet_last_gives : (g : Graph) (number unborn : ℕ) (none : Bool) → graph_after g (cond none [] (GivesBack number unborn ∷ [])) ≡ g
quiet_last_gives g number unborn true = refl
quiet_last_gives g number unborn false = refl

quiet_before : (g : Graph) (number unborn last : ℕ) (command : Command) (reply : Reply) (before : List Entry) → ComesBefore number unborn last command reply before → graph_after g before ≡ g
quiet_before g number unborn last (commands.New d fields) reply before comes = quiet_claims g number unborn (record_fragments fields) reply before comes
quiet_before g number unborn last (commands.Array d cells) reply before comes = quiet_array g number unborn (array_fragments cells) reply before comes
quiet_before g number unborn last commands.Poll reply before comes = quiet_answers g number last reply before comes
quiet_before g number unborn last commands.Leave reply before comes = ap (graph_after g) comes ∙ quiet_last_gives g number unborn (eqb unborn 0)
quiet_before g number unborn last commands.Collect reply before comes = absurd comes
quiet_before g number unborn last command reply before comes = ap (graph_after g) comes

pub each_call_grows : EachCallGrows
each_call_grows old new command reply adds =
    let said = Said old.number command reply ∷ [] in
    ap (λ h. graph_after (opening h) new.mine) adds.heap ∙ ap (graph_after (opening old.heap)) adds.entries
    ∙ fold-append after_entry (opening old.heap) old.mine (adds.before ++ said) ∙ fold-append after_entry (own_graph old) adds.before said
    ∙ ap (λ g. after_reply g old.number command reply) (quiet_before (own_graph old) old.number adds.unborn _ command reply adds.before adds.comes)

-- how a seat goes on: whether it leaves, and how much it made and set at most
record GoesOn (stays : Type 0) (makes sets : ℕ) (old new : GraphSeat) : Type 0 where
  pub present : stays → new.left ≡ old.left
  pub made : length new.objects ≤ length old.objects + makes
  pub set_more : new.sets ≤ old.sets + sets

-- another seat in its place is there, if any was
with_cases : (g : Graph) (number : ℕ) (p : GraphSeat) → (graph_seat (with_graph_seat g number p) number ≡ p) ⊎ (graph_seat (with_graph_seat g number p) number ≡ graph_seat g number)
with_cases g number p = elim (cases_lt number (length g.seats)) [
  | inl there ↦ inl (get_or-set_same g.seats number p absent_graph_seat there)
  | inr past ↦ inr (get_or_past (set g.seats number p) number absent_graph_seat (omega (arith, past, length-set g.seats number p)) ∙ sym (get_or_past g.seats number absent_graph_seat past))
]

goes_on_same : (stays : Type 0) (makes sets : ℕ) (seat : GraphSeat) → GoesOn stays makes sets seat seat
goes_on_same stays makes sets seat = record { present = λ there. refl; made = omega arith; set_more = omega arith }

goes_on_with : (stays : Type 0) (makes sets : ℕ) (g : Graph) (number : ℕ) (p : GraphSeat) → GoesOn stays makes sets (graph_seat g number) p → GoesOn stays makes sets (graph_seat g number) (graph_seat (with_graph_seat g number p) number)
goes_on_with stays makes sets g number p goes = elim (with_cases g number p) [
  | inl new ↦ subst (GoesOn stays makes sets (graph_seat g number)) (sym new) goes
  | inr old ↦ subst (GoesOn stays makes sets (graph_seat g number)) (sym old) (goes_on_same stays makes sets (graph_seat g number))
]

goes_on_put : (stays : Type 0) (makes sets : ℕ) (g : Graph) (number d : ℕ) (cell : Cell) → GoesOn stays makes sets (graph_seat g number) (graph_seat (with_register g number d cell) number)
goes_on_put stays makes sets g number d cell = goes_on_with stays makes sets g number _ record { present = λ there. refl; made = omega arith; set_more = omega arith }

goes_on_add : (stays : Type 0) (sets : ℕ) (g : Graph) (number d : ℕ) (object : Node) → GoesOn stays 1 sets (graph_seat g number) (graph_seat (add g number d object) number)
goes_on_add stays sets g number d object = goes_on_with stays 1 sets g number _ record { present = λ there. refl; made = omega (arith, length-append (graph_seat g number).objects (object ∷ [])); set_more = omega arith }

same_counts_write : (g : Graph) (number : ℕ) (value : Value) (i : ℕ) (cell : Cell) → CountsAsBefore (graph_seat g number) (graph_seat (write g value i cell) number)
same_counts_write g number Nil i cell = record { leaves_same = refl; made_same = refl; sets_same = refl }
same_counts_write g number (Number n) i cell = record { leaves_same = refl; made_same = refl; sets_same = refl }
same_counts_write g number (Object Board) i cell = record { leaves_same = refl; made_same = refl; sets_same = refl }
same_counts_write g number (Object (Made q count)) i cell =
    let p = with_object_cell (graph_seat g q) count i cell in
    let same : CountsAsBefore (graph_seat g q) p = record { leaves_same = refl; made_same = length-set (graph_seat g q).objects count _; sets_same = refl } in
    elim (cases_eq number q) [
      | inl here ↦ subst (λ n. CountsAsBefore (graph_seat g n) (graph_seat (with_graph_seat g q p) n)) (sym here) (elim (with_cases g q p) [
        | inl new ↦ subst (CountsAsBefore (graph_seat g q)) (sym new) same
        | inr old ↦ subst (CountsAsBefore (graph_seat g q)) (sym old) record { leaves_same = refl; made_same = refl; sets_same = refl }
      ])
      | inr other ↦ subst (CountsAsBefore (graph_seat g number)) (sym (get_or-set_other g.seats q number p absent_graph_seat other)) record { leaves_same = refl; made_same = refl; sets_same = refl }
    ]

goes_on_then : (stays : Type 0) (makes sets : ℕ) (old now new : GraphSeat) → GoesOn stays makes sets old now → CountsAsBefore now new → GoesOn stays makes sets old new
goes_on_then stays makes sets old now new goes same = record {
  present = λ there. same.leaves_same ∙ goes.present there;
  made = omega (arith, same.made_same, goes.made);
  set_more = omega (arith, same.sets_same, goes.set_more);
}

goes_on_set : (stays : Type 0) (makes : ℕ) (g : Graph) (number r i v : ℕ) → GoesOn stays makes 1 (graph_seat g number) (graph_seat (set_cell g number r i v) number)
goes_on_set stays makes g number r i v =
    goes_on_then _ _ _ (graph_seat g number) (graph_seat (count_set g number) number) _ (goes_on_with _ _ _ g number _ record { present = λ there. refl; made = omega arith; set_more = omega arith })
    (same_counts_write (count_set g number) number (register_value g number r) i _)

goes_on_said : (g : Graph) (number : ℕ) (command : Command) (reply : Reply) → GoesOn (command ≢ commands.Leave) (most_made command) (most_stamped command) (graph_seat g number) (graph_seat (after_reply g number command reply) number)
goes_on_said g number (commands.New d fields) (replies.Made id) = goes_on_add _ _ g number d (fresh false fields)
goes_on_said g number (commands.Array d cells) (replies.Made id) = goes_on_add _ _ g number d (fresh true cells)
goes_on_said g number (commands.Get d r i) (replies.Got value stamp) = goes_on_put _ _ _ g number d _
goes_on_said g number (commands.Set r i v) (replies.Was stamp) = goes_on_set _ _ g number r i v
goes_on_said g number (commands.Cas r i a v) (replies.Was stamp) = goes_on_set _ _ g number r i v
goes_on_said g number (commands.Num d n) reply = goes_on_put _ _ _ g number d _
goes_on_said g number (commands.Nil d) reply = goes_on_put _ _ _ g number d _
goes_on_said g number (commands.Copy d r) reply = goes_on_put _ _ _ g number d _
goes_on_said g number commands.Leave reply = goes_on_with _ _ _ g number _ record { present = λ other. absurd (other refl); made = omega arith; set_more = omega arith }
goes_on_said g number command reply = goes_on_same _ _ _ (graph_seat g number)

-- none makes more than one object or uses up more than one stamp
pub call_makes_one_at_most : (command : Command) → most_made command ≤ 1
call_makes_one_at_most (commands.New d fields) = omega arith
call_makes_one_at_most (commands.Array d cells) = omega arith
call_makes_one_at_most _ = omega arith

pub call_stamps_once_at_most : (command : Command) → most_stamped command ≤ 1
call_stamps_once_at_most (commands.Set r i v) = omega arith
call_stamps_once_at_most (commands.Cas r i a v) = omega arith
call_stamps_once_at_most _ = omega arith

pub each_call_counts : EachCallCounts
each_call_counts old new command reply adds =
    let seat : own_graph_seat new ≡ graph_seat (after_reply (own_graph old) old.number command reply) old.number =
    ap (λ g. graph_seat g new.number) (each_call_grows old new command reply adds) ∙ ap (graph_seat (after_reply (own_graph old) old.number command reply)) adds.number in
    let goes = subst (GoesOn (command ≢ commands.Leave) (most_made command) (most_stamped command) (own_graph_seat old)) (sym seat) (goes_on_said (own_graph old) old.number command reply) in
    record { present_stays = goes.present; made_more = goes.made; sets_more = goes.set_more }

-- another seat in one position leaves those in the others
spared : (g : Graph) (number other : ℕ) (p : GraphSeat) → other ≢ number → CountsAsBefore (graph_seat g other) (graph_seat (with_graph_seat g number p) other)
spared g number other p apart =
    subst (CountsAsBefore (graph_seat g other)) (sym (get_or-set_other g.seats number other p absent_graph_seat apart)) record { leaves_same = refl; made_same = refl; sets_same = refl }

as_before_then : (old now new : GraphSeat) → CountsAsBefore old now → CountsAsBefore now new → CountsAsBefore old new
as_before_then old now new first then_ = record {
  leaves_same = then_.leaves_same ∙ first.leaves_same;
  made_same = then_.made_same ∙ first.made_same;
  sets_same = then_.sets_same ∙ first.sets_same;
}

spared_set : (g : Graph) (number other r i v : ℕ) → other ≢ number → CountsAsBefore (graph_seat g other) (graph_seat (set_cell g number r i v) other)
spared_set g number other r i v apart =
    as_before_then (graph_seat g other) (graph_seat (count_set g number) other) _ (spared g number other _ apart) (same_counts_write (count_set g number) other (register_value g number r) i _)

spared_said : (g : Graph) (number other : ℕ) (command : Command) (reply : Reply) → other ≢ number → CountsAsBefore (graph_seat g other) (graph_seat (after_reply g number command reply) other)
spared_said g number other (commands.New d fields) (replies.Made id) apart = spared g number other _ apart
spared_said g number other (commands.Array d cells) (replies.Made id) apart = spared g number other _ apart
spared_said g number other (commands.Get d r i) (replies.Got value stamp) apart = spared g number other _ apart
spared_said g number other (commands.Set r i v) (replies.Was stamp) apart = spared_set g number other r i v apart
spared_said g number other (commands.Cas r i a v) (replies.Was stamp) apart = spared_set g number other r i v apart
spared_said g number other (commands.Num d n) reply apart = spared g number other _ apart
spared_said g number other (commands.Nil d) reply apart = spared g number other _ apart
spared_said g number other (commands.Copy d r) reply apart = spared g number other _ apart
spared_said g number other commands.Leave reply apart = spared g number other _ apart
spared_said g number other command reply apart = record { leaves_same = refl; made_same = refl; sets_same = refl }

pub each_call_spares_others : EachCallSparesOthers
each_call_spares_others old new command reply other adds apart =
    subst (λ g. CountsAsBefore (graph_seat (own_graph old) other) (graph_seat g other)) (sym (each_call_grows old new command reply adds)) (spared_said (own_graph old) old.number other command reply apart)
