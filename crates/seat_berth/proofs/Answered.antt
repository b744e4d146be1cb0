-- Answers alone: none, one after another, and one inner call.
use Rattle.std.proofs.Common.{◌≡◌, ℕ, ◌+◌, ◌≤◌, ◌⊎◌, ◌++◌, List, [], ◌∷◌, length, refl, sym, ap, subst, ◌∙◌, ⊎_elim, arith}
use Rattle.std.specs.List.{All}
use Rattle.std.proofs.lemmas.List.{append-nil, append_assoc}
use Rattle.std.proofs.lemmas.List.Elements.{All-nil, All-append, All-push}
use Rattle.heap_model.specs.declared.calls.collect.Inner.TheVariants.{Answer}
use Rattle.heap_model.specs.declared.entry.Entry.{Entry}
use Rattle.core_machine.specs.calls.Kept.{kept_of}
use Rattle.heap_table.specs.SeatHeld.{SeatHeld}
use Rattle.mutator_seat.specs.InnerCalls.{MakesInner}
use Rattle.seat_berth.specs.OnlyAnswered.{OnlyAnswered, IsAnswerOf, kept_answered}

-- a seat with which nothing was done
pub only_same : (held : SeatHeld) → OnlyAnswered held held
only_same held = record {
  table_stays = refl;
  heap_stays = refl;
  number_stays = refl;
  kept_is = refl;
  told = [];
  mine = sym (append-nil held.seat.mine);
  answers = All-nil (IsAnswerOf held.number);
  graph_stays = refl;
  room_stays = omega arith;
  no_more = omega arith;
}

-- answers behind answers are all of them answers
pub only_joined : (a b c : SeatHeld) → OnlyAnswered a b → OnlyAnswered b c → OnlyAnswered a c
only_joined a b c first then = record {
  table_stays = then.table_stays ∙ first.table_stays;
  heap_stays = then.heap_stays ∙ first.heap_stays;
  number_stays = then.number_stays ∙ first.number_stays;
  kept_is = then.kept_is ∙ ap (kept_answered c.seat.answered c.seat.looks.seen) first.kept_is;
  told = first.told ++ then.told;
  mine = then.mine ∙ ap (λ (l : List Entry). l ++ then.told) first.mine ∙ append_assoc a.seat.mine first.told then.told;
  answers = All-append (IsAnswerOf a.number) first.told then.told first.answers (subst (λ (n : ℕ). All (IsAnswerOf n) then.told) first.number_stays then.answers);
  graph_stays = then.graph_stays ∙ first.graph_stays;
  room_stays = omega (arith, first.room_stays, then.room_stays);
  no_more = omega (arith, first.no_more, then.no_more);
}

-- what an inner call tells that answers is an answer
pub only_answer : (old new : SeatHeld) → MakesInner old new Answer → OnlyAnswered old new
only_answer old new made =
    let over = made.comes in
    let answered : new.seat.answered ≡ over.phase = ap (λ k. k.answered) over.kept_is in
    let seen : new.seat.looks.seen ≡ over.phase = ap (λ k. k.looks.seen) over.kept_is in
    record {
      table_stays = made.makes.table_stays;
      heap_stays = made.makes.heap_stays;
      number_stays = made.makes.number_stays;
      kept_is = subst (λ (n : ℕ). kept_of new.seat ≡ kept_answered n new.seat.looks.seen (kept_of old.seat)) (sym answered)
          (subst (λ (n : ℕ). kept_of new.seat ≡ kept_answered over.phase n (kept_of old.seat)) (sym seen) over.kept_is);
      told = made.told;
      mine = made.mine;
      answers = ⊎_elim (λ none. subst (λ (l : List Entry). All (IsAnswerOf old.number) l) (sym none.1) (All-nil (IsAnswerOf old.number)))
          (λ one. subst (λ (l : List Entry). All (IsAnswerOf old.number) l) (sym one.1) (All-push (IsAnswerOf old.number) [] _ (All-nil (IsAnswerOf old.number)) refl)) over.told_is;
      graph_stays = made.graph_stays;
      room_stays = made.room;
      no_more = made.no_more;
    }
