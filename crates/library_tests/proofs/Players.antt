-- Those who hold the holders that a table was opened with are of its collector's table.
use Rattle.std.proofs.Common.{◌≡◌, List, [], ◌∷◌, ◌++◌, map, All, refl, sym, ap, subst, ◌∙◌, append_assoc}
use Rattle.std.proofs.lemmas.List.{map-append}
use Rattle.std.proofs.lemmas.List.Elements.{All-cons, All-head, All-nil, All-tail}
use Rattle.heap_model.specs.declared.heap.Heap.{Heap}
use Rattle.heap_table.specs.CollectorHeld.{CollectorHeld}
use Rattle.heap_table.specs.Opened.{IsOpened}
use Rattle.heap_table.specs.SeatHeld.{SeatHeld}
use Rattle.library_tests.specs.SameSeat.{IsOfTable}

module _ {A : Type 0} (held : A → SeatHeld) where
  -- one more holder has its player
  pub players_with_one_more : (before now : List A) (player : A) (rest more holders : List SeatHeld) (holder : SeatHeld) → map held before ++ rest ≡ holders → rest ≡ holder ∷ more → now ≡ before ++ player ∷ []
      → held player ≡ holder → map held now ++ more ≡ holders
  players_with_one_more before now player rest more holders holder kept steps pushed its =
      ap (λ (l : List A). map held l ++ more) pushed
      ∙ ap (λ (l : List SeatHeld). l ++ more) (map-append held before (player ∷ []))
      ∙ append_assoc (map held before) (held player ∷ []) more
      ∙ ap (λ (h : SeatHeld). map held before ++ h ∷ more) its
      ∙ ap (λ (l : List SeatHeld). map held before ++ l) (sym steps)
      ∙ kept

  -- each is of the collector's table
  abbrev pub Of : CollectorHeld → A → Type 0
  Of collector player = IsOfTable collector (held player)

  -- they are of the table
  pub players_are_of_table : (collector : CollectorHeld) (heap : Heap) (players : List A) (holders : List SeatHeld) → map held players ≡ holders → All (IsOpened collector.table heap) holders → collector.heap ≡ heap
      → All (Of collector) players
  players_are_of_table collector heap [] holders is all same = All-nil (Of collector)
  players_are_of_table collector heap (player ∷ players) holders is all same =
      let these : All (IsOpened collector.table heap) (held player ∷ map held players) = subst (All (IsOpened collector.table heap)) (sym is) all in
      let first = All-head (IsOpened collector.table heap) (held player) (map held players) these in
      All-cons (Of collector) player players (record { same_table = first.table_is; same_heap = first.heap_is ∙ sym same })
      (players_are_of_table collector heap players (map held players) refl (All-tail (IsOpened collector.table heap) (held player) (map held players) these) same)

  -- and stay so while the collector stays at its table
  pub players_stay_of_table : (old new : CollectorHeld) (players : List A) → new.table ≡ old.table → new.heap ≡ old.heap → All (Of old) players → All (Of new) players
  players_stay_of_table old new [] table heap all = All-nil (Of new)
  players_stay_of_table old new (player ∷ players) table heap all =
      let first = All-head (Of old) player players all in
      All-cons (Of new) player players (record { same_table = first.same_table ∙ sym table; same_heap = first.same_heap ∙ sym heap })
      (players_stay_of_table old new players table heap (All-tail (Of old) player players all))
