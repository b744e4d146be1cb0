-- The ids of a graph of which something holds that can be decided, as a list in their order.
use Rattle.std.proofs.Common.{◌≡◌, ◌↔◌, ℕ, zero, suc, ◌⊎◌, inl, inr, List, [], ◌∷◌, ◌++◌, length, get_or, AllPairs, Contains, refl, sym, subst, arith}
use Rattle.std.proofs.lemmas.List.Elements.{Contains-append_left, Contains-push, Contains-push_cases, Contains-get_or}
use Rattle.std.proofs.lemmas.List.Quantifiers.{all_pairs_push}
use Rattle.core_rule.proofs.Terms.{Id, Board, Made, Graph, graph_seat, IsMade, IsBefore}
use Rattle.core_rule.proofs.reach.IdOrder.{before_next_or_same, before_stays_at_next, made_is_before_seat_end, before_next_seat, made_is_before_end}

-- a list that has exactly the ids of which P holds, in their order
pub record AreAll (P : Id → Type 0) (ids : List Id) : Type 0 where
  pub ordered : AllPairs IsBefore ids
  pub all : (id : Id) → Contains ids id ↔ P id

module _ (g : Graph) (P : Id → Type 0) (decided : (id : Id) → P id ⊎ ¬ P id) (made : (id : Id) → P id → IsMade g id) where
  -- the list has those before a position, in their order
  record IsListedBelow (position : Id) (ids : List Id) : Type 0 where
    pub ordered : AllPairs IsBefore ids
    pub listed : (id : Id) → Contains ids id → P id × IsBefore id position
    pub whole : (id : Id) → P id → IsBefore id position → Contains ids id

  -- there is such a list
  abbrev Listed : Id → Type 0
  Listed position = (ids : List Id) × IsListedBelow position ids

  -- the list goes on by an object of which P holds
  module _ (s c : ℕ) (ids : List Id) (list : IsListedBelow (Made s c) ids) where
    listed_push : P (Made s c) → IsListedBelow (Made s (suc c)) (ids ++ Made s c ∷ [])
    listed_push holds = record {
      ordered = all_pairs_push IsBefore ids (Made s c) list.ordered (λ k d within. (list.listed (get_or ids k d) (Contains-get_or ids k d within)).1);
      listed = λ id there. elim (Contains-push_cases ids (Made s c) id there) [
        | inl old ↦ ((list.listed id old).0, before_stays_at_next id s c (list.listed id old).1)
        | inr new ↦ subst (λ x. P x × IsBefore x (Made s (suc c))) new (holds, inr (refl, omega arith))
      ];
      whole = λ id its before. elim (before_next_or_same id s c before) [
        | inl old ↦ Contains-append_left ids (Made s c ∷ []) id (list.whole id its old)
        | inr new ↦ subst (Contains (ids ++ Made s c ∷ [])) new (Contains-push ids (Made s c))
      ];
    }

    listed_skip : ¬ P (Made s c) → IsListedBelow (Made s (suc c)) ids
    listed_skip fails = record {
      ordered = list.ordered;
      listed = λ id there. ((list.listed id there).0, before_stays_at_next id s c (list.listed id there).1);
      whole = λ id its before. elim (before_next_or_same id s c before) [
        | inl old ↦ list.whole id its old
        | inr new ↦ absurd (fails (subst P (sym new) its))
      ];
    }

    listed_more : Listed (Made s (suc c))
    listed_more = elim (decided (Made s c)) [
      | inl holds ↦ (ids ++ Made s c ∷ [], listed_push holds)
      | inr fails ↦ (ids, listed_skip fails)
    ]

  listed_seat : (s c : ℕ) → Listed (Made s 0) → Listed (Made s c)
  listed_seat s zero before = before
  listed_seat s (suc c) before = let list = listed_seat s c before in listed_more s c list.0 list.1

  -- after the last object of a seat come those of the next
  next_seat : (s : ℕ) → Listed (Made s 0) → Listed (Made (suc s) 0)
  next_seat s before =
      let list = listed_seat s (length (graph_seat g s).objects) before in (
        list.0,
        record {
          ordered = list.1.ordered;
          listed = λ id there. ((list.1.listed id there).0, before_next_seat id s _ (list.1.listed id there).1);
          whole = λ id its before. list.1.whole id its (made_is_before_seat_end g id s (made id its) before);
        },
      )

  -- nothing but the board is before all objects of seats
  board_alone : (id : Id) → IsBefore id (Made 0 0) → id ≡ Board
  board_alone Board before = refl
  board_alone (Made t c) before = absurd (elim before [ inl seat ↦ omega (arith, seat) | inr same ↦ omega (arith, same.1) ])

  here : (id : Id) → Contains (Board ∷ []) id → Board ≡ id
  here id (zero, within, is) = is
  here id (suc k, within, is) = absurd (omega (arith, within))

  board_listed : Listed (Made 0 0)
  board_listed = elim (decided Board) [
    | inl holds ↦ (
      Board ∷ [],
      record {
        ordered = λ i j d less within. absurd (omega (arith, less, within));
        listed = λ id there. subst (λ x. P x × IsBefore x (Made 0 0)) (here id there) (holds, tt);
        whole = λ id its before. subst (Contains (Board ∷ [])) (sym (board_alone id before)) (0, omega arith, refl);
      },
    )
    | inr fails ↦ (
      [],
      record {
        ordered = λ i j d less within. absurd (omega (arith, within));
        listed = λ id there. absurd (omega (arith, there.1));
        whole = λ id its before. absurd (fails (subst P (board_alone id before) its));
      },
    )
  ]

  seats_listed : (s : ℕ) → Listed (Made s 0)
  seats_listed zero = board_listed
  seats_listed (suc s) = next_seat s (seats_listed s)

  -- and after all seats there is no more
  pub all_are_listed : (ids : List Id) × AreAll P ids
  all_are_listed =
      let list = seats_listed (length g.seats) in (
        list.0,
        record {
          ordered = list.1.ordered;
          all = λ id. (λ there. (list.1.listed id there).0, λ its. list.1.whole id its (made_is_before_end g id (made id its)));
        },
      )
