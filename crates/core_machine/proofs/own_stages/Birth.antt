-- A call stores the words of its object, and the object is born.
use Rattle.std.proofs.Common.{◌≡◌, ℕ, ◌+◌, ◌*◌, ◌/◌, ◌%◌, List, [], ◌∷◌, ◌++◌, length, get_or, set, true, refl, sym, ap, subst, inl, inr, below_more, arith}
use Rattle.std.proofs.lemmas.Bool.Decides.{eqb_tells}
use Rattle.std.specs.List.{All, AllByRecursion}
use Rattle.heap_words.specs.declared.spot.Spot.{Spot}
use Rattle.core_machine.proofs.Terms.{spine_need_of, Command, Array, IsBeside, Entry, Heap, is_last_birth, birth_move, last_birth_move, bearing_move, bears_black_of, Kept, kept_of}
use Rattle.core_machine.proofs.Terms.{kept_replied, WasMade, StageAt, Placing, Listing, Storing, Bearing, Object, Step, IsArrayCall, target_of, SpineIsListed, newborn_word}
use Rattle.core_machine.proofs.Terms.{after_placing, after_listing, after_store, store_point, last_group_of, before_run, run_of, next_object_id, Seat, spine_need, with_entries}
use Rattle.core_machine.proofs.Terms.{mask_of}
use Rattle.heap_model.specs.Needs.{need_of}
use Rattle.core_machine.proofs.moves.Standing.{IsAt}
use Rattle.heap_model.specs.declared.id.Id.{Id}
use Rattle.heap_model.specs.declared.id.Id.TheVariants.{Made}
use Rattle.heap_model.specs.declared.reply.Reply.TheVariants as replies
use Rattle.core_machine.specs.Moves.{store_move}
use Rattle.core_machine.specs.calls.Making.{name_after, HasSpine, HasStored, AreBorn, HasBorn}
use Rattle.core_machine.specs.declared.point.Point.TheVariants as points
use Rattle.core_machine.specs.declared.step.MakingStep.TheVariants.{NewbornStore, LastBirth}
use Rattle.core_machine.specs.declared.step.SpineStep.TheVariants.{SpineStore}
use Rattle.core_machine.specs.declared.step.Step.TheVariants as steps
use Rattle.core_machine.proofs.call_lemmas.Claiming.{claims_before_made}
use Rattle.core_machine.proofs.own_stages.Claiming.{takes_beside, object_entries_come_first}
use Rattle.core_machine.proofs.own_stages.Leading.{Leads, LeadsOn, PointLeads, holds_with_nothing_told}
use Rattle.core_machine.proofs.seat_lemmas.Fitting.{listing_cases}
use Rattle.core_machine.proofs.seat_lemmas.LastRun.{before_run_and_run_make_all, run_is_of_last_group, run_is_whole_hand}
use Rattle.core_machine.proofs.table_lemmas.Bits.{true_or_false}

-- all words of an array's spine are listed
listed_of_array : (command : Command) (spine : Spot) (listed : ℕ) → IsArrayCall command → SpineIsListed command spine listed → listed ≡ spine_need_of command
listed_of_array (Array d cells) spine listed an_array is = is
listed_of_array _ spine listed an_array is = absurd an_array

module _ (tells : Step → ℕ → Type 0) where
  -- the spine got its place
  pub point_leads_at_placing : PointLeads tells (points.Making Placing)
  point_leads_at_placing heap number before seat told here stage found tell =
      let none = here.hand.1.none_listed in
      record {
        kept = refl;
        same = refl;
        stage = holds_with_nothing_told (λ t. StageAt tells heap number before (with_entries (after_placing seat found) []) t (points.Making Listing)) told
            (stage, record { word = found; told = tell; place_is = refl; lists = λ k below. absurd (omega (arith, none, below)) });
      }

  -- a word of the spine was stored
  pub point_leads_at_listing : PointLeads tells (points.Making Listing)
  point_leads_at_listing heap number before seat told here stage found tell =
      let unstored = here.hand.0.2.none_stored in
      let spine : HasSpine tells seat.command seat.body seat.spine (seat.listed + 1) = record {
        word = stage.1.word;
        told = stage.1.told;
        place_is = stage.1.place_is;
        lists = below_more (λ k. WasMade tells (steps.Spine (SpineStore seat.spine.half (seat.spine.offset + k) (get_or seat.body (k + 1) 0)))) seat.listed stage.1.lists (found, tell);
      } in
      record {
        kept = refl;
        same = refl;
        stage = listing_cases (λ m. StageAt tells heap number before (with_entries (record (after_listing seat) { point = points.Making m }) []) (told ++ []) (points.Making m)) (seat.listed + 1) (spine_need seat)
            (λ more. holds_with_nothing_told (λ t. StageAt tells heap number before (with_entries (record (after_listing seat) { point = points.Making Listing }) []) t (points.Making Listing)) told (stage.0, spine))
            (λ all. holds_with_nothing_told (λ t. StageAt tells heap number before (with_entries (record (after_listing seat) { point = points.Making Storing }) []) t (points.Making Storing)) told
            (stage.0, λ an_array. spine, λ k below. absurd (omega (arith, unstored, below))));
      }

  -- a word of the object was stored
  pub point_leads_at_storing : PointLeads tells (points.Making Storing)
  point_leads_at_storing heap number before seat told here stage found tell =
      let made : seat.made ≡ before.made = ap (λ (k : Kept). k.made) stage.0.kept_is in
      let Stored : ℕ → ℕ → Type 0 = λ m k. WasMade tells (steps.Making (NewbornStore (get_or seat.body (k / 4) 0) (k % 4) (newborn_word seat.command (name_after number m) seat.spine seat.body (k / 4) (k % 4)))) in
      let stored : HasStored tells seat.command (name_after number before.made) seat.spine seat.body (seat.stored + 1) =
      below_more (Stored before.made) seat.stored stage.2 (subst (λ (m : ℕ). Stored m seat.stored) made (found, tell)) in
      let next : Seat = (store_move number seat).told found in
      record {
        kept = refl;
        same = refl;
        stage = elim (eqb_tells (seat.stored + 1) (4 * length seat.body)) as (λ _. StageAt tells heap number before (with_entries (after_store seat) []) (told ++ []) (points.Making (store_point (seat.stored + 1) seat.body))) [
          | inl all ↦ rw all.0 (holds_with_nothing_told (λ t. StageAt tells heap number before (with_entries (record next { point = points.Making Bearing }) []) t (points.Making Bearing)) told
              (stage.0, stage.1, stored, record { births = []; are = sym here.hand.1 }))
          | inr left ↦ rw left.0 (holds_with_nothing_told (λ t. StageAt tells heap number before (with_entries (record next { point = points.Making Storing }) []) t (points.Making Storing)) told (stage.0, stage.1, stored))
        ];
      }

  module _ (heap : Heap) (number : ℕ) (before : Kept) (seat : Seat) (told : List Entry) (here : IsAt heap number seat (points.Making Bearing))
      (stage : StageAt tells heap number before seat told (points.Making Bearing)) where
    -- some fragments were born, and others are left
    birth_leads : (found : ℕ) → tells (birth_move seat).step found → Leads tells heap number before seat told (birth_move seat) found
    birth_leads found tell =
        let born : HasBorn tells (before_run seat.hand) seat.body = record {
          births = run_of seat.hand ∷ stage.3.births;
          are = (
            record { group = last_group_of seat.hand; black = bears_black_of seat; of_group = run_is_of_last_group seat.hand; made = (found, tell) },
            subst (λ (hand : List ℕ). AreBorn tells hand seat.body stage.3.births) (sym (before_run_and_run_make_all seat.hand)) stage.3.are,
          );
        } in
        record {
          kept = refl;
          same = refl;
          stage = subst (StageAt tells heap number before (with_entries ((birth_move seat).told found) []) (told ++ [])) (sym here.point_is)
              (holds_with_nothing_told (λ t. StageAt tells heap number before (with_entries ((birth_move seat).told found) []) t (points.Making Bearing)) told (stage.0, stage.1, stage.2, born));
        }

    -- the last ones were born
    last_birth_leads : is_last_birth seat ≡ true → (found : ℕ) → tells (last_birth_move number seat).step found → Leads tells heap number before seat told (last_birth_move number seat) found
    last_birth_leads last found tell =
        let object = stage.0 in
        let makes = here.hand.0.makes in
        let whole = run_is_whole_hand seat.hand last in
        let id : Id = next_object_id number seat in
        let comes = claims_before_made number (length before.reserve) (need_of seat.command) object.claimed told id object.gathered.takes object.enough in
        record {
          kept = refl;
          same = refl;
          stage = record {
            reply = replies.Made id;
            first = told;
            last = refl;
            beside = subst (AllByRecursion (IsBeside number)) (sym comes.2) (takes_beside number comes.0);
            comes = object_entries_come_first number before seat.command (replies.Made id) told makes.an_object comes;
            stands = record {
              an_object = makes.an_object;
              id_is = ap (λ (k : Kept). Made number k.made) object.kept_is;
              body = seat.body;
              between = kept_of seat;
              has = object;
              spine = seat.spine;
              spined = λ an_array. subst (λ (n : ℕ). HasSpine tells seat.command seat.body seat.spine n) (listed_of_array seat.command seat.spine seat.listed an_array here.hand.4) (stage.1 an_array);
              stored = subst (HasStored tells seat.command (name_after number before.made) seat.spine seat.body) here.hand.3 stage.2;
              last = seat.hand;
              born = stage.3;
              group = last_group_of seat.hand;
              black = bears_black_of seat;
              last_of_group = subst (All (λ f. f / 16 ≡ last_group_of seat.hand)) whole (run_is_of_last_group seat.hand);
              last_born = (found, subst (λ (group_hand : List ℕ). tells (steps.Making (LastBirth (last_group_of seat.hand) (mask_of group_hand) (bears_black_of seat))) found) whole tell);
              kept_is = ap (λ (k : Kept). kept_replied seat.looks.seen (record (kept_of seat) {
                registers = set k.registers (target_of seat.command) (Object (get_or seat.body 0 0) id);
                seen = set k.seen (target_of seat.command) 0;
                made = k.made + 1;
              })) object.kept_is;
            };
          };
        }

  -- the fragments of a group were born
  pub point_leads_at_bearing : PointLeads tells (points.Making Bearing)
  point_leads_at_bearing heap number before seat told here stage =
      elim (true_or_false (is_last_birth seat)) as (λ _. LeadsOn tells heap number before seat told (bearing_move number seat)) [
        | inl last ↦ rw last (last_birth_leads heap number before seat told here stage last)
        | inr more ↦ rw more (birth_leads heap number before seat told here stage)
      ]
