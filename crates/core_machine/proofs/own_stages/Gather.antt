-- A call that makes an object claims, gives back, and tells its refusal.
use Rattle.std.proofs.Common.{◌≡◌, ℕ, ◌+◌, ◌%◌, ◌^◌, ◌<◌, List, [], ◌∷◌, ◌++◌, length, take, refl, sym, ap, subst, length-append, arith}
use Rattle.std.proofs.lemmas.List.Filters.{length-filter_both}
use Rattle.std.specs.List.{AllByRecursion}
use Rattle.heap_model.specs.calls.SeatCalls.{takes_of, gives_of}
use Rattle.core_machine.proofs.Terms.{Command, Array, Entry, GivesBack, Heap, grant_move, withdraw_move, Kept, kept_of, StageAt, IsAnswered, Granting, Withdrawing, Gathering}
use Rattle.core_machine.proofs.Terms.{GivingBack, Refusing, Step, IsBeside, next_group_of, first_group_of, after_gather, after_give_back, gather_next, Seat, need, spine_need}
use Rattle.core_machine.proofs.Terms.{with_entries, in_group, out_of_group, inside_group, outside_group, clear_in}
use Rattle.heap_model.specs.declared.reply.Reply.TheVariants as replies
use Rattle.core_machine.specs.Moves.{refusal_looks, refusal_move, takes_some}
use Rattle.core_machine.specs.calls.Claims.{GivesBackAll, Gathers, GivesUp}
use Rattle.core_machine.specs.calls.Making.{HasObject}
use Rattle.core_machine.specs.declared.point.Point.TheVariants as points
use Rattle.core_machine.specs.seat.Looks.{Looks, forgotten, seen_phase}
use Rattle.core_machine.proofs.call_lemmas.Awaits.{own_list_same_going_on}
use Rattle.core_machine.proofs.call_lemmas.Claiming.{gives_back_none, gives_back_one_group_more, claims_before_refusal}
use Rattle.core_machine.proofs.own_stages.Claiming.{gives_beside, object_entries_come_first, none_before_withdrawal, gathers_without_claim, gathers_one_group_more}
use Rattle.core_machine.proofs.own_stages.Leading.{PointLeads, holds_of_untold}
use Rattle.core_machine.proofs.seat_lemmas.Fitting.{goes_on_cases, returning_cases, budget_cases, settled_cases}

-- going on leaves the command
pub going_on_keeps_command : (heap : Heap) (seat : Seat) → (gather_next heap seat).command ≡ seat.command
going_on_keeps_command heap seat = goes_on_cases (λ s. s.command ≡ seat.command) heap seat (λ enough. refl) (λ few left. refl) (λ few all. refl)

-- at a refusal at most another phase was seen
refusal_seen : (command : Command) (found : ℕ) (looks : Looks) → refusal_looks command found looks ≡ seen_phase (refusal_looks command found looks).seen looks
refusal_seen (Array d cells) found looks = refl
refusal_seen _ found looks = refl

-- what was told by claims and gives stands beside a reply
told_beside : (number : ℕ) (told : List Entry) (counts : List ℕ) → told ≡ takes_of number counts ++ gives_of number counts → AllByRecursion (IsBeside number) told
told_beside number told counts is = subst (AllByRecursion (IsBeside number)) (sym is) (gives_beside number counts counts)

module _ (tells : Step → ℕ → Type 0) where
  -- a seat that has gathered goes on
  pub stage_stands_going_on : (heap : Heap) (number : ℕ) (seat : Seat) (told more : List Entry) → seat.given ≡ 0 → seat.stored ≡ 0 → Gathers tells heap number seat.command (kept_of seat) seat.hand seat.tried told
      → StageAt tells heap number (kept_of seat) (with_entries (gather_next heap seat) more) told (gather_next heap seat).point
  stage_stands_going_on heap number seat told more none unstored gathers =
      let long = length-append seat.reserve seat.hand in
      goes_on_cases (λ s. StageAt tells heap number (kept_of seat) (with_entries s more) told s.point) heap seat
      (λ enough.
      let object : HasObject tells heap number seat.command (kept_of seat) (kept_of (after_gather heap seat)) (take (need seat) (seat.reserve ++ seat.hand)) told = record {
        claimed = seat.hand;
        tried = seat.tried;
        gathered = gathers;
        enough = omega (arith, enough, long);
        body_is = refl;
        kept_is = refl;
      } in
      settled_cases (λ m. StageAt tells heap number (kept_of seat) (with_entries (record (after_gather heap seat) { point = points.Making m }) more) told (points.Making m)) seat.command
      (λ an_array. object) (λ other. (object, λ an_array. absurd (other an_array), λ k below. absurd (omega (arith, below, unstored)))))
      (λ lacks left. (refl, gathers))
      (λ lacks all.
      let last : seat.tried ≡ heap.groups = omega (arith, all, gathers.few) in
      let gives : GivesUp tells heap number seat.command (kept_of seat) seat.hand seat.given told = record {
        claimed = seat.hand;
        taken = told;
        gathered = subst (λ (tried : ℕ). Gathers tells heap number seat.command (kept_of seat) seat.hand tried told) last gathers;
        too_few = omega (arith, lacks, long);
        all = omega (arith, none);
        gives = subst (λ (given : ℕ). GivesBackAll number given seat.hand told) (sym none) (gives_back_none number (length seat.reserve) (need seat) seat.hand told gathers.takes);
      } in
      returning_cases (λ m. StageAt tells heap number (kept_of seat) (with_entries (record seat { point = points.Making m }) more) told (points.Making m)) seat.hand
      (λ empty. (refl, gives)) (λ some. (refl, gives)))

  -- the spine words were asked for
  pub point_leads_at_granting : PointLeads tells (points.Making Granting)
  point_leads_at_granting heap number before seat told here stage found tell =
      let rest = here.hand.0 in
      record {
        kept = budget_cases (λ s. s.mine ≡ seat.mine) heap seat found (λ lacks. refl) (λ grants. own_list_same_going_on heap seat);
        same = budget_cases (λ s. s.command ≡ seat.command) heap seat found (λ lacks. refl) (λ grants. going_on_keeps_command heap seat);
        stage = holds_of_untold (λ b t. StageAt tells heap number b (with_entries ((grant_move heap number seat).told found) []) (t ++ []) ((grant_move heap number seat).told found).point) stage
            (budget_cases (λ s. StageAt tells heap number (kept_of seat) (with_entries s []) [] s.point) heap seat found
            (λ lacks. (record { kept_stays = refl; none_told = refl }, tell))
            (λ grants. stage_stands_going_on heap number seat [] [] rest.none_given rest.none_stored
            (gathers_without_claim tells heap number seat.command (kept_of seat) seat.hand seat.tried [] (λ an_array. record { word = found; told = tell; enough = omega (arith, grants) })
            here.fits.own.small_reserve rest.empty_hand rest.none_tried refl)));
      }

  -- they were taken back
  pub point_leads_at_withdrawing : PointLeads tells (points.Making Withdrawing)
  point_leads_at_withdrawing heap number before seat told here stage found tell = record {
    kept = refl;
    same = refl;
    stage = holds_of_untold (λ b t. IsAnswered tells heap number seat.command b (kept_of ((withdraw_move number seat).told found)) (t ++ (withdraw_move number seat).adds found)) stage.0 (record {
      reply = replies.SpineFull (spine_need seat) (seat.used % 2 ^ 32);
      first = [];
      last = refl;
      beside = tt;
      comes = none_before_withdrawal number (kept_of seat) seat.command (spine_need seat) (seat.used % 2 ^ 32) here.hand.an_array;
      stands = record {
        an_array = here.hand.an_array;
        shown_is = refl;
        word = seat.used;
        told = stage.1;
        too_many = here.hand.too_many;
        used_is = refl;
        keeps = refl;
      };
    });
  }

  -- a group was claimed
  pub point_leads_at_gathering : PointLeads tells (points.Making Gathering)
  point_leads_at_gathering heap number before seat told here stage found tell =
      let is = here.hand in
      let got = clear_in (next_group_of heap seat) found in
      let next : Seat = record seat { hand = seat.hand ++ got; tried = seat.tried + 1 } in
      let more = takes_some number (length got) in
      let gathers : Gathers tells heap number seat.command (kept_of seat) seat.hand seat.tried told =
      subst (λ (b : Kept). Gathers tells heap number seat.command b seat.hand seat.tried told) (sym stage.0) stage.1 in
      record {
        kept = own_list_same_going_on heap next;
        same = going_on_keeps_command heap next;
        stage = subst (λ (b : Kept). StageAt tells heap number b (with_entries (gather_next heap next) more) (told ++ more) (gather_next heap next).point) stage.0
            (stage_stands_going_on heap number next (told ++ more) more is.none_given is.none_stored
            (gathers_one_group_more tells heap number seat.command (kept_of seat) seat.hand seat.tried found told is.groups_left (omega (arith, is.too_few)) tell gathers));
      }

  -- a group was given back
  pub point_leads_at_returning : PointLeads tells (points.Making GivingBack)
  point_leads_at_returning heap number before seat told here stage found tell =
      let group = first_group_of seat.hand in
      let both = length-filter_both (in_group group) (out_of_group group) (λ f. refl) seat.hand in
      let entry = GivesBack number (length (inside_group group seat.hand)) in
      let up = stage.1 in
      let gives : GivesUp tells heap number seat.command before (outside_group group seat.hand) (seat.given + length (inside_group group seat.hand)) (told ++ entry ∷ []) = record {
        claimed = up.claimed;
        taken = up.taken;
        gathered = up.gathered;
        too_few = up.too_few;
        all = omega (arith, both, up.all);
        gives = gives_back_one_group_more number seat.given seat.hand told up.gives here.hand.1;
      } in
      record {
        kept = refl;
        same = refl;
        stage = returning_cases (λ m. StageAt tells heap number before (with_entries (record (after_give_back seat) { point = points.Making m }) (entry ∷ [])) (told ++ entry ∷ []) (points.Making m))
            (outside_group group seat.hand) (λ empty. (stage.0, gives)) (λ left. (stage.0, gives));
      }

  -- the refusal was told
  pub point_leads_at_refusing : PointLeads tells (points.Making Refusing)
  point_leads_at_refusing heap number before seat told here stage found tell =
      let is = here.hand.0 in
      let up : GivesUp tells heap number seat.command (kept_of seat) seat.hand seat.given told =
      subst (λ (b : Kept). GivesUp tells heap number seat.command b seat.hand seat.given told) (sym stage.0) stage.1 in
      let gives : GivesBackAll number seat.given [] told = subst (λ (hand : List ℕ). GivesBackAll number seat.given hand told) here.hand.1 up.gives in
      let few : length seat.reserve + seat.given < need seat = omega (arith, is.too_few) in
      let all = up.all in
      let empty = ap (length {A = ℕ}) here.hand.1 in
      let comes = claims_before_refusal number (length seat.reserve) (need seat) seat.given told gives few in
      record {
        kept = refl;
        same = refl;
        stage = subst (λ (b : Kept). IsAnswered tells heap number seat.command b (kept_of ((refusal_move number seat).told found)) (told ++ (refusal_move number seat).adds found)) stage.0 (record {
          reply = replies.Full (need seat) (length seat.reserve + seat.given);
          first = told;
          last = refl;
          beside = told_beside number told comes.0 comes.3;
          comes = object_entries_come_first number (kept_of seat) seat.command (replies.Full (need seat) (length seat.reserve + seat.given)) told is.makes.an_object comes;
          stands = record {
            an_object = is.makes.an_object;
            shown_is = refl;
            claimed = up.claimed;
            taken = up.taken;
            gathered = up.gathered;
            found_is = omega (arith, all, empty);
            too_few = few;
            keeps = ap (λ (l : Looks). record (kept_of seat) { looks = forgotten l }) (refusal_seen seat.command found seat.looks);
          };
        });
      }
