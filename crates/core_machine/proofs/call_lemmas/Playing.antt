-- A call that is made by itself, step by step.
use Rattle.std.proofs.Common.{◌≡◌, ℕ, ◌+◌, ◌*◌, ◌%◌, ◌^◌, ◌<◌, List, [], ◌∷◌, ◌++◌, length, refl, sym, ap, subst, inl, inr, length-append, bit_or, arith}
use Rattle.std.proofs.lemmas.Bool.Decides.{eqb_tells}
use Rattle.std.proofs.lemmas.List.Filters.{length-filter_both}
use Rattle.core_machine.proofs.Terms.{Heap, Command, spine_need_of, Entry, Said, GivesBack, Address, Control, Granting, Withdrawing, Gathering, GivingBack, Refusing, Placing}
use Rattle.core_machine.proofs.Terms.{Listing, Storing, Bearing, clear_in, inside_group, outside_group, in_group, out_of_group, at, put, InTable, table_length, all_taken, Seat, need}
use Rattle.core_machine.proofs.Terms.{spine_need, with_entries, next_group_of, first_group_of, after_give_back, after_listing, after_store, store_point, next_object_id, Move}
use Rattle.core_machine.proofs.Terms.{seat_after, listing_move, bearing_move, is_last_birth, State, seat_at, found_by, state_after_move, SeatIsGathering}
use Rattle.core_machine.proofs.Terms.{SeatIsRefusing, free_count, within_reach, KeepsOwn, IsRefused, IsMachine, Kept, kept_of}
use Rattle.heap_model.specs.declared.reply.Reply.TheVariants as replies
use Rattle.heap_model.specs.account.Space.{need_of}
use Rattle.core_machine.specs.declared.point.Point.TheVariants as points
use Rattle.core_machine.specs.Moves.{claim_move, give_back_move, refusal_move, store_move, takes_some}
use Rattle.core_machine.proofs.table_lemmas.Addresses.{at-put_other, at-put_same}
use Rattle.core_machine.proofs.table_lemmas.Bits.{true_or_false}
use Rattle.core_machine.proofs.table_lemmas.Free.{free_count_after_claim, claimed_group_has_none_clear}
use Rattle.core_machine.proofs.seat_lemmas.Fitting.{returning_cases, listing_cases}
use Rattle.core_machine.proofs.table_lemmas.Owned.{fragments_group_within_heap}
use Rattle.core_machine.proofs.table_lemmas.Filters.{outside_group_is_shorter}
use Rattle.core_machine.proofs.call_lemmas.Asking.{AsksWords, asked_words_are_small, same_table_after_refusal}
use Rattle.core_machine.proofs.call_lemmas.Restoring.{Claims, claims_one_group_more, claims_one_group_less, same_table_without_claims}
use Rattle.core_machine.proofs.machine_lemmas.Parties.{set_seat_is_read}
use Rattle.core_machine.proofs.call_lemmas.Stages.{WhileGathering, WhileGivingBack, WhileMaking, AloneStage, AloneAfter, PointLeadsAlone}
use Rattle.core_machine.proofs.call_lemmas.GoingOn.{keeps_own_data, alone_stands_going_on}
use Rattle.core_machine.proofs.call_lemmas.Granting.{grant_leads_alone, withdrawal_leads_alone}

-- the group that was claimed is passed too
passed_more : (heap : Heap) (words : List ℕ) (cursor tried i : ℕ) → length words ≡ table_length heap → (cursor + tried) % heap.groups < heap.groups → i < tried + 1
    → ((k : ℕ) → k < tried → clear_in ((cursor + k) % heap.groups) (at heap words (Control ((cursor + k) % heap.groups))) ≡ [])
    → clear_in ((cursor + i) % heap.groups) (at heap (put heap words (Control ((cursor + tried) % heap.groups)) (bit_or (at heap words (Control ((cursor + tried) % heap.groups))) all_taken)) (Control ((cursor + i) % heap.groups))) ≡ []
passed_more heap words cursor tried i table within below passed =
    let group = (cursor + tried) % heap.groups in
    let n = at heap words (Control group) in
    let after_ = put heap words (Control group) (bit_or n all_taken) in
    let k = (cursor + i) % heap.groups in
    elim (eqb_tells k group) as (λ _. clear_in k (at heap after_ (Control k)) ≡ []) [
      | inl here ↦ subst (λ (g : ℕ). clear_in g (at heap after_ (Control g)) ≡ []) (sym here.1) (rw (at-put_same heap words (Control group) (bit_or n all_taken) table within) (claimed_group_has_none_clear group n))
      | inr there ↦
          let earlier : i < tried = elim (eqb_tells i tried) as (λ _. i < tried) [ inl same ↦ absurd (there.1 (ap (λ (m : ℕ). (cursor + m) % heap.groups) same.1)) | inr other ↦ omega (arith, other.1) ] in
          rw (at-put_other heap words (Control group) (Control k) (bit_or n all_taken) within (omega arith) (λ e. there.1 (cc e))) (passed i earlier)
    ]

module _ (heap : Heap) (old : State) (number : ℕ) (command : Command) (now : State) (told : List Entry) (machine : IsMachine heap now) (within : number < length now.seats)
    (small : (a : Address) → InTable heap a → at heap old.words a < 2 ^ 64) where
  abbrev pub the_seat : Seat
  the_seat = seat_at now number

  -- what the seat keeps is what it kept at the begin
  abbrev KeepsIt : Type 0
  KeepsIt = kept_of the_seat ≡ kept_of (seat_at old number)

  -- what a move leads to
  abbrev pub Leads : Move → Type 0
  Leads = AloneAfter heap old number command now told

  alone_claimed : SeatIsGathering heap the_seat → the_seat.command ≡ command → KeepsIt → WhileGathering heap old now.words command (seat_at now number).cursor (seat_at now number).tried (seat_at now number).hand
      → Leads (claim_move heap number the_seat)
  alone_claimed is same kept while =
      let seat = the_seat in
      let fits = machine.fit number within in
      let group = next_group_of heap seat in
      let n = at heap now.words (Control group) in
      let there : group < heap.groups = omega (arith, fits.own.cursor_within) in
      let got = clear_in group n in
      let freed = free_count_after_claim heap now.words group machine.table there in
      alone_stands_going_on heap old number command (state_after_move heap now number (claim_move heap number seat)) _ (takes_some number (length got))
      (record seat { hand = seat.hand ++ got; tried = seat.tried + 1 }) same is.none_given fits.own.cursor_within (ap (λ (k : Kept). k.reserve) kept) (record {
        free = omega (arith, freed, while.free, length-append seat.hand got);
        passed = λ i below. passed_more heap now.words seat.cursor seat.tried i machine.table there below while.passed;
        claims = record {
          base = while.claims.base;
          asked = while.claims.asked;
          granted = while.claims.granted;
          claims = claims_one_group_more heap while.claims.base now.words seat.hand group machine.table there (asked_words_are_small heap (spine_need_of command) old.words while.claims.base while.claims.asked small) while.claims.claims;
        };
      })

  alone_given_back : SeatIsRefusing heap the_seat → 0 < length the_seat.hand → WhileGivingBack heap old now.words command (seat_at now number).hand (seat_at now number).given → Leads (give_back_move number the_seat)
  alone_given_back is some while =
      let seat = the_seat in
      let fits = machine.fit number within in
      let group = first_group_of seat.hand in
      let there : group < heap.groups = fragments_group_within_heap heap seat.hand 0 some fits.hand.hand_within in
      let both = length-filter_both (in_group group) (out_of_group group) (λ f. refl) seat.hand in
      let fewer = outside_group_is_shorter group seat.hand 0 some refl in
      let less = claims_one_group_less heap while.claims.base now.words seat.hand group machine.table there (omega arith) while.claims.claims in
      let entry = GivesBack number (length (inside_group group seat.hand)) in
      let after_ = state_after_move heap now number (give_back_move number seat) in
      let next : WhileGivingBack heap old after_.words command (outside_group group seat.hand) (seat.given + length (inside_group group seat.hand)) = record {
        all = omega (arith, while.all);
        claims = record { base = while.claims.base; asked = while.claims.asked; granted = while.claims.granted; claims = less };
      } in
      returning_cases (λ m. AloneStage heap old after_ number command (told ++ entry ∷ []) (with_entries (record (after_give_back seat) { point = points.Making m }) (entry ∷ [])) (points.Making m))
      (outside_group group seat.hand) (λ empty. next) (λ left. next)

  alone_refused : SeatIsRefusing heap the_seat → the_seat.hand ≡ [] → the_seat.command ≡ command → KeepsIt
      → WhileGivingBack heap old now.words command (seat_at now number).hand (seat_at now number).given → Leads (refusal_move number the_seat)
  alone_refused is empty same kept while =
      let seat = the_seat in
      let after_ = state_after_move heap now number (refusal_move number seat) in
      let here : seat_at after_ number ≡ seat_after (refusal_move number seat) (found_by heap now (refusal_move number seat).step) = set_seat_is_read now.seats number _ within in
      let reserve = ap (λ (k : Kept). length k.reserve) kept in
      let given : seat.given ≡ free_count heap old.words = omega (arith, while.all, ap (length {A = ℕ}) empty) in
      let found : length seat.reserve + seat.given ≡ within_reach heap old number = omega (arith, given, reserve) in
      let few : within_reach heap old number < need_of command = omega (arith, is.too_few, ap need_of same, found) in
      let refused : IsRefused heap old after_ number command (replies.Full (need seat) (length seat.reserve + seat.given)) = record {
        shows = rw (found, same) refl;
        own_stays = subst (KeepsOwn (seat_at old number)) (sym here) (keeps_own_data (seat_at old number) seat _ kept refl refl refl refl refl);
        table_stays = same_table_after_refusal heap seat.command old.words while.claims.base now.words is.makes.an_object is.makes.in_range machine.table small
            (subst (λ (n : ℕ). AsksWords heap n old.words while.claims.base) (sym (ap spine_need_of same)) while.claims.asked)
            (same_table_without_claims heap while.claims.base now.words (subst (Claims heap while.claims.base now.words) empty while.claims.claims));
      } in
      record {
        reply = replies.Full (need seat) (length seat.reserve + seat.given);
        before = told;
        last = ap (λ (c : Command). told ++ Said number c (replies.Full (need seat) (length seat.reserve + seat.given)) ∷ []) same;
        refused = λ refusal. absurd refusal;
        phase = λ a_poll p e. cc;
        answer = λ a_record. record { made = λ enough. absurd (omega (arith, enough, few)); refused = λ lacks. refused };
        array = λ an_array. record {
          spine_refused = λ lacks. absurd (while.claims.granted an_array lacks);
          made = λ granted enough. absurd (omega (arith, enough, few));
          refused = λ granted lacks. refused;
        };
      }

  alone_listed : WhileMaking heap old number command → Leads (listing_move the_seat)
  alone_listed while =
      let seat = the_seat in
      let after_ = state_after_move heap now number (listing_move seat) in
      listing_cases (λ m. AloneStage heap old after_ number command (told ++ []) (with_entries (record (after_listing seat) { point = points.Making m }) []) (points.Making m)) (seat.listed + 1) (spine_need seat)
      (λ more. while) (λ all. while)

  alone_stored : WhileMaking heap old number command → Leads (store_move number the_seat)
  alone_stored while =
      let seat = the_seat in
      let after_ = state_after_move heap now number (store_move number seat) in
      elim (eqb_tells (seat.stored + 1) (4 * length seat.body)) as (λ _. AloneStage heap old after_ number command (told ++ []) (with_entries (after_store seat) []) (points.Making (store_point (seat.stored + 1) seat.body))) [
        | inl all ↦ rw all.0 while
        | inr left ↦ rw left.0 while
      ]

  alone_bearing : the_seat.point ≡ points.Making Bearing → the_seat.command ≡ command → the_seat.made ≡ (seat_at old number).made → WhileMaking heap old number command → Leads (bearing_move number the_seat)
  alone_bearing point same made while =
      let seat = the_seat in
      elim (true_or_false (is_last_birth seat)) as (λ _. Leads (bearing_move number seat)) [
        | inl last ↦ rw last (record {
          reply = replies.Made (next_object_id number seat);
          before = told;
          last = ap (λ (c : Command). told ++ Said number c (replies.Made (next_object_id number seat)) ∷ []) same;
          refused = λ refusal. absurd refusal;
          phase = λ a_poll p e. cc;
          answer = λ a_record. record { made = λ enough. rw made refl; refused = λ lacks. absurd (omega (arith, lacks, while.enough)) };
          array = λ an_array. record {
            spine_refused = λ lacks. absurd (while.granted an_array lacks);
            made = λ granted enough. rw made refl;
            refused = λ granted lacks. absurd (omega (arith, lacks, while.enough));
          };
        })
        | inr more ↦ rw (more, point) while
      ]

-- the spine words were asked for, and taken back where they were too many
pub grants_alone : PointLeadsAlone (points.Making Granting)
grants_alone heap old number command now told here = grant_leads_alone heap old number command now told here.machine here.within here.small here.fits here.same here.own.kept_stays here.alone

pub withdraws_alone : PointLeadsAlone (points.Making Withdrawing)
withdraws_alone heap old number command now told here = withdrawal_leads_alone heap old number command now told here.machine here.within here.small here.fits here.same here.own.0.kept_stays here.alone

-- a group was claimed
pub claims_alone : PointLeadsAlone (points.Making Gathering)
claims_alone heap old number command now told here = alone_claimed heap old number command now told here.machine here.within here.small here.fits here.same here.own.0 here.alone

-- what was claimed was given back, and the refusal told
pub gives_back_alone : PointLeadsAlone (points.Making GivingBack)
gives_back_alone heap old number command now told here = alone_given_back heap old number command now told here.machine here.within here.small here.fits.0 here.fits.1 here.alone

pub refuses_alone : PointLeadsAlone (points.Making Refusing)
refuses_alone heap old number command now told here = alone_refused heap old number command now told here.machine here.within here.small here.fits.0 here.fits.1 here.same here.own.0 here.alone

-- the spine got its place, and a word; so did a fragment
pub places_alone : PointLeadsAlone (points.Making Placing)
places_alone heap old number command now told here = here.alone

pub lists_alone : PointLeadsAlone (points.Making Listing)
lists_alone heap old number command now told here = alone_listed heap old number command now told here.machine here.within here.small here.alone

pub stores_alone : PointLeadsAlone (points.Making Storing)
stores_alone heap old number command now told here = alone_stored heap old number command now told here.machine here.within here.small here.alone

-- fragments were born
pub bears_alone : PointLeadsAlone (points.Making Bearing)
bears_alone heap old number command now told here = alone_bearing heap old number command now told here.machine here.within here.small here.point_is here.same (ap (λ (k : Kept). k.made) here.own.0.kept_is) here.alone
