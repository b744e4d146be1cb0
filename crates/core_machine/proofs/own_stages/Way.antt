-- A call comes to its field, and reads or writes it.
use Rattle.std.proofs.Common.{◌≡◌, ℕ, suc, ◌-◌, ◌<◌, List, [], ◌∷◌, ◌++◌, Option, Some, None, refl, subst, ◌∙◌, inl, inr, arith}
use Rattle.std.proofs.lemmas.Bool.Decides.{eqb_tells, leb_tells}
use Rattle.core_machine.proofs.Terms.{link_of, length_of, array_length_of, Command, Get, Set, Cas, Len, Entry, Said, Heap, Reply, Kept, kept_of, KeepsAll, IsUntold, AccessStage}
use Rattle.core_machine.proofs.Terms.{StageAt, StandsOn, IsAnswered, LoadingMeta, Walking, LoadingSpot, Indexing, Step, at_access, with_field_place, field_point_of, way_point_of}
use Rattle.core_machine.proofs.Terms.{after_link, after_walk, field_reply_of, after_length, at_payload, after_index, meta_reply_of, after_meta, field_of, NamesObject, NamesField}
use Rattle.core_machine.proofs.Terms.{Seat, with_entries}
use Rattle.heap_model.specs.declared.reply.Reply.TheVariants.{NoField}
use Rattle.core_machine.specs.calls.Reaching.{HasOpened, GoesByLinks, ReachesField}
use Rattle.core_machine.specs.declared.point.Point.TheVariants as points
use Rattle.core_machine.specs.declared.step.AccessStep.TheVariants.{WalkLoad}
use Rattle.core_machine.specs.declared.step.Step.TheVariants as steps
use Rattle.core_machine.specs.seat.AccessMoves.{reply_entries_if}
use Rattle.core_machine.proofs.call_lemmas.RepliesAlone.{object_replies_alone}
use Rattle.core_machine.proofs.moves.Standing.{IsAt}
use Rattle.core_machine.proofs.moves.Walk.{onward_keeps_list}
use Rattle.core_machine.proofs.own_stages.Leading.{PointLeads, holds_with_nothing_told, holds_of_untold, reply_alone_answers}
use Rattle.core_machine.proofs.seat_lemmas.FieldPoints.{field_point_cases}

-- where the meta refuses no field, there is one
field_within : (field found : ℕ) → field_reply_of field found ≡ None → field < length_of found
field_within field found none =
    elim (leb_tells (suc field) (length_of found)) as (λ _. field < length_of found) [
      | inl within ↦ within.1
      | inr past ↦ absurd (differ (rw past.0 at none))
    ]
  where
    differ : Some NoField ≡ None → ⊥
    differ e = cc

-- so it is where the call goes on behind the meta
met_within : (command : Command) (found : ℕ) → NamesObject command → meta_reply_of command found ≡ None → field_of command < length_of found
met_within (Get d r i) found names none = field_within i found none
met_within (Set r i v) found names none = field_within i found none
met_within (Cas r i a v) found names none = field_within i found none
met_within (Len r) found names none = cc
met_within _ found names none = absurd names

some_same : {a b : Reply} → Some a ≡ Some b → a ≡ b
some_same e = cc

-- walking on leaves the command
onward_same : (seat : Seat) (found : ℕ) → (after_walk seat found).command ≡ seat.command
onward_same seat found = elim (eqb_tells seat.links 0) as (λ _. (after_walk seat found).command ≡ seat.command) [ inl none ↦ rw none.0 refl | inr some ↦ rw some.0 refl ]

module _ (tells : Step → ℕ → Type 0) where
  -- the refusal of a field stands on the meta
  refused_field : (heap : Heap) (number : ℕ) (command : Command) (before kept : Kept) (head found : ℕ) (reply : Reply) → NamesField command → HasOpened tells command before head found
      → KeepsAll before kept → field_reply_of (field_of command) found ≡ Some reply → StandsOn tells heap number command before kept [] reply
  refused_field heap number command before kept head found reply names opened keeps some =
      elim (leb_tells (suc (field_of command)) (length_of found)) as (λ _. StandsOn tells heap number command before kept [] reply) [
        | inl within ↦ absurd (differ (rw within.0 at some))
        | inr past ↦ subst (StandsOn tells heap number command before kept []) (some_same (rw past.0 at some))
            (record { names = names; head = head; meta = found; opened = opened; past = omega (arith, past.1); keeps = keeps })
      ]
    where
      differ : None ≡ Some reply → ⊥
      differ e = cc

  -- and so does each reply there
  met_stands : (heap : Heap) (number : ℕ) (command : Command) (before kept : Kept) (head found : ℕ) (reply : Reply) → NamesObject command → HasOpened tells command before head found
      → KeepsAll before kept → meta_reply_of command found ≡ Some reply → StandsOn tells heap number command before kept [] reply
  met_stands heap number (Get d r i) before kept head found reply names opened keeps some = refused_field heap number (Get d r i) before kept head found reply tt opened keeps some
  met_stands heap number (Set r i v) before kept head found reply names opened keeps some = refused_field heap number (Set r i v) before kept head found reply tt opened keeps some
  met_stands heap number (Cas r i a v) before kept head found reply names opened keeps some = refused_field heap number (Cas r i a v) before kept head found reply tt opened keeps some
  met_stands heap number (Len r) before kept head found reply names opened keeps some =
      subst (StandsOn tells heap number (Len r) before kept []) (some_same some)
      (record { register = r; a_len = refl; head = head; meta = found; opened = opened; length_is = refl; keeps = keeps })
  met_stands heap number _ before kept head found reply names opened keeps some = absurd names

  -- the field was reached
  field_stage : (before : Kept) (seat s : Seat) (command : Command) → ReachesField tells s.command before s.reached s.part → AccessStage tells before s (field_point_of seat command)
  field_stage before seat s command reaches = field_point_cases (AccessStage tells before s) seat command reaches (λ on. reaches) (λ off. reaches) (λ on some. reaches) (λ on none some. reaches) (λ none. reaches)

  -- the way goes on by links, or was gone
  way_stage : (before : Kept) (seat s : Seat) → s.links ≡ seat.links → GoesByLinks tells s.command before s.reached s.links s.part → AccessStage tells before s (way_point_of seat)
  way_stage before seat s same goes =
      elim (eqb_tells seat.links 0) as (λ _. AccessStage tells before s (way_point_of seat)) [
        | inl none ↦ rw none.0 (field_stage before seat s seat.command (inl (subst (λ (n : ℕ). GoesByLinks tells s.command before s.reached n s.part) (same ∙ none.1) goes)))
        | inr some ↦ rw some.0 goes
      ]

  onward : (heap : Heap) (number : ℕ) (before : Kept) (seat : Seat) (told : List Entry) (found : ℕ) → IsUntold before (kept_of seat) told → GoesByLinks tells seat.command before seat.reached seat.links seat.part
      → tells (steps.Access (WalkLoad seat.reached)) found → StageAt tells heap number before (with_entries (after_walk seat found) []) (told ++ []) (after_walk seat found).point
  onward heap number before seat told found untold goes tell =
      let still = holds_with_nothing_told (IsUntold before (kept_of seat)) told untold in
      elim (eqb_tells seat.links 0) as (λ _. StageAt tells heap number before (with_entries (after_walk seat found) []) (told ++ []) (after_walk seat found).point) [
        | inl none ↦
            let stage : StageAt tells heap number before (with_entries (at_access seat (way_point_of seat)) []) (told ++ []) (points.Access (way_point_of seat)) =
            (still, way_stage before seat (with_entries (at_access seat (way_point_of seat)) []) refl goes) in
            rw none.0 (rw none.0 at stage)
        | inr some ↦
            let all = goes.all in
            let more : GoesByLinks tells seat.command before (link_of found) (seat.links - 1) seat.part = record {
              head = goes.head;
              meta = goes.meta;
              opened = goes.opened;
              a_record = goes.a_record;
              within = goes.within;
              passed = suc goes.passed;
              all = omega (arith, some.1, all);
              leads = (seat.reached, found, goes.leads, tell, refl);
              part_is = goes.part_is;
            } in
            rw some.0 (still, way_stage before (after_link seat found) (with_entries (at_access (after_link seat found) (way_point_of (after_link seat found))) []) refl more)
      ]

  -- a link was loaded
  pub point_leads_at_walking : PointLeads tells (points.Access Walking)
  point_leads_at_walking heap number before seat told here stage found tell =
      record { kept = onward_keeps_list seat found; same = onward_same seat found; stage = onward heap number before seat told found stage.0 stage.1 tell }

  module _ (heap : Heap) (number : ℕ) (before : Kept) (seat : Seat) (told : List Entry) (here : IsAt heap number seat (points.Access LoadingMeta)) (untold : IsUntold before (kept_of seat) told)
      (found : ℕ) (tell : tells (steps.Access (WalkLoad seat.reached)) found) where
    opened : HasOpened tells seat.command (kept_of seat) seat.reached found
    opened = record { holds = here.way.at_head; told = tell }

    -- the meta of a record was found, or that of an array
    length_leads : (cells : Option ℕ) → array_length_of found ≡ cells → field_of seat.command < length_of found
        → ((after_length seat found cells).mine ≡ seat.mine) × ((after_length seat found cells).command ≡ seat.command)
        × StageAt tells heap number before (with_entries (after_length seat found cells) []) (told ++ []) (after_length seat found cells).point
    length_leads None is within = (
      onward_keeps_list (with_field_place seat) found,
      onward_same (with_field_place seat) found,
      holds_of_untold (λ b t. StageAt tells heap number b (with_entries (after_length seat found None) []) (t ++ []) (after_length seat found None).point) untold
          (onward heap number (kept_of seat) (with_field_place seat) [] found (record { kept_stays = refl; none_told = refl }) (record {
            head = seat.reached;
            meta = found;
            opened = opened;
            a_record = is;
            within = within;
            passed = 0;
            all = omega arith;
            leads = refl;
            part_is = refl;
          }) tell),
    )
    length_leads (Some cells) is within = (
      refl,
      refl,
      holds_of_untold (λ b t. StageAt tells heap number b (with_entries (after_length seat found (Some cells)) []) (t ++ []) (points.Access LoadingSpot)) untold (
        record { kept_stays = refl; none_told = refl },
        record { meta = found; cells = cells; opened = opened; an_array = is; within = within; part_is = refl },
      ),
    )

    met_leads : (reply : Option Reply) → meta_reply_of seat.command found ≡ reply
        → ((after_meta seat found reply).mine ≡ seat.mine) × ((after_meta seat found reply).command ≡ seat.command)
        × StageAt tells heap number before (with_entries (after_meta seat found reply) (reply_entries_if number seat reply)) (told ++ reply_entries_if number seat reply) (after_meta seat found reply).point
    met_leads None is = length_leads (array_length_of found) refl (met_within seat.command found here.way.names is)
    met_leads (Some reply) is = (
      refl,
      refl,
      holds_of_untold (λ b t. IsAnswered tells heap number seat.command b (kept_of (after_meta seat found (Some reply))) (t ++ Said number seat.command reply ∷ [])) untold
          (reply_alone_answers tells heap number seat.command (kept_of seat) (kept_of (after_meta seat found (Some reply))) reply (object_replies_alone seat.command here.way.names)
          (met_stands heap number seat.command (kept_of seat) (kept_of (after_meta seat found (Some reply))) seat.reached found reply here.way.names opened refl is)),
    )

  -- the meta was loaded
  pub point_leads_at_loading_meta : PointLeads tells (points.Access LoadingMeta)
  point_leads_at_loading_meta heap number before seat told here stage found tell =
      let met = met_leads heap number before seat told here stage.0 found tell (meta_reply_of seat.command found) refl in
      record { kept = met.0; same = met.1; stage = met.2 }

  -- the place of the spine was loaded
  pub point_leads_at_locating : PointLeads tells (points.Access LoadingSpot)
  point_leads_at_locating heap number before seat told here stage found tell = record {
    kept = refl;
    same = refl;
    stage = (holds_with_nothing_told (IsUntold before (kept_of seat)) told stage.0, record { way = stage.1; word = found; told = tell; address_is = refl });
  }

  -- the spine word was loaded
  pub point_leads_at_indexing : PointLeads tells (points.Access Indexing)
  point_leads_at_indexing heap number before seat told here stage found tell = record {
    kept = refl;
    same = refl;
    stage = (
      holds_with_nothing_told (IsUntold before (kept_of seat)) told stage.0,
      field_stage before (at_payload seat found) (with_entries (after_index seat found) []) seat.command
          (inr (record { head = seat.reached; address = seat.address; located = stage.1; word = found; told = tell; reached_is = refl })),
    );
  }
