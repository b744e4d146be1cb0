-- A call that reads or writes an object, made by itself, step by step.
use Rattle.std.proofs.Common.{◌≡◌, ℕ, ◌==◌, Bool, true, false, List, [], ◌∷◌, ◌++◌, Option, Some, None, inl, inr, refl, sym, ap, subst, ◌∙◌, append-nil}
use Rattle.std.proofs.lemmas.Bool.Decides.{eqb_tells}
use Rattle.core_machine.proofs.Terms.{Heap, Command, Entry, Said, Reply, Word, LoadingMeta, Walking, LoadingSpot, Indexing, Getting, Naming, LoadingOld, ShadingOld, ShadingNew, ShadingSide, Side}
use Rattle.core_machine.proofs.Terms.{Swapping, Replacing, after_replace, source_of, at, put, address_of, word_after, head_of, array_length_of, stamp_of, id_of, register_in, register_head, at_access}
use Rattle.core_machine.proofs.Terms.{with_field_place, field_point_of, way_point_of, after_link, after_walk, after_length, at_payload, meta_reply_of, after_meta, after_get}
use Rattle.core_machine.proofs.Terms.{new_point_of, after_old, after_old_load, Seat, with_entries, Move, access_move, seat_after, State, seat_at, found_by, state_after_move}
use Rattle.core_machine.proofs.Terms.{NamesObject, Kept}
use Rattle.heap_model.specs.declared.id.Value.TheVariants as values
use Rattle.heap_model.specs.declared.reply.Reply.TheVariants as replies
use Rattle.core_machine.specs.declared.point.Point.TheVariants as points
use Rattle.core_machine.specs.seat.AccessMoves.{reply_entries, reply_entries_if, got_adds, got_shows, old_word_of, replaced_reply}
use Rattle.core_machine.specs.declared.point.Side.TheVariants as sides
use Rattle.core_machine.proofs.moves.Compare.{offer_cases}
use Rattle.core_machine.specs.seat.Looks.{forgotten}
use Rattle.core_machine.proofs.table_lemmas.Addresses.{put_of_read_changes_nothing}
use Rattle.core_machine.proofs.seat_lemmas.FieldPoints.{field_point_cases}
use Rattle.core_machine.proofs.seat_lemmas.Fitting.{array_makes_object, record_makes_object}
use Rattle.core_machine.proofs.call_lemmas.Stages.{AccessAlone, AloneStage}
use Rattle.core_machine.proofs.call_lemmas.RepliesAlone.{RepliesAlone, object_replies_alone, get_replies_alone, set_replies_alone, cas_replies_alone, alone_makes_no_object, IsBeyond, meta_reply_is_beyond}
use Rattle.core_machine.proofs.call_lemmas.Stages.{IsAlone, PointLeadsAlone}
use Rattle.core_machine.proofs.call_lemmas.PlayingEnds.{LeavesAllOf, beyond_forgets, ended_alone, leaves_all}

module _ (heap : Heap) (old : State) (number : ℕ) (command : Command) (now : State) (told_ : List Entry) where
  abbrev the_seat : Seat
  the_seat = seat_at now number

  -- the way goes on
  field_alone : (words : List ℕ) (told : List Entry) (seat : Seat) (c : Command) → AccessAlone old words number command told (field_point_of seat c)
  field_alone words told seat c = field_point_cases (AccessAlone old words number command told) seat c tt (λ on. tt) (λ off. tt) (λ on some. tt) (λ on none some. tt) (λ none. tt)

  way_alone : (words : List ℕ) (told : List Entry) (seat : Seat) → AccessAlone old words number command told (way_point_of seat)
  way_alone words told seat =
      elim (eqb_tells seat.links 0) as (λ _. AccessAlone old words number command told (way_point_of seat)) [
        | inl none ↦ rw none.0 (field_alone words told seat seat.command)
        | inr some ↦ rw some.0 tt
      ]

  onward_alone : (new : State) (told : List Entry) (seat : Seat) (found : ℕ) (more : List Entry)
      → AloneStage heap old new number command told (with_entries (after_walk seat found) more) (with_entries (after_walk seat found) more).point
  onward_alone new told seat found more =
      elim (eqb_tells seat.links 0) as (λ _. AloneStage heap old new number command told (with_entries (after_walk seat found) more) (with_entries (after_walk seat found) more).point) [
        | inl none ↦
            let stage : AloneStage heap old new number command told (with_entries (at_access seat (way_point_of seat)) more) (points.Access (way_point_of seat)) = way_alone new.words told seat in
            rw none.0 (rw none.0 at stage)
        | inr some ↦ rw some.0 (way_alone new.words told (after_link seat found))
      ]

  length_alone : (new : State) (told : List Entry) (found : ℕ) (cells : Option ℕ)
      → AloneStage heap old new number command told (with_entries (after_length the_seat found cells) []) (with_entries (after_length the_seat found cells) []).point
  length_alone new told found None = onward_alone new told (with_field_place the_seat) found []
  length_alone new told found (Some cells) = tt

  met_alone : (reply : Option Reply) (found : ℕ) → the_seat.command ≡ command → NamesObject the_seat.command → (new : State) → LeavesAllOf heap old new number reply
      → AloneStage heap old new number command (told_ ++ reply_entries_if number the_seat reply) (with_entries (after_meta the_seat found reply) (reply_entries_if number the_seat reply)) (with_entries (after_meta the_seat found reply) (reply_entries_if number the_seat reply)).point
  met_alone None found same names new refused = length_alone new (told_ ++ []) found (array_length_of found)
  met_alone (Some reply) found same names new refused = ended_alone heap old number command told_ new the_seat reply same (object_replies_alone the_seat.command names) refused

  -- the meta was loaded
  closes : IsAlone heap old number command now told_ (points.Access LoadingMeta) → (move : Move) (reply : Option Reply) (found : ℕ) → IsBeyond reply
      → put heap now.words (address_of move.step) (word_after move.step (found_by heap now move.step)) ≡ now.words
      → seat_after move (found_by heap now move.step) ≡ with_entries (after_meta the_seat found reply) (reply_entries_if number the_seat reply)
      → LeavesAllOf heap old (state_after_move heap now number move) number reply
  closes here move None found beyond words next = tt
  closes here move (Some reply) found beyond words next = λ refusal.
      leaves_all heap old number now here.within here.resting the_seat move reply (forgotten the_seat.looks) (the_seat.mine ++ Said number the_seat.command reply ∷ []) here.alone words next here.own.0.kept_stays
      (ap (λ (k : Kept). forgotten k.looks) here.own.0.kept_stays ∙ sym (beyond_forgets heap old.words reply (seat_at old number).looks beyond))

  old_alone : (new : State) (told : List Entry) (loaded : ℕ)
      → AloneStage heap old new number command told (with_entries (after_old (record the_seat { loaded = loaded })) []) (with_entries (after_old (record the_seat { loaded = loaded })) []).point
  old_alone new told loaded = by (register_head (register_in the_seat.registers (source_of the_seat.command))) where
    by : (n : Option ℕ) → AloneStage heap old new number command told (with_entries (at_access (record the_seat { loaded = loaded }) (new_point_of n)) []) (points.Access (new_point_of n))
    by None = tt
    by (Some head) = tt

-- the meta was loaded
pub opens_alone : PointLeadsAlone (points.Access LoadingMeta)
opens_alone heap old number command now told here =
    let seat = seat_at now number in
    let move = access_move heap number seat LoadingMeta in
    let found = found_by heap now move.step in
    met_alone heap old number command now told (meta_reply_of seat.command found) found here.same here.way.names (state_after_move heap now number move)
    (closes heap old number command now told here move (meta_reply_of seat.command found) found (meta_reply_is_beyond seat.command found) (put_of_read_changes_nothing heap now.words (Word seat.reached 0)) refl)

-- a link was loaded
pub walks_alone : PointLeadsAlone (points.Access Walking)
walks_alone heap old number command now told here =
    let move = access_move heap number (seat_at now number) Walking in
    onward_alone heap old number command now told (state_after_move heap now number move) (told ++ []) (seat_at now number) (found_by heap now move.step) []

-- the place of the spine was loaded, and its word
pub locates_alone : PointLeadsAlone (points.Access LoadingSpot)
locates_alone heap old number command now told here = tt

pub indexes_alone : PointLeadsAlone (points.Access Indexing)
indexes_alone heap old number command now told here =
    let move = access_move heap number (seat_at now number) Indexing in
    field_alone heap old number command now told (state_after_move heap now number move).words (told ++ []) (at_payload (seat_at now number) (found_by heap now move.step)) (seat_at now number).command

-- the field was loaded for a get, and the name of what it refers to
pub gets_alone : PointLeadsAlone (points.Access Getting)
gets_alone heap old number command now told here = by (head_of found)
  where
    seat : Seat
    seat = seat_at now number

    move : Move
    move = access_move heap number seat Getting

    found : ℕ
    found = found_by heap now move.step

    by : (head : Option ℕ) → AloneStage heap old (state_after_move heap now number move) number command
        (told ++ got_shows heap number seat now.words found head)
        (with_entries (after_get seat found head) (got_adds number seat found head))
        (with_entries (after_get seat found head) (got_adds number seat found head)).point
    by None = ended_alone heap old number command told (state_after_move heap now number move) seat _ here.same (get_replies_alone seat.command here.way.0.1) (λ refusal. absurd refusal)
    by (Some head) = record { value = values.Object (id_of (at heap now.words (Word head 1))); stamp = stamp_of found; before = told; last = rw here.same refl }

pub names_alone : PointLeadsAlone (points.Access Naming)
names_alone heap old number command now told here = record {
  reply = replies.Got here.alone.value here.alone.stamp;
  before = here.alone.before;
  last = append-nil told ∙ here.alone.last;
  answer = λ a_record. absurd (alone_makes_no_object command (subst RepliesAlone here.same (get_replies_alone (seat_at now number).command here.way.0.1)) (record_makes_object command a_record));
  array = λ an_array. absurd (alone_makes_no_object command (subst RepliesAlone here.same (get_replies_alone (seat_at now number).command here.way.0.1)) (array_makes_object command an_array));
  refused = λ refusal. absurd refusal;
  phase = λ polls p e. cc;
}

-- the field was loaded for a set
pub loads_old_alone : PointLeadsAlone (points.Access LoadingOld)
loads_old_alone heap old number command now told here = by (head_of found)
  where
    seat : Seat
    seat = seat_at now number

    move : Move
    move = access_move heap number seat LoadingOld

    found : ℕ
    found = found_by heap now move.step

    by : (head : Option ℕ) → AloneStage heap old (state_after_move heap now number move) number command (told ++ [])
        (with_entries (after_old_load (record seat { loaded = found }) head) [])
        (with_entries (after_old_load (record seat { loaded = found }) head) []).point
    by None = old_alone heap old number command now told (state_after_move heap now number move) (told ++ []) found
    by (Some head) = tt

-- what it referred to is shaded, and what the set puts there
pub shades_old_alone : PointLeadsAlone (points.Access ShadingOld)
shades_old_alone heap old number command now told here =
    old_alone heap old number command now told (state_after_move heap now number (access_move heap number (seat_at now number) ShadingOld)) (told ++ []) (seat_at now number).loaded

pub shades_new_alone : PointLeadsAlone (points.Access ShadingNew)
shades_new_alone heap old number command now told here = tt

-- the field got its new word
pub swaps_alone : PointLeadsAlone (points.Access Swapping)
swaps_alone heap old number command now told here =
    let seat = seat_at now number in
    let move = access_move heap number seat Swapping in
    ended_alone heap old number command told (state_after_move heap now number move) seat (replies.Was (stamp_of (found_by heap now move.step))) here.same (set_replies_alone seat.command here.way.0.1) (λ refusal. absurd refusal)

-- a compare and swap has shaded one of its values
pub shades_side_alone : (side : Side) → PointLeadsAlone (points.Access (ShadingSide side))
shades_side_alone sides.Expected heap old number command now told here =
    offer_cases (λ s. AloneStage heap old (state_after_move heap now number (access_move heap number (seat_at now number) (ShadingSide sides.Expected))) number command (told ++ []) (with_entries s []) s.point)
    (seat_at now number) (λ some. tt) (λ none. tt)
shades_side_alone sides.New heap old number command now told here = tt

-- and has compared its field
pub replaces_alone : PointLeadsAlone (points.Access Replacing)
replaces_alone heap old number command now told here = by (found == old_word_of seat)
  where
    seat : Seat
    seat = seat_at now number

    move : Move
    move = access_move heap number seat Replacing

    found : ℕ
    found = found_by heap now move.step

    by : (same : Bool) → AloneStage heap old (state_after_move heap now number move) number command
        (told ++ reply_entries number seat (replaced_reply found same))
        (with_entries (after_replace seat same) (reply_entries number seat (replaced_reply found same)))
        (with_entries (after_replace seat same) (reply_entries number seat (replaced_reply found same))).point
    by true = ended_alone heap old number command told (state_after_move heap now number move) seat (replies.Was (stamp_of found)) here.same (cas_replies_alone seat.command here.way.1) (λ refusal. absurd refusal)
    by false = ended_alone heap old number command told (state_after_move heap now number move) seat (replies.Now (stamp_of found)) here.same (cas_replies_alone seat.command here.way.1) (λ refusal. absurd refusal)
