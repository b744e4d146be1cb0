-- What the making of an object comes to from its first store on, whatever command it is of, and by whatever steps it was made.
use Rattle.std.proofs.Common.{◌≡◌, ℕ, ◌+◌, ◌%◌, ◌/◌, ◌<◌, ◌≤◌, List, [], ◌∷◌, ◌++◌, length, take, drop, get_or, set, refl, sym, ap, subst, ◌∙◌, append-nil, append_assoc, length-append, arith}
use Rattle.std.proofs.Math.Seq.{take-append_seam, drop-append_seam}
use Rattle.std.proofs.lemmas.List.{nil_from_length}
use Rattle.std.proofs.lemmas.List.Elements.{All-nil}
use Rattle.heap_model.specs.Needs.{need_of}
use Rattle.heap_model.specs.declared.command.Command.{Command}
use Rattle.heap_model.specs.declared.entry.Entry.{Entry}
use Rattle.heap_model.specs.declared.entry.Entry.TheVariants.{Said}
use Rattle.heap_model.specs.declared.id.Id.{Id}
use Rattle.heap_model.specs.declared.id.Id.TheVariants.{Made as MadeBy}
use Rattle.heap_model.specs.declared.reply.Reply.{Reply}
use Rattle.heap_model.specs.declared.reply.Reply.TheVariants as replies
use Rattle.core_machine.specs.calls.Claims.{IsGranted, Gathers}
use Rattle.core_machine.specs.calls.Kept.{Kept, kept_of, WasMade}
use Rattle.core_machine.specs.calls.Making.{HasObject, HasBorn}
use Rattle.core_machine.specs.calls.OwnStage.{StageAt, OwnStage}
use Rattle.core_machine.specs.calls.Replies.{IsAnswered, IsMade}
use Rattle.core_machine.specs.declared.point.Point.TheVariants as points
use Rattle.core_machine.specs.declared.seat.register.Register.TheVariants.{Object}
use Rattle.core_machine.specs.declared.step.MakingStep.TheVariants.{LastBirth}
use Rattle.core_machine.specs.declared.step.Step.{Step}
use Rattle.core_machine.specs.declared.step.Step.TheVariants.{Making}
use Rattle.core_machine.specs.seat.Commands.{IsArrayCall, target_of}
use Rattle.core_machine.specs.seat.Seat.{Seat}
use Rattle.core_machine.specs.table.Fragments.{mask_of}
use Rattle.heap_table.specs.Made.{Made, FoundIn, MakesSteps, IsSound}
use Rattle.heap_table.specs.SeatHeld.{SeatHeld}
use Rattle.heap_table.specs.StepLaws.{EachStageGoesAlong}
use Rattle.object_chain.specs.Bearing.{IsBorn, HoldsNewborn}

-- the front of a list that goes on
front : (n : ℕ) (xs ys zs : List ℕ) → length xs ≡ n → take n ((xs ++ ys) ++ zs) ≡ xs
front n xs ys zs long = ap (take n) (append_assoc xs ys zs) ∙ ap (λ (k : ℕ). take k (xs ++ (ys ++ zs))) (sym long) ∙ take-append_seam xs (ys ++ zs)

rest : (n : ℕ) (xs ys zs : List ℕ) → length xs ≡ n → drop n ((xs ++ ys) ++ zs) ≡ ys ++ zs
rest n xs ys zs long = ap (drop n) (append_assoc xs ys zs) ∙ ap (λ (k : ℕ). drop k (xs ++ (ys ++ zs))) (sym long) ∙ drop-append_seam xs (ys ++ zs)

-- the seat as if it had brought all fragments of its object
abbrev pub brought : Seat → Seat
brought seat = record seat { reserve = seat.body ++ seat.reserve }

-- so it has its object without a claim
pub brought_has_object : (tells : Step → ℕ → Type 0) (held : SeatHeld) → IsSound held → length held.seat.body ≡ need_of held.seat.command → (IsArrayCall held.seat.command → IsGranted tells held.heap held.seat.command)
    → HasObject tells held.heap held.number held.seat.command (kept_of (brought held.seat)) (kept_of held.seat) held.seat.body []
brought_has_object tells held sound long granted =
    let seat = held.seat in
    record {
      claimed = [];
      tried = 0;
      gathered = none_claimed;
      enough = omega (arith, length-append seat.body seat.reserve, long);
      body_is = sym (front (need_of seat.command) seat.body seat.reserve [] long);
      kept_is = ap (λ (l : List ℕ). record (kept_of seat) { reserve = l }) (sym (rest (need_of seat.command) seat.body seat.reserve [] long ∙ append-nil seat.reserve));
    }
  where
    none_claimed : Gathers tells held.heap held.number held.seat.command (kept_of (brought held.seat)) [] 0 []
    none_claimed = record {
      granted = granted;
      few = omega arith;
      takes = record {
        counts = [];
        groups = refl;
        shown = refl;
        needed = λ earlier last e. absurd (omega (arith, ap (length {A = ℕ}) e, length-append earlier (last ∷ [])));
        little_left = omega (arith, length-append held.seat.body held.seat.reserve, long, sound.fits.own.small_reserve);
      };
      of_tried = All-nil (λ f. (i : ℕ) × (i < 0) × (f / 16 ≡ (held.seat.cursor + i) % held.heap.groups));
      claims = λ i below. absurd (omega (arith, below));
    }

-- what is known of a call that was answered
pub record WasAnswered (tells : Step → ℕ → Type 0) (old new : SeatHeld) (command : Command) : Type 0 where
  pub told : List Entry
  pub mine : new.seat.mine ≡ old.seat.mine ++ told
  pub answered : IsAnswered tells old.heap old.number command (kept_of (brought old.seat)) (kept_of new.seat) told

-- so is a call that stands so where it begins, once it is over
pub begun_call_was_answered : EachStageGoesAlong → (before made : List Made) (old new : SeatHeld) (command : Command) → IsSound old → MakesSteps old new made → new.seat.point ≡ points.Idle
    → old.seat.command ≡ command → StageAt (FoundIn (before ++ made)) old.heap old.number (kept_of (brought old.seat)) old.seat [] old.seat.point → WasAnswered (FoundIn (before ++ made)) old new command
begun_call_was_answered along before made old new command sound makes over same stage =
    let tells : Step → ℕ → Type 0 = FoundIn (before ++ made) in
    let begins : OwnStage tells old.heap old.number command (brought old.seat) old.seat [] = record { same = same; mine = sym (append-nil old.seat.mine); stage = stage } in
    let ends = along before made old.heap old.number command (brought old.seat) old.seat new.seat [] sound.limits (omega (arith, sound.within, sound.limits.seats_fit)) sound.fits makes.leads begins in
    record {
      told = ends.0;
      mine = ends.1.mine;
      answered = subst (λ (c : Command). IsAnswered tells old.heap old.number c (kept_of (brought old.seat)) (kept_of new.seat) ends.0) ends.1.same
          (subst (StageAt tells old.heap old.number (kept_of (brought old.seat)) new.seat ends.0) over ends.1.stage);
    }

module _ (tells : Step → ℕ → Type 0) (old new : SeatHeld) (command : Command) (fragments : List ℕ) (was : WasAnswered tells old new command)
    (long : length old.seat.body ≡ need_of command) (has : old.seat.body ≡ fragments)
    (made_ : (id : Id) × (was.answered.reply ≡ replies.Made id) × IsMade tells old.heap old.number command (kept_of (brought old.seat)) (kept_of new.seat) was.answered.first id) where
  -- the object has these fragments
  pub made_body_is_fragments : made_.2.body ≡ fragments
  made_body_is_fragments = made_.2.has.body_is ∙ front (need_of command) old.seat.body old.seat.reserve made_.2.has.claimed long ∙ has

  -- which were born
  pub made_body_is_born : (made : List Made) → HasBorn (FoundIn made) made_.2.last made_.2.body → WasMade (FoundIn made) (Making (LastBirth made_.2.group (mask_of made_.2.last) made_.2.black)) → IsBorn made fragments
  made_body_is_born made born last_born = record {
    last = made_.2.last;
    before = subst (HasBorn (FoundIn made) made_.2.last) made_body_is_fragments born;
    group = made_.2.group;
    black = made_.2.black;
    of_group = made_.2.last_of_group;
    last_born = last_born;
  }

  -- the seat holds it
  pub seat_holds_newborn : (id : Id) → MadeBy old.number old.seat.made ≡ id → new.seat.point ≡ points.Idle → new.seat.reserve ≡ old.seat.reserve → HoldsNewborn old new (target_of command) fragments id
  seat_holds_newborn id is over stays = record {
    id_is = sym is;
    counted = ap (λ (k : Kept). k.made) made_.2.kept_is;
    register = ap (λ (k : Kept). k.registers) made_.2.kept_is
        ∙ ap (λ (l : List ℕ). set old.seat.registers (target_of command) (Object (get_or l 0 0) made_.0)) made_body_is_fragments
        ∙ ap (λ (i : Id). set old.seat.registers (target_of command) (Object (get_or fragments 0 0) i)) (made_.2.id_is ∙ is);
    reserve = stays;
    over = over;
  }

  -- and nothing but the reply was told
  pub newborn_reply_is_told : (id : Id) → MadeBy old.number old.seat.made ≡ id → length new.seat.mine ≤ 1 + length old.seat.mine → new.seat.mine ≡ old.seat.mine ++ Said old.number command (replies.Made id) ∷ []
  newborn_reply_is_told id is few =
      let answered = was.answered in
      let none : length answered.first ≡ 0 =
      omega (arith, few, ap (length {A = Entry}) was.mine, length-append old.seat.mine was.told, ap (length {A = Entry}) answered.last, length-append answered.first (Said old.number command answered.reply ∷ [])) in
      was.mine ∙ ap (λ (l : List Entry). old.seat.mine ++ l) (answered.last ∙ ap (λ (l : List Entry). l ++ Said old.number command answered.reply ∷ []) (nil_from_length answered.first none)
      ∙ ap (λ (r : Reply). Said old.number command r ∷ []) (made_.1 ∙ ap replies.Made (made_.2.id_is ∙ is)))

-- the id by what the holder answers of the seat
pub made_id_by_number : (number made n m : ℕ) → n ≡ number → m ≡ made → MadeBy number made ≡ MadeBy n m
made_id_by_number number made n m number_is made_is = ap (λ (k : ℕ). MadeBy k made) (sym number_is) ∙ ap (λ (k : ℕ). MadeBy n k) (sym made_is)
