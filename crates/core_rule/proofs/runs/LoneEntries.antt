-- What a seat's step and a turn of the collector show: the seat's own entries, of which two refuse for want of space, and the collector's.
use Rattle.std.specs.List.{AllByRecursion, list_any}
use Rattle.std.specs.Prelude.{if◌then◌else◌}
use Rattle.std.proofs.Common.{◌≡◌, ◌==◌, ℕ, ◌+◌, ◌%◌, ◌^◌, Bool, true, false, ◌||◌, ◌⊎◌, inl, inr, List, [], ◌∷◌, ◌++◌, length, refl, sum_by, arith}
use Rattle.std.proofs.lemmas.Bool.{eq-eqb}
use Rattle.std.proofs.lemmas.List.Sums.{sum_by-cons}
use Rattle.core_rule.proofs.Terms.{effect_of, is_of, is_reply_to, Command, Entry, Heap, Reply, Withdrawing, Refusing, State, seat_at, Seat}
use Rattle.heap_model.specs.account.Noting.{is_collectors}
use Rattle.heap_model.specs.declared.account.effect.Effect.{Effect}
use Rattle.heap_model.specs.declared.entry.Entry.TheVariants as entries
use Rattle.heap_model.specs.declared.reply.Reply.TheVariants as replies
use Rattle.core_machine.specs.declared.point.Point.TheVariants as points
use Rattle.core_rule.proofs.entries.PhasesTold.{told_cases}
use Rattle.core_rule.proofs.entries.StepTells.{SeatTells, SeatShows, takes, gives, says, refuses, refuses_words, waits, shows_none, shows_one, shows_answer}
use Rattle.core_rule.proofs.runs.Plays.{IsPlainReply}

-- the entry is the seat's or the collector's
abbrev pub IsNoOthers : ℕ → Entry → Type 0
IsNoOthers number entry = (is_of number entry ≡ true) ⊎ (is_collectors entry ≡ true)

-- what holds of the entries of two lists
pub all_of_append : {A : Type 0} (P : A → Type 0) (xs ys : List A) → AllByRecursion P xs → AllByRecursion P ys → AllByRecursion P (xs ++ ys)
all_of_append P [] ys first second = second
all_of_append P (x ∷ xs) ys first second = (first.0, all_of_append P xs ys first.1 second)

pub all_of_implied : {A : Type 0} (P Q : A → Type 0) (xs : List A) → ((x : A) → P x → Q x) → AllByRecursion P xs → AllByRecursion Q xs
all_of_implied P Q [] goes all = tt
all_of_implied P Q (x ∷ xs) goes all = (goes x all.0, all_of_implied P Q xs goes all.1)

-- a sum of nothings
sum_none : (f : Entry → ℕ) (P : Entry → Type 0) → ((entry : Entry) → P entry → f entry ≡ 0) → (added : List Entry) → AllByRecursion P added → sum_by f added ≡ 0
sum_none f P none [] all = refl
sum_none f P none (entry ∷ added) all = omega (arith, sum_by-cons f entry added, none entry all.0, sum_none f P none added all.1)

-- the collector takes, gives back and makes nothing
collectors_none : (entry : Entry) → is_collectors entry ≡ true
    → ((effect_of entry).taken ≡ 0) × ((effect_of entry).given ≡ 0) × ((effect_of entry).born ≡ 0) × ((effect_of entry).words ≡ 0)
collectors_none (entries.Said number command reply) its = absurd (cc its)
collectors_none (entries.Takes number count) its = absurd (cc its)
collectors_none (entries.GivesBack number count) its = absurd (cc its)
collectors_none _ its = (refl, refl, refl, refl)

-- so others took and gave back nothing
pub others_none : (number : ℕ) (summand : Effect → ℕ) → ((entry : Entry) → is_collectors entry ≡ true → summand (effect_of entry) ≡ 0) → (added : List Entry)
    → AllByRecursion (IsNoOthers number) added → sum_by (λ e. if is_of number e then 0 else summand (effect_of e)) added ≡ 0
others_none number summand none added all = sum_none (λ e. if is_of number e then 0 else summand (effect_of e)) (IsNoOthers number) each added all
  where
    each : (entry : Entry) → IsNoOthers number entry → (if is_of number entry then 0 else summand (effect_of entry)) ≡ 0
    each entry (inl own) = rw own refl
    each entry (inr collectors) = by (is_of number entry) (none entry collectors)
      where
        by : (b : Bool) → summand (effect_of entry) ≡ 0 → (if b then 0 else summand (effect_of entry)) ≡ 0
        by true same = refl
        by false same = same

-- where the seat wasn't answered either, nothing was made
unmade : (number : ℕ) (entry : Entry) → IsNoOthers number entry → is_reply_to number entry ≡ false → ((effect_of entry).born ≡ 0) × ((effect_of entry).words ≡ 0)
unmade number (entries.Said other command reply) (inl own) none = absurd (cc (own, none))
unmade number (entries.Said other command reply) (inr collectors) none = absurd (cc collectors)
unmade number _ its none = (refl, refl)

or_none : (b c : Bool) → (b || c) ≡ false → (b ≡ false) × (c ≡ false)
or_none true c none = absurd (cc none)
or_none false c none = (refl, none)

pub added_makes_none : (number : ℕ) (added : List Entry) → AllByRecursion (IsNoOthers number) added → list_any (is_reply_to number) added ≡ false
    → (sum_by (λ e. (effect_of e).born) added ≡ 0) × (sum_by (λ e. (effect_of e).words) added ≡ 0)
added_makes_none number [] all none = (refl, refl)
added_makes_none number (entry ∷ added) all none =
    let unanswered = or_none (is_reply_to number entry) (list_any (is_reply_to number) added) none in
    let first = unmade number entry all.0 unanswered.0 in
    let rest = added_makes_none number added all.1 unanswered.1 in
    (omega (arith, sum_by-cons (λ e. (effect_of e).born) entry added, first.0, rest.0), omega (arith, sum_by-cons (λ e. (effect_of e).words) entry added, first.1, rest.1))

pub others_take_none : (number : ℕ) (added : List Entry) → AllByRecursion (IsNoOthers number) added → sum_by (λ e. if is_of number e then 0 else (effect_of e).taken) added ≡ 0
others_take_none number = others_none number (λ e. e.taken) (λ entry its. (collectors_none entry its).0)

pub others_give_none : (number : ℕ) (added : List Entry) → AllByRecursion (IsNoOthers number) added → sum_by (λ e. if is_of number e then 0 else (effect_of e).given) added ≡ 0
others_give_none number = others_none number (λ e. e.given) (λ entry its. (collectors_none entry its).1)

-- where it refuses for want of space, the seat stands there, and has found so many
abbrev pub RefusesAt : Seat → Entry → Type 0
RefusesAt seat (entries.Said other command (replies.Full need found)) = (seat.point ≡ points.Making Refusing) × (found ≡ length seat.reserve + seat.given)
RefusesAt seat (entries.Said other command (replies.SpineFull need shown)) = (seat.point ≡ points.Making Withdrawing) × (shown ≡ seat.used % 2 ^ 32)
RefusesAt seat _ = Unit {0}

-- an entry that a seat's step shows
pub record IsShown (number : ℕ) (seat : Seat) (entry : Entry) : Type 0 where
  pub own : is_of number entry ≡ true
  pub refuses : RefusesAt seat entry

itself : (number : ℕ) → (number == number) ≡ true
itself number = eq-eqb number number refl

module _ (heap : Heap) (state : State) (number : ℕ) where
  abbrev seat : Seat
  seat = seat_at state number

  abbrev pub AreShown : List Entry → Type 0
  AreShown = AllByRecursion (IsShown number seat)

  plain_refuses : (command : Command) (reply : Reply) → IsPlainReply reply → RefusesAt seat (entries.Said number command reply)
  plain_refuses command (replies.Full need found) plain = absurd plain
  plain_refuses command (replies.SpineFull need used) plain = absurd plain
  plain_refuses command _ plain = tt

  own_shown : (entry : Entry) → SeatTells number seat seat.point entry → IsShown number seat entry
  own_shown _ (takes count) = record { own = itself number; refuses = tt }
  own_shown _ (gives count) = record { own = itself number; refuses = tt }
  own_shown _ (says reply plain) = record { own = itself number; refuses = plain_refuses seat.command reply plain }
  own_shown _ (refuses is) = record { own = itself number; refuses = (is, refl) }
  own_shown _ (refuses_words is) = record { own = itself number; refuses = (is, refl) }
  own_shown _ (waits other answered p is) = record { own = itself number; refuses = tt }

  -- what the seat's step shows
  pub step_adds_are_shown : (added : List Entry) → SeatShows number seat seat.point added → AreShown added
  step_adds_are_shown _ shows_none = tt
  step_adds_are_shown _ (shows_one entry tells) = (own_shown entry tells, tt)
  step_adds_are_shown _ (shows_answer is) =
      (record { own = itself number; refuses = tt }, told_cases AreShown number seat.command seat.asked tt (record { own = itself number; refuses = plain_refuses seat.command (replies.Phase seat.asked) tt }, tt))
