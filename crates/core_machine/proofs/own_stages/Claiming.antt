-- A gather between whose claims others step: what the hand has of each group that was claimed.
use Rattle.std.proofs.Common.{◌≡◌, ◌≢◌, ℕ, ◌+◌, ◌/◌, ◌%◌, ◌<◌, ◌≤◌, List, [], ◌∷◌, ◌++◌, length, refl, sym, ap, subst, ◌∙◌, inl, inr, append-nil, arith}
use Rattle.std.specs.List.{AllByRecursion}
use Rattle.std.proofs.lemmas.Bool.{ne_eqb}
use Rattle.std.proofs.lemmas.Bool.Decides.{eqb_tells}
use Rattle.std.proofs.lemmas.List.Elements.{filter-append, All-nil, All-append, All-weaker, All-head, All-tail}
use Rattle.heap_model.specs.calls.SeatCalls.{takes_of, gives_of, ClaimsBefore}
use Rattle.core_machine.proofs.Terms.{Command, New, Array, Entry, Heap, Reply, Kept, ComesFirst, Step, IsBeside, MakesObject, IsArrayCall, in_group, inside_group, clear_in}
use Rattle.heap_model.specs.declared.reply.Reply.TheVariants as replies
use Rattle.heap_model.specs.Needs.{need_of}
use Rattle.core_machine.specs.calls.Claims.{AreOfTried, ClaimsGroup, IsGranted, Gathers}
use Rattle.core_machine.specs.declared.step.Step.TheVariants.{Making}
use Rattle.core_machine.specs.declared.step.MakingStep.TheVariants.{Claim}
use Rattle.core_machine.specs.seat.MakingMoves.{takes_some}
use Rattle.core_machine.proofs.call_lemmas.Claiming.{has_taken_none, has_taken_one_group_more}
use Rattle.core_machine.proofs.call_lemmas.Restoring.{inside_own_group_is_all, inside_other_group_is_empty}
use Rattle.core_machine.proofs.own_stages.Turns.{same_remainder_same_turn}
use Rattle.core_machine.proofs.table_lemmas.Owned.{clear_is_of_group}

-- takes, and takes with gives behind them, stand beside a reply
pub takes_beside : (number : ℕ) (counts : List ℕ) → AllByRecursion (IsBeside number) (takes_of number counts)
takes_beside number [] = tt
takes_beside number (count ∷ counts) = (refl, takes_beside number counts)

pub gives_beside : (number : ℕ) (taken given : List ℕ) → AllByRecursion (IsBeside number) (takes_of number taken ++ gives_of number given)
gives_beside number [] [] = tt
gives_beside number [] (count ∷ given) = (refl, gives_beside number [] given)
gives_beside number (count ∷ taken) given = (refl, gives_beside number taken given)

-- what comes before the reply to a command that makes an object
pub object_entries_come_first : (number : ℕ) (before : Kept) (command : Command) (reply : Reply) (first : List Entry) → MakesObject command
    → ClaimsBefore number (length before.reserve) (need_of command) reply first → ComesFirst number before command reply first
object_entries_come_first number before (New d fields) reply first makes claims = claims
object_entries_come_first number before (Array d cells) (replies.SpineFull shown used) first makes claims = absurd claims
object_entries_come_first number before (Array d cells) _ first makes claims = claims
object_entries_come_first number before _ reply first makes claims = absurd makes

-- nothing comes before the refusal of spine words
pub none_before_withdrawal : (number : ℕ) (before : Kept) (command : Command) (shown used : ℕ) → IsArrayCall command → ComesFirst number before command (replies.SpineFull shown used) []
none_before_withdrawal number before (Array d cells) shown used an_array = refl
none_before_withdrawal number before _ shown used an_array = absurd an_array

module _ (groups cursor tried : ℕ) (few : tried < groups) where
  abbrev group : ℕ
  group = (cursor + tried) % groups

  -- the group that comes next isn't one of those that were claimed
  another : (i : ℕ) → i < tried → group ≢ (cursor + i) % groups
  another i below same = absurd (omega (arith, same_remainder_same_turn (cursor + i) (cursor + tried) groups (omega (arith, below)) (omega (arith, few)) (sym same), below))

  -- so the hand has nothing of it
  pub none_of_next : (hand : List ℕ) → AreOfTried groups cursor tried hand → inside_group group hand ≡ []
  none_of_next [] of_tried = refl
  none_of_next (fragment ∷ more) of_tried =
      let head = All-head (λ f. (i : ℕ) × (i < tried) × (f / 16 ≡ (cursor + i) % groups)) fragment more of_tried in
      rw (ne_eqb (fragment / 16) group (λ e. another head.0 head.1 (sym e ∙ head.2)))
      (none_of_next more (All-tail (λ f. (i : ℕ) × (i < tried) × (f / 16 ≡ (cursor + i) % groups)) fragment more of_tried))

  -- once it was claimed too, each of the hand's fragments is of a group that was
  pub tried_more : (hand : List ℕ) (word : ℕ) → AreOfTried groups cursor tried hand → AreOfTried groups cursor (tried + 1) (hand ++ clear_in group word)
  tried_more hand word of_tried =
      All-append (λ f. (i : ℕ) × (i < tried + 1) × (f / 16 ≡ (cursor + i) % groups)) hand (clear_in group word)
      (All-weaker (λ f. (i : ℕ) × (i < tried) × (f / 16 ≡ (cursor + i) % groups)) (λ f. (i : ℕ) × (i < tried + 1) × (f / 16 ≡ (cursor + i) % groups))
      (λ f is. (is.0, omega (arith, is.1), is.2)) hand of_tried)
      (All-weaker (λ f. f / 16 ≡ group) (λ f. (i : ℕ) × (i < tried + 1) × (f / 16 ≡ (cursor + i) % groups)) (λ f is. (tried, omega arith, is)) (clear_in group word) (clear_is_of_group group word))

  -- and the hand has of each of these what was clear
  pub claims_more : (tells : Step → ℕ → Type 0) (hand : List ℕ) (word : ℕ) → AreOfTried groups cursor tried hand → tells (Making (Claim group)) word
      → ((i : ℕ) → i < tried → ClaimsGroup tells hand ((cursor + i) % groups)) → (i : ℕ) → i < tried + 1 → ClaimsGroup tells (hand ++ clear_in group word) ((cursor + i) % groups)
  claims_more tells hand word of_tried told claims i below =
      elim (eqb_tells i tried) as (λ _. ClaimsGroup tells (hand ++ clear_in group word) ((cursor + i) % groups)) [
        | inl last ↦ subst (λ (k : ℕ). ClaimsGroup tells (hand ++ clear_in group word) ((cursor + k) % groups)) (sym last.1) (record {
          word = word;
          told = told;
          got = filter-append (in_group group) hand (clear_in group word)
              ∙ ap (λ (l : List ℕ). l ++ inside_group group (clear_in group word)) (none_of_next hand of_tried) ∙ inside_own_group_is_all group (clear_in group word) (clear_is_of_group group word);
        })
        | inr earlier ↦
            let before : i < tried = omega (arith, earlier.1, below) in
            let claim = claims i before in
            record {
              word = claim.word;
              told = claim.told;
              got = filter-append (in_group ((cursor + i) % groups)) hand (clear_in group word)
                  ∙ ap (λ (l : List ℕ). inside_group ((cursor + i) % groups) hand ++ l) (inside_other_group_is_empty group ((cursor + i) % groups) (clear_in group word) (another i before) (clear_is_of_group group word))
                  ∙ append-nil (inside_group ((cursor + i) % groups) hand) ∙ claim.got;
            }
      ]

-- nothing was claimed yet
pub gathers_without_claim : (tells : Step → ℕ → Type 0) (heap : Heap) (number : ℕ) (command : Command) (before : Kept) (hand : List ℕ) (tried : ℕ) (told : List Entry)
    → (IsArrayCall command → IsGranted tells heap command) → length before.reserve ≤ 15 → hand ≡ [] → tried ≡ 0 → told ≡ [] → Gathers tells heap number command before hand tried told
gathers_without_claim tells heap number command before hand tried told granted small empty none silent =
    subst (λ (h : List ℕ). Gathers tells heap number command before h tried told) (sym empty) (subst (λ (t : List Entry). Gathers tells heap number command before [] tried t) (sym silent) (record {
      granted = granted;
      few = omega (arith, none);
      takes = has_taken_none number (length before.reserve) (need_of command) small;
      of_tried = All-nil (λ f. (i : ℕ) × (i < tried) × (f / 16 ≡ (before.cursor + i) % heap.groups));
      claims = λ i below. absurd (omega (arith, below, none));
    }))

-- one more group was claimed
pub gathers_one_group_more : (tells : Step → ℕ → Type 0) (heap : Heap) (number : ℕ) (command : Command) (before : Kept) (hand : List ℕ) (tried word : ℕ) (told : List Entry)
    → tried < heap.groups → length before.reserve + length hand < need_of command → tells (Making (Claim ((before.cursor + tried) % heap.groups))) word
    → Gathers tells heap number command before hand tried told
    → let got = clear_in ((before.cursor + tried) % heap.groups) word in
    Gathers tells heap number command before (hand ++ got) (tried + 1) (told ++ takes_some number (length got))
gathers_one_group_more tells heap number command before hand tried word told left lacks tell gathers = record {
  granted = gathers.granted;
  few = omega (arith, left);
  takes = has_taken_one_group_more number (length before.reserve) (need_of command) hand told ((before.cursor + tried) % heap.groups) word gathers.takes lacks
      (inl (none_of_next heap.groups before.cursor tried left hand gathers.of_tried));
  of_tried = tried_more heap.groups before.cursor tried left hand word gathers.of_tried;
  claims = claims_more heap.groups before.cursor tried left tells hand word gathers.of_tried tell gathers.claims;
}
