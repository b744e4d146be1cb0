-- What a seat finds by a look, and where it compares another seat's word with the phase.
use Rattle.std.specs.Prelude.{if◌then◌else◌}
use Rattle.std.proofs.Common.{◌≡◌, ◌≢◌, ℕ, suc, ◌+◌, ◌<◌, inl, inr, false, List, [], Option, Some, None, IfSome, refl, sym, ◌∙◌, subst, arith}
use Rattle.std.proofs.lemmas.Bool.Decides.{leb_tells}
use Rattle.std.proofs.lemmas.List.{append-nil}
use Rattle.core_rule.proofs.Terms.{Entry, Heap, phase, last_answer, has_left, since_reply, is_reply_to, Point, State, at, Book, Rule}
use Rattle.heap_model.specs.Behind.{behind_of}
use Rattle.heap_model.specs.account.Phases.{IsBehind, WasBehind}
use Rattle.heap_model.proofs.account_lemmas.Windows.{window_sections_make_whole, total_since_reply}
use Rattle.core_machine.specs.declared.point.Access.TheVariants.{Naming}
use Rattle.core_machine.specs.declared.point.Collecting.TheVariants.{Asking, Comparing}
use Rattle.core_machine.specs.declared.point.Point.TheVariants as points
use Rattle.core_machine.specs.declared.table.address.Address.TheVariants.{Answer, Phase}
use Rattle.core_machine.specs.declared.seat.looks.Looks.{Looks}
use Rattle.core_machine.specs.seat.Looks.{first_of, looked, seen_phase, compared, found_behind}
use Rattle.core_rule.specs.looks.Looks.{WasSeen, WasFound, IsOther, HasCompared, LooksStand}
use Rattle.core_rule.proofs.looks.Words.{word_is_last_answer}

module _ (heap : Heap) (state : State) (book : Book) (rule : Rule heap state book) (number : ℕ) where
  abbrev history : List Entry
  history = book.history

  abbrev found : ℕ
  found = at heap state.words Phase

  is_phase : found ≡ phase history
  is_phase = rule.heap_stands.cycle.word

  -- a load of the phase
  pub looks_stand_after_seen : (point : Point) (looks : Looks) → ((other p : ℕ) → point ≢ points.Collecting (Comparing other p)) → LooksStand heap history number point looks → LooksStand heap history number point (seen_phase found looks)
  looks_stand_after_seen point looks uncompared stands = record {
    seen = omega (arith, is_phase);
    found = λ unnamed. record { first = (stands.found unnamed).first; behind = (stands.found unnamed).behind };
    asks = stands.asks;
    compares = λ other p comparing. absurd (uncompared other p comparing);
  }

  -- nothing is compared any more
  over : (looks : Looks) (other p : ℕ) → points.Idle ≡ points.Collecting (Comparing other p) → p ≡ looks.seen
  over looks other p comparing = absurd (cc comparing)

  seen_now : WasSeen history number found
  seen_now = record { since = omega (arith, is_phase, total_since_reply number (λ e. e.phases) history); begun = omega (arith, is_phase) }

  first_now : (first : Option ℕ) → IfSome first (WasSeen history number) → IfSome (first_of first found) (WasSeen history number)
  first_now None seen = seen_now
  first_now (Some p) seen = seen

  -- a look
  pub looks_stand_after_look : (point : Point) (looks : Looks) → point ≢ points.Access Naming → LooksStand heap history number point looks → LooksStand heap history number points.Idle (looked found looks)
  looks_stand_after_look point looks unnamed stands =
      let was = stands.found unnamed in
      record { seen = omega (arith, is_phase); found = λ still. record { first = first_now looks.first was.first; behind = was.behind }; asks = tt; compares = over (looked found looks) }

  -- the phase with which another seat's word is to be compared
  pub looks_stand_while_comparing : (other : ℕ) (looks : Looks) → LooksStand heap history number (points.Collecting (Asking other)) looks
      → LooksStand heap history number (points.Collecting (Comparing other found)) (seen_phase found looks)
  looks_stand_while_comparing other looks stands =
      let was = stands.found (λ named. cc named) in
      let asked : IsOther heap number other = stands.asks in
      record {
        seen = omega (arith, is_phase);
        found = λ still. record { first = was.first; behind = was.behind };
        asks = record { asked = asked; begun = omega (arith, is_phase); behind = behind asked };
        compares = λ one p comparing. cc comparing;
      }
    where
      behind : IsOther heap number other → has_left other history ≡ false → last_answer other history < found
          → (found ≡ last_answer other history + 1) × WasBehind number other (last_answer other history) found history
      behind asked present less =
          let told = (rule.seats_stand other asked.below).cycle.answers_told in
          let next : found ≡ last_answer other history + 1 = elim (told.near (sym told.leaves ∙ present)) [
            | inl same ↦ absurd (omega (arith, same, less, told.told, is_phase))
            | inr before ↦ omega (arith, before, told.told, is_phase)
          ] in (
            next,
            (
              since_reply number history,
              [],
              sym (append-nil (since_reply number history)),
              subst (λ es. IsBehind other (last_answer other history) found es) (sym (window_sections_make_whole (is_reply_to number) history)) record { present = present; answered = refl; here = sym is_phase },
            ),
          )

  -- another seat's word
  pub looks_stand_after_compare : (other p : ℕ) (looks : Looks) → LooksStand heap history number (points.Collecting (Comparing other p)) looks
      → LooksStand heap history number points.Idle (compared other p (at heap state.words (Answer other)) looks)
  looks_stand_after_compare other p looks stands =
      elim (leb_tells (suc word) p) as (λ _. LooksStand heap history number points.Idle (compared other p word looks)) [
        | inl less ↦ subst (λ b. LooksStand heap history number points.Idle (if b then found_behind (behind_of other word p) looks else record looks { behind = None }))
            (sym less.0) record { seen = stands.seen; found = λ still. record { first = (stands.found (λ named. cc named)).first; behind = behind less.1 }; asks = tt; compares = over looks }
        | inr more ↦ subst (λ b. LooksStand heap history number points.Idle (if b then found_behind (behind_of other word p) looks else record looks { behind = None }))
            (sym more.0) record { seen = stands.seen; found = λ still. record { first = (stands.found (λ named. cc named)).first; behind = tt }; asks = tt; compares = over looks }
      ]
    where
      word : ℕ
      word = at heap state.words (Answer other)

      asks : HasCompared heap history number other p
      asks = stands.asks

      behind : word < p → WasFound heap history number (behind_of other word p)
      behind less =
          let told = word_is_last_answer heap state book rule other asks.asked.below word refl (omega (arith, less, asks.begun)) in
          let its = asks.behind told.0 (omega (arith, less, told.1)) in
          record {
            below = asks.asked.below;
            other = asks.asked.apart;
            next = omega (arith, its.0, told.1);
            behind = subst (λ a. WasBehind number other a p history) told.1 its.1;
          }
