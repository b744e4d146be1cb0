-- What a party's log is, and what a seat's has more after a call.
use Rattle.std.proofs.Common.{◌≡◌, ℕ, ◌<◌, ◌≤◌, List, [], ◌∷◌, ◌++◌, length, drop, refl, sym, ap, ◌∙◌, length-append, arith}
use Rattle.std.proofs.lemmas.Bool.{ne_eqb, eq-eqb}
use Rattle.std.proofs.Math.Seq.{drop-append_seam}
use Rattle.core_rule.proofs.Terms.{Command, Entry, Said, Reply, seat_at, MachineValue, log_of}
use Rattle.core_machine.specs.machine.Calls.{PlaysCall}
use Rattle.core_rule.proofs.parties.OneSeat.{others_same_after_call}

-- a seat's log is its own list
pub seat_log_is_own_list : (machine : MachineValue) (seat : ℕ) → seat < length machine.state.seats → log_of machine seat ≡ (seat_at machine.state seat).mine
seat_log_is_own_list machine seat within = rw (ne_eqb seat (length machine.state.seats) (λ e. omega (arith, within, e))) refl

-- that of the party after the seats is the collector's
pub last_log_is_collectors : (machine : MachineValue) (party : ℕ) → party ≡ length machine.state.seats → log_of machine party ≡ machine.state.collector.log
last_log_is_collectors machine party last = rw (eq-eqb party (length machine.state.seats) last) refl

module _ (one two : MachineValue) (seat : ℕ) (command : Command) (reply : Reply) (within : seat < length one.state.seats) (call : PlaysCall one.heap one.state two.state seat command reply) where
  -- the log has the call's entries more
  pub log_more : log_of two seat ≡ log_of one seat ++ (call.before ++ Said seat command reply ∷ [])
  log_more =
      let same = others_same_after_call one.heap one.state two.state seat command reply call in
      seat_log_is_own_list two seat (omega (arith, within, same.seats)) ∙ call.mine ∙ ap (λ (l : List Entry). l ++ (call.before ++ Said seat command reply ∷ [])) (sym (seat_log_is_own_list one seat within))

  pub log_grows : length (log_of one seat) ≤ length (log_of two seat)
  log_grows = omega (arith, ap (length {A = Entry}) log_more, length-append (log_of one seat) (call.before ++ Said seat command reply ∷ []))

  -- and these are what comes behind it
  pub log_grows_by_call : drop (length (log_of one seat)) (log_of two seat) ≡ call.before ++ Said seat command reply ∷ []
  log_grows_by_call = rw log_more (drop-append_seam (log_of one seat) (call.before ++ Said seat command reply ∷ []))
