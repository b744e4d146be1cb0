-- Entries that begin no phase.
use Rattle.std.specs.List.{AllByRecursion, list_any}
use Rattle.std.proofs.Common.{◌≡◌, false, List, [], ◌∷◌, refl, arith}
use Rattle.std.proofs.lemmas.List.Sums.{sum_by-cons}
use Rattle.core_rule.proofs.Terms.{Entry, effect_of, phase, begins_cycle}

-- the entry begins no phase
pub record IsMute (entry : Entry) : Type 0 where
  pub no_begin : begins_cycle entry ≡ false
  pub no_phase : (effect_of entry).phases ≡ 0

abbrev pub AreMute : List Entry → Type 0
AreMute entries = AllByRecursion IsMute entries

-- so their sums are none
pub mute_begin_no_cycle : (entries : List Entry) → AreMute entries → list_any begins_cycle entries ≡ false
mute_begin_no_cycle [] mute = refl
mute_begin_no_cycle (entry ∷ entries) mute = rw (mute.0.no_begin) (mute_begin_no_cycle entries mute.1)

pub mute_tell_no_phase : (entries : List Entry) → AreMute entries → phase entries ≡ 0
mute_tell_no_phase [] mute = refl
mute_tell_no_phase (entry ∷ entries) mute = omega (arith, sum_by-cons (λ e. (effect_of e).phases) entry entries, mute.0.no_phase, mute_tell_no_phase entries mute.1)

-- one entry
pub one_entry_is_mute : (entry : Entry) → begins_cycle entry ≡ false → (effect_of entry).phases ≡ 0 → AreMute (entry ∷ [])
one_entry_is_mute entry begin phases = (record { no_begin = begin; no_phase = phases }, tt)
