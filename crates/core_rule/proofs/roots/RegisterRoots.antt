-- A fact of the objects of all registers, where one register gets another value.
use Rattle.std.proofs.Common.{ℕ, ◌<◌, List, length, slice_set, IfSome, sym, subst, inl, inr}
use Rattle.std.proofs.lemmas.Bool.Decides.{eqb_tells}
use Rattle.std.proofs.lemmas.List.{get_or-set_same, get_or-set_other}
use Rattle.core_rule.proofs.Terms.{Register, register_in, register_head}
use Rattle.core_machine.specs.declared.seat.register.Register.TheVariants as registers

-- each register's object, where it holds one
abbrev pub OfHeads : (ℕ → Type 0) → List Register → Type 0
OfHeads P held = (r : ℕ) → IfSome (register_head (register_in held r)) P

pub heads_hold_after_put : (P : ℕ → Type 0) (held : List Register) (d : ℕ) (new : Register) → d < length held → IfSome (register_head new) P → OfHeads P held → OfHeads P (slice_set held d new)
heads_hold_after_put P held d new below fresh old r = elim (eqb_tells r d) as (λ _. IfSome (register_head (register_in (slice_set held d new) r)) P) [
  | inl same ↦ subst (λ x. IfSome (register_head (register_in (slice_set held d new) x)) P) (sym same.1)
      (subst (λ x. IfSome (register_head x) P) (sym (get_or-set_same held d new registers.Nil below)) fresh)
  | inr apart ↦ subst (λ x. IfSome (register_head x) P) (sym (get_or-set_other held d r new registers.Nil apart.1)) (old r)
]
