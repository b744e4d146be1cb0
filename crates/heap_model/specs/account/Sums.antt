-- What entries come to, as one record of sums.
use Rattle.std.specs.Prelude.{◌≡◌, ℕ, ◌+◌, ◌*◌, ◌≤◌}
use Rattle.heap_model.specs.declared.account.effect.Effect.{Effect}

-- what the two come to together
abbrev pub plus : Effect → Effect → Effect
plus a b = record {
  taken = a.taken + b.taken;
  given = a.given + b.given;
  born = a.born + b.born;
  freed = a.freed + b.freed;
  words = a.words + b.words;
  returned = a.returned + b.returned;
  phases = a.phases + b.phases;
  answers = a.answers + b.answers;
}

-- each sum is small enough for so many entries, whose counts have 32 bits each
pub record IsFew (entries : ℕ) (sums : Effect) : Type 0 where
  pub taken : sums.taken ≤ 4294967295 * entries
  pub given : sums.given ≤ 4294967295 * entries
  pub born : sums.born ≤ 4294967295 * entries
  pub freed : sums.freed ≤ 4294967295 * entries
  pub words : sums.words ≤ 4294967295 * entries
  pub returned : sums.returned ≤ 4294967295 * entries
  pub phases : sums.phases ≤ 4294967295 * entries
  pub answers : sums.answers ≤ 4294967295 * entries

-- each sum is what the measure says of its count
pub record IsMeasured (sums : Effect) (measure : (Effect → ℕ) → ℕ) : Type 0 where
  pub taken : sums.taken ≡ measure (λ e. e.taken)
  pub given : sums.given ≡ measure (λ e. e.given)
  pub born : sums.born ≡ measure (λ e. e.born)
  pub freed : sums.freed ≡ measure (λ e. e.freed)
  pub words : sums.words ≡ measure (λ e. e.words)
  pub returned : sums.returned ≡ measure (λ e. e.returned)
  pub phases : sums.phases ≡ measure (λ e. e.phases)
  pub answers : sums.answers ≡ measure (λ e. e.answers)
