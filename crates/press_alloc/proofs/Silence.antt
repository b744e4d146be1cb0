-- What entries leave as it was that are no replies, or that move no fragments.
use Rattle.std.proofs.Common.{◌≡◌, ℕ, false, List, [], ◌∷◌, ◌++◌, refl, arith}
use Rattle.std.specs.List.{AllByRecursion, list_any}
use Rattle.std.proofs.lemmas.List.Sums.{sum_by-cons}
use Rattle.heap_model.specs.declared.account.effect.Effect.{Effect}
use Rattle.heap_model.specs.declared.entry.Entry.{Entry}
use Rattle.heap_model.specs.declared.entry.Entry.TheVariants.{Said, Takes, GivesBack}
use Rattle.heap_model.specs.account.Effects.{effect_of}
use Rattle.heap_model.specs.account.Space.{total}
use Rattle.heap_model.specs.account.Windows.{is_reply_to}
use Rattle.heap_model.specs.graph.Graph.{Graph}
use Rattle.heap_model.specs.graph.Growth.{graph_after}
use Rattle.press_alloc.specs.Calls.{IsNoReply, MovesNothing}

-- where no entry adds to a count, they all add nothing
pub adds_nothing : (P : Entry → Type 0) (summand : Effect → ℕ) → ((entry : Entry) → P entry → summand (effect_of entry) ≡ 0) → (added : List Entry) → AllByRecursion P added → total summand added ≡ 0
adds_nothing P summand none [] all = refl
adds_nothing P summand none (entry ∷ added) all = omega (arith, sum_by-cons (λ e. summand (effect_of e)) entry added, none entry all.0, adds_nothing P summand none added all.1)

module _ (added : List Entry) (moves : AllByRecursion MovesNothing added) where
  -- nothing is taken
  pub nothing_taken : total (λ e. e.taken) added ≡ 0
  nothing_taken = adds_nothing MovesNothing (λ e. e.taken) none added moves
    where
      none : (entry : Entry) → MovesNothing entry → (effect_of entry).taken ≡ 0
      none (Takes number count) moves_ = absurd moves_
      none entry moves_ = refl

  -- and nothing given back
  pub nothing_given : total (λ e. e.given) added ≡ 0
  nothing_given = adds_nothing MovesNothing (λ e. e.given) none added moves
    where
      none : (entry : Entry) → MovesNothing entry → (effect_of entry).given ≡ 0
      none (GivesBack number count) moves_ = absurd moves_
      none entry moves_ = refl

-- an entry without a reply makes no object
pub none_is_born : (entry : Entry) → IsNoReply entry → (effect_of entry).born ≡ 0
none_is_born (Said number command reply) silent = absurd silent
none_is_born entry silent = refl

-- and grants no spine word
pub none_is_granted : (entry : Entry) → IsNoReply entry → (effect_of entry).words ≡ 0
none_is_granted (Said number command reply) silent = absurd silent
none_is_granted entry silent = refl

pub nothing_granted : (added : List Entry) → AllByRecursion IsNoReply added → total (λ e. e.words) added ≡ 0
nothing_granted added silent = adds_nothing IsNoReply (λ e. e.words) none_is_granted added silent

-- what is so of all entries is so of the first ones and of the others
pub all_of_parts : (P : Entry → Type 0) (first more : List Entry) → AllByRecursion P (first ++ more) → AllByRecursion P first × AllByRecursion P more
all_of_parts P [] more all = (tt, all)
all_of_parts P (entry ∷ first) more all = let parts = all_of_parts P first more all.1 in ((all.0, parts.0), parts.1)

-- the graph stays
pub graph_stays : (g : Graph) (added : List Entry) → AllByRecursion IsNoReply added → graph_after g added ≡ g
graph_stays g [] silent = refl
graph_stays g (Said number command reply ∷ added) silent = absurd silent.0
graph_stays g (entry ∷ added) silent = graph_stays g added silent.1

-- and no seat got a reply
pub none_replies : (number : ℕ) (added : List Entry) → AllByRecursion IsNoReply added → list_any (is_reply_to number) added ≡ false
none_replies number [] silent = refl
none_replies number (Said other command reply ∷ added) silent = absurd silent.0
none_replies number (entry ∷ added) silent = none_replies number added silent.1
