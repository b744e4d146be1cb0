-- Where logs have few sets, no seat ever uses up its stamps.
use Rattle.std.proofs.Common.{◌≡◌, ℕ, ◌+◌, ◌<◌, ◌≤◌, inl, inr, Bool, cond, List, [], ◌∷◌, ◌++◌, length, refl, sym, ap, ◌∙◌, subst, arith}
use Rattle.std.specs.List.{filter}
use Rattle.std.proofs.lemmas.Bool.{cases_eq, cases_Bool, eq-eqb, ne_eqb}
use Rattle.std.proofs.lemmas.List.Elements.{filter-append}
use Rattle.std.proofs.lemmas.List.Sums.{sum_by-append, sum_by-cons}
use Rattle.heap_model.specs.Limits.{stamp_limit}
use Rattle.heap_model.specs.declared.command.Command.{Command}
use Rattle.heap_model.specs.declared.command.Command.TheVariants as commands
use Rattle.heap_model.specs.declared.reply.Reply.{Reply}
use Rattle.heap_model.specs.declared.reply.Reply.TheVariants as replies
use Rattle.heap_model.specs.declared.entry.Entry.{Entry}
use Rattle.heap_model.specs.declared.entry.Entry.TheVariants as entries
use Rattle.heap_model.specs.account.Effects.{is_of}
use Rattle.heap_model.specs.graph.Graph.{Graph}
use Rattle.heap_model.specs.graph.Growth.{after_entry, after_reply, graph_after}
use Rattle.log_merge.specs.FewSets.{is_set, set_count}
use Rattle.log_merge.proofs.merge_lemmas.Changes.{Own, own, own-changed, own-changed_other, change_of, after_reply-changed, seat_count_after_entry}
use Rattle.log_merge.proofs.merge_lemmas.Parts.{filter-yes, filter-no}

-- no seat has done as many sets as it has stamps
abbrev pub HasFewSets : Graph → Type 0
HasFewSets g = (seat : ℕ) → seat < length g.seats → (own g seat).sets < stamp_limit

-- nor has one behind any of the entries
abbrev pub AllFew : Graph → List Entry → Type 0
AllFew g [] = Unit {0}
AllFew g (e ∷ es) = HasFewSets (after_entry g e) × AllFew (after_entry g e) es

pub AllFew-parts : (g : Graph) (front back : List Entry) → AllFew g (front ++ back) → AllFew (graph_after g front) back
AllFew-parts g [] back few = few
AllFew-parts g (e ∷ front) back few = AllFew-parts (after_entry g e) front back few.1

-- one entry is one set at most
pub one_at_most : (p : Entry → Bool) (e : Entry) → set_count (filter p (e ∷ [])) ≤ cond (is_set e) 1 0
one_at_most p e = elim (cases_Bool (p e)) [
  | inl passes ↦ (let one = ap set_count (filter-yes p e [] passes) in let same = sum_by-cons (λ (x : Entry). cond (is_set x) 1 0) e [] in omega (arith, one, same))
  | inr fails ↦ (let none = ap set_count (filter-no p e [] fails) in omega (arith, none))
]

-- a reply counts the set that it answers, if it answers one
reply_counts_its_set : (o : Own) (number : ℕ) (command : Command) (reply : Reply) → (change_of o number command reply).sets ≡ o.sets + cond (is_set (entries.Said number command reply)) 1 0
reply_counts_its_set o number (commands.New d fields) (replies.Made id) = omega arith
reply_counts_its_set o number (commands.Array d cells) (replies.Made id) = omega arith
reply_counts_its_set o number (commands.Get d r i) (replies.Got value stamp) = omega arith
reply_counts_its_set o number (commands.Set r i v) (replies.Was stamp) = omega arith
reply_counts_its_set o number (commands.Cas r i a v) (replies.Was stamp) = omega arith
reply_counts_its_set o number (commands.Num d n) reply = omega arith
reply_counts_its_set o number (commands.Nil d) reply = omega arith
reply_counts_its_set o number (commands.Copy d r) reply = omega arith
reply_counts_its_set o number commands.Leave reply = omega arith
reply_counts_its_set o number _ reply = omega arith

-- a reply to the seat itself
sets_by_own_reply : (g : Graph) (number : ℕ) (command : Command) (reply : Reply) → number < length g.seats
    → (own (after_reply g number command reply) number).sets ≡ (own g number).sets + set_count (filter (is_of number) (entries.Said number command reply ∷ []))
sets_by_own_reply g number command reply within =
    let said = entries.Said number command reply in
    let c = change_of (own g number) number command reply in
    let e = ap (λ (o : Own). o.sets) (ap (λ h. own h number) (after_reply-changed g number command reply) ∙ own-changed g number c within) in
    let counted = reply_counts_its_set (own g number) number command reply in
    let one = ap set_count (filter-yes (is_of number) said [] (eq-eqb number number refl)) in
    let same = sum_by-cons (λ (x : Entry). cond (is_set x) 1 0) said [] in
    omega (arith, e, counted, one, same)

-- and to another one
sets_by_other_reply : (g : Graph) (number other : ℕ) (command : Command) (reply : Reply) → (number ≡ other → ⊥)
    → (own (after_reply g other command reply) number).sets ≡ (own g number).sets + set_count (filter (is_of number) (entries.Said other command reply ∷ []))
sets_by_other_reply g number other command reply apart =
    let said = entries.Said other command reply in
    let e = ap (λ (o : Own). o.sets) (ap (λ h. own h number) (after_reply-changed g other command reply) ∙ own-changed_other g other number (change_of (own g other) other command reply) apart) in
    let none = ap set_count (filter-no (is_of number) said [] (ne_eqb other number (λ is. apart (sym is)))) in
    omega (arith, e, none)

-- a seat's count grows by those of its own entries that are sets
pub sets_by_entry : (g : Graph) (e : Entry) (number : ℕ) → number < length g.seats → (own (after_entry g e) number).sets ≡ (own g number).sets + set_count (filter (is_of number) (e ∷ []))
sets_by_entry g (entries.Said other command reply) number within = elim (cases_eq number other) [
  | inl same ↦ subst (λ n. (own (after_reply g n command reply) number).sets ≡ (own g number).sets + set_count (filter (is_of number) (entries.Said n command reply ∷ []))) same (sets_by_own_reply g number command reply within)
  | inr apart ↦ sets_by_other_reply g number other command reply apart
]
sets_by_entry g (entries.Takes other count) number within = (let none = one_at_most (is_of number) (entries.Takes other count) in omega (arith, none))
sets_by_entry g (entries.GivesBack other count) number within = (let none = one_at_most (is_of number) (entries.GivesBack other count) in omega (arith, none))
sets_by_entry g (entries.Answers other phase) number within = (let none = one_at_most (is_of number) (entries.Answers other phase) in omega (arith, none))
sets_by_entry g _ number within = omega arith

-- where those that are left have few sets, there are few behind each
pub AllFew-counted : (g : Graph) (es : List Entry) → ((number : ℕ) → number < length g.seats → (own g number).sets + set_count (filter (is_of number) es) < stamp_limit) → AllFew g es
AllFew-counted g [] few = tt
AllFew-counted g (e ∷ es) few = ((λ number there. omega (arith, step number there)), AllFew-counted (after_entry g e) es step)
  where
    step : (number : ℕ) → number < length (after_entry g e).seats → (own (after_entry g e) number).sets + set_count (filter (is_of number) es) < stamp_limit
    step number there =
        let within : number < length g.seats = omega (arith, there, seat_count_after_entry g e) in
        let first = sets_by_entry g e number within in
        let split = ap set_count (filter-append (is_of number) (e ∷ []) es) in
        let sum = sum_by-append (λ (x : Entry). cond (is_set x) 1 0) (filter (is_of number) (e ∷ [])) (filter (is_of number) es) in
        let all = few number within in
        omega (arith, first, split, sum, all)
