-- A ready entry of one log may stand before the entries of others.
use Rattle.std.proofs.Common.{◌≡◌, ℕ, inl, inr, List, [], ◌∷◌, ◌++◌, get_or, Some, refl, sym, ap, ◌∙◌, subst}
use Rattle.heap_model.specs.declared.id.Id.{Id}
use Rattle.heap_model.specs.declared.id.Id.TheVariants.{Made}
use Rattle.heap_model.specs.declared.id.Value.{Value}
use Rattle.heap_model.specs.declared.id.Value.TheVariants.{Object}
use Rattle.heap_model.specs.declared.command.Command.{Command}
use Rattle.heap_model.specs.declared.command.Command.TheVariants as commands
use Rattle.heap_model.specs.declared.reply.Reply.{Reply}
use Rattle.heap_model.specs.declared.reply.Reply.TheVariants as replies
use Rattle.heap_model.specs.declared.entry.Entry.{Entry}
use Rattle.heap_model.specs.declared.entry.Entry.TheVariants as entries
use Rattle.heap_model.specs.account.Noting.{seat_of}
use Rattle.heap_model.specs.graph.Objects.{graph_seat, register_cell, register_value}
use Rattle.heap_model.specs.graph.Graph.{Graph, unset}
use Rattle.heap_model.specs.graph.Growth.{after_entry, after_reply}
use Rattle.heap_model.specs.graph.Replies.{Says, Makes, MakesArray, Gets, Sets, Swaps, Compares}
use Rattle.heap_model.specs.graph.Legal.{Accepts, AcceptsAll, IsPresent}
use Rattle.log_merge.specs.Merging.{Writes}
use Rattle.log_merge.proofs.merge_lemmas.Changes.{Own, own, change_of, changed, after_reply-changed, own-changed_other}
use Rattle.log_merge.proofs.merge_lemmas.Places.{look, len, IsKnown, len-changed}
use Rattle.log_merge.proofs.merge_lemmas.Commuting.{changes_commute}
use Rattle.log_merge.proofs.merge_lemmas.Sound.{IsSound}
use Rattle.log_merge.proofs.merge_lemmas.SoundChanges.{call_changes_soundly}
use Rattle.log_merge.proofs.merge_lemmas.FewSets.{AllFew}
use Rattle.log_merge.proofs.merge_lemmas.Finding.{present_seat_is_there, IsSound-after, own_seat_stays_by_other, NoGets, changed_place_is_written, look_stays_by_other, changed_cell_is_written, IsGone, IsGone-after, IsGone-written, found_is_not_gone}
use Rattle.log_merge.proofs.merge_lemmas.Touching.{Touches, Finds, set_cell_is_touched, gets_elsewhere, writes_elsewhere, touched_cell_is_found}

-- the entries are of two seats, where both are of one
abbrev pub AreApart : Entry → Entry → Type 0
AreApart e a = (number : ℕ) → seat_of e ≡ Some number → seat_of a ≡ Some number → ⊥

abbrev pub AllApart : Entry → List Entry → Type 0
AllApart e [] = Unit {0}
AllApart e (a ∷ rest) = AreApart e a × AllApart e rest

-- what the seat is told of objects that are made depends on itself alone
makes_same : (g h : Graph) (number : ℕ) (reply : Reply) → own h number ≡ own g number → Makes g number reply → Makes h number reply
makes_same g h number (replies.Made id) same makes = subst (λ (o : Own). id ≡ Made number o.made) (sym same) makes
makes_same g h number _ same makes = makes

makes_array_same : (g h : Graph) (number : ℕ) (reply : Reply) → own h number ≡ own g number → MakesArray g number reply → MakesArray h number reply
makes_array_same g h number (replies.Made id) same makes = subst (λ (o : Own). id ≡ Made number o.made) (sym same) makes
makes_array_same g h number _ same makes = makes

-- and of cells on itself and the cell
says_same : (g h : Graph) (number : ℕ) (command : Command) (reply : Reply) → own h number ≡ own g number
    → ((value : Value) (j : ℕ) → Touches g (entries.Said number command reply) value j → look h value j ≡ look g value j)
    → ((r : ℕ) → len h (register_value g number r) ≡ len g (register_value g number r)) → Says g number command reply → Says h number command reply
says_same g h number (commands.New d fields) reply same looks lens says = makes_same g h number reply same says
says_same g h number (commands.Array d cells) reply same looks lens says = makes_array_same g h number reply same says
says_same g h number (commands.Get d r i) reply same looks lens says =
    subst (λ (o : Own). Gets (look h (get_or o.registers r unset).value i) reply) (sym same) (subst (λ x. Gets x reply) (sym (looks (register_value g number r) i (refl, refl))) says)
says_same g h number (commands.Set r i v) reply same looks lens says =
    subst (λ (o : Own). Sets o.sets (look h (get_or o.registers r unset).value i) reply) (sym same)
    (subst (λ x. Sets (graph_seat g number).sets x reply) (sym (looks (register_value g number r) i (refl, refl))) says)
says_same g h number (commands.Cas r i a v) reply same looks lens says =
    subst (λ (o : Own). Swaps o.sets (get_or o.registers a unset) (look h (get_or o.registers r unset).value i) reply) (sym same)
    (subst (λ x. Swaps (graph_seat g number).sets (register_cell g number a) x reply) (sym (looks (register_value g number r) i (refl, refl))) says)
says_same g h number (commands.Num d n) reply same looks lens says = says
says_same g h number (commands.Nil d) reply same looks lens says = says
says_same g h number (commands.Copy d r) reply same looks lens says = says
says_same g h number (commands.Same a b) reply same looks lens says =
    subst (λ (o : Own). Compares (get_or o.registers a unset).value (get_or o.registers b unset).value reply) (sym same) says
says_same g h number (commands.Len r) reply same looks lens says = subst (λ (o : Own). reply ≡ len h (get_or o.registers r unset).value) (sym same) (says ∙ sym (lens r))
says_same g h number commands.Poll reply same looks lens says = says
says_same g h number commands.Collect reply same looks lens says = says
says_same g h number commands.Leave reply same looks lens says = says

present_same : (g h : Graph) (number : ℕ) → own h number ≡ own g number → IsPresent g number → IsPresent h number
present_same g h number same present = ap (λ (o : Own). o.left) same ∙ present

-- lengths stay
len-after : (g : Graph) (a : Entry) (value : Value) → IsKnown g value → len (after_entry g a) value ≡ len g value
len-after g (entries.Said number command reply) value known =
    ap (λ h. len h value) (after_reply-changed g number command reply) ∙ len-changed g number (change_of (own g number) number command reply) value known
len-after g _ value known = refl

-- where one seat's entry sets no cell that another's touches
abbrev DoesntDisturb : Graph → Entry → Entry → Type 0
DoesntDisturb g a e = (value : Value) (j t : ℕ) → Writes g a value j t → Touches g e value j → ⊥

others_own : (g : Graph) (a e : Entry) (number : ℕ) → AreApart e a → seat_of e ≡ Some number → own (after_entry g a) number ≡ own g number
others_own g a e number apart is = own_seat_stays_by_other g a number (apart number is)

-- the other's may stand behind it as well
accepts_after : (g : Graph) (a e : Entry) → IsSound g → Accepts g e → AreApart e a → DoesntDisturb g a e → Accepts (after_entry g a) e
accepts_after g a (entries.Said number command reply) sound accepts apart calm =
    let same = others_own g a (entries.Said number command reply) number apart refl in (
      present_same g (after_entry g a) number same accepts.0,
      accepts.1,
      says_same g (after_entry g a) number command reply same
          (λ value j touches. look_stays_by_other g a value j (touched_known g number command reply value j sound touches) (λ t writes. calm value j t writes touches))
          (λ r. len-after g a (register_value g number r) (sound.registers number r)) accepts.2,
    )
  where
    touched_known : (g : Graph) (number : ℕ) (command : Command) (reply : Reply) (value : Value) (j : ℕ) → IsSound g → Touches g (entries.Said number command reply) value j → IsKnown g value
    touched_known g number (commands.Get d r i) reply value j sound touches = subst (IsKnown g) touches.0 (sound.registers number r)
    touched_known g number (commands.Set r i v) reply value j sound touches = subst (IsKnown g) touches.0 (sound.registers number r)
    touched_known g number (commands.Cas r i a v) reply value j sound touches = subst (IsKnown g) touches.0 (sound.registers number r)
    touched_known g number _ reply value j sound touches = absurd touches
accepts_after g a (entries.Takes number count) sound accepts apart calm = present_same g (after_entry g a) number (others_own g a (entries.Takes number count) number apart refl) accepts
accepts_after g a (entries.GivesBack number count) sound accepts apart calm = present_same g (after_entry g a) number (others_own g a (entries.GivesBack number count) number apart refl) accepts
accepts_after g a (entries.Answers number phase) sound accepts apart calm = present_same g (after_entry g a) number (others_own g a (entries.Answers number phase) number apart refl) accepts
accepts_after g a _ sound accepts apart calm = tt

-- and both come to the same graph
said_both : (g : Graph) (p q : ℕ) (command : Command) (reply : Reply) (other : Command) (answer : Reply) → IsSound g → Accepts g (entries.Said p command reply) → Accepts g (entries.Said q other answer) → (p ≡ q → ⊥)
    → DoesntDisturb g (entries.Said q other answer) (entries.Said p command reply)
    → after_reply (after_reply g q other answer) p command reply ≡ after_reply (after_reply g p command reply) q other answer
said_both g p q command reply other answer sound accepts others apart calm =
    let e = entries.Said p command reply in
    let a = entries.Said q other answer in
    let c = change_of (own g p) p command reply in
    let d = change_of (own g q) q other answer in
    let known : IsKnown g c.place = (call_changes_soundly g p command reply sound (present_seat_is_there g p accepts.0) accepts.2).place in
    let known_other : IsKnown g d.place = (call_changes_soundly g q other answer sound (present_seat_is_there g q others.0) others.2).place in
    let cells : (id : Id) → d.place ≡ Object id → c.place ≡ Object id → d.index ≡ c.index → ⊥ = λ id there here index.
    let set = changed_place_is_written g q other answer id there in
    let mine = changed_place_is_written g p command reply id here in
    let at_same : Writes g e d.place d.index mine.0 = subst (λ k. Writes g e d.place k mine.0) (sym index) (subst (λ v. Writes g e v c.index mine.0) (here ∙ sym there) mine.1) in
    calm d.place d.index set.0 set.1 (set_cell_is_touched g e d.place d.index mine.0 at_same) in
    ap (λ h. after_reply h p command reply) (after_reply-changed g q other answer)
    ∙ after_reply-changed (changed g q d) p command reply
    ∙ ap (λ o. changed (changed g q d) p (change_of o p command reply)) (own-changed_other g q p d apart)
    ∙ changes_commute g q p d c (λ e. apart (sym e)) known_other known cells
    ∙ ap (λ o. changed (changed g p c) q (change_of o q other answer)) (sym (own-changed_other g p q c (λ e. apart (sym e))))
    ∙ sym (after_reply-changed (changed g p c) q other answer)
    ∙ ap (λ h. after_reply h q other answer) (sym (after_reply-changed g p command reply))

same_graph : (g : Graph) (a e : Entry) → IsSound g → Accepts g e → Accepts g a → AreApart e a → DoesntDisturb g a e → after_entry (after_entry g a) e ≡ after_entry (after_entry g e) a
same_graph g (entries.Said q other answer) (entries.Said p command reply) sound accepts others apart calm =
    said_both g p q command reply other answer sound accepts others (λ same. apart p refl (ap Some (sym same))) calm
same_graph g a (entries.Takes number count) sound accepts others apart calm = refl
same_graph g a (entries.GivesBack number count) sound accepts others apart calm = refl
same_graph g a (entries.Answers number phase) sound accepts others apart calm = refl
same_graph g a (entries.Advance phase) sound accepts others apart calm = refl
same_graph g a (entries.Frees count) sound accepts others apart calm = refl
same_graph g a (entries.Returns count) sound accepts others apart calm = refl
same_graph g a (entries.Swings id) sound accepts others apart calm = refl
same_graph g a (entries.Ends cycle kept) sound accepts others apart calm = refl
same_graph g a (entries.Turned command reply) sound accepts others apart calm = refl
same_graph g _ (entries.Said p command reply) sound accepts others apart calm = refl

-- none of the entries gets the stamp that this one replaces
abbrev pub NoneIsDue : Graph → List Entry → Entry → Type 0
NoneIsDue g rest e = (value : Value) (j t : ℕ) → Writes g e value j t → NoGets g rest value j t

-- what an entry writes or finds after another seat's is what it does before
writes_before : (g : Graph) (a e : Entry) (value : Value) (j t : ℕ) → AreApart e a → Writes (after_entry g a) e value j t → Writes g e value j t
writes_before g a e value j t apart writes = writes_elsewhere (after_entry g a) g e value j t (λ number is. sym (others_own g a e number apart is)) writes

finds_after : (g : Graph) (a e : Entry) (value : Value) (j t : ℕ) → AreApart e a → Finds g e value j t → Finds (after_entry g a) e value j t
finds_after g a e value j t apart (inr writes) = inr (writes_elsewhere g (after_entry g a) e value j t (λ number is. others_own g a e number apart is) writes)
finds_after g a e value j t apart (inl gets) = inl (gets_elsewhere g (after_entry g a) e value j t (λ number is. others_own g a e number apart is) gets)

-- behind others' entries too, it finds nothing that is gone
never : (g : Graph) (front back : List Entry) (e : Entry) (value : Value) (j t : ℕ) → IsSound g → IsGone g value j t → AcceptsAll g (front ++ e ∷ back) → AllFew g (front ++ e ∷ back) → AllApart e front → Finds g e value j t → ⊥
never g [] back e value j t sound gone accepts few apart finds = found_is_not_gone g e value j t sound accepts.0 gone finds
never g (a ∷ front) back e value j t sound gone accepts few apart finds =
    never (after_entry g a) front back e value j t (IsSound-after g a sound accepts.0) (IsGone-after g a value j t sound accepts.0 few.0 gone) accepts.1 few.1 apart.1 (finds_after g a e value j t apart.0 finds)

-- an entry that may stand first and last sets in no other's way, nor is one set in its own
undisturbed : (g : Graph) (a : Entry) (front back : List Entry) (e : Entry) → IsSound g → Accepts g e → Accepts g a → AcceptsAll (after_entry g a) (front ++ e ∷ back) → AllFew g (a ∷ front ++ e ∷ back) → AllApart e (a ∷ front) → DoesntDisturb g a e
undisturbed g a front back e sound accepts others rest few apart = λ value j t writes touches.
    let is = changed_cell_is_written g a value j t sound others writes in
    let finds : Finds g e value j t = subst (Finds g e value j) is.shown (touched_cell_is_found g e value j is.old accepts touches is.found) in
    never (after_entry g a) front back e value j t (IsSound-after g a sound others) (IsGone-written g a value j t sound others few.0 writes) rest few.1 apart.1 (finds_after g a e value j t apart.0 finds)

disturbs_none : (g : Graph) (a e : Entry) (front : List Entry) → IsSound g → Accepts g e → Accepts g a → DoesntDisturb g a e → NoneIsDue g (a ∷ front) e → DoesntDisturb g e a
disturbs_none g a e front sound accepts others calm due = λ value j t writes touches.
    let is = changed_cell_is_written g e value j t sound accepts writes in
    let finds : Finds g a value j t = subst (Finds g a value j) is.shown (touched_cell_is_found g a value j is.old others touches is.found) in
    elim finds [
      | inl gets ↦ (due value j t writes).0 gets
      | inr sets ↦ calm value j t sets (set_cell_is_touched g e value j t writes)
    ]

apart_too : (e a : Entry) → AreApart e a → AreApart a e
apart_too e a apart = λ number is other. apart number other is

-- so it may stand before them
pub accepts_all_after_first : (g : Graph) (front back : List Entry) (e : Entry) → IsSound g → Accepts g e → NoneIsDue g front e → AllApart e front → AcceptsAll g (front ++ e ∷ back) → AllFew g (front ++ e ∷ back) → AcceptsAll (after_entry g e) (front ++ back)
accepts_all_after_first g [] back e sound accepts due apart all few = all.1
accepts_all_after_first g (a ∷ front) back e sound accepts due apart all few =
    let h = after_entry g a in
    let calm = undisturbed g a front back e sound accepts all.0 all.1 few apart in
    let quiet = disturbs_none g a e front sound accepts all.0 calm due in
    let later = accepts_all_after_first h front back e (IsSound-after g a sound all.0) (accepts_after g a e sound accepts apart.0 calm)
    (λ value j t writes. (due value j t (writes_before g a e value j t apart.0 writes)).1) apart.1 all.1 few.1 in
    (accepts_after g e a sound all.0 (apart_too e a apart.0) quiet, subst (λ x. AcceptsAll x (front ++ back)) (same_graph g a e sound accepts all.0 apart.0 calm) later)
