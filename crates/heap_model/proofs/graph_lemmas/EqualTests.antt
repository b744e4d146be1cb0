-- What a test of equality decides there where a reply is judged.
use Rattle.std.proofs.Common.{◌≡◌, Bool, true, false, ℕ, refl, ap, sym, ◌∙◌, subst}
use Rattle.std.specs.Bool.{Decides}
use Rattle.std.specs.Prelude.{Option, Some, None, Err, slice_get}
use Rattle.std.proofs.lemmas.Bool.{false≢true}
use Rattle.std.proofs.lemmas.Bool.Decides.{Decides-eqb, Decides-and, Decides-at, Decides-like}
use Rattle.heap_model.specs.declared.reply.Reply.{Reply}
use Rattle.heap_model.specs.declared.reply.Reply.TheVariants as replies
use Rattle.heap_model.specs.declared.id.Id.{Id}
use Rattle.heap_model.specs.declared.id.Id.TheVariants.{Board, Made}
use Rattle.heap_model.specs.declared.id.Value.{Value}
use Rattle.heap_model.specs.declared.id.Value.TheVariants.{Nil, Number, Object}
use Rattle.heap_model.specs.declared.graph.cell.Cell.{Cell}
use Rattle.heap_model.specs.graph.Objects.{Node, cell_or_refusal, or_no_field}
use Rattle.heap_model.specs.contracts.id.IdPartialEq.TheImpl as of_ids
use Rattle.heap_model.specs.contracts.id.ValuePartialEq.TheImpl as of_values
use Rattle.heap_model.specs.contracts.graph.cell.CellPartialEq.TheImpl as of_cells
use Rattle.heap_model.specs.contracts.reply.ReplyPartialEq.TheImpl as of_replies
use Rattle.heap_model.specs.contracts.reply.ReplyEq.TheImpl.Laws as laws

apart : {P : Type 0} → (P → ⊥) → Decides false P
apart differs = (λ e. absurd (false≢true e), λ p. absurd (differs p))

equal_ids : (x y : Id) → Decides (of_ids.eq-value.it x y) (x ≡ y)
equal_ids Board Board = (λ _. refl, λ _. refl)
equal_ids Board (Made s n) = apart (λ e. cc)
equal_ids (Made s n) Board = apart (λ e. cc)
equal_ids (Made s n) (Made t m) = Decides-like _ (λ e. ap (λ u. Made u n) e.0 ∙ ap (Made t) e.1) (λ e. (cc, cc)) (Decides-and _ _ (Decides-eqb s t) (Decides-eqb n m))

equal_values : (x y : Value) → Decides (of_values.eq-value.it x y) (x ≡ y)
equal_values Nil Nil = (λ _. refl, λ _. refl)
equal_values (Number n) (Number m) = Decides-like _ (ap Number) (λ e. cc) (Decides-eqb n m)
equal_values (Object i) (Object j) = Decides-like _ (ap Object) (λ e. cc) (equal_ids i j)
equal_values Nil (Number n) = apart (λ e. cc)
equal_values Nil (Object i) = apart (λ e. cc)
equal_values (Number n) Nil = apart (λ e. cc)
equal_values (Number n) (Object i) = apart (λ e. cc)
equal_values (Object i) Nil = apart (λ e. cc)
equal_values (Object i) (Number n) = apart (λ e. cc)

-- the test of two cells
pub equal_cells : (x y : Cell) → Decides (of_cells.eq-value.it x y) (x ≡ y)
equal_cells x y =
    Decides-like _ (λ e. ap (λ u. record { value = u; stamp = x.stamp }) e.0 ∙ ap (λ n. record { value = y.value; stamp = n }) e.1) (λ e. (ap (λ (u : Cell). u.value) e, ap (λ (u : Cell). u.stamp) e))
    (Decides-and _ _ (equal_values x.value y.value) (Decides-eqb x.stamp y.stamp))

same_test : (x y : Reply) → x ≡ y → of_replies.eq-value.it x y ≡ true
same_test x y e = subst (λ z. of_replies.eq-value.it x z ≡ true) e (laws.laws-law.refl x)

is_was : (x : Reply) (s : ℕ) → of_replies.eq-value.it x (replies.Was s) ≡ true → x ≡ replies.Was s
is_was (replies.Was t) s e = ap replies.Was ((Decides-eqb t s).0 e)
is_was _ s e = absurd (false≢true e)

is_done : (x : Reply) → of_replies.eq-value.it x replies.Done ≡ true → x ≡ replies.Done
is_done replies.Done e = refl
is_done _ e = absurd (false≢true e)

is_no_object : (x : Reply) → of_replies.eq-value.it x replies.NoObject ≡ true → x ≡ replies.NoObject
is_no_object replies.NoObject e = refl
is_no_object _ e = absurd (false≢true e)

is_no_field : (x : Reply) → of_replies.eq-value.it x replies.NoField ≡ true → x ≡ replies.NoField
is_no_field replies.NoField e = refl
is_no_field _ e = absurd (false≢true e)

-- the test of a reply against what a set tells of a cell
pub was_decided : (stamp : ℕ) (reply : Reply) (r : Bool) → r ≡ of_replies.eq-value.it reply (replies.Was stamp) → Decides r (reply ≡ replies.Was stamp)
was_decided stamp reply r e = Decides-at r _ e (is_was reply stamp, same_test reply _)

-- the test of a reply against `Done`
pub done_decided : (reply : Reply) (r : Bool) → r ≡ of_replies.eq-value.it reply replies.Done → Decides r (reply ≡ replies.Done)
done_decided reply r e = Decides-at r _ e (is_done reply, same_test reply _)

is_refusal : (found : Option Node) (i : ℕ) (reply refusal : Reply) → cell_or_refusal found i ≡ Err refusal → of_replies.eq-value.it reply refusal ≡ true → reply ≡ refusal
is_refusal None i reply refusal e t =
    let is : replies.NoObject ≡ refusal = cc in
    is_no_object reply (subst (λ x. of_replies.eq-value.it reply x ≡ true) (sym is) t) ∙ is
is_refusal (Some object) i reply refusal e t = is_refusal_of (slice_get object.cells i) e
  where
    is_refusal_of : (cell : Option Cell) → or_no_field cell ≡ Err refusal → reply ≡ refusal
    is_refusal_of None e =
        let is : replies.NoField ≡ refusal = cc in
        is_no_field reply (subst (λ x. of_replies.eq-value.it reply x ≡ true) (sym is) t) ∙ is
    is_refusal_of (Some cell) e = cc

-- the test of a reply against the refusal of a place
pub refusal_decided : (found : Option Node) (i : ℕ) (reply refusal : Reply) (r : Bool) → cell_or_refusal found i ≡ Err refusal → r ≡ of_replies.eq-value.it reply refusal → Decides r (reply ≡ refusal)
refusal_decided found i reply refusal r is e = Decides-at r _ e (is_refusal found i reply refusal is, same_test reply refusal)
