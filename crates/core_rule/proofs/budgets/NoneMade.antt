-- A seat that makes no object has no spine words, and none granted.
use Rattle.std.proofs.Common.{◌≡◌, ℕ, List, refl, sym, ◌∙◌, arith}
use Rattle.core_rule.proofs.Terms.{Entry, Command, Reply, need_of, made_by, words_by, spine_need_of, Heap, Point, Seat, granted_at, placed_at, refused_at, UsedStands, HasPlace}
use Rattle.heap_model.specs.declared.command.Command.TheVariants as commands
use Rattle.heap_model.specs.declared.reply.Reply.TheVariants as replies
use Rattle.core_machine.specs.declared.point.Point.TheVariants as points

-- no object is made at the point
abbrev pub MakesNone : Point → Type 0
MakesNone (points.Making point) = ⊥
MakesNone _ = Unit {0}

-- a seat there has no spine
pub no_place_where_none_made : (seat : Seat) (point : Point) → MakesNone point → ¬ HasPlace seat point
no_place_where_none_made seat (points.Making point) none has = none
no_place_where_none_made seat _ none has = has

-- and has found no words to be in use
pub used_stands_where_none_made : (heap : Heap) (history : List Entry) (number : ℕ) (seat : Seat) (point : Point) → MakesNone point → UsedStands heap history number seat point
used_stands_where_none_made heap history number seat (points.Making point) none = absurd none
used_stands_where_none_made heap history number seat _ none = tt

-- a reply that makes no object grants no words
pub no_words_by_reply : (command : Command) (reply : Reply) → made_by command reply ≡ 0 → words_by command reply ≡ 0
no_words_by_reply command (replies.Made id) none = no_need command none
  where
    no_need : (c : Command) → need_of c ≡ 0 → spine_need_of c ≡ 0
    no_need (commands.Array d cells) needs = absurd (omega (arith, needs))
    no_need _ needs = refl
no_words_by_reply command _ none = refl

-- where a seat has the place of a spine it had it, and its last answer is the one that it was
pub record SameRange (old now : Seat) : Type 0 where
  pub had : HasPlace now now.point → HasPlace old old.point
  pub spine : HasPlace now now.point → now.spine ≡ old.spine
  pub answered : HasPlace now now.point → now.answered ≡ old.answered

-- a seat has as many words granted, placed and refused as it had
pub record SameWeights (old now : Seat) : Type 0 where
  pub granted : granted_at now now.point ≡ granted_at old old.point
  pub placed : (half : ℕ) → placed_at half now now.point ≡ placed_at half old old.point
  pub refused : refused_at now now.point ≡ refused_at old old.point
  pub range : SameRange old now

pub none_granted : (seat : Seat) (point : Point) → MakesNone point → granted_at seat point ≡ 0
none_granted seat (points.Making point) none = absurd none
none_granted seat _ none = refl

pub none_placed : (half : ℕ) (seat : Seat) (point : Point) → MakesNone point → placed_at half seat point ≡ 0
none_placed half seat (points.Making point) none = absurd none
none_placed half seat _ none = refl

-- a seat that makes no object has no range
pub none_range : (old now : Seat) → MakesNone now.point → SameRange old now
none_range old now after = record {
  had = λ has. absurd (no_place_where_none_made now now.point after has);
  spine = λ has. absurd (no_place_where_none_made now now.point after has);
  answered = λ has. absurd (no_place_where_none_made now now.point after has);
}

pub none_refused : (seat : Seat) (point : Point) → MakesNone point → refused_at seat point ≡ 0
none_refused seat (points.Making point) none = absurd none
none_refused seat _ none = refl

-- so it is where it makes no object before and after
pub same_weights_where_none_made : (old now : Seat) → MakesNone old.point → MakesNone now.point → SameWeights old now
same_weights_where_none_made old now before after = record {
  granted = none_granted now now.point after ∙ sym (none_granted old old.point before);
  placed = λ half. none_placed half now now.point after ∙ sym (none_placed half old old.point before);
  refused = none_refused now now.point after ∙ sym (none_refused old old.point before);
  range = none_range old now after;
}
