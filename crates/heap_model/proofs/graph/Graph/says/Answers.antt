use Rattle.std.proofs.Common.{inl, inr}
use Rattle.heap_model.proofs.graph_lemmas.EqualTests.{done_decided}
use Rattle.heap_model.proofs.graph.Graph.says.Goals as goal

pub returns-in-New : goal.returns-in-New
returns-in-New c = rw c.in-New.is c.makes.ensures

pub returns-in-Get : goal.returns-in-Get
returns-in-Get c = rw c.in-Get.is c.gets.ensures

pub returns-in-Set : goal.returns-in-Set
returns-in-Set c = rw c.in-Set.is c.sets.ensures

pub returns-in-Cas : goal.returns-in-Cas
returns-in-Cas c = rw c.in-Cas.is c.swaps.ensures

pub returns-in-Same : goal.returns-in-Same
returns-in-Same c = rw c.in-Same.is c.compares.ensures

pub returns-in-Len : goal.returns-in-Len
returns-in-Len c = rw c.in-Len.is c.has_length.ensures

pub returns-in-Num : goal.returns-in-Num
returns-in-Num c =
    let done = done_decided c.args.reply c.eq.result c.eq.ensures in
    elim c.in-Num.is [
      | inl w ↦ rw w.2 done
      | inr (inl w) ↦ rw w.1 done
      | inr (inr (inl w)) ↦ rw w.2 done
      | inr (inr (inr w)) ↦ rw w done
    ]
