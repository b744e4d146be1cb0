use Rattle.core_rule.proofs.growth.LaterGraphs.{unreached_stays_so, each_object_stays}
use Rattle.heap_model.proofs.graph_changes.OwnGraphs.{each_own_graph_is_within}
use Rattle.core_rule.proofs.laws.graphs.graph_laws.Goals as goal

pub returns-clause-unreached : goal.returns-clause-unreached
returns-clause-unreached c = unreached_stays_so

pub returns-clause-stays : goal.returns-clause-stays
returns-clause-stays c = each_object_stays

pub returns-clause-own : goal.returns-clause-own
returns-clause-own c = each_own_graph_is_within
