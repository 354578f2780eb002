use Rattle.wx_manifest_tree.proofs.TreeLemmas.{object_of-object, object_of-no_object, object_of-not_read}
use Rattle.wx_manifest_tree.proofs.read_object.Goals as goal

pub returns-then-is_object-clause-ok : goal.returns-then-is_object-clause-ok
returns-then-is_object-clause-ok c = object_of-object _ _ c.in-Ok.ensures.ok.0 c.in-Ok.ensures.ok.1 c.if-is_object.ensures

pub returns-else-is_object-clause-not_json : goal.returns-else-is_object-clause-not_json
returns-else-is_object-clause-not_json c = λ _. object_of-no_object _ _ c.in-Ok.ensures.ok.0 c.in-Ok.ensures.ok.1 c.if-is_object.ensures

pub returns-else-is_memory-clause-not_json : goal.returns-else-is_memory-clause-not_json
returns-else-is_memory-clause-not_json c = λ _. object_of-not_read _ (c.in-Err.ensures.err (λ memory. let none = c.if-is_memory.ensures.1 memory in cc))
