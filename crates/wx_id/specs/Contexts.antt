-- Contexts by their numbers, alone and in lists.
use Rattle.std.specs.Prelude.{List, [], ◌∷◌, Bool, true, not, ◌&&◌, ◌==◌}
use Rattle.std.specs.List.{list_any}
use Rattle.wx_id.specs.declared.numbers.ContextNo.{ContextNo}

-- c and d are one context
abbrev pub same_context : ContextNo → ContextNo → Bool
same_context c d = c.0 == d.0

-- c is one of these contexts
abbrev pub is_among : List ContextNo → ContextNo → Bool
is_among cs c = list_any (λ d. same_context d c) cs

-- d is another context than c
abbrev pub is_other : ContextNo → ContextNo → Bool
is_other c d = not (same_context d c)

-- no context stands twice
abbrev pub are_distinct : List ContextNo → Bool
are_distinct [] = true
are_distinct (c ∷ cs) = not (is_among cs c) && are_distinct cs
