use Rattle.std.proofs.Common.{◌≡◌, ◌++◌, take, drop}
use Rattle.wx_script.specs.Words as words
use Rattle.wx_script.proofs.word.split_word.Given as goal

-- no space came so far: what is left has the rest of the word, and what stands after it
abbrev pub invariant-loop-i : goal.invariant-loop-i
invariant-loop-i l = record {
  word_so_far : take l.i l.text ++ words.word (drop l.i l.text) ≡ words.word l.text;
  rest_so_far : words.rest (drop l.i l.text) ≡ words.rest l.text;
}
