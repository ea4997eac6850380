use Rattle.std.proofs.Common.{◌≡◌, ◌^◌, ◌<◌, drop}
use Rattle.text_words.specs.Numbers.{digits_from}
use Rattle.text_words.proofs.number.value.Given as goal

abbrev pub invariant-loop-c : goal.invariant-loop-c
invariant-loop-c l = record {
  rest : digits_from l.n (drop l.c-index l.word) ≡ digits_from 0 l.word;
  within : l.n < 2 ^ 64;
}
