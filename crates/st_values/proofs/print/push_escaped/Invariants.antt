use Rattle.std.proofs.Common.{◌≡◌, ◌++◌, flat_map, length, take}
use Rattle.std.specs.Str.Iter.{chars_rest}
use Rattle.st_values.specs.Print.{escaped}
use Rattle.st_values.proofs.print.push_escaped.Given as goal

-- what is written, and the escapes of what is left of the text, are the whole
abbrev pub invariant-loop-letter : goal.invariant-loop-letter
invariant-loop-letter l = record {
  whole : l.into ++ flat_map escaped (chars_rest l.letter-iterator) ≡ l.initial.into ++ flat_map escaped l.fn.text;
  kept : take (length l.initial.into) l.into ≡ l.initial.into;
}
