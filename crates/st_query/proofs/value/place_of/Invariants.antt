use Rattle.std.proofs.Common.{◌≡◌, ◌+◌, drop}
use Rattle.std.specs.List.{position_or_len}
use Rattle.std.specs.Str.{bytes_eq}
use Rattle.st_query.proofs.value.place_of.Given as goal

-- none so far has the name, and the first that does is the first of those that are left
abbrev pub invariant-loop-variable : goal.invariant-loop-variable
invariant-loop-variable l = record {
  counted : l.place ≡ l.variable-index;
  told : l.place + position_or_len (λ variable. bytes_eq variable.name l.name) (drop l.variable-index l.variables) ≡ position_or_len (λ variable. bytes_eq variable.name l.name) l.variables;
}
