use Rattle.std.proofs.Common.{◌==◌, ◌&&◌, ◌∙◌, Some, ap}
use Rattle.std.specs.Option.{option_map}
use Rattle.st_values.specs.Order.{same_value}
use Rattle.st_state.specs.Bases.{is_other}
use Rattle.st_triples.proofs.Found.{found_of}
use Rattle.st_triples.proofs.search.other_with.Goals as goal

pub returns : goal.returns
returns c =
    c.entity_of.ensures ∙ ap (option_map (λ t. t.entity)) c.find_other.ensures
    ∙ found_of (is_other (Some c.args.entity)) (λ t. t.entity) (λ t. (t.attribute == c.args.attribute) && same_value t.value c.args.value.now) c.args.triples.now
