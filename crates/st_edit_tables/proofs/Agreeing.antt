-- There is an array that agrees with what was seen.
use Rattle.std.proofs.Common.{ap}
use Rattle.st_image.specs.Fields.{blank}
use Rattle.st_pages.specs.Attempt.{Agrees, Array, Attempt, image_or}

-- what was seen, and blank pages
abbrev pub seen_array : Attempt → Array
seen_array a = λ page. image_or blank (a.seen page)

pub seen-agrees : (a : Attempt) → Agrees a (seen_array a)
seen-agrees a page image e = ap (image_or blank) e
