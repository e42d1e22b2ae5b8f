use Rattle.std.proofs.Common.{refl}
use Rattle.st_image.specs.Grammar.{IsPage}
use Rattle.st_image.proofs.Written.{elsewhere-stays, four-bytes, read-back, serial-stays, two-bytes, whole-length, wrong-not}
use Rattle.st_image.proofs.laws.laws_of_pages.Goals as goal

pub returns-clause-wrong : goal.returns-clause-wrong
returns-clause-wrong c wanted page place = wrong-not (IsPage wanted) page place

pub returns-clause-free : goal.returns-clause-free
returns-clause-free c = refl

pub returns-clause-place : goal.returns-clause-place
returns-clause-place c = read-back

pub returns-clause-elsewhere : goal.returns-clause-elsewhere
returns-clause-elsewhere c = elsewhere-stays

pub returns-clause-length : goal.returns-clause-length
returns-clause-length c = whole-length

pub returns-clause-two_bytes : goal.returns-clause-two_bytes
returns-clause-two_bytes c = two-bytes

pub returns-clause-four_bytes : goal.returns-clause-four_bytes
returns-clause-four_bytes c = four-bytes

pub returns-clause-last_serial : goal.returns-clause-last_serial
returns-clause-last_serial c = serial-stays
