use Rattle.st_pages.proofs.Imaged.{image_of-with, image_of-others, image_of-each, ascends-with, all-with, length-with, image_of-entry, listed, how_many-images, same-images}
use Rattle.st_pages.proofs.laws.laws_of_images.Goals as goal

pub returns-clause-image : goal.returns-clause-image
returns-clause-image c = image_of-with

pub returns-clause-others : goal.returns-clause-others
returns-clause-others c = image_of-others

pub returns-clause-images : goal.returns-clause-images
returns-clause-images c = image_of-each

pub returns-clause-in_order : goal.returns-clause-in_order
returns-clause-in_order c = ascends-with

pub returns-clause-all_pass : goal.returns-clause-all_pass
returns-clause-all_pass c = λ page image entries test. all-with page image test entries

pub returns-clause-length : goal.returns-clause-length
returns-clause-length c = length-with

pub returns-clause-entry : goal.returns-clause-entry
returns-clause-entry c = image_of-entry

pub returns-clause-listed : goal.returns-clause-listed
returns-clause-listed c = λ entries page image. listed page image entries

pub returns-clause-count : goal.returns-clause-count
returns-clause-count c = how_many-images

pub returns-clause-same : goal.returns-clause-same
returns-clause-same c = same-images
