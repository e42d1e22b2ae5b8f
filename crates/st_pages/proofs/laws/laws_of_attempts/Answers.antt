use Rattle.st_pages.proofs.Attempted.{got-is, saw-keeps, drew-keeps, put-is, hands-on}
use Rattle.st_pages.proofs.laws.laws_of_attempts.Goals as goal

pub returns-clause-got : goal.returns-clause-got
returns-clause-got c = got-is

pub returns-clause-seen_before : goal.returns-clause-seen_before
returns-clause-seen_before c = saw-keeps

pub returns-clause-drawn_before : goal.returns-clause-drawn_before
returns-clause-drawn_before c = drew-keeps

pub returns-clause-put : goal.returns-clause-put
returns-clause-put c = put-is

pub returns-clause-hands_on : goal.returns-clause-hands_on
returns-clause-hands_on c = hands-on
