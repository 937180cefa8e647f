-- `records::end_of` meets its contract. Assumes nothing.
use Rattle.records.proofs.Faults.{no-root, root_and_more, too_long, whole_file}
use Rattle.records.proofs.end_of.Goals as goal

pub returns-then-not-stands : goal.returns-then-not-stands
returns-then-not-stands c = search no-root

pub returns-then-end-file : goal.returns-then-end-file
returns-then-end-file c = search root_and_more

pub returns-then-end-gt-LIMIT : goal.returns-then-end-gt-LIMIT
returns-then-end-gt-LIMIT c = search too_long

pub returns : goal.returns
returns c = search whole_file
