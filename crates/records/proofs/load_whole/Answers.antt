-- `records::load_whole` meets its contract. Assumes nothing.
use Rattle.records.proofs.Answered.{no-pipeline-room, no-rule-room, loads_blocks}
use Rattle.records.proofs.load_whole.Goals as goal

pub returns-then-pipeline-words : goal.returns-then-pipeline-words
returns-then-pipeline-words c = search no-pipeline-room

pub returns-then-rules-rule_words : goal.returns-then-rules-rule_words
returns-then-rules-rule_words c = search no-rule-room

pub returns : goal.returns
returns c = search loads_blocks
